-- Sets that have a device in common, and the first set of a list that passes a test.
use Rattle.std.proofs.Common.{◌≡◌, ◌∙◌, ◌+◌, ◌<◌, ◌∷◌, [], ℕ, zero, suc, List, Bool, None, Some, true, false, length, get_or, sym, ap, arith, inl, inr}
use Rattle.std.specs.Prelude.{Contains}
use Rattle.std.proofs.lemmas.Bool.{cases_Bool, cond-false, cond-true, or_cases, or_left, or_right}
use Rattle.gl_match.specs.Graph.{is_in}
use Rattle.gl_match.proofs.Lists.{in_cons, in_head, in_none, in_tail}
use Rattle.gl_match.specs.Picks.{first_that, meets}
use Rattle.gl_legal.proofs.Prefixes.{in_if, in_says}
pub use Rattle.std.proofs.lemmas.Option.{same_Some as some_is}

-- two sets have a device in common
abbrev pub Share : List ℕ → List ℕ → Type 0
Share xs ys = (dev : ℕ) × Contains xs dev × Contains ys dev

pub meets_says : (xs ys : List ℕ) → meets xs ys ≡ true → Share xs ys
meets_says [] ys e = absurd cc
meets_says (x ∷ xs) ys e = elim (or_cases (is_in ys x) (meets xs ys) e) [
  | inl on ↦ (x, in_head x xs, in_says ys x on)
  | inr later ↦ let r = meets_says xs ys later in (r.0, in_tail x xs r.0 r.1, r.2)
]

pub meets_if : (xs ys : List ℕ) → Share xs ys → meets xs ys ≡ true
meets_if [] ys h = absurd (in_none h.0 h.1)
meets_if (x ∷ xs) ys h = elim (in_cons x xs h.0 h.1) [
  | inl same ↦ or_left (is_in ys x) (meets xs ys) (ap (is_in ys) same ∙ in_if ys h.0 h.2)
  | inr later ↦ or_right (is_in ys x) (meets xs ys) (meets_if xs ys (h.0, later, h.2))
]

-- ---- the first that passes

pub none_passes : (test : List ℕ → Bool) (n : ℕ) (chosen : List (List ℕ)) (m : ℕ) → first_that test n chosen ≡ None → m < length chosen → test (get_or chosen m []) ≡ false
none_passes test n [] m e lt = absurd (omega (arith, lt))
none_passes test n (s ∷ ss) m e lt = elim (cases_Bool (test s)) [
  | inl on ↦ let f : Some n ≡ None = sym (cond-true (test s) (Some n) (first_that test (n + 1) ss) on) ∙ e in absurd cc
  | inr off ↦ at m lt off (λ k g. none_passes test (n + 1) ss k (sym (cond-false (test s) (Some n) (first_that test (n + 1) ss) off) ∙ e) g)
] where
  at : (k : ℕ) → k < suc (length ss) → test s ≡ false → ((j : ℕ) → j < length ss → test (get_or ss j []) ≡ false) → test (get_or (s ∷ ss) k []) ≡ false
  at zero g off rest = off
  at (suc k) g off rest = rest k (omega (arith, g))

-- the first of the sets that passes, and its place
pub record IsFirst (test : List ℕ → Bool) (chosen : List (List ℕ)) (m : ℕ) : Type 0 where
  pub within : m < length chosen
  pub passes : test (get_or chosen m []) ≡ true
  pub before : (l : ℕ) → l < m → test (get_or chosen l []) ≡ false

pub first_passes : (test : List ℕ → Bool) (n : ℕ) (chosen : List (List ℕ)) (k : ℕ) → first_that test n chosen ≡ Some k → (m : ℕ) × (k ≡ n + m) × IsFirst test chosen m
first_passes test n [] k e = absurd cc
first_passes test n (s ∷ ss) k e = elim (cases_Bool (test s)) [
  | inl on ↦
      let same : n ≡ k = some_is n k (sym (cond-true (test s) (Some n) (first_that test (n + 1) ss) on) ∙ e) in
      (0, omega (arith, same), record { within = omega arith; passes = on; before = λ l lt. absurd (omega (arith, lt)) })
  | inr off ↦
      let r = first_passes test (n + 1) ss k (sym (cond-false (test s) (Some n) (first_that test (n + 1) ss) off) ∙ e) in
      (suc r.0, omega (arith, r.1), record { within = omega (arith, r.2.within); passes = r.2.passes; before = λ l lt. at r.0 off r.2.before l lt })
] where
  at : (m : ℕ) → test s ≡ false → ((l : ℕ) → l < m → test (get_or ss l []) ≡ false) → (l : ℕ) → l < suc m → test (get_or (s ∷ ss) l []) ≡ false
  at m off rest zero lt = off
  at m off rest (suc l) lt = rest l (omega (arith, lt))
