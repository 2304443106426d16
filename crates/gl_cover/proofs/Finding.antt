-- The least number at the devices of a set is that of the first chosen instance that the set meets.
use Rattle.std.proofs.Common.{◌≡◌, ◌∙◌, ◌+◌, ◌≤◌, ◌++◌, ◌∷◌, [], ℕ, suc, List, Bool, Option, None, Some, true, false, cond, eqb, length, refl, sym, ap, arith, inl, inr}
use Rattle.std.specs.Prelude.{◌||◌, nat_le, fold}
use Rattle.std.specs.List.{filter_map, cons_option}
use Rattle.std.proofs.lemmas.Bool.{both_ways, eqb-true, cases_Bool, cases_lt, le-leb, lt-leb, or_left, or_right, or_parts, cond-true, cond-false}
use Rattle.gl_match.specs.Graph.{is_in}
use Rattle.gl_cover.specs.Owners.{owner_at, lesser_number, least_owner}
use Rattle.gl_match.specs.Picks.{first_that, meets}

-- the number of the first of some sets, numbered from n on, that has the device
abbrev pub owner_of : ℕ → List (List ℕ) → ℕ → Option ℕ
owner_of n chosen dev = first_that (λ set. is_in set dev) n chosen

-- no number, or one that isn't below
abbrev pub IsFrom : ℕ → Option ℕ → Type 0
IsFrom n None = Unit {0}
IsFrom n (Some k) = n ≤ k

-- ---- the numbers go up

from_cond : (n : ℕ) (b : Bool) (o : Option ℕ) → IsFrom (n + 1) o → IsFrom n (cond b (Some n) o)
from_cond n true o h = omega arith
from_cond n false None h = tt
from_cond n false (Some k) h = omega (arith, h)

pub first_from : (test : List ℕ → Bool) (n : ℕ) (chosen : List (List ℕ)) → IsFrom n (first_that test n chosen)
first_from test n [] = tt
first_from test n (s ∷ ss) = from_cond n (test s) (first_that test (n + 1) ss) (first_from test (n + 1) ss)

-- ---- the least of numbers among which is the first

lesser_first : (n : ℕ) (acc : Option ℕ) → IsFrom n acc → lesser_number acc n ≡ Some n
lesser_first n None h = refl
lesser_first n (Some old) h = elim (cases_lt n old) [
  | inl lt ↦ ap (λ b. Some (cond b old n)) (lt-leb old n lt)
  | inr le ↦ ap (λ b. Some (cond b old n)) (le-leb old n le) ∙ ap Some (omega (arith, le, h))
]

lesser_kept : (n k : ℕ) → n ≤ k → lesser_number (Some n) k ≡ Some n
lesser_kept n k h = ap (λ b. Some (cond b n k)) (le-leb n k h)

lesser_from : (n : ℕ) (acc : Option ℕ) (k : ℕ) → IsFrom n acc → n ≤ k → IsFrom n (lesser_number acc k)
lesser_from n None k h le = le
lesser_from n (Some old) k h le = of (nat_le old k) where
  of : (b : Bool) → n ≤ cond b old k
  of true = h
  of false = le

-- one more device
least_more : (acc : Option ℕ) (g : ℕ → Option ℕ) (dev : ℕ) (devs : List ℕ) (o : Option ℕ) → g dev ≡ o → fold lesser_number acc (filter_map g (dev ∷ devs)) ≡ fold lesser_number acc (cons_option o (filter_map g devs))
least_more acc g dev devs o e = ap (λ p. fold lesser_number acc (cons_option p (filter_map g devs))) e

kept_past : (n : ℕ) (ks : List ℕ) (o : Option ℕ) → IsFrom n o → fold lesser_number (Some n) ks ≡ Some n → fold lesser_number (Some n) (cons_option o ks) ≡ Some n
kept_past n ks None i h = h
kept_past n ks (Some k) i h = ap (λ a. fold lesser_number a ks) (lesser_kept n k i) ∙ h

least_kept : (n : ℕ) (g : ℕ → Option ℕ) (set : List ℕ) → ((dev : ℕ) → IsFrom n (g dev)) → fold lesser_number (Some n) (filter_map g set) ≡ Some n
least_kept n g [] h = refl
least_kept n g (dev ∷ devs) h = kept_past n (filter_map g devs) (g dev) (h dev) (least_kept n g devs h)

hit_past : (n : ℕ) (acc : Option ℕ) (ks : List ℕ) (o : Option ℕ) → IsFrom n acc → IsFrom n o → ((a : Option ℕ) → IsFrom n a → fold lesser_number a ks ≡ Some n) → fold lesser_number acc (cons_option o ks) ≡ Some n
hit_past n acc ks None h i rest = rest acc h
hit_past n acc ks (Some k) h i rest = rest (lesser_number acc k) (lesser_from n acc k h i)

-- a device of the set has the first number
least_hit : (n : ℕ) (s : List ℕ) (ss : List (List ℕ)) (acc : Option ℕ) (set : List ℕ) → IsFrom n acc → meets set s ≡ true → fold lesser_number acc (filter_map (owner_of n (s ∷ ss)) set) ≡ Some n
least_hit n s ss acc [] h e = absurd cc
least_hit n s ss acc (dev ∷ devs) h e =
    let g = owner_of n (s ∷ ss) in
    let from : (d : ℕ) → IsFrom n (g d) = λ d. first_from (λ set. is_in set d) n (s ∷ ss) in
    elim (cases_Bool (is_in s dev)) [
      | inl on ↦
          least_more acc g dev devs (Some n) (ap (λ b. cond b (Some n) (owner_of (n + 1) ss dev)) on)
          ∙ ap (λ a. fold lesser_number a (filter_map g devs)) (lesser_first n acc h)
          ∙ least_kept n g devs from
      | inr off ↦
          let later : meets devs s ≡ true = ap (λ b. b || meets devs s) (sym off) ∙ e in
          hit_past n acc (filter_map g devs) (g dev) h (from dev) (λ a i. least_hit n s ss a devs i later)
    ]

-- none has it
least_miss : (n : ℕ) (s : List ℕ) (ss : List (List ℕ)) (set : List ℕ) → meets set s ≡ false → filter_map (owner_of n (s ∷ ss)) set ≡ filter_map (owner_of (n + 1) ss) set
least_miss n s ss [] e = refl
least_miss n s ss (dev ∷ devs) e =
    let two = or_parts (is_in s dev) (meets devs s) e in
    ap (λ b. cons_option (cond b (Some n) (owner_of (n + 1) ss dev)) (filter_map (owner_of n (s ∷ ss)) devs)) two.0
    ∙ ap (λ ks. cons_option (owner_of (n + 1) ss dev) ks) (least_miss n s ss devs two.1)

none_owned : (set : List ℕ) → filter_map (λ dev. owner_of 0 [] dev) set ≡ []
none_owned [] = refl
none_owned (dev ∷ devs) = none_owned devs

-- the least number of a device of the set is that of the first that the set meets
pub least_is_first : (n : ℕ) (chosen : List (List ℕ)) (set : List ℕ) → fold lesser_number None (filter_map (owner_of n chosen) set) ≡ first_that (meets set) n chosen
least_is_first n [] set = ap (λ ks. fold lesser_number None ks) (none_owned set)
least_is_first n (s ∷ ss) set = elim (cases_Bool (meets set s)) [
  | inl on ↦ least_hit n s ss None set tt on ∙ sym (cond-true (meets set s) (Some n) (first_that (meets set) (n + 1) ss) on)
  | inr off ↦ ap (λ ks. fold lesser_number None ks) (least_miss n s ss set off) ∙ least_is_first (n + 1) ss set ∙ sym (cond-false (meets set s) (Some n) (first_that (meets set) (n + 1) ss) off)
]

-- the same by the table
filter_same : (f g : ℕ → Option ℕ) (xs : List ℕ) → ((x : ℕ) → f x ≡ g x) → filter_map f xs ≡ filter_map g xs
filter_same f g [] h = refl
filter_same f g (x ∷ xs) h = ap (λ o. cons_option o (filter_map f xs)) (h x) ∙ ap (λ ys. cons_option (g x) ys) (filter_same f g xs h)

pub found : (n : ℕ) (chosen : List (List ℕ)) (owners : List (Option ℕ)) (set : List ℕ) → ((dev : ℕ) → owner_at owners dev ≡ owner_of n chosen dev) → least_owner owners set ≡ first_that (meets set) n chosen
found n chosen owners set h = ap (λ ks. fold lesser_number None ks) (filter_same (owner_at owners) (owner_of n chosen) set h) ∙ least_is_first n chosen set

-- ---- one more is chosen

meets_by : (set s : List ℕ) (dev : ℕ) → is_in set dev ≡ true → is_in s dev ≡ true → meets set s ≡ true
meets_by [] s dev e f = absurd cc
meets_by (x ∷ xs) s dev e f = elim (cases_Bool (eqb x dev)) [
  | inl same ↦ or_left (is_in s x) (meets xs s) (ap (is_in s) (eqb-true x dev same) ∙ f)
  | inr other ↦ or_right (is_in s x) (meets xs s) (meets_by xs s dev (ap (λ b. b || is_in xs dev) (sym other) ∙ e) f)
]

-- where the set meets none, its devices are the new one's, and the others have who had them
pub owner_push : (n : ℕ) (chosen : List (List ℕ)) (set : List ℕ) (dev : ℕ) → first_that (meets set) n chosen ≡ None → owner_of n (chosen ++ set ∷ []) dev ≡ cond (is_in set dev) (Some (n + length chosen)) (owner_of n chosen dev)
owner_push n [] set dev e = ap (λ k. cond (is_in set dev) (Some k) None) (omega arith)
owner_push n (s ∷ ss) set dev e = elim (cases_Bool (meets set s)) [
  | inl on ↦ absurd (some_none (sym (cond-true (meets set s) (Some n) (first_that (meets set) (n + 1) ss) on) ∙ e))
  | inr off ↦
      let rest : first_that (meets set) (n + 1) ss ≡ None = sym (cond-false (meets set s) (Some n) (first_that (meets set) (n + 1) ss) off) ∙ e in
      let more = owner_push (n + 1) ss set dev rest in
      let count : n + 1 + length ss ≡ n + suc (length ss) = omega arith in
      elim (cases_Bool (is_in s dev)) [
        | inl has ↦ elim (cases_Bool (is_in set dev)) [
          | inl both ↦ absurd (both_ways (meets set s) off (meets_by set s dev both has))
          | inr mine ↦ cond-true (is_in s dev) (Some n) (owner_of (n + 1) (ss ++ set ∷ []) dev) has ∙ sym (cond-false (is_in set dev) (Some (n + suc (length ss))) (owner_of n (s ∷ ss) dev) mine ∙ cond-true (is_in s dev) (Some n) (owner_of (n + 1) ss dev) has)
        ]
        | inr not_s ↦
            cond-false (is_in s dev) (Some n) (owner_of (n + 1) (ss ++ set ∷ []) dev) not_s
            ∙ more
            ∙ ap (λ k. cond (is_in set dev) (Some k) (owner_of (n + 1) ss dev)) count
            ∙ ap (λ o. cond (is_in set dev) (Some (n + suc (length ss))) o) (sym (cond-false (is_in s dev) (Some n) (owner_of (n + 1) ss dev) not_s))
      ]
] where
  some_none : Some n ≡ None → ⊥
  some_none f = absurd cc
