-- Globals: each once, and none is `0`.
use Rattle.std.proofs.Common.{◌≡◌, ℕ, List, [], ◌∷◌, eqb, true, false, not, Bool, refl, ap, ◌∙◌, arith, codes, filter}
use Rattle.std.specs.List.{AllByRecursion, join_with_byte}
use Rattle.std.proofs.lemmas.Bool.{or_parts, or_from, not-true}
use Rattle.std.proofs.lemmas.List.{length-append}
use Rattle.gl_text.specs.LogicalLines.{same_text}
use Rattle.gl_text.specs.WayBack.{IsName, IsOneLine}
use Rattle.gl_text.specs.Cards.{Card, global}
use Rattle.gl_text.specs.Decks.{Scope, has_twice, is_in, globals_of, once}
use Rattle.gl_printed.specs.ReadCards.{IsFine}
use Rattle.gl_printed.specs.ReadDecks.{AllDiffer}
use Rattle.gl_lists.proofs.Each.{by_cond, each_append, each_filter, each_left, each_passes, each_right, each_to, filter_all}
use Rattle.gl_printed.proofs.PlacedCards.{placed}
use Rattle.gl_text.proofs.Names.{flipped, once_same}

-- ---- globals that are read

pub lines_joined : (n : List ℕ) (ns : List (List ℕ)) → IsOneLine (join_with_byte 32 (n ∷ ns)) → AllByRecursion IsOneLine (n ∷ ns)
lines_joined n [] h = (h, tt)
lines_joined n (m ∷ ms) h = (each_left (λ b. eqb b 10 ≡ false) n (32 ∷ join_with_byte 32 (m ∷ ms)) h, lines_joined m ms (each_right (λ b. eqb b 10 ≡ false) n (32 ∷ join_with_byte 32 (m ∷ ms)) h).1)

one_global : (n : List ℕ) → IsName n → IsFine (global (n ∷ []))
one_global n i = let s = i.short in let e = length-append (codes ".global ") n in record {
  is_read = (i, tt);
  one_line = each_append (λ b. eqb b 10 ≡ false) (codes ".global ") n (refl, (refl, (refl, (refl, (refl, (refl, (refl, (refl, tt)))))))) i.one_line;
  short = omega arith;
}

pub card_globals : (s : Scope) (n : ℕ) (c : Card) → IsFine c → AllByRecursion (λ m. IsFine (global (m ∷ []))) (globals_of (placed s n c))
card_globals s n (global names) h = each_to IsName (λ m. IsFine (global (m ∷ []))) one_global names h.is_read
card_globals s n c h = tt

pub each_once : (P : List ℕ → Type 0) (ns : List (List ℕ)) → AllByRecursion P ns → AllByRecursion P (once ns)
each_once P [] h = tt
each_once P (n ∷ ns) h = (h.0, each_filter P (λ m. not (same_text n m)) (once ns) (each_once P ns h.1))

in_filter : (n : List ℕ) (t : List ℕ → Bool) (ns : List (List ℕ)) → is_in n ns ≡ false → is_in n (filter t ns) ≡ false
in_filter n t [] h = refl
in_filter n t (m ∷ ms) h = let a = or_parts (same_text n m) (is_in n ms) h in by_cond (λ xs. is_in n xs ≡ false) (t m) (m ∷ filter t ms) (filter t ms)
    (λ e. or_from (same_text n m) (is_in n (filter t ms)) a.0 (in_filter n t ms a.1)) (λ e. in_filter n t ms a.1)

pub differ_filter : (t : List ℕ → Bool) (ns : List (List ℕ)) → AllDiffer ns → AllDiffer (filter t ns)
differ_filter t [] h = refl
differ_filter t (n ∷ ns) h = let a = or_parts (is_in n ns) (has_twice ns) h in by_cond AllDiffer (t n) (n ∷ filter t ns) (filter t ns)
    (λ e. or_from (is_in n (filter t ns)) (has_twice (filter t ns)) (in_filter n t ns a.0) (differ_filter t ns a.1)) (λ e. differ_filter t ns a.1)

not_in : (n : List ℕ) (ns : List (List ℕ)) → AllByRecursion (λ m. not (same_text n m) ≡ true) ns → is_in n ns ≡ false
not_in n [] h = refl
not_in n (m ∷ ms) h = or_from (same_text n m) (is_in n ms) (not-true (same_text n m) h.0) (not_in n ms h.1)

pub once_differ : (ns : List (List ℕ)) → AllDiffer (once ns)
once_differ [] = refl
once_differ (n ∷ ns) = let t : List ℕ → Bool = λ m. not (same_text n m) in or_from (is_in n (filter t (once ns))) (has_twice (filter t (once ns))) (not_in n (filter t (once ns)) (each_passes t (once ns))) (differ_filter t (once ns) (once_differ ns))

pub no_zero_left : (ns : List (List ℕ)) → is_in (codes "0") (filter (λ n. not (same_text n (codes "0"))) ns) ≡ false
no_zero_left ns = let t : List ℕ → Bool = λ n. not (same_text n (codes "0")) in not_in (codes "0") (filter t ns) (each_to (λ n. t n ≡ true) (λ m. not (same_text (codes "0") m) ≡ true) (λ n e. ap not (flipped (codes "0") n) ∙ e) (filter t ns) (each_passes t ns))

-- ---- globals that are read again

not_zero : (ns : List (List ℕ)) → is_in (codes "0") ns ≡ false → AllByRecursion (λ n. not (same_text n (codes "0")) ≡ true) ns
not_zero [] h = tt
not_zero (n ∷ ns) h = let b = or_parts (same_text (codes "0") n) (is_in (codes "0") ns) h in (ap not (flipped n (codes "0") ∙ b.0), not_zero ns b.1)

pub globals_same : (ns : List (List ℕ)) → AllDiffer ns → is_in (codes "0") ns ≡ false → filter (λ n. not (same_text n (codes "0"))) (once ns) ≡ ns
globals_same ns a z = ap (filter (λ n. not (same_text n (codes "0")))) (once_same ns a) ∙ filter_all (λ n. not (same_text n (codes "0"))) ns (not_zero ns z)
