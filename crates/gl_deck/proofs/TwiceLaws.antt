-- Names that stand twice, looked for with a table of those before.
use Rattle.std.proofs.Common.{◌≡◌, ℕ, List, [], ◌∷◌, ◌++◌, cond, true, false, Bool, refl, ap, ◌∙◌}
use Rattle.std.specs.Prelude.{◌||◌}
use Rattle.std.specs.List.{list_any}
use Rattle.std.specs.Cmp.Lexicographic.{nat_list_eq_equiv}
use Rattle.std.proofs.lemmas.List.Folds.{list_any-append}
use Rattle.indexmap.specs.IndexSet.{insert_key}
use Rattle.gl_text.specs.LogicalLines.{same_text}
use Rattle.gl_text.specs.Decks.{is_in, has_twice}

-- one of the names is in the table or stands twice
abbrev pub repeats : List (List ℕ) → List (List ℕ) → Bool
repeats known [] = false
repeats known (n ∷ ns) = is_in n known || repeats (insert_key same_text known n) ns

abbrev meets : List (List ℕ) → List (List ℕ) → Bool
meets known ns = list_any (λ n. is_in n known) ns

shuffle : (a s x y : Bool) → ((a || (s || false)) || (x || y)) ≡ ((a || x) || (s || y))
shuffle true s x y = refl
shuffle false true true y = refl
shuffle false true false y = refl
shuffle false false true y = refl
shuffle false false false y = refl

meets_more : (known : List (List ℕ)) (n : List ℕ) (ns : List (List ℕ)) → meets (known ++ n ∷ []) ns ≡ (meets known ns || is_in n ns)
meets_more known n [] = refl
meets_more known n (m ∷ ms) =
    ap (λ b. b || meets (known ++ n ∷ []) ms) (list_any-append (same_text m) known (n ∷ []))
    ∙ ap (λ b. (is_in m known || (same_text m n || false)) || b) (meets_more known n ms)
    ∙ ap (λ b. (is_in m known || (b || false)) || (meets known ms || is_in n ms)) (nat_list_eq_equiv.symm m n)
    ∙ shuffle (is_in m known) (same_text n m) (meets known ms) (is_in n ms)

or_assoc : (a b c : Bool) → ((a || b) || c) ≡ (a || (b || c))
or_assoc true b c = refl
or_assoc false b c = refl

repeats_by : (b : Bool) (known : List (List ℕ)) (n : List ℕ) (ns : List (List ℕ)) → ((ks : List (List ℕ)) → repeats ks ns ≡ (meets ks ns || has_twice ns))
    → (b || repeats (cond b known (known ++ n ∷ [])) ns) ≡ ((b || meets known ns) || (is_in n ns || has_twice ns))
repeats_by true known n ns h = refl
repeats_by false known n ns h = h (known ++ n ∷ []) ∙ ap (λ b. b || has_twice ns) (meets_more known n ns) ∙ or_assoc (meets known ns) (is_in n ns) (has_twice ns)

repeats_is : (known ns : List (List ℕ)) → repeats known ns ≡ (meets known ns || has_twice ns)
repeats_is known [] = refl
repeats_is known (n ∷ ns) = repeats_by (is_in n known) known n ns (λ ks. repeats_is ks ns)

meets_none : (ns : List (List ℕ)) → meets [] ns ≡ false
meets_none [] = refl
meets_none (n ∷ ns) = meets_none ns

-- with an empty table a name stands twice
pub twice_is : (known ns : List (List ℕ)) → known ≡ [] → repeats known ns ≡ has_twice ns
twice_is known ns e = ap (λ ks. repeats ks ns) e ∙ repeats_is [] ns ∙ ap (λ b. b || has_twice ns) (meets_none ns)
