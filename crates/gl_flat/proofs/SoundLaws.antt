-- Names that differ are each once, and the ports of a deck's subcircuits do.
use Rattle.std.proofs.Common.{◌≡◌, ℕ, List, [], ◌∷◌, ◌++◌, Bool, true, false, cond, not, refl, sym, ap, ◌∙◌, map, filter}
use Rattle.std.specs.Prelude.{◌||◌, codes}
use Rattle.std.proofs.lemmas.List.Folds.{list_any-append}
use Rattle.std.specs.List.{AllByRecursion}
use Rattle.std.proofs.lemmas.Bool.{or_parts}
use Rattle.gl_text.specs.LogicalLines.{same_text}
use Rattle.gl_text.specs.Decks.{Sub, has_twice, is_in, once}
use Rattle.gl_printed.specs.ReadDecks.{AllDiffer, IsReadSub}
use Rattle.gl_printed.proofs.Each.{each_to, filter_all}
use Rattle.gl_text.proofs.Names.{exact}
use Rattle.gl_flat.specs.Ways.{PortsDiffer}

others : (n : List ℕ) (ns : List (List ℕ)) → is_in n ns ≡ false → AllByRecursion (λ m. not (same_text n m) ≡ true) ns
others n [] h = tt
others n (m ∷ ms) h = let b = or_parts (same_text n m) (is_in n ms) h in (ap not b.0, others n ms b.1)

pub once_same : (ns : List (List ℕ)) → AllDiffer ns → once ns ≡ ns
once_same [] h = refl
once_same (n ∷ ns) h =
    let a = or_parts (is_in n ns) (has_twice ns) h in
    ap (λ xs. n ∷ filter (λ m. not (same_text n m)) xs) (once_same ns a.1) ∙ ap (λ xs. n ∷ xs) (filter_all (λ m. not (same_text n m)) ns (others n ns a.0))

-- the ports of subcircuits
pub ports_once : (subs : List Sub) → PortsDiffer subs → map (λ (s : Sub). once s.head.ports) subs ≡ map (λ (s : Sub). s.head.ports) subs
ports_once [] h = refl
ports_once (s ∷ ss) h = ap (λ p. p ∷ map (λ (t : Sub). once t.head.ports) ss) (once_same s.head.ports h.0) ∙ ap (λ ps. s.head.ports ∷ ps) (ports_once ss h.1)

-- those of read subcircuits differ
pub ports_differ : (all subs : List Sub) → AllByRecursion (IsReadSub all) subs → PortsDiffer subs
ports_differ all subs h = each_to (IsReadSub all) (λ (s : Sub). AllDiffer s.head.ports) (λ s i. i.ports_differ) subs h

-- a name stands among names once each where it stands among them
kept_by : (b : Bool) (n x m : List ℕ) (ms : List (List ℕ)) → same_text x m ≡ b → same_text n x ≡ false → is_in n (filter (λ k. not (same_text x k)) ms) ≡ is_in n ms
    → is_in n (cond (not b) (m ∷ filter (λ k. not (same_text x k)) ms) (filter (λ k. not (same_text x k)) ms)) ≡ (same_text n m || is_in n ms)
kept_by true n x m ms e f h = h ∙ ap (λ c. c || is_in n ms) (sym f ∙ ap (same_text n) (exact x m e))
kept_by false n x m ms e f h = ap (λ c. same_text n m || c) h

kept : (n x : List ℕ) (ms : List (List ℕ)) → same_text n x ≡ false → is_in n (filter (λ k. not (same_text x k)) ms) ≡ is_in n ms
kept n x [] f = refl
kept n x (m ∷ ms) f = kept_by (same_text x m) n x m ms refl f (kept n x ms f)

once_by : (b : Bool) (n x : List ℕ) (xs : List (List ℕ)) → same_text n x ≡ b → is_in n (once xs) ≡ is_in n xs → (b || is_in n (filter (λ k. not (same_text x k)) (once xs))) ≡ (b || is_in n xs)
once_by true n x xs e h = refl
once_by false n x xs e h = kept n x (once xs) e ∙ h

pub in_once : (n : List ℕ) (xs : List (List ℕ)) → is_in n (once xs) ≡ is_in n xs
in_once n [] = refl
in_once n (x ∷ xs) = once_by (same_text n x) n x xs refl (in_once n xs)

-- so do the names of the nets of the top
pub tops_once : (n : List ℕ) (rails ports : List (List ℕ)) → is_in n (codes "0" ∷ once rails ++ once ports) ≡ is_in n (codes "0" ∷ rails ++ ports)
tops_once n rails ports =
    ap (λ c. same_text n (codes "0") || c)
    (list_any-append (same_text n) (once rails) (once ports) ∙ ap (λ c. c || is_in n (once ports)) (in_once n rails) ∙ ap (λ c. is_in n rails || c) (in_once n ports) ∙ sym (list_any-append (same_text n) rails ports))
