-- Subcircuits without their line numbers: what is found and reached stays.
use Rattle.std.proofs.Common.{◌≡◌, ℕ, zero, suc, List, [], ◌∷◌, ◌++◌, length, map, cond, true, false, Bool, Option, Some, None, refl, sym, ap, ◌∙◌, filter, flat_map, option_map}
use Rattle.std.specs.Prelude.{◌||◌}
use Rattle.std.specs.List.{list_any}
use Rattle.std.proofs.lemmas.List.{length-map}
use Rattle.gl_text.specs.LogicalLines.{same_text}
use Rattle.gl_text.specs.Cards.{Call}
use Rattle.gl_text.specs.Decks.{Body, dev_at, call_at, Sub, is_in, find_sub, callees, step, steps, reaches}
use Rattle.gl_printed.specs.ReadDecks.{IsCallOf, unnumbered_body, unnumbered_sub}
use Rattle.gl_printed.proofs.DistinctNames.{found}

pub find_bare : (subs : List Sub) (n : List ℕ) → find_sub (map unnumbered_sub subs) n ≡ option_map unnumbered_sub (find_sub subs n)
find_bare [] n = refl
find_bare (s ∷ subs) n = by (same_text s.head.name n) (find_bare subs n) where
  by : (t : Bool) → find_sub (map unnumbered_sub subs) n ≡ option_map unnumbered_sub (find_sub subs n) → cond t (Some (unnumbered_sub s)) (find_sub (map unnumbered_sub subs) n) ≡ option_map unnumbered_sub (cond t (Some s) (find_sub subs n))
  by true e = refl
  by false e = e

pub callees_bare : (cs : List Body) → callees (map unnumbered_body cs) ≡ callees cs
callees_bare [] = refl
callees_bare (dev_at line d ∷ cs) = callees_bare cs
callees_bare (call_at line c ∷ cs) = ap (λ xs. c.sub ∷ xs) (callees_bare cs)

pub all_callees_bare : (ss : List Sub) → flat_map (λ (t : Sub). callees t.cards) (map unnumbered_sub ss) ≡ flat_map (λ (t : Sub). callees t.cards) ss
all_callees_bare [] = refl
all_callees_bare (s ∷ ss) = ap (λ xs. xs ++ flat_map (λ (t : Sub). callees t.cards) (map unnumbered_sub ss)) (callees_bare s.cards) ∙ ap (λ xs. callees s.cards ++ xs) (all_callees_bare ss)

names_bare : (ss : List Sub) → map (λ (t : Sub). t.head.name) (map unnumbered_sub ss) ≡ map (λ (t : Sub). t.head.name) ss
names_bare [] = refl
names_bare (s ∷ ss) = ap (λ xs. s.head.name ∷ xs) (names_bare ss)

abbrev reached : List Sub → List (List ℕ)
reached found = map (λ (t : Sub). t.head.name) found ++ flat_map (λ (t : Sub). callees t.cards) found

reached_bare : (found : List Sub) → reached (map unnumbered_sub found) ≡ reached found
reached_bare found = ap (λ xs. xs ++ flat_map (λ (t : Sub). callees t.cards) (map unnumbered_sub found)) (names_bare found) ∙ ap (λ xs. map (λ (t : Sub). t.head.name) found ++ xs) (all_callees_bare found)

pub filter_bare : (names : List (List ℕ)) (ss : List Sub) → filter (λ (s : Sub). is_in s.head.name names) (map unnumbered_sub ss) ≡ map unnumbered_sub (filter (λ (s : Sub). is_in s.head.name names) ss)
filter_bare names [] = refl
filter_bare names (s ∷ ss) = by (is_in s.head.name names) (filter_bare names ss) where
  by : (t : Bool) → filter (λ (u : Sub). is_in u.head.name names) (map unnumbered_sub ss) ≡ map unnumbered_sub (filter (λ (u : Sub). is_in u.head.name names) ss)
      → cond t (unnumbered_sub s ∷ filter (λ (u : Sub). is_in u.head.name names) (map unnumbered_sub ss)) (filter (λ (u : Sub). is_in u.head.name names) (map unnumbered_sub ss))
      ≡ map unnumbered_sub (cond t (s ∷ filter (λ (u : Sub). is_in u.head.name names) ss) (filter (λ (u : Sub). is_in u.head.name names) ss))
  by true e = ap (λ xs. unnumbered_sub s ∷ xs) e
  by false e = e

step_bare : (subs found : List Sub) → step (map unnumbered_sub subs) (map unnumbered_sub found) ≡ map unnumbered_sub (step subs found)
step_bare subs found = ap (λ names. filter (λ (s : Sub). is_in s.head.name names) (map unnumbered_sub subs)) (reached_bare found) ∙ filter_bare (reached found) subs

steps_bare : (subs : List Sub) (n : ℕ) (found : List Sub) → steps (map unnumbered_sub subs) n (map unnumbered_sub found) ≡ map unnumbered_sub (steps subs n found)
steps_bare subs zero found = refl
steps_bare subs (suc n) found = ap (steps (map unnumbered_sub subs) n) (step_bare subs found) ∙ steps_bare subs n (step subs found)

any_bare : (name : List ℕ) (ss : List Sub) → list_any (λ (u : Sub). same_text u.head.name name) (map unnumbered_sub ss) ≡ list_any (λ (u : Sub). same_text u.head.name name) ss
any_bare name [] = refl
any_bare name (s ∷ ss) = ap (λ t. same_text s.head.name name || t) (any_bare name ss)

reaches_bare : (subs : List Sub) (t : Sub) (name : List ℕ) → reaches (map unnumbered_sub subs) (unnumbered_sub t) name ≡ reaches subs t name
reaches_bare subs t name =
    ap (λ n. list_any (λ (u : Sub). same_text u.head.name name) (steps (map unnumbered_sub subs) n (unnumbered_sub t ∷ []))) (length-map subs unnumbered_sub)
    ∙ ap (list_any (λ (u : Sub). same_text u.head.name name)) (steps_bare subs (length subs) (t ∷ [])) ∙ any_bare name (steps subs (length subs) (t ∷ []))

-- ---- subcircuits that are the same, line numbers aside

abbrev pub Same : List Sub → List Sub → Type 0
Same ss ts = map unnumbered_sub ss ≡ map unnumbered_sub ts

came_from : (o : Option Sub) (y : Sub) → option_map unnumbered_sub o ≡ Some y → (x : Sub) × (o ≡ Some x) × (unnumbered_sub x ≡ y)
came_from None y e = absurd cc
came_from (Some x) y e = (x, refl, cc)

pub same_call : (ss ts : List Sub) (c : Call) (t : Sub) → Same ts ss → IsCallOf ss c t → (u : Sub) × IsCallOf ts c u × ((name : List ℕ) → reaches ts u name ≡ reaches ss t name)
same_call ss ts c t e h =
    let f : option_map unnumbered_sub (find_sub ts c.sub) ≡ Some (unnumbered_sub t) = sym (find_bare ts c.sub) ∙ ap (λ xs. find_sub xs c.sub) e ∙ find_bare ss c.sub ∙ ap (option_map unnumbered_sub) h.found in
    let g = came_from (find_sub ts c.sub) (unnumbered_sub t) f in
    let u = g.0 in
    let i : unnumbered_sub u ≡ unnumbered_sub t = g.2 in (
      u,
      record { found = g.1; as_many = h.as_many ∙ ap (λ (s : Sub). length s.head.ports) (sym i) },
      λ name. sym (reaches_bare ts u name) ∙ ap (λ xs. reaches xs (unnumbered_sub u) name) e ∙ ap (λ s. reaches (map unnumbered_sub ss) s name) i ∙ reaches_bare ss t name,
    )
