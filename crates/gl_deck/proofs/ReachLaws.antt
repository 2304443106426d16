-- What a subcircuit leads to: the steps end, hold all that is called, and no more.
use Rattle.std.proofs.Common.{◌≡◌, ◌+◌, ◌<◌, ◌≤◌, ℕ, zero, suc, List, [], ◌∷◌, ◌++◌, length, map, cond, Bool, true, false, refl, sym, ap, subst, ◌∙◌, arith, inl, inr}
use Rattle.std.specs.Prelude.{Contains, ◌⊎◌, filter, flat_map}
use Rattle.std.proofs.lemmas.List.Elements.{Contains-append_left, Contains-append_right, Contains-append_cases}
use Rattle.gl_text.specs.Decks.{Sub, callees, is_in, step, steps}
use Rattle.gl_deck.proofs.Members.{is_in_from, from_is_in}
use Rattle.gl_lists.proofs.Membership.{in_head, in_tail, in_none, in_map, in_flat_map, in_filter, from_map, from_flat_map, from_filter}

-- the names of these and those that they call
abbrev pub names_on : List Sub → List (List ℕ)
names_on found = map (λ (t : Sub). t.head.name) found ++ flat_map (λ (t : Sub). callees t.cards) found

abbrev pub on : List Sub → Sub → Bool
on found s = is_in s.head.name (names_on found)

-- a further step finds no more
abbrev pub Settled : List Sub → List Sub → Type 0
Settled subs found = step subs found ≡ found

pub own_on : (found : List Sub) (s : Sub) → Contains found s → on found s ≡ true
own_on found s h =
    is_in_from s.head.name (names_on found) (Contains-append_left (map (λ (t : Sub). t.head.name) found) (flat_map (λ (t : Sub). callees t.cards) found) s.head.name (in_map (λ (t : Sub). t.head.name) found s h))

called_on : (found : List Sub) (s u : Sub) → Contains found s → Contains (callees s.cards) u.head.name → on found u ≡ true
called_on found s u h g =
    is_in_from u.head.name (names_on found) (Contains-append_right (map (λ (t : Sub). t.head.name) found) (flat_map (λ (t : Sub). callees t.cards) found) u.head.name (in_flat_map (λ (t : Sub). callees t.cards) found s u.head.name h g))

-- ---- the steps end

pub filter_short : (p : Sub → Bool) (ss : List Sub) → length (filter p ss) ≤ length ss
filter_short p [] = omega arith
filter_short p (s ∷ ss) = by (p s) (filter_short p ss) where
  by : (b : Bool) → length (filter p ss) ≤ length ss → length (cond b (s ∷ filter p ss) (filter p ss)) ≤ length (s ∷ ss)
  by true h = omega arith
  by false h = omega arith

grow_by : (b c : Bool) (s : Sub) (ps qs : List Sub) → (b ≡ true → c ≡ true) → (qs ≡ ps) ⊎ (length ps < length qs) → (cond c (s ∷ qs) qs ≡ cond b (s ∷ ps) ps) ⊎ (length (cond b (s ∷ ps) ps) < length (cond c (s ∷ qs) qs))
grow_by true true s ps qs h (inl e) = inl (ap (λ xs. s ∷ xs) e)
grow_by true true s ps qs h (inr lt) = inr (omega arith)
grow_by true false s ps qs h o = let e = h refl in absurd cc
grow_by false true s ps qs h (inl e) = inr (let l = ap length e in omega arith)
grow_by false true s ps qs h (inr lt) = inr (omega arith)
grow_by false false s ps qs h o = o

-- what passes a weaker test is the same, or more
pub grow : (p q : Sub → Bool) (ss : List Sub) → ((s : Sub) → Contains ss s → p s ≡ true → q s ≡ true) → (filter q ss ≡ filter p ss) ⊎ (length (filter p ss) < length (filter q ss))
grow p q [] h = inl refl
grow p q (s ∷ ss) h = grow_by (p s) (q s) s (filter p ss) (filter q ss) (h s (in_head s ss)) (grow p q ss (λ u i e. h u (in_tail s ss u i) e))

step_grows : (subs : List Sub) (p : Sub → Bool) → Settled subs (filter p subs) ⊎ (length (filter p subs) < length (step subs (filter p subs)))
step_grows subs p = grow p (on (filter p subs)) subs (λ s i e. own_on (filter p subs) s (in_filter p subs s i e))

settled_steps : (subs : List Sub) (n : ℕ) (found : List Sub) → Settled subs found → steps subs n found ≡ found
settled_steps subs zero found h = refl
settled_steps subs (suc n) found h = ap (steps subs n) h ∙ settled_steps subs n found h

ends_by : (subs : List Sub) (n : ℕ) (found : List Sub) → (length found < length (step subs found) → Settled subs (steps subs n (step subs found))) → Settled subs found ⊎ (length found < length (step subs found)) → Settled subs (steps subs n (step subs found))
ends_by subs n found ih (inl e) = subst (λ (f : List Sub). Settled subs f) (sym (ap (steps subs n) e ∙ settled_steps subs n found e)) e
ends_by subs n found ih (inr lt) = ih lt

last_by : (subs found : List Sub) (p : Sub → Bool) → length subs ≤ length found → Settled subs found ⊎ (length found < length (step subs found)) → Settled subs found
last_by subs found p h (inl e) = e
last_by subs found p h (inr lt) = absurd (let s = filter_short (on found) subs in omega arith)

ends : (subs : List Sub) (n : ℕ) (p : Sub → Bool) → length subs ≤ length (filter p subs) + n → Settled subs (steps subs n (filter p subs))
ends subs zero p h = last_by subs (filter p subs) p (omega arith) (step_grows subs p)
ends subs (suc n) p h = ends_by subs n (filter p subs) (λ lt. ends subs n (on (filter p subs)) (omega arith)) (step_grows subs p)

pub some_of : (s : Sub) (ss : List Sub) → Contains ss s → 1 ≤ length ss
some_of s [] h = absurd (in_none s h)
some_of s (u ∷ ss) h = omega arith

-- as many steps are enough as there are subcircuits
pub settled : (subs : List Sub) (t : Sub) → Contains subs t → Settled subs (steps subs (length subs) (t ∷ []))
settled subs t h = by (length subs) refl where
  by : (n : ℕ) → length subs ≡ n → Settled subs (steps subs n (t ∷ []))
  by zero e = absurd (let s = some_of t subs h in omega arith)
  by (suc n) e =
      let first = in_filter (on (t ∷ [])) subs t h (own_on (t ∷ []) t (in_head t [])) in
      let some = some_of t (filter (on (t ∷ [])) subs) first in
      ends subs n (on (t ∷ [])) (omega arith)

-- ---- what they hold

pub keeps : (subs : List Sub) (s : Sub) (n : ℕ) (found : List Sub) → Contains subs s → Contains found s → Contains (steps subs n found) s
keeps subs s zero found i h = h
keeps subs s (suc n) found i h = keeps subs s n (step subs found) i (in_filter (on found) subs s i (own_on found s h))

-- what is called by one that is found is found
pub called_found : (subs found : List Sub) (s u : Sub) → Settled subs found → Contains found s → Contains subs u → Contains (callees s.cards) u.head.name → Contains found u
called_found subs found s u settles h i g = subst (λ (f : List Sub). Contains f u) settles (in_filter (on found) subs u i (called_on found s u h g))

step_by : (M : Sub → Type 0) (found : List Sub) (s : Sub) → ((u : Sub) → Contains found u → M u) → ((u : Sub) → M u → s.head.name ≡ u.head.name → M s) → ((u : Sub) → M u → Contains (callees u.cards) s.head.name → M s) → Contains (map (λ (t : Sub). t.head.name) found) s.head.name ⊎ Contains (flat_map (λ (t : Sub). callees t.cards) found) s.head.name → M s
step_by M found s all same calls (inl h) = let g = from_map (λ (t : Sub). t.head.name) found s.head.name h in same g.0 (all g.0 g.1) (sym g.2)
step_by M found s all same calls (inr h) = let g = from_flat_map (λ (t : Sub). callees t.cards) found s.head.name h in calls g.0 (all g.0 g.1) g.2

-- a property that passes to what has the same name, and to what is called, holds of all that is found
pub all_found : (subs : List Sub) (M : Sub → Type 0) (n : ℕ) (found : List Sub) → ((u s : Sub) → M u → Contains subs s → s.head.name ≡ u.head.name → M s) → ((u s : Sub) → M u → Contains subs s → Contains (callees u.cards) s.head.name → M s) → ((u : Sub) → Contains found u → M u) → (u : Sub) → Contains (steps subs n found) u → M u
all_found subs M zero found same calls all u h = all u h
all_found subs M (suc n) found same calls all u h = all_found subs M n (step subs found) same calls (λ s i.
    let g = from_filter (on found) subs s i in
    step_by M found s all (λ v m e. same v s m g.0 e) (λ v m e. calls v s m g.0 e)
    (Contains-append_cases (map (λ (t : Sub). t.head.name) found) (flat_map (λ (t : Sub). callees t.cards) found) s.head.name (from_is_in s.head.name (names_on found) g.1))) u h
