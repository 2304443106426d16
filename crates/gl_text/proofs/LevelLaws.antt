-- Where each X card goes down by a number of the subcircuits, none is recursive.
use Rattle.std.proofs.Common.{◌≡◌, ◌≤◌, ◌<◌, ℕ, zero, suc, List, [], ◌∷◌, ◌++◌, length, map, cond, true, false, Bool, refl, arith, inl, inr}
use Rattle.std.specs.Prelude.{◌||◌, filter, flat_map}
use Rattle.std.specs.List.{AllByRecursion, list_any}
use Rattle.std.proofs.lemmas.Bool.{cases_Bool}
use Rattle.gl_text.specs.LogicalLines.{same_text}
use Rattle.gl_text.specs.Levels.{Down}
use Rattle.gl_text.specs.Decks.{Sub, callees, is_in, step, steps, reaches}
use Rattle.gl_text.proofs.Names.{exact}

-- a name that is among names of at most m has at most m
abbrev Low : (List ℕ → ℕ) → ℕ → List (List ℕ) → Type 0
Low level m names = AllByRecursion (λ n. level n ≤ m) names

low_by : (level : List ℕ → ℕ) (m : ℕ) (name n : List ℕ) (ns : List (List ℕ)) (b : Bool) → same_text name n ≡ b → level n ≤ m → (is_in name ns ≡ true → level name ≤ m) → (b || is_in name ns) ≡ true → level name ≤ m
low_by level m name n ns true e low ih h = let f = exact name n e in rw f low
low_by level m name n ns false e low ih h = ih h

low_in : (level : List ℕ → ℕ) (m : ℕ) (name : List ℕ) (ns : List (List ℕ)) → Low level m ns → is_in name ns ≡ true → level name ≤ m
low_in level m name [] low h = absurd cc
low_in level m name (n ∷ ns) low h = low_by level m name n ns (same_text name n) refl low.0 (low_in level m name ns low.1) h

low_append : (level : List ℕ → ℕ) (m : ℕ) (a b : List (List ℕ)) → Low level m a → Low level m b → Low level m (a ++ b)
low_append level m [] b p q = q
low_append level m (x ∷ a) b p q = (p.0, low_append level m a b p.1 q)

abbrev LowSubs : (List ℕ → ℕ) → ℕ → List Sub → Type 0
LowSubs level m found = AllByRecursion (λ (s : Sub). level s.head.name ≤ m) found

names_low : (level : List ℕ → ℕ) (m : ℕ) (found : List Sub) → LowSubs level m found → Low level m (map (λ (t : Sub). t.head.name) found)
names_low level m [] h = tt
names_low level m (s ∷ found) h = (h.0, names_low level m found h.1)

calls_low : (level : List ℕ → ℕ) (m k : ℕ) (ns : List (List ℕ)) → k ≤ m → AllByRecursion (λ n. level n < k) ns → Low level m ns
calls_low level m k [] le h = tt
calls_low level m k (n ∷ ns) le h = (omega (arith, h.0), calls_low level m k ns le h.1)

all_calls_low : (level : List ℕ → ℕ) (m : ℕ) (found : List Sub) → Down level found → LowSubs level m found → Low level m (flat_map (λ (t : Sub). callees t.cards) found)
all_calls_low level m [] d h = tt
all_calls_low level m (s ∷ found) d h =
    low_append level m (callees s.cards) (flat_map (λ (t : Sub). callees t.cards) found) (calls_low level m (level s.head.name) (callees s.cards) h.0 d.0) (all_calls_low level m found d.1 h.1)

filter_by : (P Q : Sub → Type 0) (b : Bool) (s : Sub) (ss : List Sub) → (b ≡ true → P s) → AllByRecursion P ss → AllByRecursion P (cond b (s ∷ ss) ss)
filter_by P Q true s ss here h = (here refl, h)
filter_by P Q false s ss here h = h

filter_low : (P : Sub → Type 0) (test : Sub → Bool) (ss : List Sub) → ((s : Sub) → test s ≡ true → P s) → AllByRecursion P (filter test ss)
filter_low P test [] here = tt
filter_low P test (s ∷ ss) here = filter_by P P (test s) s (filter test ss) (here s) (filter_low P test ss here)

filter_kept : (P : Sub → Type 0) (test : Sub → Bool) (ss : List Sub) → AllByRecursion P ss → AllByRecursion P (filter test ss)
filter_kept P test [] h = tt
filter_kept P test (s ∷ ss) h = filter_by P P (test s) s (filter test ss) (λ e. h.0) (filter_kept P test ss h.1)

steps_low : (level : List ℕ → ℕ) (m : ℕ) (subs : List Sub) (n : ℕ) (found : List Sub) → Down level subs → Down level found → LowSubs level m found → LowSubs level m (steps subs n found)
steps_low level m subs zero found d f h = h
steps_low level m subs (suc n) found d f h =
    let names = map (λ (t : Sub). t.head.name) found ++ flat_map (λ (t : Sub). callees t.cards) found in
    let low : Low level m names = low_append level m (map (λ (t : Sub). t.head.name) found) (flat_map (λ (t : Sub). callees t.cards) found) (names_low level m found h) (all_calls_low level m found f h) in
    steps_low level m subs n (step subs found) d
    (filter_kept (λ (s : Sub). AllByRecursion (λ n. level n < level s.head.name) (callees s.cards)) (λ (s : Sub). is_in s.head.name names) subs d)
    (filter_low (λ (s : Sub). level s.head.name ≤ m) (λ (s : Sub). is_in s.head.name names) subs (λ s e. low_in level m s.head.name names low e))

found_low : (level : List ℕ → ℕ) (m : ℕ) (name : List ℕ) (found : List Sub) → LowSubs level m found → list_any (λ (u : Sub). same_text u.head.name name) found ≡ true → level name ≤ m
found_low level m name [] h e = absurd cc
found_low level m name (s ∷ found) h e = by (same_text s.head.name name) refl e (λ g. found_low level m name found h.1 g) where
  by : (b : Bool) → same_text s.head.name name ≡ b → (b || list_any (λ (u : Sub). same_text u.head.name name) found) ≡ true → (list_any (λ (u : Sub). same_text u.head.name name) found ≡ true → level name ≤ m) → level name ≤ m
  by true f g ih = let i = exact s.head.name name f in rw (← i) h.0
  by false f g ih = ih g

-- T is below S, so T does not reach S
pub not_reached : (level : List ℕ → ℕ) (subs : List Sub) (t : Sub) (name : List ℕ) → Down level subs → Down level (t ∷ []) → level t.head.name < level name → reaches subs t name ≡ false
not_reached level subs t name d f lt = elim (cases_Bool (reaches subs t name)) [
  | inl e ↦ absurd (let le = found_low level (level t.head.name) name (steps subs (length subs) (t ∷ [])) (steps_low level (level t.head.name) subs (length subs) (t ∷ []) d f (omega arith, tt)) e in omega arith)
  | inr e ↦ e
]
