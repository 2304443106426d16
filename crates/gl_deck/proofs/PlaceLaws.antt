-- Subcircuits stand at the places of their names.
use Rattle.std.proofs.Common.{◌≡◌, ◌<◌, ℕ, List, [], ◌∷◌, length, cond, ltb, Bool, true, false, Some, None, get_or, sym, ap, subst, ◌∙◌, arith}
use Rattle.std.specs.Prelude.{slice_get}
use Rattle.std.specs.List.{IsDistinct, position_or_len}
use Rattle.std.proofs.lemmas.List.{get_or-map, length-map}
use Rattle.std.proofs.lemmas.List.Quantifiers.{position-Some}
use Rattle.std.proofs.lemmas.List.Sums.{position_or_len_is}
use Rattle.std.proofs.lemmas.Map.Keys.{apart_from_distinct}
use Rattle.std.proofs.lemmas.Option.{slice_get_within, get_or_from_slice_get, slice_get-get_or}
use Rattle.gl_text.specs.LogicalLines.{same_text}
use Rattle.gl_text.specs.Decks.{Sub}
use Rattle.gl_deck.specs.Bodies.{names_of}
use Rattle.gl_deck.specs.Places.{place_in}
use Rattle.gl_text.proofs.Names.{exact, itself, flipped}

place_by : (p : List ℕ → Bool) (names : List (List ℕ)) (k n : ℕ) → k < length names → n ≡ k → cond (ltb n (length names)) (Some n) None ≡ Some k
place_by p names k n h e = subst (λ (m : ℕ). cond (ltb m (length names)) (Some m) None ≡ Some k) (sym e) (grind (arith, within k (length names) h)) where
  within : (k n : ℕ) → k < n → ltb k n ≡ true
  within k n h = grind arith

name_at : (subs : List Sub) (k : ℕ) (s : Sub) → slice_get subs k ≡ Some s → get_or (names_of subs) k [] ≡ s.head.name
name_at subs k s h = get_or-map (λ (u : Sub). u.head.name) subs k s [] (slice_get_within subs k s h) ∙ ap (λ (u : Sub). u.head.name) (get_or_from_slice_get subs k s s h)

-- a subcircuit stands at its name's place
pub own_place : (subs : List Sub) (k : ℕ) (s : Sub) → IsDistinct same_text (names_of subs) → slice_get subs k ≡ Some s → place_in subs s.head.name ≡ Some k
own_place subs k s distinct h =
    let names = names_of subs in
    let same = length-map subs (λ (u : Sub). u.head.name) in
    let within = slice_get_within subs k s h in
    let here = name_at subs k s h in
    let low : k < length names = omega arith in
    let before : (j : ℕ) → j < k → same_text s.head.name (get_or names j []) ≡ false = λ j lt.
    subst (λ (n : List ℕ). same_text n (get_or names j []) ≡ false) here (flipped (get_or names k []) (get_or names j []) ∙ apart_from_distinct same_text names j k [] distinct lt low) in
    let at : same_text s.head.name (get_or names k []) ≡ true = ap (same_text s.head.name) here ∙ itself s.head.name in
    place_by (same_text s.head.name) names k (position_or_len (same_text s.head.name) names) low (position_or_len_is (same_text s.head.name) names k [] (omega arith) before (λ _. at))

-- what stands at a name's place has the name
pub at_its_place : (subs : List Sub) (n : List ℕ) (k : ℕ) → place_in subs n ≡ Some k → (s : Sub) × (slice_get subs k ≡ Some s) × (s.head.name ≡ n)
at_its_place [] n k e = absurd cc
at_its_place (u ∷ us) n k e =
    let subs = u ∷ us in
    let found = position-Some (same_text n) (names_of subs) k [] e in
    let same = length-map subs (λ (v : Sub). v.head.name) in
    let s = get_or subs k u in
    let at = slice_get-get_or subs k u (let low = found.0 in omega arith) in
    (s, at, sym (exact n (get_or (names_of subs) k []) found.1 ∙ name_at subs k s at))

-- and it is a place of the list
pub place_within : (subs : List Sub) (n : List ℕ) (k : ℕ) → place_in subs n ≡ Some k → k < length subs
place_within subs n k e = let found = position-Some (same_text n) (names_of subs) k [] e in let same = length-map subs (λ (v : Sub). v.head.name) in let low = found.0 in omega arith
