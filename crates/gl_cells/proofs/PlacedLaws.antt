-- Levels and skipped cells by places are those by names.
use Rattle.std.proofs.Common.{◌≡◌, ◌+◌, ◌<◌, ◌≤◌, ◌∙◌, ℕ, zero, suc, List, [], ◌∷◌, ◌++◌, length, map, cond, ltb, Bool, true, false, Option, Some, None, get_or, refl, sym, ap, arith}
use Rattle.std.specs.Prelude.{max, not, ◌||◌, find, is_some, option_map, option_to_list, slice_index, slice_index_or, unwrap_or}
use Rattle.std.specs.List.{position_or_len}
use Rattle.std.proofs.Math.ListN.{replicate}
use Rattle.std.proofs.lemmas.Bool.{ltb-false}
use Rattle.std.proofs.lemmas.List.{get_or_past, length-map}
use Rattle.std.proofs.lemmas.List.Folds.{list_any-append}
use Rattle.gl_text.specs.LogicalLines.{same_text}
use Rattle.gl_text.specs.Decks.{Sub, callees, find_sub}
use Rattle.gl_deck.specs.Bodies.{names_of}
use Rattle.gl_deck.specs.Places.{place_in, places_of}
use Rattle.gl_text.proofs.Names.{flipped}
use Rattle.gl_deck.proofs.PlaceLaws.{place_within}
use Rattle.gl_size.specs.Tallies.{has_mark}
use Rattle.gl_size.proofs.ChainLaws.{or_false}
use Rattle.gl_size.proofs.CountLaws.{up}
use Rattle.gl_base.specs.Libraries.{above, greatest, level_through, own_skip, is_called, skip_by, skipped_callee, is_skipped_through, uses_else, Skip}
use Rattle.gl_cells.specs.Outlines.{Outline, outline_of, outlines_of, level_by, is_skipped_by, levels_through, marks_through}

-- ---- a value of the cell of a name

-- what stands at a place
abbrev at_place : {A : Type 0} → A → List A → Option ℕ → A
at_place none xs None = none
at_place none xs (Some place) = get_or xs place none

-- what a function says of a cell, if there is one
abbrev of_found : {A : Type 0} → A → (Sub → A) → Option Sub → A
of_found none f found = unwrap_or (option_map f found) none

found_by : {A : Type 0} (none : A) (f : Sub → A) (b : Bool) (s : Sub) (o : Option Sub) (xs : List A) (k : ℕ) → of_found none f o ≡ get_or xs k none → of_found none f (cond b (Some s) o) ≡ get_or (f s ∷ xs) (cond (not b) (1 + k) 0) none
found_by none f true s o xs k h = refl
found_by none f false s o xs k h = h ∙ ap (λ j. get_or (f s ∷ xs) j none) (up k)

found_at : {A : Type 0} (none : A) (f : Sub → A) (subs : List Sub) (name : List ℕ) → of_found none f (find_sub subs name) ≡ get_or (map f subs) (position_or_len (same_text name) (names_of subs)) none
found_at none f [] name = refl
found_at none f (s ∷ subs) name =
    let k = position_or_len (same_text name) (names_of subs) in
    found_by none f (same_text s.head.name name) s (find_sub subs name) (map f subs) k (found_at none f subs name)
    ∙ ap (λ b. get_or (map f (s ∷ subs)) (cond (not b) (1 + k) 0) none) (flipped s.head.name name)

placed_by : {A : Type 0} (none : A) (b : Bool) (xs : List A) (k : ℕ) → (b ≡ false → get_or xs k none ≡ none) → get_or xs k none ≡ at_place none xs (cond b (Some k) None)
placed_by none true xs k h = refl
placed_by none false xs k h = h refl

-- the value of the cell of a name stands at its place among the values of all
placed : {A : Type 0} (none : A) (f : Sub → A) (subs : List Sub) (name : List ℕ) → of_found none f (find_sub subs name) ≡ at_place none (map f subs) (place_in subs name)
placed none f subs name =
    let names = names_of subs in
    let k = position_or_len (same_text name) names in
    let a = length-map subs f in
    let b = length-map subs (λ (s : Sub). s.head.name) in
    found_at none f subs name
    ∙ placed_by none (ltb k (length names)) (map f subs) k (λ off. get_or_past (map f subs) k none (let d = ltb-false k (length names) off in omega arith))

-- ---- levels

abbrev over : List ℕ → Option ℕ → ℕ
over levels None = 0
over levels (Some place) = suc (slice_index levels place)

above_found : (f : Sub → ℕ) (found : Option Sub) → of_found 0 (λ s. suc (f s)) found ≡ above f found
above_found f None = refl
above_found f (Some s) = refl

suc_at : (f : Sub → ℕ) (subs : List Sub) (k : ℕ) → k < length subs → get_or (map (λ s. suc (f s)) subs) k 0 ≡ suc (get_or (map f subs) k 0)
suc_at f [] k lt = absurd (omega arith)
suc_at f (s ∷ subs) zero lt = refl
suc_at f (s ∷ subs) (suc k) lt = suc_at f subs k (omega arith)

over_by : (f : Sub → ℕ) (subs : List Sub) (name : List ℕ) (place : Option ℕ) → place_in subs name ≡ place → at_place 0 (map (λ s. suc (f s)) subs) place ≡ over (map f subs) place
over_by f subs name None e = refl
over_by f subs name (Some k) e = suc_at f subs k (place_within subs name k e)

over_is : (f : Sub → ℕ) (subs : List Sub) (name : List ℕ) → over (map f subs) (place_in subs name) ≡ above f (find_sub subs name)
over_is f subs name =
    sym (over_by f subs name (place_in subs name) refl) ∙ sym (placed 0 (λ s. suc (f s)) subs name) ∙ above_found f (find_sub subs name)

zero_max : (n : ℕ) → n ≡ max 0 n
zero_max n = omega arith

over_more : (levels : List ℕ) (place : Option ℕ) (places : List ℕ)
    → greatest (map (λ p. suc (slice_index levels p)) (option_to_list place ++ places)) ≡ max (over levels place) (greatest (map (λ p. suc (slice_index levels p)) places))
over_more levels None places = zero_max (greatest (map (λ p. suc (slice_index levels p)) places))
over_more levels (Some place) places = refl

level_of_names : (f : Sub → ℕ) (subs : List Sub) (names : List (List ℕ))
    → greatest (map (λ place. suc (slice_index (map f subs) place)) (places_of subs names)) ≡ greatest (map (λ name. above f (find_sub subs name)) names)
level_of_names f subs [] = refl
level_of_names f subs (name ∷ names) =
    over_more (map f subs) (place_in subs name) (places_of subs names)
    ∙ ap (λ n. max n (greatest (map (λ place. suc (slice_index (map f subs) place)) (places_of subs names)))) (over_is f subs name)
    ∙ ap (max (above f (find_sub subs name))) (level_of_names f subs names)

levels_by : (subs : List Sub) (calls : ℕ) (ss : List Sub) → map (level_by (levels_through subs calls)) (map (outline_of subs) ss) ≡ map (level_through subs (suc calls)) ss
levels_by subs calls [] = refl
levels_by subs calls (s ∷ ss) =
    ap (λ n. n ∷ map (level_by (levels_through subs calls)) (map (outline_of subs) ss)) (level_of_names (level_through subs calls) subs (callees s.cards))
    ∙ ap (λ ns. level_through subs (suc calls) s ∷ ns) (levels_by subs calls ss)

-- one call more
pub next_levels : (subs : List Sub) (calls : ℕ) → map (level_by (levels_through subs calls)) (outlines_of subs) ≡ levels_through subs (suc calls)
next_levels subs calls = levels_by subs calls subs

greatest_low : (f : ℕ → ℕ) (n : ℕ) (places : List ℕ) → ((place : ℕ) → f place ≤ n) → greatest (map (λ place. suc (f place)) places) ≤ suc n
greatest_low f n [] low = omega arith
greatest_low f n (p ∷ places) low = let here = low p in let rest = greatest_low f n places low in omega arith

pub levels_low : (levels : List ℕ) (n : ℕ) (cells : List Outline) → ((place : ℕ) → slice_index levels place ≤ n) → (place : ℕ) → slice_index (map (level_by levels) cells) place ≤ suc n
levels_low levels n [] low place = omega arith
levels_low levels n (cell ∷ cells) low zero = greatest_low (slice_index levels) n cell.calls low
levels_low levels n (cell ∷ cells) low (suc place) = levels_low levels n cells low place

-- ---- skipped cells

called_found : (f : Sub → Bool) (found : Option Sub) → of_found false f found ≡ is_called f found
called_found f None = refl
called_found f (Some s) = refl

mark_at : (marks : List Bool) (place : Option ℕ) → has_mark marks (option_to_list place) ≡ at_place false marks place
mark_at marks None = refl
mark_at marks (Some place) = or_false (get_or marks place false)

-- the mark at a name's place is that of the cell of this name
pub mark_of : (f : Sub → Bool) (subs : List Sub) (name : List ℕ) → has_mark (map f subs) (option_to_list (place_in subs name)) ≡ is_called f (find_sub subs name)
mark_of f subs name = mark_at (map f subs) (place_in subs name) ∙ sym (placed false f subs name) ∙ called_found f (find_sub subs name)

some_by : (b : Bool) (name : List ℕ) (found : Option (List ℕ)) → is_some (cond b (Some name) found) ≡ (b || is_some found)
some_by true name found = refl
some_by false name found = refl

marks_of_names : (f : Sub → Bool) (subs : List Sub) (names : List (List ℕ)) → has_mark (map f subs) (places_of subs names) ≡ is_some (find (λ name. is_called f (find_sub subs name)) names)
marks_of_names f subs [] = refl
marks_of_names f subs (name ∷ names) =
    let found = find (λ n. is_called f (find_sub subs n)) names in
    list_any-append (λ place. slice_index_or (map f subs) place false) (option_to_list (place_in subs name)) (places_of subs names)
    ∙ ap (λ b. b || has_mark (map f subs) (places_of subs names)) (mark_of f subs name)
    ∙ ap (λ b. is_called f (find_sub subs name) || b) (marks_of_names f subs names)
    ∙ sym (some_by (is_called f (find_sub subs name)) name found)

skipped_some : (own : Option Skip) (called : Option (List ℕ)) → (is_some own || is_some called) ≡ is_some (uses_else own called)
skipped_some None None = refl
skipped_some None (Some name) = refl
skipped_some (Some skip) called = refl

skipped_is : (f : Sub → Bool) (subs : List Sub) (s : Sub) → is_skipped_by (map f subs) (outline_of subs s) ≡ is_some (skip_by f subs s)
skipped_is f subs s =
    ap (λ b. is_some (own_skip s) || b) (marks_of_names f subs (callees s.cards))
    ∙ skipped_some (own_skip s) (skipped_callee f subs s.cards)

marks_by : (subs : List Sub) (calls : ℕ) (ss : List Sub) → map (is_skipped_by (marks_through subs calls)) (map (outline_of subs) ss) ≡ map (is_skipped_through subs (suc calls)) ss
marks_by subs calls [] = refl
marks_by subs calls (s ∷ ss) =
    ap (λ b. b ∷ map (is_skipped_by (marks_through subs calls)) (map (outline_of subs) ss)) (skipped_is (is_skipped_through subs calls) subs s)
    ∙ ap (λ bs. is_skipped_through subs (suc calls) s ∷ bs) (marks_by subs calls ss)

-- one call more
pub next_marks : (subs : List Sub) (calls : ℕ) → map (is_skipped_by (marks_through subs calls)) (outlines_of subs) ≡ marks_through subs (suc calls)
next_marks subs calls = marks_by subs calls subs

-- ---- no call at all

all_same : {A : Type 0} (x : A) (ss : List Sub) → replicate (length ss) x ≡ map (λ (s : Sub). x) ss
all_same x [] = refl
all_same x (s ∷ ss) = ap (λ xs. x ∷ xs) (all_same x ss)

pub as_many : (subs : List Sub) (cells : List Outline) → cells ≡ outlines_of subs → length cells ≡ length subs
as_many subs cells e = ap length e ∙ length-map subs (outline_of subs)

pub first_values : {A : Type 0} (x : A) (subs : List Sub) (cells : List Outline) → cells ≡ outlines_of subs → replicate (length cells) x ≡ map (λ (s : Sub). x) subs
first_values x subs cells e = ap (λ n. replicate n x) (as_many subs cells e) ∙ all_same x subs

pub first_low : (n place : ℕ) → slice_index (replicate n 0) place ≤ 0
first_low zero place = omega arith
first_low (suc n) zero = omega arith
first_low (suc n) (suc place) = first_low n place
