-- Chains of X cards by places are those by names.
use Rattle.std.proofs.Common.{◌≡◌, ◌-◌, ◌≤◌, take, drop, ℕ, zero, suc, List, [], ◌∷◌, length, map, Bool, true, false, Option, Some, None, get_or, refl, sym, ap, subst, ◌∙◌, arith}
use Rattle.std.specs.Prelude.{Contains, not, ◌||◌, filter, flat_map, slice_get, slice_index_or, option_to_list}
use Rattle.std.specs.List.{IsDistinct, list_any}
use Rattle.std.proofs.Math.ListN.{replicate}
use Rattle.std.proofs.Math.Seq.{take-length}
use Rattle.std.proofs.lemmas.List.{append-nil, length-map, get_or-map}
use Rattle.std.proofs.lemmas.List.Folds.{list_any-append}
use Rattle.std.proofs.lemmas.Option.{slice_get_within, get_or_from_slice_get}
use Rattle.gl_lists.proofs.Bools.{same_bool}
use Rattle.gl_text.specs.LogicalLines.{same_text}
use Rattle.gl_text.specs.Decks.{Body, dev_at, call_at, Sub, callees, is_in}
use Rattle.gl_text.specs.Flattening.{at_depth, is_none_left}
use Rattle.gl_deck.specs.declared.body.Body as cards
use Rattle.gl_deck.specs.Bodies.{bodies_value, body_value, names_of}
use Rattle.gl_deck.specs.Places.{place_in, places_of}
use Rattle.gl_deck.proofs.Members.{at_in, in_at, is_in_from, from_is_in}
use Rattle.gl_lists.proofs.Membership.{in_any, from_any, in_filter, from_filter}
use Rattle.gl_deck.proofs.PlaceLaws.{own_place, at_its_place}
use Rattle.gl_size.specs.Chains.{has_chain, chains_of}
use Rattle.gl_size.specs.Tallies.{Tally, tally_of, tallies_of}

-- ---- marks at places

abbrev pub at : List Bool → ℕ → Bool
at marks place = slice_index_or marks place false

abbrev at_place : List Bool → Option ℕ → Bool
at_place marks place = list_any (at marks) (option_to_list place)

-- those of these names
abbrev with_names : List Sub → List (List ℕ) → List Sub
with_names subs names = filter (λ (s : Sub). is_in s.head.name names) subs

pub or_false : (b : Bool) → (b || false) ≡ b
or_false true = refl
or_false false = refl

mark_at : (p : Sub → Bool) (subs : List Sub) (k : ℕ) (s : Sub) → slice_get subs k ≡ Some s → at (map p subs) k ≡ p s
mark_at p subs k s h = get_or-map p subs k s false (slice_get_within subs k s h) ∙ ap p (get_or_from_slice_get subs k s s h)

-- a subcircuit's place has its mark
own_mark : (p : Sub → Bool) (subs : List Sub) (s : Sub) → IsDistinct same_text (names_of subs) → Contains subs s → at_place (map p subs) (place_in subs s.head.name) ≡ p s
own_mark p subs s distinct i =
    let g = in_at s subs i in
    ap (at_place (map p subs)) (own_place subs g.0 s distinct g.1) ∙ or_false (at (map p subs) g.0) ∙ mark_at p subs g.0 s g.1

-- a mark at a name's place is that of a subcircuit of this name
marked_by : (p : Sub → Bool) (subs : List Sub) (n : List ℕ) (place : Option ℕ) → place_in subs n ≡ place → at_place (map p subs) place ≡ true → (s : Sub) × (Contains subs s) × (s.head.name ≡ n) × (p s ≡ true)
marked_by p subs n None e m = absurd cc
marked_by p subs n (Some k) e m =
    let g = at_its_place subs n k e in
    (g.0, at_in g.0 subs k g.1, g.2, sym (mark_at p subs k g.0 g.1) ∙ sym (or_false (at (map p subs) k)) ∙ m)

-- a test of those of these names, and of the marks at the places of these names
by_place : (p : Sub → Bool) (subs : List Sub) (names : List (List ℕ)) → IsDistinct same_text (names_of subs) → list_any p (with_names subs names) ≡ list_any (λ n. at_place (map p subs) (place_in subs n)) names
by_place p subs names distinct =
    let there = λ (n : List ℕ). at_place (map p subs) (place_in subs n) in
    let has = λ (s : Sub). is_in s.head.name names in
    same_bool (list_any p (with_names subs names)) (list_any there names)
    (λ e.
    let s = from_any p (with_names subs names) e in
    let i = from_filter has subs s.0 s.1 in
    in_any there names s.0.head.name (from_is_in s.0.head.name names i.1) (own_mark p subs s.0 distinct i.0 ∙ s.2))
    (λ e.
    let n = from_any there names e in
    let s = marked_by p subs n.0 (place_in subs n.0) refl n.2 in
    let named : Contains names s.0.head.name = subst (λ (m : List ℕ). Contains names m) (sym s.2) n.1 in
    in_any p (with_names subs names) s.0 (in_filter has subs s.0 s.1 (is_in_from s.0.head.name names named)) s.3)

any_flat : {A B : Type 0} (p : B → Bool) (f : A → List B) (xs : List A) → list_any p (flat_map f xs) ≡ list_any (λ x. list_any p (f x)) xs
any_flat p f [] = refl
any_flat p f (x ∷ xs) = list_any-append p (f x) (flat_map f xs) ∙ ap (λ b. list_any p (f x) || b) (any_flat p f xs)

-- ---- chains from names

-- those that the last of n + 1 names in a chain has, from these names on
reached : List Sub → List (List ℕ) → ℕ → List Sub
reached subs names zero = with_names subs names
reached subs names (suc n) = with_names subs (flat_map (λ (t : Sub). callees t.cards) (reached subs names n))

reached_is : (subs : List Sub) (cards : List Body) (n : ℕ) → at_depth subs cards n ≡ reached subs (callees cards) n
unfolding reached
reached_is subs cards zero = refl
reached_is subs cards (suc n) = ap (λ (above : List Sub). with_names subs (flat_map (λ (t : Sub). callees t.cards) above)) (reached_is subs cards n)

-- the first link
shifted : (subs : List Sub) (names : List (List ℕ)) (n : ℕ) → reached subs names (suc n) ≡ reached subs (flat_map (λ (t : Sub). callees t.cards) (with_names subs names)) n
unfolding reached
shifted subs names zero = refl
shifted subs names (suc n) = ap (λ (above : List Sub). with_names subs (flat_map (λ (t : Sub). callees t.cards) above)) (shifted subs names n)

some_left : (ss : List Sub) → not (is_none_left ss) ≡ list_any (λ s. true) ss
some_left [] = refl
some_left (s ∷ ss) = refl

-- whether a chain of n + 1 calls begins with a name
leads : List Sub → ℕ → List ℕ → Bool
leads subs zero name = at_place (map (λ s. true) subs) (place_in subs name)
leads subs (suc n) name = at_place (map (λ (s : Sub). list_any (leads subs n) (callees s.cards)) subs) (place_in subs name)

led : (subs : List Sub) (n : ℕ) (names : List (List ℕ)) → IsDistinct same_text (names_of subs) → not (is_none_left (reached subs names n)) ≡ list_any (leads subs n) names
unfolding reached leads
led subs zero names distinct = some_left (with_names subs names) ∙ by_place (λ s. true) subs names distinct
led subs (suc n) names distinct =
    ap (λ (ss : List Sub). not (is_none_left ss)) (shifted subs names n)
    ∙ led subs n (flat_map (λ (t : Sub). callees t.cards) (with_names subs names)) distinct
    ∙ any_flat (leads subs n) (λ (t : Sub). callees t.cards) (with_names subs names)
    ∙ by_place (λ (s : Sub). list_any (leads subs n) (callees s.cards)) subs names distinct

chain_led : (subs : List Sub) (n : ℕ) (cards : List Body) → IsDistinct same_text (names_of subs) → has_chain subs cards (suc n) ≡ list_any (leads subs n) (callees cards)
chain_led subs n cards distinct = ap (λ (ss : List Sub). not (is_none_left ss)) (reached_is subs cards n) ∙ led subs n (callees cards) distinct

-- ---- chains from places

map_same : (f g : Sub → Bool) (ss : List Sub) → ((s : Sub) → f s ≡ g s) → map f ss ≡ map g ss
map_same f g [] h = refl
map_same f g (s ∷ ss) h = ap (λ b. b ∷ map f ss) (h s) ∙ ap (λ bs. g s ∷ bs) (map_same f g ss h)

chains_led : (subs : List Sub) (n : ℕ) (name : List ℕ) → IsDistinct same_text (names_of subs) → leads subs n name ≡ at_place (chains_of subs n) (place_in subs name)
unfolding leads
chains_led subs zero name distinct = refl
chains_led subs (suc n) name distinct = ap (λ (bs : List Bool). at_place bs (place_in subs name)) (sym (map_same (λ (s : Sub). has_chain subs s.cards (suc n)) (λ (s : Sub). list_any (leads subs n) (callees s.cards)) subs (λ s. chain_led subs n s.cards distinct)))

any_same : {A : Type 0} (p q : A → Bool) (xs : List A) → ((x : A) → p x ≡ q x) → list_any p xs ≡ list_any q xs
any_same p q [] h = refl
any_same p q (x ∷ xs) h = ap (λ b. b || list_any p xs) (h x) ∙ ap (λ b. q x || b) (any_same p q xs h)

-- a chain of one X card more begins with cards that call one in which a chain begins
pub chain_at : (subs : List Sub) (n : ℕ) (cards : List Body) → IsDistinct same_text (names_of subs) → list_any (at (chains_of subs n)) (places_of subs (callees cards)) ≡ has_chain subs cards (suc n)
chain_at subs n cards distinct =
    any_flat (at (chains_of subs n)) (λ m. option_to_list (place_in subs m)) (callees cards)
    ∙ any_same (λ m. at_place (chains_of subs n) (place_in subs m)) (leads subs n) (callees cards) (λ m. sym (chains_led subs n m distinct))
    ∙ sym (chain_led subs n cards distinct)

-- whether a subcircuit calls one that is marked
abbrev pub calls_by : List Bool → Tally → Bool
calls_by marks t = list_any (λ place. slice_index_or marks place false) t.calls

next_by : (subs : List Sub) (n : ℕ) (ss : List Sub) → IsDistinct same_text (names_of subs) → map (calls_by (chains_of subs n)) (map (λ (s : Sub). tally_of subs s.cards) ss) ≡ map (λ (s : Sub). has_chain subs s.cards (suc n)) ss
next_by subs n [] distinct = refl
next_by subs n (s ∷ ss) distinct =
    ap (λ b. b ∷ map (calls_by (chains_of subs n)) (map (λ (s : Sub). tally_of subs s.cards) ss)) (chain_at subs n s.cards distinct)
    ∙ ap (λ bs. has_chain subs s.cards (suc n) ∷ bs) (next_by subs n ss distinct)

pub next_chains : (subs : List Sub) (n : ℕ) → IsDistinct same_text (names_of subs) → map (calls_by (chains_of subs n)) (tallies_of subs) ≡ chains_of subs (suc n)
next_chains subs n distinct = next_by subs n subs distinct

all_true : (ss : List Sub) → replicate (length ss) true ≡ map (λ (s : Sub). true) ss
all_true [] = refl
all_true (s ∷ ss) = ap (λ bs. true ∷ bs) (all_true ss)

-- of no X card at all
pub first_chains : (subs : List Sub) (ts : List Tally) → ts ≡ tallies_of subs → replicate (length ts) true ≡ chains_of subs 0
first_chains subs ts e = ap (λ n. replicate n true) (ap length e ∙ length-map subs (λ (s : Sub). tally_of subs s.cards)) ∙ all_true subs

-- ---- cards one by one

any_by : (p : ℕ → Bool) (subs : List Sub) (card : Body) (cards : List Body) → list_any p (places_of subs (callees (card ∷ cards))) ≡ (list_any p (places_of subs (callees (card ∷ []))) || list_any p (places_of subs (callees cards)))
any_by p subs (dev_at line d) cards = refl
any_by p subs (call_at line c) cards = simp (list_any-append, append-nil)

-- a card that calls none that is marked, before others
any_behind : (p : ℕ → Bool) (subs : List Sub) (card : Body) (cards : List Body) → list_any p (places_of subs (callees (card ∷ []))) ≡ false → list_any p (places_of subs (callees (card ∷ cards))) ≡ list_any p (places_of subs (callees cards))
any_behind p subs card cards h = any_by p subs card cards ∙ ap (λ b. b || list_any p (places_of subs (callees cards))) h

less : {A : Type 0} (x : A) (xs : List A) → length (x ∷ xs) - 1 ≡ length xs
less x xs = omega arith

front_off : {A : Type 0} (x : A) (xs : List A) → take (length (x ∷ xs) - 1) (drop 1 (x ∷ xs)) ≡ xs
front_off x xs = ap (λ n. take n xs) (less x xs) ∙ take-length xs

-- a slice of cards without its first, which calls none that is marked
pub any_rest : (p : ℕ → Bool) (subs : List Sub) (rest : List cards.Body) (card : cards.Body) (whole : Bool) → 1 ≤ length rest → card ≡ get_or rest 0 card → list_any p (places_of subs (callees (bodies_value (card ∷ [])))) ≡ false → list_any p (places_of subs (callees (bodies_value rest))) ≡ whole → list_any p (places_of subs (callees (bodies_value (take (length rest - 1) (drop 1 rest))))) ≡ whole
any_rest p subs [] card whole some is off h = absurd (omega arith)
any_rest p subs (x ∷ xs) card whole some is off h =
    ap (λ (cs : List cards.Body). list_any p (places_of subs (callees (bodies_value cs)))) (front_off x xs)
    ∙ sym (any_behind p subs (body_value x) (bodies_value xs) (ap (λ (y : cards.Body). list_any p (places_of subs (callees (bodies_value (y ∷ []))))) (sym is) ∙ off))
    ∙ h
