-- What stands for a composite in the lifted deck; how composites are built through few calls; the one turn of a cell's type.
use Rattle.std.proofs.Common.{◌≡◌, ◌<◌, ◌∙◌, ◌+◌, ℕ, Bool, zero, suc, List, [], ◌∷◌, length, get_or, map, refl, sym, ap, ap₂, subst, arith}
use Rattle.std.specs.Prelude.{◌==◌, Contains, IsPermutation, zip}
use Rattle.std.specs.List.{AllByRecursion, AllZip, range_with_len, position_or_len}
use Rattle.std.proofs.lemmas.Bool.{eqb-true, eq-eqb}
use Rattle.std.proofs.lemmas.List.Sorted.{IsPermutation-sym, Contains-permutation}
use Rattle.std.proofs.lemmas.List.FromFn.{length-range_with_len, get_or-range_with_len}
use Rattle.gl_match.specs.Turns.{turns_of, turn_at}
use Rattle.gl_match.proofs.Lists.{in_head, in_tail, map_get_range, once_range}
use Rattle.gl_match.proofs.TurnLaws.{turn_is}
use Rattle.gl_match.proofs.AtLaws.{from_range}
use Rattle.gl_text.specs.Cards.{Device as Card, Call}
use Rattle.gl_text.specs.Decks.{Body, dev_at, call_at, Sub}
use Rattle.gl_base.specs.TypeNames.{of_cell, classes_of, port_classes}
use Rattle.gl_base.specs.BaseCircuit.{Source, type_in}
use Rattle.gl_base.specs.Reports.{name_at}
use Rattle.gl_base.proofs.OnceLaws.{place_at}
use Rattle.gl_lifting.specs.Replacement.{made, Part, Composite}
use Rattle.gl_lifting.specs.Variants.{variant_of, variant_by, carried_from}
use Rattle.gl_lifting.specs.LiftedDecks.{turned_back, nodes_back, variant_card, variant_sub}
use Rattle.gl_lifting.specs.Suited.{SuitsDevice}
use Rattle.gl_lifting.proofs.TurnedNameLaws.{each_in}

-- ---- the subcircuit of a composite

-- a card of a variant, by the part that it was matched with
abbrev pub part_card : Source → List Card → List (List ℕ) → List ℕ → Body × Part → Body
part_card s cards names numbers z = variant_card s names (z.0, carried_from cards numbers z.1.turn z.1.origin)

-- the cards of a composite's variant
abbrev pub composite_cards : Source → List Card → List (List ℕ) → List ℕ → Composite → List Body
composite_cards s cards names numbers c = map (part_card s cards names numbers) (zip c.cell.cards c.parts)

-- the subcircuit of a composite's variant
abbrev pub composite_sub : Source → List Card → List (List ℕ) → List ℕ → Composite → Sub
composite_sub s cards names numbers c = record { line = 0; head = record { name = name_at names (variant_of numbers c.number); ports = c.cell.head.ports }; cards = composite_cards s cards names numbers c }

cards_are : (s : Source) (cards : List Card) (names : List (List ℕ)) (numbers : List ℕ) (bs : List Body) (ps : List Part) → map (variant_card s names) (zip bs (map (λ (p : Part). carried_from cards numbers p.turn p.origin) ps)) ≡ map (part_card s cards names numbers) (zip bs ps)
cards_are s cards names numbers [] ps = refl
cards_are s cards names numbers (b ∷ bs) [] = refl
cards_are s cards names numbers (b ∷ bs) (p ∷ ps) = ap (λ cs. part_card s cards names numbers (b, p) ∷ cs) (cards_are s cards names numbers bs ps)

-- it is that of its variant
pub sub_is : (s : Source) (cards : List Card) (names : List (List ℕ)) (numbers : List ℕ) (c : Composite) → variant_sub s names (name_at names (variant_of numbers c.number), variant_by cards numbers c) ≡ composite_sub s cards names numbers c
sub_is s cards names numbers c = ap (λ (cs : List Body). record { line = 0; head = record { name = name_at names (variant_of numbers c.number); ports = c.cell.head.ports }; cards = cs }) (cards_are s cards names numbers c.cell.cards c.parts)

-- ---- trees

-- an X card was matched with a composite of the cell that it calls, of whose cards and parts something is so
pub record Calls (cs : List Composite) (Inner : Body → Part → Type 0) (c : Call) (p : Part) : Type 0 where
  pub composite : Composite
  pub stands : Contains cs composite
  pub origin_is : p.origin ≡ made composite.number
  pub name_is : composite.cell.head.name ≡ c.sub
  pub ports_are : length composite.cell.head.ports ≡ length c.nodes
  pub turn_below : p.turn < length (turns_of (classes_of (of_cell c.sub (port_classes (length c.nodes)))))
  pub parts : AllZip Inner composite.cell.cards composite.parts

-- a device card was matched with a device of the deck, and has a node for each place of its type
pub record Leaf (s : Source) (cards : List Card) (d : Card) (p : Part) : Type 0 where
  pub suits : SuitsDevice s cards d p
  pub places : length d.nodes ≡ length (classes_of (type_in s d))

-- a device card was matched with a device of the deck, and of an X card something is so
abbrev pub TreeAt : Source → List Card → (Call → Part → Type 0) → Body → Part → Type 0
TreeAt s cards Inner (dev_at line d) p = Leaf s cards d p
TreeAt s cards Inner (call_at line c) p = Inner c p

-- a card was matched with a device of the deck, or through at most so many calls with a composite
abbrev pub Tree : Source → List Card → List Composite → ℕ → Body → Part → Type 0
Tree s cards cs zero b p = TreeAt s cards (λ c q. ⊥) b p
Tree s cards cs (suc n) b p = TreeAt s cards (Calls cs (Tree s cards cs n)) b p

-- ---- the turn of a cell's type

-- places of classes that are all different are these
same_places : (n : ℕ) (cs ps : List ℕ) → AllZip (λ c place. get_or (range_with_len 0 n) place 0 ≡ c) cs ps → AllByRecursion (λ place. place < n) ps → ps ≡ cs
same_places n [] [] h g = refl
same_places n [] (p ∷ ps) h g = absurd h
same_places n (c ∷ cs) [] h g = absurd h
same_places n (c ∷ cs) (p ∷ ps) h g =
    let there : get_or (range_with_len 0 n) p 0 ≡ 0 + p = get_or-range_with_len 0 n p 0 g.0 in
    ap₂ (λ (x : ℕ) (xs : List ℕ). x ∷ xs) (omega (arith, there, h.0)) (same_places n cs ps h.1 g.1)

-- a turn of a cell's type leaves each port in its place
pub one_turn : (name : List ℕ) (ports turn : ℕ) → turn < length (turns_of (classes_of (of_cell name (port_classes ports)))) → turn_at (classes_of (of_cell name (port_classes ports))) turn ≡ range_with_len 0 ports
one_turn name ports turn below =
    let classes = range_with_len 0 ports in
    let places = turn_at classes turn in
    let r = turn_is classes turn below in
    let n = length classes in
    let long : n ≡ ports = length-range_with_len 0 ports in
    let perm : IsPermutation (range_with_len 0 ports) places = subst (λ m. IsPermutation (range_with_len 0 m) places) long r.0 in
    same_places ports classes places r.1 (each_in (λ place. place < ports) places (λ place at. from_range ports place (Contains-permutation places (range_with_len 0 ports) place (IsPermutation-sym (range_with_len 0 ports) places perm) at)))

-- nodes in their places stay
pub nodes_stay : (names : List (List ℕ)) → turned_back (range_with_len 0 (length names)) names ≡ names
nodes_stay names =
    let n = length names in
    let range = range_with_len 0 n in
    maps range (λ place. name_at names (position_or_len (λ turned. turned == place) range)) (λ place. get_or names place []) (λ place at.
    ap (λ k. get_or names k []) (there n place (from_range n place at))) ∙ map_get_range names []
  where
    maps : (xs : List ℕ) (f g : ℕ → List ℕ) → ((x : ℕ) → Contains xs x → f x ≡ g x) → map f xs ≡ map g xs
    maps [] f g h = refl
    maps (x ∷ xs) f g h = ap₂ (λ (y : List ℕ) (ys : List (List ℕ)). y ∷ ys) (h x (in_head x xs)) (maps xs f g (λ y k. h y (in_tail x xs y k)))

    there : (n place : ℕ) → place < n → position_or_len (λ turned. turned == place) (range_with_len 0 n) ≡ place
    there n place lt =
        let same : ℕ → ℕ → Bool = λ x y. y == x in
        let at : get_or (range_with_len 0 n) place 0 ≡ 0 + place = get_or-range_with_len 0 n place 0 lt in
        let is : get_or (range_with_len 0 n) place 0 ≡ place = omega (arith, at) in
        ap (λ x. position_or_len (λ turned. turned == x) (range_with_len 0 n)) (sym is)
        ∙ place_at same (λ x y e. sym (eqb-true y x e)) (λ x. eq-eqb x x refl) (range_with_len 0 n) place 0 (once_range 0 n) (omega (arith, lt, length-range_with_len 0 n))

-- the nodes of an X card are turned back to themselves
pub call_nodes : (s : Source) (line turn : ℕ) (c : Call) → turn < length (turns_of (classes_of (of_cell c.sub (port_classes (length c.nodes))))) → nodes_back s (call_at line c) turn ≡ c.nodes
call_nodes s line turn c below = ap (λ places. turned_back places c.nodes) (one_turn c.sub (length c.nodes) turn below) ∙ nodes_stay c.nodes
