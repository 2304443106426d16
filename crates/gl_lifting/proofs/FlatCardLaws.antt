-- The cards of a flat deck that reads back, and what lists say by their places.
use Rattle.std.proofs.Common.{◌≡◌, ℕ, zero, suc, List, [], ◌∷◌, map, get_or, flat_map, Option, None, Some, refl, sym, ap, ◌∙◌, subst, arith, inl, inr}
use Rattle.std.specs.Prelude.{Contains, slice_get, option_to_list}
use Rattle.std.specs.List.{AllByRecursion, AllZip}
use Rattle.std.proofs.lemmas.Option.{slice_get_within, get_or_from_slice_get, slice_get-get_or, same_Some as some_is}
use Rattle.gl_match.proofs.Lists.{Once, in_cons, in_none, in_map, from_flat_map}
use Rattle.gl_text.specs.Cards.{Device as Card, Head, dev}
use Rattle.gl_text.specs.Decks.{Body, Sub, body_name}
use Rattle.gl_text.specs.Flattening.{Flat, FlatDevice, flat_card}
use Rattle.gl_printed.specs.ReadCards.{IsFine}
use Rattle.gl_printed.specs.ReadDecks.{body_card, AllDiffer, IsReadSub, IsReadDeck}
use Rattle.gl_printed.specs.FlatDecks.{flat_cards, deck_of, subs_around, top_without}
use Rattle.gl_printed.proofs.Each.{each_left}
use Rattle.gl_base.specs.Rounds.{cards_of}
use Rattle.gl_base.specs.BaseCircuit.{nets_of}
use Rattle.gl_base.proofs.TextLaws.{names_were, once_from}
use Rattle.gl_lifting.proofs.TurnedNameLaws.{each_get, each_in}
use Rattle.gl_text.specs.WayBack.{IsName}
pub use Rattle.gl_lists.proofs.Each.{each_in as in_each}

-- ---- lists

-- and of what stands at a place
pub at_each : {X : Type 0} (P : X → Type 0) (xs : List X) (i : ℕ) (x : X) → AllByRecursion P xs → slice_get xs i ≡ Some x → P x
at_each P xs i x h e = subst P (get_or_from_slice_get xs i x x e) (each_get P xs i x h (slice_get_within xs i x e))

-- items of different keys are told by their keys
pub one_key : {X Y : Type 0} (f : X → Y) (xs : List X) (a b : X) → Once (map f xs) → Contains xs a → Contains xs b → f a ≡ f b → a ≡ b
one_key f [] a b once ha hb e = absurd (in_none a ha)
one_key {X} {Y} f (x ∷ xs) a b once ha hb e = elim (in_cons x xs a ha) [
  | inl first ↦ elim (in_cons x xs b hb) [
    | inl second ↦ sym first ∙ second
    | inr later ↦ absurd (once.0 (subst (λ (y : Y). Contains (map f xs) y) (sym e ∙ ap f (sym first)) (in_map f xs b later)))
  ]
  | inr before ↦ elim (in_cons x xs b hb) [
    | inl second ↦ absurd (once.0 (subst (λ (y : Y). Contains (map f xs) y) (e ∙ ap f (sym second)) (in_map f xs a before)))
    | inr later ↦ one_key f xs a b once.1 before later e
  ]
]

-- where same items stand at one place, each stands once
pub once_by_place : {X : Type 0} (xs : List X) → ((i j : ℕ) (a b : X) → slice_get xs i ≡ Some a → slice_get xs j ≡ Some b → a ≡ b → i ≡ j) → Once xs
once_by_place [] f = tt
once_by_place (x ∷ xs) f = (
  (λ h. let e = f 0 (suc h.0) x (get_or xs h.0 x) refl (slice_get-get_or xs h.0 x h.1) (sym h.2) in omega (arith, e)),
  once_by_place xs (λ i j a b ea eb e. let g = f (suc i) (suc j) a b ea eb e in omega (arith, g)),
)

-- what stands at a place behind a map comes from what stood there
pub from_mapped : {X Y : Type 0} (f : X → Y) (xs : List X) (i : ℕ) (y : Y) → slice_get (map f xs) i ≡ Some y → (x : X) × (slice_get xs i ≡ Some x) × (f x ≡ y)
from_mapped f [] i y e = absurd (let lt = slice_get_within [] i y e in omega (arith, lt))
from_mapped f (x ∷ xs) zero y e = (x, refl, some_is (f x) y e)
from_mapped f (x ∷ xs) (suc i) y e = from_mapped f xs i y e

-- what holds of pairs and what holds of the first of each
pub zip_both : {A B : Type 0} (R : A → B → Type 0) (P : A → Type 0) (xs : List A) (ys : List B) → AllZip R xs ys → AllByRecursion P xs → AllZip (λ x y. R x y × P x) xs ys
zip_both R P [] [] h g = tt
zip_both R P [] (y ∷ ys) h g = h
zip_both R P (x ∷ xs) [] h g = h
zip_both R P (x ∷ xs) (y ∷ ys) h g = ((h.0, g.0), zip_both R P xs ys h.1 g.1)

-- ---- the cards of a flat deck

-- the cards of a flat deck, in its top or outside
around_or_without : (t : Option Head) (bs : List Body) (all : List Sub) → AllByRecursion (IsReadSub all) (subs_around t bs) → AllByRecursion (λ b. IsFine (body_card b)) (top_without t bs) → AllDiffer (map body_name (top_without t bs))
    → AllByRecursion (λ b. IsFine (body_card b)) bs × AllDiffer (map body_name bs)
around_or_without None bs all subs top differ = (top, differ)
around_or_without (Some h) bs all subs top differ = (subs.0.cards, subs.0.names_differ)

-- the devices of fine cards
devices_fine : (ds : List FlatDevice) → AllByRecursion (λ b. IsFine (body_card b)) (flat_cards ds) → AllByRecursion (λ (c : Card). IsFine (dev c)) (map flat_card ds)
devices_fine [] h = tt
devices_fine (d ∷ ds) h = (h.0, devices_fine ds h.1)

-- cards and devices have the same names
same_names : (ds : List FlatDevice) → map body_name (flat_cards ds) ≡ map (λ (c : Card). c.name) (map flat_card ds)
same_names [] = refl
same_names (d ∷ ds) = ap (λ ns. (flat_card d).name ∷ ns) (same_names ds)

-- the devices of a flat deck that is read are fine
pub cards_fine : (f : Flat) → IsReadDeck (deck_of f) → AllByRecursion (λ (c : Card). IsFine (dev c)) (cards_of f)
cards_fine f r = devices_fine f.devices (around_or_without f.top (flat_cards f.devices) (deck_of f).subs r.subs r.top r.top_differ).0

-- and their names differ
pub cards_apart : (f : Flat) → IsReadDeck (deck_of f) → Once (map (λ (c : Card). c.name) (cards_of f))
cards_apart f r = subst Once (same_names f.devices) (once_from (map body_name (flat_cards f.devices)) (around_or_without f.top (flat_cards f.devices) (deck_of f).subs r.subs r.top r.top_differ).1)

-- each net of fine cards has a name
pub nets_parts : (cards : List Card) → AllByRecursion (λ (c : Card). IsFine (dev c)) cards → AllByRecursion IsName (nets_of cards)
nets_parts cards h = each_in IsName (nets_of cards) (λ name at.
    let r = from_flat_map (λ (c : Card). c.nodes) cards name (names_were (flat_map (λ (c : Card). c.nodes) cards) name at) in
    in_each IsName r.0.nodes name (each_left IsName r.0.nodes (option_to_list r.0.model) (in_each (λ (c : Card). IsFine (dev c)) cards r.0 h r.1).is_read.names.1) r.2)
