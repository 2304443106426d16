-- Cards as devices: their types have numbers and as many places, and their nets have numbers.
use Rattle.std.proofs.Common.{◌≡◌, ◌<◌, ℕ, List, [], ◌∷◌, length, get_or, map, cond, eqb, Bool, true, false, Option, None, Some, refl, ap, ◌∙◌, subst, arith, inl, inr}
use Rattle.std.specs.Prelude.{All, slice_index_or}
use Rattle.std.specs.List.{list_any}
use Rattle.std.proofs.lemmas.Bool.{cases_Bool, eqb-true}
use Rattle.std.proofs.lemmas.List.{length-map}
use Rattle.std.proofs.lemmas.List.Elements.{All-map}
use Rattle.gl_match.proofs.Lists.{get_map}
use Rattle.gl_text.specs.LogicalLines.{same_text}
use Rattle.gl_text.specs.Cards.{Device as Card, device, other, caller, unknown, kinds, by_byte, first_byte, IsDeviceCard}
use Rattle.gl_graph.specs.Faults.{is_bad_shape}
use Rattle.gl_base.specs.TypeNames.{TypeName, of_letter, same_type, type_by, type_by_model, type_by_word, classes_of, classes_by, letter_classes}
use Rattle.gl_base.specs.BaseCircuit.{net_number, type_number}
use Rattle.gl_base.proofs.OnceLaws.{there, place_within, place_back}
use Rattle.gl_base.proofs.TextLaws as text
use Rattle.gl_base.proofs.TypeLaws as kinds_are
use Rattle.gl_lib.specs.Numbered.{AreNets}

-- a letter has a byte, or another one
by_letter : (letter b : ℕ) (P : ℕ → Type 0) → P letter → (eqb letter b ≡ false → P b) → P b
by_letter letter b P here rest =
    elim (cases_Bool (eqb letter b)) [
      | inl on ↦ subst P (eqb-true letter b on) here
      | inr off ↦ rest off
    ]

no_device : (x y : Bool) (nodes count : ℕ) → cond x caller (cond y other unknown) ≡ device nodes count → ⊥
no_device true y nodes count e = cc
no_device false true nodes count e = cc
no_device false false nodes count e = cc

-- the letter of a device card has as many classes as the card has nodes
letter_places : (b nodes count : ℕ) → by_byte (kinds other) b ≡ device nodes count → length (classes_by letter_classes b) ≡ nodes
letter_places b nodes count =
    let P : ℕ → Type 0 = λ x. by_byte (kinds other) x ≡ device nodes count → length (classes_by letter_classes x) ≡ nodes in
    by_letter 109 b P (λ e. cc) (λ m. by_letter 100 b P (λ e. cc) (λ d. by_letter 114 b P (λ e. cc) (λ r. by_letter 99 b P (λ e. cc) (λ c. by_letter 108 b P (λ e. cc) (λ l.
    by_letter 118 b P (λ e. cc) (λ v. by_letter 105 b P (λ e. cc) (λ i. λ e. absurd (no_device (eqb 120 b) (eqb 46 b) nodes count (rw (m, d, r, c, l, v, i) at e)))))))))

-- what holds of the classes of each letter
each_row : (P : List ℕ → Type 0) → List (ℕ × List ℕ) → Type 0
each_row P [] = P []
each_row P (row ∷ rows) = P row.1 × each_row P rows

by_row : (P : List ℕ → Type 0) (rows : List (ℕ × List ℕ)) (b : ℕ) → each_row P rows → P (classes_by rows b)
unfolding each_row
by_row P [] b h = h
by_row P (row ∷ rows) b h = go (eqb row.0 b) (by_row P rows b h.1) where
  go : (test : Bool) → P (classes_by rows b) → P (cond test row.1 (classes_by rows b))
  go true rest = h.0
  go false rest = rest

-- the classes of each letter make a shape
letter_sound : (b : ℕ) → is_bad_shape (classes_by letter_classes b) ≡ false
unfolding each_row
letter_sound b = by_row (λ classes. is_bad_shape classes ≡ false) letter_classes b (refl, (refl, (refl, (refl, (refl, (refl, (refl, refl)))))))

-- the classes of a card's type are those of its letter
type_classes : (words : List ℕ → Option (List ℕ)) (card : Card) → classes_of (type_by words card) ≡ classes_by letter_classes (first_byte card.name)
type_classes words card = go card.model where
  found : (model : List ℕ) (word : Option (List ℕ)) → classes_of (type_by_word (first_byte card.name) model word) ≡ classes_by letter_classes (first_byte card.name)
  found model None = refl
  found model (Some word) = refl

  go : (model : Option (List ℕ)) → classes_of (type_by_model words (first_byte card.name) model) ≡ classes_by letter_classes (first_byte card.name)
  go None = refl
  go (Some model) = found model (words model)

pub type_sound : (words : List ℕ → Option (List ℕ)) (card : Card) → is_bad_shape (classes_of (type_by words card)) ≡ false
type_sound words card = ap is_bad_shape (type_classes words card) ∙ letter_sound (first_byte card.name)

-- a device card has as many nodes as its type has places
pub type_places : (words : List ℕ → Option (List ℕ)) (card : Card) → IsDeviceCard card → length (classes_of (type_by words card)) ≡ length card.nodes
type_places words card is = ap length (type_classes words card) ∙ letter_places (first_byte card.name) (length card.nodes) _ (is.letter other)

-- the shape of the number of a type is that of the type
pub shape_of_number : (types : List TypeName) (t : TypeName) → list_any (same_type t) types ≡ true → slice_index_or (map classes_of types) (type_number types t) [] ≡ classes_of t
shape_of_number types t h =
    let in_types = there same_type kinds_are.exact kinds_are.itself types t h in
    get_map classes_of types (type_number types t) (of_letter 0) [] (place_within same_type kinds_are.exact kinds_are.itself types t in_types)
    ∙ ap classes_of (place_back same_type kinds_are.exact kinds_are.itself types t (of_letter 0) in_types)

pub number_of_type : (types : List TypeName) (t : TypeName) → list_any (same_type t) types ≡ true → type_number types t < length (map classes_of types)
number_of_type types t h =
    omega (arith, length-map types classes_of, place_within same_type kinds_are.exact kinds_are.itself types t (there same_type kinds_are.exact kinds_are.itself types t h))

-- the numbers of names among the nets are below their number
pub numbers_below : (nets names : List (List ℕ)) → AreNets nets names → All (λ net. net < length nets) (map (net_number nets) names)
numbers_below nets names h =
    All-map (λ net. net < length nets) (net_number nets) names
    (λ k d lt. place_within same_text text.exact text.itself nets (get_or names k d) (there same_text text.exact text.itself nets (get_or names k d) (h k d lt)))
