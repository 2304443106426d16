-- Names that are turned back are the same names; the type of a device tells how many nodes it has, and whether it has a model.
use Rattle.std.proofs.Common.{◌≡◌, ◌<◌, ℕ, zero, suc, List, [], ◌∷◌, length, get_or, cond, eqb, Bool, true, false, Option, None, Some, refl, sym, ap, ◌∙◌, subst, arith, inl, inr}
use Rattle.std.specs.Prelude.{◌==◌, Contains, option_to_list}
use Rattle.std.specs.List.{AllByRecursion, range_with_len, position_or_len}
use Rattle.std.proofs.lemmas.Bool.{cases_Bool, eqb-true, eq-eqb}
use Rattle.std.proofs.lemmas.List.{length-map}
use Rattle.std.proofs.lemmas.List.FromFn.{length-range_with_len}
use Rattle.gl_match.specs.Turns.{turns_of, turn_at}
use Rattle.gl_match.proofs.TurnLaws.{turn_is}
use Rattle.gl_match.proofs.AtLaws.{get_any, turn_length, turn_meets, from_range}
use Rattle.gl_text.specs.Cards.{Device as Card, device, other, caller, unknown, kinds, by_byte, first_byte, IsDeviceCard}
use Rattle.gl_base.specs.TypeNames.{of_letter, of_cell, type_by, type_by_model, type_by_word, classes_of, classes_by, letter_classes, port_classes}
use Rattle.gl_base.specs.BaseCircuit.{Source, type_in}
use Rattle.gl_base.specs.Reports.{name_at}
use Rattle.gl_base.proofs.OnceLaws.{place_within}
use Rattle.gl_lifting.specs.LiftedDecks.{turned_back}
pub use Rattle.gl_lists.proofs.Each.{each_from as each_in, each_map as each_mapped}

-- ---- items of lists, by their places

-- what holds of each holds at each place
pub each_get : {X : Type 0} (P : X → Type 0) (xs : List X) (k : ℕ) (d : X) → AllByRecursion P xs → k < length xs → P (get_or xs k d)
each_get P [] k d h lt = absurd (omega (arith, lt))
each_get P (x ∷ xs) zero d h lt = h.0
each_get P (x ∷ xs) (suc k) d h lt = each_get P xs k d h.1 (omega (arith, lt))

-- ---- turned names

-- each name that is turned back is one of the names
pub turned_names : (P : List ℕ → Type 0) (classes : List ℕ) (turn : ℕ) (names : List (List ℕ)) → turn < length (turns_of classes) → length names ≡ length classes → AllByRecursion P names → AllByRecursion P (turned_back (turn_at classes turn) names)
turned_names P classes turn names below long h =
    let places = turn_at classes turn in
    let is = (turn_is classes turn below).0 in
    let whole = turn_length (length classes) places is in
    each_mapped P (λ place. name_at names (position_or_len (λ turned. turned == place) places)) (range_with_len 0 (length names)) (each_in _ (range_with_len 0 (length names)) (λ place there.
    let r = turn_meets (length classes) places place is (omega (arith, long, from_range (length names) place there)) in
    let at : Contains places place = (r.0, omega (arith, r.1, whole), get_any places r.0 place 0 (omega (arith, r.1, whole)) ∙ r.2) in
    let same : ℕ → ℕ → Bool = λ x y. y == x in
    let lt : position_or_len (λ turned. turned == place) places < length places = place_within same (λ x y e. sym (eqb-true y x e)) (λ x. eq-eqb x x refl) places place at in
    each_get P names (position_or_len (λ turned. turned == place) places) [] h (omega (arith, lt, whole, long))))

-- as many names turned back as there are names
pub turned_long : (turn : List ℕ) (names : List (List ℕ)) → length (turned_back turn names) ≡ length names
turned_long turn names = length-map (range_with_len 0 (length names)) (λ place. name_at names (position_or_len (λ turned. turned == place) turn)) ∙ length-range_with_len 0 (length names)

-- ---- types

-- a letter has this byte, or another
pub by_letter : (letter b : ℕ) (P : ℕ → Type 0) → P letter → (eqb letter b ≡ false → P b) → P b
by_letter letter b P here rest = elim (cases_Bool (eqb letter b)) [ inl on ↦ subst P (eqb-true letter b on) here | inr off ↦ rest off ]

-- no X card and no dot card is a device
pub no_device : (x y : Bool) (nodes count : ℕ) → cond x caller (cond y other unknown) ≡ device nodes count → ⊥
no_device true y nodes count e = cc
no_device false true nodes count e = cc
no_device false false nodes count e = cc

-- the letter of a device card has as many classes as the card has nodes
letter_places : (b nodes count : ℕ) → by_byte (kinds other) b ≡ device nodes count → length (classes_by letter_classes b) ≡ nodes
letter_places b nodes count =
    let P : ℕ → Type 0 = λ x. by_byte (kinds other) x ≡ device nodes count → length (classes_by letter_classes x) ≡ nodes in
    by_letter 109 b P (λ e. cc) (λ m. by_letter 100 b P (λ e. cc) (λ d. by_letter 114 b P (λ e. cc) (λ r. by_letter 99 b P (λ e. cc) (λ c. by_letter 108 b P (λ e. cc) (λ l.
    by_letter 118 b P (λ e. cc) (λ v. by_letter 105 b P (λ e. cc) (λ i. λ e. absurd (no_device (eqb 120 b) (eqb 46 b) nodes count (rw (m, d, r, c, l, v, i) at e)))))))))

-- the classes of a device's type are those of its letter
type_classes : (words : List ℕ → Option (List ℕ)) (card : Card) → classes_of (type_by words card) ≡ classes_by letter_classes (first_byte card.name)
type_classes words card = go card.model where
  found : (model : List ℕ) (word : Option (List ℕ)) → classes_of (type_by_word (first_byte card.name) model word) ≡ classes_by letter_classes (first_byte card.name)
  found model None = refl
  found model (Some word) = refl

  go : (model : Option (List ℕ)) → classes_of (type_by_model words (first_byte card.name) model) ≡ classes_by letter_classes (first_byte card.name)
  go None = refl
  go (Some model) = found model (words model)

-- a device card has as many nodes as its type has places
pub type_places : (s : Source) (card : Card) → IsDeviceCard card → length card.nodes ≡ length (classes_of (type_in s card))
type_places s card is = sym (ap length (type_classes _ card) ∙ letter_places (first_byte card.name) (length card.nodes) _ (is.letter other))

-- a cell's type has a place for each port
pub cell_places : (name : List ℕ) (ports : ℕ) → ports ≡ length (classes_of (of_cell name (port_classes ports)))
cell_places name ports = sym (length-range_with_len 0 ports)

-- no letter alone is a letter with a model
no_word : (a b : ℕ) (m : List ℕ) (w : Option (List ℕ)) → of_letter a ≡ type_by_word b m w → ⊥
no_word a b m None e = cc
no_word a b m (Some w) e = cc

-- devices of one type have a model both, or none
model_both : (words : List ℕ → Option (List ℕ)) (a b : ℕ) (m n : Option (List ℕ)) → type_by_model words a m ≡ type_by_model words b n → length (option_to_list m) ≡ length (option_to_list n)
model_both words a b None None e = refl
model_both words a b None (Some n) e = absurd (no_word a b n (words n) e)
model_both words a b (Some m) None e = absurd (no_word b a m (words m) (sym e))
model_both words a b (Some m) (Some n) e = refl

-- devices of one type have as many models
pub models_both : (s : Source) (x y : Card) → type_in s x ≡ type_in s y → length (option_to_list x.model) ≡ length (option_to_list y.model)
models_both s x y e = model_both _ (first_byte x.name) (first_byte y.name) x.model y.model e
