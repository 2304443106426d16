-- A kept device is the card of its number, and past the last there is none.
use Rattle.std.proofs.Common.{◌≡◌, ℕ, zero, suc, List, [], ◌∷◌, map, Option, Some, None, refl, sym, ap, ◌∙◌}
use Rattle.std.specs.Prelude.{slice_get, slice_index_or}
use Rattle.gl_text.specs.Cards.{Device as Card, dev}
use Rattle.gl_text.specs.Decks.{line_of}
use Rattle.gl_base.specs.BaseCircuit.{nets_of}
use Rattle.gl_flat.specs.Kept.{KeptDevice, kept_card, kept_of, device_line}
use Rattle.gl_flat.proofs.FlatKept.{cards_back}
use Rattle.gl_lifting.specs.Replacement.{base}
use Rattle.gl_lifting.specs.Variants.{sized, card_at, carried_from}

-- the card that none is
abbrev none : Card
none = record { name = []; nodes = []; model = None; tail = [] }

same_some : {A : Type 0} (x y : A) → Some x ≡ Some y → x ≡ y
same_some x y e = ap (λ (o : Option _). by x o) e
  where
    by : {A : Type 0} → A → Option A → A
    by d None = d
    by d (Some a) = a

there : (f : KeptDevice → Card) (ks : List KeptDevice) (number : ℕ) (d : KeptDevice) → slice_get ks number ≡ Some d → slice_index_or (map f ks) number none ≡ f d
there f [] number d e = absurd cc
there f (k ∷ ks) zero d e = ap f (same_some k d e)
there f (k ∷ ks) (suc number) d e = there f ks number d e

absent : (f : KeptDevice → Card) (ks : List KeptDevice) (number : ℕ) → slice_get ks number ≡ None → slice_index_or (map f ks) number none ≡ none
absent f [] number e = refl
absent f (k ∷ ks) zero e = absurd cc
absent f (k ∷ ks) (suc number) e = absent f ks number e

-- the card of a number is the kept device
pub card_there : (cards : List Card) (number : ℕ) (d : KeptDevice) → slice_get (kept_of cards) number ≡ Some d → card_at cards number ≡ kept_card (nets_of cards) d
card_there cards number d e = ap (λ (cs : List Card). slice_index_or cs number none) (sym (cards_back cards)) ∙ there (kept_card (nets_of cards)) (kept_of cards) number d e

pub card_absent : (cards : List Card) (number : ℕ) → slice_get (kept_of cards) number ≡ None → card_at cards number ≡ none
card_absent cards number e = ap (λ (cs : List Card). slice_index_or cs number none) (sym (cards_back cards)) ∙ absent (kept_card (nets_of cards)) (kept_of cards) number e

-- its line
pub line_there : (cards : List Card) (number : ℕ) (d : KeptDevice) → slice_get (kept_of cards) number ≡ Some d → device_line (nets_of cards) d ≡ line_of (dev (card_at cards number))
line_there cards number d e = ap (λ (c : Card). line_of (dev c)) (sym (card_there cards number d e))

pub line_absent : (cards : List Card) (number : ℕ) → slice_get (kept_of cards) number ≡ None → 10 ∷ [] ≡ line_of (dev (card_at cards number))
line_absent cards number e = ap (λ (c : Card). line_of (dev c)) (sym (card_absent cards number e))

-- what a card carries that went to it
pub carried_there : (cards : List Card) (turn number : ℕ) (d : KeptDevice) → slice_get (kept_of cards) number ≡ Some d → sized turn d.model d.tail ≡ carried_from cards [] turn (base number)
carried_there cards turn number d e = ap (λ (c : Card). sized turn c.model c.tail) (sym (card_there cards number d e))

pub carried_absent : (cards : List Card) (turn number : ℕ) → slice_get (kept_of cards) number ≡ None → sized turn None [] ≡ carried_from cards [] turn (base number)
carried_absent cards turn number e = ap (λ (c : Card). sized turn c.model c.tail) (sym (card_absent cards number e))
