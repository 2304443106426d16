-- Circuits and patterns are made of the decks of the rows.
use Rattle.std.proofs.Common.{[], ◌∷◌, refl, arith}
use Rattle.std.specs.Prelude.{All}
use Rattle.std.proofs.lemmas.List.Elements.{All-cons, All-nil}
use Rattle.gl_text.specs.Cards.{Device as Card, IsDeviceCard}
use Rattle.gl_base.specs.Patterns.{IsSound}
use Rattle.gl_rows.specs.Sources.{one_inverter, one_pass_gate}

-- two cards
both_cards : (a b : Card) → IsDeviceCard a → IsDeviceCard b → All IsDeviceCard (a ∷ b ∷ [])
both_cards a b ha hb = All-cons IsDeviceCard a (b ∷ []) ha (All-cons IsDeviceCard b [] hb (All-nil IsDeviceCard))

pub inverter_is : IsSound one_inverter
inverter_is = record {
  deck_cards = both_cards _ _ (record { letter = λ dot. refl }) (record { letter = λ dot. refl });
  rails_differ = record { differ = refl; no_zero = refl };
  deck_places = omega arith;
  cell_places = omega arith;
  few_rails = omega arith;
}

pub pass_gate_is : IsSound one_pass_gate
pass_gate_is = record {
  deck_cards = both_cards _ _ (record { letter = λ dot. refl }) (record { letter = λ dot. refl });
  rails_differ = record { differ = refl; no_zero = refl };
  deck_places = omega arith;
  cell_places = omega arith;
  few_rails = omega arith;
}
