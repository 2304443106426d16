use Rattle.std.proofs.Common.{◌≡◌, ℕ, map}
use Rattle.std.specs.Prelude.{zip, filter_map}
use Rattle.std.specs.Option.{option_or}
use Rattle.gl_match.specs.declared.spot.Spot.{Spot}
use Rattle.gl_deck.specs.Bodies.{bodies_value}
use Rattle.gl_lifting.specs.NameMaps.{under}
use Rattle.gl_found.specs.Founds.{origin_in}
use Rattle.gl_named.specs.Firsts.{at_number}
use Rattle.gl_named.specs.Walks.{device_row, cards_from}
use Rattle.gl_named.proofs.ways.add_devices.Given as goal

abbrev pub invariant-loop-card : goal.invariant-loop-card
invariant-loop-card l = (n : ℕ) → option_or (at_number l.devices.items n) (under (filter_map (device_row l.way) (zip (bodies_value l.card-iterator.a.rest.now) (map (λ (s : Spot). origin_in l.found.origins s.dev) l.card-iterator.b.rest.now))) n)
    ≡ option_or (at_number l.fn.devices.items n) (under (filter_map (device_row l.way) (cards_from l.found (bodies_value l.cards))) n)
