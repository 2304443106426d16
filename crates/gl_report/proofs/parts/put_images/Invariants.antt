use Rattle.std.proofs.Common.{◌≡◌, ◌++◌, map}
use Rattle.gl_match.specs.declared.spot.Spot.{Spot as SpotValue}
use Rattle.gl_base.specs.Reports.{name_at, parts}
use Rattle.gl_base.specs.RoundReports.{card_name}
use Rattle.gl_deck.specs.Bodies.{bodies_value}
use Rattle.gl_report.specs.Pieces.{behind_blanks}
use Rattle.gl_report.proofs.parts.put_images.Given as goal

abbrev pub invariant-loop-card : goal.invariant-loop-card
invariant-loop-card l = l.out.items ++ behind_blanks (parts (map card_name (bodies_value l.card-iterator.a.rest.now)) (map (λ (s : SpotValue). name_at l.names.devices s.dev) l.card-iterator.b.rest.now)) ≡ l.fn.out.items ++ behind_blanks (parts (map card_name (bodies_value l.cards)) (map (λ (s : SpotValue). name_at l.names.devices s.dev) l.least))
