use Rattle.std.proofs.Common.{◌∙◌, sym}
use Rattle.std.specs.Prelude.{◌==◌}
use Rattle.gl_write.proofs.PlaceLaws.{place_found, place_none}
use Rattle.gl_write.proofs.turned.source_of.Goals as goal

pub returns-in-Some : goal.returns-in-Some
returns-in-Some c = record { source = place_found (λ turned. turned == c.args.place) c.args.turn.now c.in-Some.source (sym c.found_source.ensures.found ∙ c.in-Some.is) }

pub returns-in-None : goal.returns-in-None
returns-in-None c = record { source = place_none (λ turned. turned == c.args.place) c.args.turn.now (sym c.found_source.ensures.found ∙ c.in-None.is) }
