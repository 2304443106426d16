use Rattle.std.proofs.Common.{◌∙◌, ap}
use Rattle.std.specs.Prelude.{◌==◌}
use Rattle.std.specs.List.{position_or_len}
use Rattle.gl_base.specs.Reports.{name_at}
use Rattle.gl_write.proofs.LineLaws.{places_more}
use Rattle.gl_write.proofs.turned.put_turned_back.Goals as goal

pub loop-place-preserved : goal.loop-place-preserved
loop-place-preserved c = places_more (λ place. name_at c.args.nodes.now (position_or_len (λ turned. turned == place) c.args.turn.now)) _ _ _ _ _ c.loop-place.invariant c.in_ok-put_word.ensures.ok (c.name_or_empty.ensures.name ∙ ap (name_at c.args.nodes.now) c.source_of.ensures.source)
