use Rattle.std.proofs.Common.{◌∙◌, ◌++◌}
use Rattle.std.specs.Prelude.{filter_map, position}
use Rattle.gl_text.specs.LogicalLines.{same_text}
use Rattle.gl_text.specs.Decks.{once}
use Rattle.gl_text.specs.Flattening.{top_ports}
use Rattle.gl_lib.proofs.pinned.run_pins.Goals as goal

pub returns : goal.returns
returns c = record {
  pins = c.in_ok-pins.ensures.pinned ∙ (λ i. filter_map (λ name. position (same_text name) (c.nets.ensures.nets i)) (once (top_ports (c.top.ensures.top i) ++ c.args.keep.now)));
}
