use Rattle.std.proofs.Common.{◌∙◌, ◌++◌, ap}
use Rattle.gl_text.specs.Decks.{once}
use Rattle.gl_lib.proofs.InsertLaws.{both_inserted}
use Rattle.gl_lib.proofs.pinned.pinned_names.Goals as goal

pub returns : goal.returns
returns c = record {
  names = both_inserted _ _ _ _ c.args.keep.now c.new-names.ensures.empty c.in_ok-add_names.ensures.added c.in_ok-add_names-2.ensures.added ∙ ap (λ ports. once (ports ++ c.args.keep.now)) c.ports_of.ensures.ports;
}
