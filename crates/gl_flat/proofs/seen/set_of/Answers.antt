use Rattle.std.proofs.Common.{◌≡◌, [], ◌∙◌, subst}
use Rattle.std.proofs.IntoIterSteps.{All-taken}
use Rattle.std.proofs.result.Match.{if_ok_then}
use Rattle.indexmap.specs.IndexSet.{insert_all}
use Rattle.gl_text.specs.LogicalLines.{same_text}
use Rattle.gl_deck.proofs.GlobalLaws.{keys_once}
use Rattle.gl_flat.proofs.seen.set_of.Goals as goal

pub returns : goal.returns
returns c = record {
  keys = if_ok_then c.from_iter.result _ _
      (λ n h. subst (λ l. n.keys ≡ insert_all same_text [] l) (All-taken h.0 h.1 ((h.3.2 tt).0, (h.3.0, h.3.1, (h.3.2 tt).1)) ∙ h.2.0) h.4.0 ∙ keys_once c.args.names.items) c.from_iter.ensures.ran;
}
