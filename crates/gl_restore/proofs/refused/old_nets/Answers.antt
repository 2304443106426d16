use Rattle.std.proofs.Common.{◌∙◌, ℕ, List, Bor, ap, sym, subst, not}
use Rattle.std.specs.Prelude.{Option, option_map}
use Rattle.gl_text.specs.Decks.{is_in}
use Rattle.gl_lifting.specs.Renaming.{RestoreFault, missing, new_names}
use Rattle.gl_restore.specs.Refusals.{IsFaultIn}
use Rattle.gl_restore.specs.Places.{new_name}
use Rattle.gl_restore.proofs.PlaceLaws.{is_there, none_seen, one_seen}
use Rattle.gl_restore.proofs.FirstLaws.{plain_here, plain_more}
use Rattle.gl_restore.proofs.OldLaws.{old_seen, old_more}
use Rattle.gl_restore.proofs.refused.old_nets.Goals as goal

pub returns-in-None-clause-refused : goal.returns-in-None-clause-refused
returns-in-None-clause-refused c =
    let lines = c.args.lines.now in
    let off = sym (is_there new_name c.net-item.result lines) ∙ none_seen (λ (n : List ℕ × List ℕ). n.1) c.old_name.result _ c.in-None.is c.old_name.ensures.old in
    let whole = plain_here (λ name. not (is_in name (new_names lines))) c.args.nets.now c.loop-net.net-index c.net-item.result _ c.loop-net-test.true c.net-item.is (ap not off) c.loop-net.invariant.first in
    subst (λ (o : Option RestoreFault). IsFaultIn o c.missing_name.result) (sym (ap (option_map missing) whole)) c.missing_name.ensures.missing

pub loop-net-preserved : goal.loop-net-preserved
loop-net-preserved c =
    let lines = c.args.lines.now in
    let nets = c.args.nets.now in
    let i = c.loop-net.net-index in
    let on = sym (is_there new_name c.net-item.result lines) ∙ one_seen (λ (n : List ℕ × List ℕ). n.1) c.old_name.result _ _ c.in-Some.is c.old_name.ensures.old in
    let old_is = old_seen c.old_name.result _ _ c.in-Some.is c.old_name.ensures.old in
    record {
      first = plain_more (λ name. not (is_in name (new_names lines))) nets i c.net-item.result _ c.loop-net-test.true c.net-item.is (ap not on) c.loop-net.invariant.first;
      names = old_more (λ (n : Bor (List ℕ)). n.now) lines nets i c.net-item.result _ _ _ c.loop-net-test.true c.net-item.is c.in_ok-push-in-Some.ensures.items old_is c.loop-net.invariant.names;
    }
