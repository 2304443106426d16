use Rattle.std.proofs.Common.{◌∙◌, arith}
use Rattle.std.proofs.lemmas.Grind.{common_steps}
use Rattle.gl_desk.proofs.Giving.{gives_more}
use Rattle.gl_desk.proofs.write.write_all.Goals as goal

pub loop-from-preserved : goal.loop-from-preserved
loop-from-preserved g c =
    let shows = g.D.Desk.shows in
    record {
      within = grind (arith, common_steps);
      given = gives_more (shows c.args.desk.now c.args.slot) (shows c.loop-from.desk c.args.slot) (shows c.give.new.self c.args.slot) c.args.bytes.now c.loop-from.from c.in_ok-from.field-0 c.loop-from.invariant.given c.in_ok-from.ensures.given;
      others = λ other away. c.give.ensures.others other away ∙ c.loop-from.invariant.others other away;
      names = record { same_held = λ s n. c.give.ensures.names.same_held s n ∙ c.loop-from.invariant.names.same_held s n; same_wants = λ s. c.give.ensures.names.same_wants s ∙ c.loop-from.invariant.names.same_wants s };
    }
