use Rattle.std.proofs.Common.{◌≤◌, ◌-◌, take, length}
use Rattle.gl_desk.specs.Desk.{Gives, OthersSame, NamesSame}
use Rattle.gl_desk.proofs.write.write_all.Given as goal

abbrev pub invariant-loop-from : goal.invariant-loop-from
invariant-loop-from g l =
    let shows = g.D.Desk.shows in
    record {
      within : l.from ≤ length l.bytes;
      given : Gives (shows l.fn.desk l.slot) (shows l.desk l.slot) (take l.from l.bytes);
      others : OthersSame shows l.fn.desk l.desk l.slot;
      names : NamesSame g.D.Desk.held g.D.Desk.wants l.fn.desk l.desk;
    }

abbrev pub decreases-loop-from : goal.decreases-loop-from
decreases-loop-from g l = length l.bytes - l.from
