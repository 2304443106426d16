use Rattle.std.proofs.Common.{◌≡◌, ◌≤◌, ◌+◌, ◌-◌, true, vec_len}
use Rattle.gl_desk.specs.Desk.{LONGEST, Takes, OthersSame, NamesSame}
use Rattle.gl_desk.proofs.read.read_all.Given as goal

abbrev pub invariant-loop-all : goal.invariant-loop-all
invariant-loop-all g l =
    let shows = g.D.Desk.shows in
    record {
      takes : Takes (shows l.fn.desk l.slot) (shows l.desk l.slot) l.all.items;
      few : vec_len l.all ≤ LONGEST;
      used : (shows l.desk l.slot).used ≡ true;
      others : OthersSame shows l.fn.desk l.desk l.slot;
      names : NamesSame g.D.Desk.held g.D.Desk.wants l.fn.desk l.desk;
    }

abbrev pub decreases-loop-all : goal.decreases-loop-all
decreases-loop-all g l = LONGEST + 1 - vec_len l.all
