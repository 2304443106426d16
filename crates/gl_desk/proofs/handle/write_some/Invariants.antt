use Rattle.std.proofs.Common.{◌≡◌, ◌≤◌, ◌⊎◌}
use Rattle.gl_desk.specs.Desk.{HasRisen}
use Rattle.gl_desk.proofs.handle.write_some.Given as goal

abbrev pub invariant-loop-tries : goal.invariant-loop-tries
invariant-loop-tries g l = record {
  never_falls : l.fn.faults ≤ l.faults;
  counted : (l.tries ≡ 0) ⊎ HasRisen l.fn.faults l.faults;
}
