use Rattle.std.proofs.Common.{◌≡◌, ◌++◌, take}
use Rattle.std.specs.Prelude.{flat_map}
use Rattle.std.specs.List.{enumerate_from}
use Rattle.gl_probe.specs.Shown.{shown_round}
use Rattle.gl_probe.proofs.probe.put_rounds.Given as goal

abbrev pub invariant-loop-level : goal.invariant-loop-level
invariant-loop-level l = l.out.items ≡ l.fn.out.items ++ flat_map (shown_round l.subs l.cells) (take l.level (enumerate_from 0 l.rounds))
