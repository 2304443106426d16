use Rattle.std.proofs.Common.{◌≡◌, ◌++◌, drop}
use Rattle.gl_report.specs.Pieces.{rounds_from, rounds_text}
use Rattle.gl_report.proofs.report.put_rounds.Given as goal

abbrev pub invariant-loop-level : goal.invariant-loop-level
invariant-loop-level l = l.out.items ++ rounds_from l.names l.library l.level (drop l.level l.rounds) ≡ l.fn.out.items ++ rounds_text l.names l.library l.rounds
