use Rattle.std.proofs.Common.{◌≡◌, ◌+◌, ◌≤◌, drop}
use Rattle.std.specs.List.{count_by}
use Rattle.gl_match.specs.Choice.{is_taken}
use Rattle.gl_report.proofs.cells.count_chosen.Given as goal

abbrev pub invariant-loop-pick : goal.invariant-loop-pick
invariant-loop-pick l = record { counted : l.count + count_by is_taken (drop l.pick-index l.picks) ≡ count_by is_taken l.picks; few : l.count ≤ l.pick-index }
