use Rattle.std.proofs.Common.{◌≡◌, drop}
use Rattle.gl_report.specs.Shown as shown
use Rattle.gl_report.proofs.cells.find_cell.Given as goal

abbrev pub invariant-loop-found : goal.invariant-loop-found
invariant-loop-found l = shown.found_of l.number (drop l.found-index l.cells) ≡ shown.found_of l.number l.cells
