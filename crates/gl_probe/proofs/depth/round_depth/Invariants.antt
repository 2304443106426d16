use Rattle.std.proofs.Common.{◌≤◌, take}
use Rattle.gl_probe.specs.Shown.{IsDeepForAll}
use Rattle.gl_probe.proofs.depth.round_depth.Given as goal

abbrev pub invariant-loop-cell : goal.invariant-loop-cell
invariant-loop-cell l = record { shallow : l.depth ≤ 16; deep : IsDeepForAll l.level l.depth (take l.cell-index l.cells) }
