use Rattle.std.proofs.Common.{◌≡◌, ◌++◌, length, map}
use Rattle.gl_cells.specs.Outlines.{outline_of, outlines_of}
use Rattle.gl_cells.proofs.outline.outlines.Given as goal

abbrev pub invariant-loop-rest : goal.invariant-loop-rest
invariant-loop-rest l = l.outlines.items ++ map (outline_of l.subs) l.rest ≡ outlines_of l.subs

abbrev pub decreases-loop-rest : goal.decreases-loop-rest
decreases-loop-rest l = length l.rest
