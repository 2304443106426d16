use Rattle.std.specs.Prelude.{option_map}
use Rattle.gl_cells.specs.Skips.{skip_value}
use Rattle.gl_cells.proofs.SaidLaws.{said}
use Rattle.gl_cells.proofs.cells.lib_cell.Goals as goal

pub returns-clause-cell : goal.returns-clause-cell
returns-clause-cell c =
    said c.args.subs.now c.args.cell.now c.args.marks.now c.args.level (option_map skip_value c.in_ok-skip.skip) c.requires.marks c.requires.level c.in_ok-skip.ensures.skip
