use Rattle.gl_lifting.specs.Runs.{run_of}
use Rattle.gl_found.proofs.FoundLaws.{composites_found, cells_are_known}
use Rattle.gl_found.proofs.laws.composites_are_found.Goals as goal

pub returns-clause-composites : goal.returns-clause-composites
returns-clause-composites c = λ flat library lifted r. composites_found (run_of flat library r.keep) r.cells lifted r.are_cells r.shown

pub returns-clause-cells : goal.returns-clause-cells
returns-clause-cells c = λ flat library lifted r. cells_are_known (run_of flat library r.keep) r.cells lifted r.are_cells r.shown
