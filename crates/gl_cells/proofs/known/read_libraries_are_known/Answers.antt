use Rattle.gl_cells.proofs.KnownLaws.{cell_of_devices, known_library}
use Rattle.gl_cells.proofs.known.read_libraries_are_known.Goals as goal

pub returns : goal.returns
returns c = record { known = known_library; of_devices = cell_of_devices }
