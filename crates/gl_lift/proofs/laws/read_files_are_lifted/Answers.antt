use Rattle.gl_lift.proofs.ReadFiles.{bytes_liftable, read_searchable}
use Rattle.gl_lift.proofs.laws.read_files_are_lifted.Goals as goal

pub returns : goal.returns
returns c = record { deck = bytes_liftable; library = read_searchable }
