use Rattle.gl_cells.proofs.ReadRanks.{bytes_ranked, read_ranked}
use Rattle.gl_cells.proofs.laws.read_decks_have_ranks.Goals as goal

pub returns : goal.returns
returns c = record { of_bytes = bytes_ranked; as_read = read_ranked }
