-- The numbers are printed.
use Rattle.std.proofs.Common.{refl}
use Rattle.std.specs.Fmt.{digits}
use Rattle.gl_run.proofs.laws.said_lines.Goals as goal

pub returns : goal.returns
unfolding digits
returns c = record { done = refl; words = refl; deck = refl; flat = refl; long_name = refl; many_cards = refl; long_lifted = refl; long_flat = refl; long_names = refl; long_report = refl; library = refl; map = refl; header = refl; names = refl; long_text = refl; long_map = refl; long_deck = refl; long_library = refl; read = refl; write = refl; write_out = refl; memory = refl; deck_memory = refl }
