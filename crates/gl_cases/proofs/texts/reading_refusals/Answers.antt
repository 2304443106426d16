-- The numbers are printed.
use Rattle.std.proofs.Common.{refl}
use Rattle.std.specs.Fmt.{digits}
use Rattle.gl_cases.proofs.texts.reading_refusals.Goals as goal

pub returns : goal.returns
unfolding digits
returns c = record { loose_plus = refl; long_line = refl; long_name = refl; unknown_card = refl; short_card = refl; control_block = refl; nested_subckt = refl; loose_ends = refl; wrong_ends = refl; open_subckt = refl; local_card = refl; parameters = refl; duplicate_name = refl; duplicate_port = refl; zero_port = refl; long_tail = refl; unknown_subckt = refl; wrong_node_count = refl; recursive = refl }
