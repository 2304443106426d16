use Rattle.gl_printed.proofs.PrintedLineLaws.{lines_again}
use Rattle.gl_printed.proofs.laws.printed_cards_are_lines.Goals as goal

pub returns : goal.returns
returns c = record { are_lines = lines_again }
