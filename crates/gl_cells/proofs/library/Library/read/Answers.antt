use Rattle.gl_cells.proofs.KnownLaws.{library_is}
use Rattle.gl_cells.proofs.SizeLaws.{countable}
use Rattle.gl_cells.proofs.library.Library.read.Goals as goal

pub cells_of_deck-requires-clause-read : goal.cells_of_deck-requires-clause-read
cells_of_deck-requires-clause-read c = c.in_ok-deck.ensures.known.read

pub cells_of_deck-requires-clause-few : goal.cells_of_deck-requires-clause-few
cells_of_deck-requires-clause-few c = countable c.in_ok-deck.deck c.in_ok-deck.ensures.known

pub returns-clause-known : goal.returns-clause-known
returns-clause-known c =
    let deck = c.in_ok-deck.deck in
    let is = library_is c.args.bytes.now deck c.in_ok-cells.cells.items c.in_ok-deck.ensures.read c.in_ok-cells.ensures.accepted c.in_ok-cells.ensures.cells in
    c.read_libraries_are_known.ensures.known c.args.bytes.now _ c.requires.size is
