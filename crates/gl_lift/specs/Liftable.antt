-- Decks and libraries that are lifted: as they are read, and no larger than files.
use Rattle.std.specs.Prelude.{◌≤◌, ◌∷◌, [], length}
use Rattle.std.specs.List.{AllByRecursion}
use Rattle.gl_text.specs.LogicalLines.{FILE}
use Rattle.gl_text.specs.Cards.{global}
use Rattle.gl_text.specs.Decks.{Deck}
use Rattle.gl_base.specs.Libraries.{Library}
use Rattle.gl_printed.specs.ReadCards.{IsFine}
use Rattle.gl_printed.specs.ReadDecks.{IsReadDeck}
use Rattle.gl_lib.specs.Sources.{HasWholeCells}

-- a deck as it is read, with no more globals than a file has bytes
pub record IsLiftable (deck : Deck) : Type 0 where
  pub read : IsReadDeck deck
  pub few : length deck.globals ≤ FILE

-- a library with fine globals, no more than a file has bytes; its cells are no larger than a file, and each that is searched, at whatever level, is whole
pub record IsSearchable (library : Library) : Type 0 where
  pub globals : AllByRecursion (λ n. IsFine (global (n ∷ []))) library.deck.globals
  pub few : length library.deck.globals ≤ FILE
  pub cells : HasWholeCells library
