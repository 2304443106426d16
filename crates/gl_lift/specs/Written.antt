-- What is written of the bytes of a deck and a library. This project's own.
use Rattle.std.specs.Prelude.{◌≡◌, ℕ, true, List, Ok}
use Rattle.gl_text.specs.Decks.{Deck, read_deck}
use Rattle.gl_text.specs.Flattening.{Flat}
use Rattle.gl_base.specs.Libraries.{Library, read_library}
use Rattle.gl_lifting.specs.LiftJobs.{Texts}
use Rattle.gl_lifting.specs.Lifted.{Options}
use Rattle.gl_lift.specs.Lifting.{lifted_flat, AreLiftTexts}

-- a deck and a library are read, the deck is flattened and its kept names are nets; these are the texts, and they pass no limit
pub record IsWritten (deck_bytes library_bytes : List ℕ) (o : Options) (texts : Texts) : Type 0 where
  pub deck : Deck
  pub library : Library
  pub flat : Flat
  pub deck_is : read_deck true deck_bytes ≡ Ok deck
  pub library_is : read_library library_bytes ≡ Ok library
  pub flat_is : lifted_flat o.top o.keep deck library ≡ Ok flat
  pub texts_are : AreLiftTexts o.keep library flat texts
