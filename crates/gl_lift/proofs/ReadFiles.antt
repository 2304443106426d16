-- What was read from files is lifted and searched.
use Rattle.std.proofs.Common.{◌≡◌, ◌≤◌, ℕ, List, length, true, Ok, ap, ◌∙◌, arith}
use Rattle.std.proofs.lemmas.List.{length-map}
use Rattle.gl_text.specs.LogicalLines.{FILE}
use Rattle.gl_text.specs.Decks.{Deck, read_deck}
use Rattle.gl_base.specs.Libraries.{Library, cell_of, read_library}
use Rattle.gl_known.specs.Known.{IsKnownDeck}
use Rattle.gl_known.proofs.DecksRead.{file_read}
use Rattle.gl_cells.specs.KnownLibraries.{IsKnownLibrary}
use Rattle.gl_cells.proofs.KnownLaws.{known_library}
use Rattle.gl_lift.specs.Liftable.{IsLiftable, IsSearchable}
use Rattle.gl_lift.proofs.CellsWhole.{cells_whole}

pub deck_liftable : (deck : Deck) → IsKnownDeck FILE deck → IsLiftable deck
deck_liftable deck known = let small = known.small in record { read = known.read; few = omega arith }

pub bytes_liftable : (bytes : List ℕ) (deck : Deck) → length bytes ≤ FILE → read_deck true bytes ≡ Ok deck → IsLiftable deck
bytes_liftable bytes deck few h = deck_liftable deck (file_read true bytes deck few h)

-- ---- a library

pub library_known : (library : Library) → IsKnownLibrary library → IsSearchable library
library_known library known =
    let deck = library.deck in
    let small = known.is_known.small in
    record {
      globals = known.is_known.read.globals;
      few = omega arith;
      cells = record {
        names_differ = known.is_known.read.subs_differ;
        ports = λ k d lt. (known.limits k d lt).ports;
        small = omega arith;
        as_many = ap length known.cells ∙ length-map deck.subs (cell_of deck.subs);
        whole = cells_whole library known;
      };
    }

pub read_searchable : (bytes : List ℕ) (library : Library) → length bytes ≤ FILE → read_library bytes ≡ Ok library → IsSearchable library
read_searchable bytes library few h = library_known library (known_library bytes library few h)
