-- The chosen instances of a run, round by round, and the composites that they are. This project's own.
use Rattle.std.specs.Prelude.{ℕ, List, [], map, flat_map, filter_map, zip, length, Option, option_map, slice_index_or}
use Rattle.std.specs.List.{range_with_len}
use Rattle.gl_text.specs.Decks.{Sub}
use Rattle.gl_text.specs.Flattening.{Flat}
use Rattle.gl_match.specs.declared.role.Pick.{Pick}
use Rattle.gl_match.specs.declared.spot.Spot.{Spot}
use Rattle.gl_match.specs.Graph.{Circuit}
use Rattle.gl_match.specs.Cells.{Cell}
use Rattle.gl_match.specs.LegalMaps.{pairs_of}
use Rattle.gl_match.specs.Keys.{port_image}
use Rattle.gl_match.specs.Listing.{Instance}
use Rattle.gl_match.specs.Choice.{chosen_number}
use Rattle.gl_base.specs.Libraries.{Library}
use Rattle.gl_lifting.specs.Runs.{Run, run_of, pattern_in}
use Rattle.gl_lifting.specs.Replacement.{Origin, base, Part, Composite}
use Rattle.gl_lifting.specs.SearchedCells.{AreCells}
use Rattle.gl_history.specs.Plain.{RoundCell, Round, Lifted}
use Rattle.gl_history.specs.Shown.{IsLifted}

-- a chosen instance: its number, the number of its cell, the circuit that it was found in with the origins of its devices, and the instance
pub record Found : Type 0 where
  pub number : ℕ
  pub cell : ℕ
  pub circuit : Circuit
  pub origins : List Origin
  pub instance : Instance

-- an instance of a round, if it is chosen
abbrev pub found_at : Circuit → List Origin → ℕ → Instance × Pick → Option Found
found_at circuit origins cell i = option_map (λ number. record { number = number; cell = cell; circuit = circuit; origins = origins; instance = i.0 }) (chosen_number i.1)

-- the chosen instances of a cell
abbrev pub found_of : Circuit → List Origin → RoundCell → List Found
found_of circuit origins c = filter_map (found_at circuit origins c.cell) (zip c.list c.picks)

-- those of a round, cell by cell
abbrev pub found_in : Round → List Found
found_in round = flat_map (found_of round.circuit round.origins) round.cells

-- those of all rounds
abbrev pub all_found : List Round → List Found
all_found rounds = flat_map found_in rounds

-- ---- composites

-- where a device comes from; none is asked for past the end
abbrev pub origin_in : List Origin → ℕ → Origin
origin_in origins dev = slice_index_or origins dev (base 0)

-- what a card was matched with, by the spot that it goes to
abbrev pub part_at : List Origin → Spot → Part
part_at origins s = record { turn = s.turn; origin = origin_in origins s.dev }

-- what the cards of its cell were matched with
abbrev pub parts_of : Found → List Part
parts_of f = map (part_at f.origins) f.instance.least

-- the cell of a number; none is asked for past the end
abbrev pub sub_at : List Sub → ℕ → Sub
sub_at subs cell = slice_index_or subs cell (record { line = 0; head = record { name = []; ports = [] }; cards = [] })

-- the images of the nets of its cell
abbrev pub images_by : Run → Found → List ℕ
images_by run f = let p = pattern_in run (sub_at run.library.deck.subs f.cell) in map (port_image (pairs_of f.circuit p.devices f.instance.least)) (range_with_len 0 (length p.roles))

-- the composite that a chosen instance is
abbrev pub composite_by : Run → Found → Composite
composite_by run f = record {
  number = f.number;
  cell = sub_at run.library.deck.subs f.cell;
  key = f.instance.key;
  parts = parts_of f;
  images = images_by run f;
}

-- ---- runs

-- the rounds show the history of the flat deck and the library with some kept names
pub record IsRunOf (flat : Flat) (library : Library) (lifted : Lifted) : Type 0 where
  pub keep : List (List ℕ)
  pub cells : List Cell
  pub are_cells : AreCells (run_of flat library keep) cells
  pub shown : IsLifted (run_of flat library keep) cells lifted
