-- The report of rounds, after docs/FORMATS.md: what became of each cell, where its instances lie, and which of them are chosen. The format is this project's own.
use Rattle.std.specs.Prelude.{ℕ, not, List, [], ◌∷◌, ◌++◌, length, map, filter, flat_map, zip, codes, Option, Some, None}
use Rattle.std.specs.List.{count_by, enumerate_from, range_with_len}
use Rattle.std.specs.Fmt.{decimal}
use Rattle.gl_text.specs.Decks.{Sub}
pub use Rattle.gl_text.specs.Decks.{body_name as card_name}
use Rattle.gl_match.specs.declared.spot.Spot.{Spot}
use Rattle.gl_match.specs.declared.role.Pick.{Pick}
use Rattle.gl_match.specs.declared.role.Pick.TheVariants.{Taken, Over}
use Rattle.gl_match.specs.Graph.{is_in}
use Rattle.gl_match.specs.Listing.{Instance}
use Rattle.gl_match.specs.Choice.{is_taken, joined, sets_of}
use Rattle.gl_base.specs.Libraries.{Skip, empty, loose, uses, Cell}
use Rattle.gl_base.specs.Reports.{name_at, line, parts, cell_words, instance_words}

-- the names that all rounds share: the stem of chosen instances, and the names of nets by their numbers
pub record RunNames : Type 0 where
  pub stem : List ℕ
  pub nets : List (List ℕ)

-- what became of a cell: it was searched, and has instances with a pick for each; or it was skipped
pub data CellPart : Type 0 where
  found : Sub → List Instance → List Pick → CellPart
  skipped : List ℕ → Skip → CellPart

-- a round: the names of its circuit's devices by their numbers, and its cells
pub record RoundPart : Type 0 where
  pub devices : List (List ℕ)
  pub cells : List CellPart

-- ---- lines

-- the name of a chosen instance
abbrev pub instance_name : List ℕ → ℕ → List ℕ
instance_name stem number = stem ++ decimal number

-- chosen, under its name; or over a chosen one
abbrev pub fate_words : List ℕ → Pick → List (List ℕ)
fate_words stem (Taken number) = instance_name stem number ∷ []
fate_words stem (Over number) = codes "over" ∷ instance_name stem number ∷ []

-- each port of a cell with the net of the binding
abbrev pub port_words : List (List ℕ) → Sub → Instance → List (List ℕ)
port_words nets cell i = parts cell.head.ports (map (name_at nets) i.key.binding)

-- each card of a cell with its image under the least map
abbrev pub image_words : List (List ℕ) → Sub → Instance → List (List ℕ)
image_words devices cell i = parts (map card_name cell.cards) (map (λ (s : Spot). name_at devices s.dev) i.least)

-- an instance with its number and its pick
abbrev pub found_words : RunNames → List (List ℕ) → Sub → ℕ × (Instance × Pick) → List (List ℕ)
found_words names devices cell n = instance_words n.0 (fate_words names.stem n.1.1) (port_words names.nets cell n.1.0) (image_words devices cell n.1.0)

-- the line of a searched cell, and a line for each instance, numbered from 1
abbrev pub found_lines : RunNames → List (List ℕ) → Sub → List Instance → List Pick → List ℕ
found_lines names devices cell items picks =
    line (cell_words cell.head.name (length cell.head.ports) (length items) ++ codes "chosen" ∷ decimal (count_by is_taken picks) ∷ [])
    ++ flat_map (λ n. line (found_words names devices cell n)) (enumerate_from 1 (zip items picks))

-- why a cell was skipped
abbrev pub reason_words : Skip → List (List ℕ)
reason_words empty = codes "empty" ∷ []
reason_words (loose port) = codes "loose" ∷ port ∷ []
reason_words (uses cell) = codes "uses" ∷ cell ∷ []

-- the lines of a cell
abbrev pub part_lines : RunNames → List (List ℕ) → CellPart → List ℕ
part_lines names devices (found cell items picks) = found_lines names devices cell items picks
part_lines names devices (skipped name skip) = line (codes "cell" ∷ name ∷ codes "skipped" ∷ reason_words skip)

-- the lines of a round with its number
abbrev pub round_lines : RunNames → ℕ × RoundPart → List ℕ
round_lines names n = line (codes "round" ∷ decimal n.0 ∷ []) ++ flat_map (part_lines names n.1.devices) n.1.cells

-- the report: the rounds, numbered from 0, how many devices are left, and `end`
abbrev pub report_text : RunNames → List RoundPart → ℕ → List ℕ
report_text names rounds left = flat_map (round_lines names) (enumerate_from 0 rounds) ++ line (codes "left" ∷ decimal left ∷ []) ++ line (codes "end" ∷ [])

-- ---- what is reported of a round

-- a cell before others: the first of what was found is its, if it is searched
abbrev pub part_before : Sub → Option Skip → List (List Instance × List Pick) → (List (List Instance × List Pick) → List CellPart) → List CellPart
part_before cell (Some skip) finds others = skipped cell.head.name skip ∷ others finds
part_before cell None [] others = others []
part_before cell None (f ∷ finds) others = found cell f.0 f.1 ∷ others finds

-- what became of cells, by what was found of the searched ones, in their order
abbrev pub cell_parts : List (Sub × Cell) → List (List Instance × List Pick) → List CellPart
cell_parts [] finds = []
cell_parts (c ∷ cells) finds = part_before c.0 c.1.skip finds (cell_parts cells)

-- the first round alone, or none where a library has no cells
abbrev pub rounds_of : List Cell → RoundPart → List RoundPart
rounds_of [] round = []
rounds_of (c ∷ cells) round = round ∷ []

-- the devices of the chosen instances
abbrev pub taken_devices : List (List ℕ) → List Pick → List ℕ
taken_devices sets picks = flat_map (λ p. p.0) (filter (λ p. is_taken p.1) (zip sets picks))

-- how many of so many devices stand in no chosen instance
abbrev pub left_of : ℕ → List (List Instance) → List (List Pick) → ℕ
left_of devices lists picks = let gone = taken_devices (joined (sets_of lists)) (joined picks) in count_by (λ dev. not (is_in gone dev)) (range_with_len 0 devices)
