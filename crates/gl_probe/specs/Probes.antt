-- The probe of a history: for each searched cell of each round the key of its pattern in the circuit of the round, after docs/FORMATS.md. The format is this project's own.
use Rattle.std.specs.Prelude.{◌≡◌, ℕ, List, [], ◌∷◌, ◌++◌, map, flat_map, zip, codes, Option, Some, None}
use Rattle.std.specs.List.{enumerate_from, AllZip}
use Rattle.std.specs.Fmt.{decimal}
use Rattle.gl_text.specs.Decks.{Sub}
use Rattle.gl_match.specs.declared.role.Vertex.{Vertex}
use Rattle.gl_match.specs.declared.role.Vertex.TheVariants.{Dev, Net}
use Rattle.gl_base.specs.Reports.{name_at, line}
use Rattle.gl_base.specs.RoundReports.{card_name}
use Rattle.gl_lifting.specs.Runs.{Run, cell_nets, pattern_in, searched_at}
use Rattle.gl_lifting.specs.Histories.{Round, History, circuit_at}
use Rattle.gl_match.specs.Graph.{Circuit}
use Rattle.gl_course.specs.KeyNotes.{KeyNote, IsKey}
use Rattle.gl_probe.specs.Keys.{key_in}

-- a vertex of a cell's pattern, by the cell's own name of it: `device:NAME` or `net:NAME`
abbrev pub vertex_word : Sub → Vertex → List ℕ
vertex_word cell (Dev dev) = codes "device:" ++ name_at (map card_name cell.cards) dev
vertex_word cell (Net net) = codes "net:" ++ name_at (cell_nets cell) net

-- `round R cell NAME key V depth D candidates N`
abbrev pub key_words : ℕ → Sub → KeyNote → List (List ℕ)
key_words round cell key = codes "round" ∷ decimal round ∷ codes "cell" ∷ cell.head.name ∷ codes "key" ∷ vertex_word cell key.vertex ∷ codes "depth" ∷ decimal key.depth ∷ codes "candidates" ∷ decimal key.candidates ∷ []

-- the line of a cell, by its key; nothing where no vertex may be the key
abbrev pub key_line : ℕ → Sub → Option KeyNote → List ℕ
key_line round cell None = []
key_line round cell (Some key) = line (key_words round cell key)

-- the lines of a numbered round: one for each searched cell of its level, in library order
abbrev pub round_probe : Run → ℕ × Round → List ℕ
round_probe run n = flat_map (λ cell. key_line n.0 cell (key_in (circuit_at run n.1.before) (pattern_in run cell))) (searched_at run n.0)

-- the probe of a history: its rounds, numbered from 0
abbrev pub history_probe : Run → History → List ℕ
history_probe run h = flat_map (round_probe run) (enumerate_from 0 h.rounds)

-- ---- what the lines tell

-- some lines tell the key of each of some cells in a circuit: one line for each cell, in their order
pub record TellKeys (run : Run) (level : ℕ) (c : Circuit) (cells : List Sub) (text : List ℕ) : Type 0 where
  pub keys : List KeyNote
  pub each : AllZip (λ cell key. IsKey c (pattern_in run cell) key) cells keys
  pub lines : text ≡ flat_map (λ s. line (key_words level s.0 s.1)) (zip cells keys)
