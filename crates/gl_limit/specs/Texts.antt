-- The text of a limit that is passed: number, name, and each field with its value, with one blank between each two.
use Rattle.std.specs.Prelude.{ℕ, List, [], codes}
use Rattle.gl_text.specs.LogicalLines.{FILE, NAME}
use Rattle.gl_text.specs.Flattening.{CARDS}
use Rattle.gl_lifting.specs.OutLimits.{OutLimit, of_name, of_cards, of_lifted_text, of_lifted_flat, of_map_text, of_report_text, of_restored_text}
use Rattle.gl_said.specs.Texts.{numbered, named}

-- the name of a limit of what is written
abbrev pub limit_name : OutLimit → List ℕ
limit_name of_name = codes "Name"
limit_name of_cards = codes "Cards"
limit_name of_lifted_text = codes "LiftedText"
limit_name of_lifted_flat = codes "LiftedFlat"
limit_name of_map_text = codes "MapText"
limit_name of_report_text = codes "ReportText"
limit_name of_restored_text = codes "RestoredText"

-- how much it allows
abbrev pub limit_number : OutLimit → ℕ
limit_number of_name = NAME
limit_number of_cards = CARDS
limit_number _ = FILE

-- that it is passed
abbrev pub limit_text : OutLimit → List ℕ
limit_text limit = named (codes "50 OutLimit which=") (limit_name limit) (numbered (codes " number=") (limit_number limit) [])
