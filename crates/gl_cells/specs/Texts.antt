-- The texts of refusals of a library: number, name, and each field with its value, with one blank between each two.
use Rattle.std.specs.Prelude.{ℕ, List, [], codes, Option, None, Some}
use Rattle.gl_text.specs.LogicalLines.{Fault}
use Rattle.gl_base.specs.Libraries as libraries
use Rattle.gl_said.specs.Texts.{numbered, named}
use Rattle.gl_deck.specs.Texts.{fault_text}

-- what there is too much of
abbrev pub limit_name : libraries.Limit → List ℕ
limit_name libraries.cells = codes "Cells"
limit_name libraries.devices = codes "Devices"
limit_name libraries.ports = codes "Ports"
limit_name libraries.level = codes "Level"
limit_name libraries.flat = codes "Flat"

-- a refusal of a library
abbrev pub cell_text : libraries.Cause → List ℕ
cell_text (libraries.refused fault) = fault_text fault
cell_text (libraries.top_card line) = numbered (codes "30 TopCard line=") line []
cell_text (libraries.cell_limit cell what number) =
    named (codes "31 CellLimit cell=") cell (named (codes " what=") (limit_name what) (numbered (codes " number=") number []))
cell_text (libraries.cell_clash cell name) = named (codes "33 CellClash cell=") cell (named (codes " name=") name [])

-- the fault of reading that a refusal of a library tells, if it tells one
abbrev pub reading_of : Option libraries.Cause → Option Fault
reading_of (Some (libraries.refused fault)) = Some fault
reading_of _ = None
