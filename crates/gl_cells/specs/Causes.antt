-- What a refusal of the code means, and what reading a library gives.
use Rattle.std.specs.Prelude.{ℕ, List, nat_lt, Option, Some, None, Result}
use Rattle.gl_fault.specs.Refusals as answers
use Rattle.gl_text.specs.LogicalLines as lines
use Rattle.gl_base.specs.Libraries as libraries
use Rattle.gl_base.specs.Libraries.{Cause, refused, top_card, cell_limit, cell_clash}
use Rattle.gl_cells.specs.declared.fault.Limit.{Limit}
use Rattle.gl_cells.specs.declared.fault.Limit.TheVariants as limits
use Rattle.gl_cells.specs.declared.fault.LibFault.{LibFault}
use Rattle.gl_cells.specs.declared.fault.LibFault.TheVariants as faults

-- what there is too much of
abbrev pub limit_of : Limit → libraries.Limit
limit_of limits.Cells = libraries.cells
limit_of limits.Devices = libraries.devices
limit_of limits.Ports = libraries.ports
limit_of limits.Level = libraries.level
limit_of limits.Flat = libraries.flat

-- the refusal, or nothing for want of memory
abbrev pub cause_of : LibFault → Option Cause
cause_of (faults.LoosePlus line) = Some (refused (lines.loose_plus line))
cause_of (faults.LongLine line len) = Some (refused (lines.long_line line len))
cause_of (faults.LongName line len) = Some (refused (lines.long_name line len))
cause_of (faults.UnknownCard line byte) = Some (refused (lines.unknown_card line byte))
cause_of (faults.ShortCard line has needs) = Some (refused (lines.short_card line has needs))
cause_of (faults.ControlBlock line) = Some (refused (lines.control_block line))
cause_of (faults.NestedSubckt line) = Some (refused (lines.nested_subckt line))
cause_of (faults.LooseEnds line) = Some (refused (lines.loose_ends line))
cause_of (faults.WrongEnds line) = Some (refused (lines.wrong_ends line))
cause_of (faults.OpenSubckt line) = Some (refused (lines.open_subckt line))
cause_of (faults.LocalCard line) = Some (refused (lines.local_card line))
cause_of (faults.Parameters line) = Some (refused (lines.parameters line))
cause_of (faults.DuplicateName line first) = Some (refused (lines.duplicate_name line first))
cause_of (faults.DuplicatePort line) = Some (refused (lines.duplicate_port line))
cause_of (faults.ZeroPort line) = Some (refused (lines.zero_port line))
cause_of (faults.LongTail line len) = Some (refused (lines.long_tail line len))
cause_of (faults.UnknownSubckt line) = Some (refused (lines.unknown_subckt line))
cause_of (faults.WrongNodeCount line has needs) = Some (refused (lines.wrong_node_count line has needs))
cause_of (faults.Recursive line) = Some (refused (lines.recursive line))
cause_of (faults.TopCard line) = Some (top_card line)
cause_of (faults.CellLimit cell what number) = Some (cell_limit cell (limit_of what) number)
cause_of (faults.CellClash cell name) = Some (cell_clash cell name)
cause_of faults.Memory = None

-- a refusal of the code is the one that there is, or want of memory
abbrev pub IsCauseIn : Option Cause → LibFault → Type 0
IsCauseIn found fault = answers.IsFound (cause_of fault) found

-- the cause where a number of a cell is past a limit
abbrev pub past_limit : List ℕ → Limit → ℕ → ℕ → Option Cause
past_limit cell what number most = answers.when (nat_lt most number) (cell_limit cell (limit_of what) number)

-- there is a refusal exactly where one is wanted, and it is that one
abbrev pub Refuses : Option LibFault → Option Cause → Type 0
Refuses = answers.Refuses cause_of

-- the value exactly where one is wanted, and it is that one; else the wanted refusal; want of memory may come in place of either
abbrev pub Gives : {V : Type 0} → Result V LibFault → Result V Cause → Type 0
Gives = answers.Gives cause_of
