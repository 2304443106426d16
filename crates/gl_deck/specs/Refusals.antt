-- What a refusal of the code means, and what reading gives.
use Rattle.std.specs.Prelude.{◌≡◌, Option, Some, None, Result, ⊤}
use Rattle.std.specs.Result.{IsErrAnd}
use Rattle.gl_fault.specs.Refusals as answers
use Rattle.gl_text.specs.LogicalLines as lines
use Rattle.gl_text.specs.LogicalLines.{Fault}
use Rattle.gl_deck.specs.declared.fault.DeckFault.{DeckFault}
use Rattle.gl_deck.specs.declared.fault.DeckFault.TheVariants as faults

-- the refusal, or nothing for want of memory
abbrev pub fault_of : DeckFault → Option Fault
fault_of (faults.LoosePlus line) = Some (lines.loose_plus line)
fault_of (faults.LongLine line len) = Some (lines.long_line line len)
fault_of (faults.LongName line len) = Some (lines.long_name line len)
fault_of (faults.UnknownCard line byte) = Some (lines.unknown_card line byte)
fault_of (faults.ShortCard line has needs) = Some (lines.short_card line has needs)
fault_of (faults.ControlBlock line) = Some (lines.control_block line)
fault_of (faults.NestedSubckt line) = Some (lines.nested_subckt line)
fault_of (faults.LooseEnds line) = Some (lines.loose_ends line)
fault_of (faults.WrongEnds line) = Some (lines.wrong_ends line)
fault_of (faults.OpenSubckt line) = Some (lines.open_subckt line)
fault_of (faults.LocalCard line) = Some (lines.local_card line)
fault_of (faults.Parameters line) = Some (lines.parameters line)
fault_of (faults.DuplicateName line first) = Some (lines.duplicate_name line first)
fault_of (faults.DuplicatePort line) = Some (lines.duplicate_port line)
fault_of (faults.ZeroPort line) = Some (lines.zero_port line)
fault_of (faults.LongTail line len) = Some (lines.long_tail line len)
fault_of (faults.UnknownSubckt line) = Some (lines.unknown_subckt line)
fault_of (faults.WrongNodeCount line has needs) = Some (lines.wrong_node_count line has needs)
fault_of (faults.Recursive line) = Some (lines.recursive line)
fault_of faults.Memory = None

-- there is a refusal exactly where one is wanted, and it is that one
abbrev pub Refuses : Option DeckFault → Option Fault → Type 0
Refuses = answers.Refuses fault_of

-- a refusal of the code is the one that there is, or want of memory
abbrev pub IsFaultIn : Option Fault → DeckFault → Type 0
IsFaultIn found fault = answers.IsFound (fault_of fault) found

-- the value exactly where one is wanted, and it is that one; else the wanted refusal; want of memory may come in place of either
abbrev pub Gives : {V : Type 0} → Result V DeckFault → Result V Fault → Type 0
Gives = answers.Gives fault_of

-- where this refusal is wanted it is given, and no want of memory in its place
abbrev pub MustRefuse : {V : Type 0} → Result V DeckFault → Option Fault → Type 0
MustRefuse given None = ⊤
MustRefuse given (Some fault) = IsErrAnd given (λ told. fault_of told ≡ Some fault)
