-- What a step gives.
use Rattle.std.specs.Prelude.{List, [], ◌∷◌, length, ◌≡◌, ◌<◌, ◌+◌, ◌^◌, ⊤, Option, Some, None, Result, Ok, Err}
use Rattle.gl_text.specs.LogicalLines.{Line, Fault, loose_plus, long_line, logical_lines}
use Rattle.gl_line.specs.declared.logical.Logical.{Logical}
use Rattle.gl_line.specs.declared.fault.LineFault.{LineFault}
use Rattle.gl_line.specs.declared.steps.Left.{Left}
use Rattle.gl_line.specs.declared.fault.LineFault.TheVariants as faults

-- the refusal, or nothing for want of memory
abbrev pub fault_of : LineFault → Option Fault
fault_of (faults.LoosePlus n) = Some (loose_plus n)
fault_of (faults.LongLine n len) = Some (long_line n len)
fault_of faults.Memory = None

-- all that is left is this refusal; where memory ran out, something was left
abbrev pub IsLast : Option Fault → List (Result Line Fault) → Type 0
IsLast None all = 0 < length all
IsLast (Some fault) all = all ≡ Err fault ∷ []

-- what was given is the first of all, and others are left; a refusal is the last
abbrev pub GivesFirst : Result Logical LineFault → List (Result Line Fault) → List (Result Line Fault) → Type 0
GivesFirst (Ok l) all others = all ≡ Ok l ∷ others
GivesFirst (Err fault) all others = IsLast (fault_of fault) all × (others ≡ [])

-- a line or a refusal of the text, and no want of memory
abbrev pub IsTold : Result Logical LineFault → Type 0
IsTold (Ok l) = ⊤
IsTold (Err (faults.LoosePlus n)) = ⊤
IsTold (Err (faults.LongLine n len)) = ⊤
IsTold (Err faults.Memory) = ⊥

-- the logical lines that are left
abbrev pub left_of : Option Left → List (Result Line Fault)
left_of None = []
left_of (Some l) = logical_lines l.line l.bytes.now

-- a line behind what is left can still be numbered
abbrev pub FewLeft : Option Left → Type 0
FewLeft None = ⊤
FewLeft (Some l) = l.line + length l.bytes.now < 2 ^ 32
