-- What a refusal of the code means.
use Rattle.std.specs.Prelude.{Option, Some, None, Result}
use Rattle.gl_fault.specs.Refusals as answers
use Rattle.gl_lifting.specs.MapReading as reading
use Rattle.gl_map.specs.declared.fault.MapFault.{MapFault}
use Rattle.gl_map.specs.declared.fault.MapFault.TheVariants as faults

-- the refusal, or nothing for want of memory
abbrev pub fault_of : MapFault → Option reading.MapFault
fault_of faults.BadHeader = Some reading.bad_header
fault_of (faults.BadLine line) = Some (reading.bad_line line)
fault_of faults.NoEnd = Some reading.no_end
fault_of (faults.DoubleNew line) = Some (reading.double_new line)
fault_of faults.Memory = None

-- the wanted value, exactly where one is wanted; else the wanted refusal; want of memory may come in place of either
abbrev pub Gives : {V : Type 0} → Result V MapFault → Result V reading.MapFault → Type 0
Gives = answers.Gives fault_of
