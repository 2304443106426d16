-- What a refusal of the code means.
use Rattle.std.specs.Prelude.{Option, Some, None, Result}
use Rattle.gl_fault.specs.Refusals as answers
use Rattle.gl_lifting.specs.Renaming as renaming
use Rattle.gl_restore.specs.declared.fault.RestoreFault.{RestoreFault}
use Rattle.gl_restore.specs.declared.fault.RestoreFault.TheVariants as faults

-- the refusal, or nothing for want of memory
abbrev pub fault_of : RestoreFault → Option renaming.RestoreFault
fault_of (faults.Missing name) = Some (renaming.missing name)
fault_of (faults.Extra line) = Some (renaming.extra line)
fault_of (faults.NetMerge line) = Some (renaming.net_merge line)
fault_of (faults.LetterChanged line) = Some (renaming.letter_changed line)
fault_of (faults.DeviceMerge line) = Some (renaming.device_merge line)
fault_of faults.Memory = None

-- a refusal of the code is the one that there is, or want of memory
abbrev pub IsFaultIn : Option renaming.RestoreFault → RestoreFault → Type 0
IsFaultIn found fault = answers.IsFound (fault_of fault) found

-- the wanted value, exactly where one is wanted; else the wanted refusal; want of memory may come in place of either
abbrev pub Gives : {V : Type 0} → Result V RestoreFault → Result V renaming.RestoreFault → Type 0
Gives = answers.Gives fault_of

-- what is made of the wanted value, exactly where there is one; else the wanted refusal; want of memory may come in place of either
abbrev pub GivesOf : {V W : Type 0} → (V → W → Type 0) → Result V RestoreFault → Result W renaming.RestoreFault → Type 0
GivesOf = answers.GivesOf fault_of
