-- What a refusal of the code means, and what flattening gives.
use Rattle.std.specs.Prelude.{◌≡◌, ℕ, List, Option, Some, None, Result}
use Rattle.std.specs.declared.alloc.Global.{Global}
use Rattle.std.specs.declared.vec.Vec.{Vec}
use Rattle.gl_fault.specs.Refusals as answers
use Rattle.gl_text.specs.LogicalLines as lines
use Rattle.gl_text.specs.LogicalLines.{Fault}
use Rattle.gl_text.specs.Decks.{Deck}
use Rattle.gl_text.specs.Flattening.{Flat, flat_text, flatten}
use Rattle.gl_flat.specs.PlainFlats.{plain}
use Rattle.gl_flat.specs.declared.fault.What.{What}
use Rattle.gl_flat.specs.declared.fault.What.TheVariants as what
use Rattle.gl_flat.specs.declared.fault.FlatFault.{FlatFault}
use Rattle.gl_flat.specs.declared.fault.FlatFault.TheVariants as faults

abbrev pub too_many : What → ℕ → Fault
too_many what.Cards number = lines.too_many_cards number
too_many what.Devices number = lines.too_many_devices number

-- the refusal, or nothing for want of memory
abbrev pub fault_of : FlatFault → Option Fault
fault_of (faults.NameClash name) = Some (lines.name_clash name)
fault_of (faults.LongFlatName len) = Some (lines.long_flat_name len)
fault_of (faults.TooMany kind number) = Some (too_many kind number)
fault_of (faults.TooDeep number) = Some (lines.too_deep number)
fault_of (faults.NoTop name) = Some (lines.no_top name)
fault_of (faults.TopDevices line) = Some (lines.top_devices line)
fault_of (faults.LongText number) = Some (lines.long_text number)
fault_of faults.Memory = None

-- a refusal of the code is the one that is wanted, or want of memory
abbrev pub IsFaultOf : {V : Type 0} → Result V Fault → FlatFault → Type 0
IsFaultOf wanted fault = answers.IsRefusal (fault_of fault) wanted

-- it refuses the flat deck, whatever the rails are
abbrev pub RefusesFlat : Deck → Option (List ℕ) → FlatFault → Type 0
RefusesFlat deck top fault = (rails : List (List ℕ)) → IsFaultOf (flatten deck rails top) fault

-- a refusal of the code is the one that there is, or want of memory
abbrev pub IsFaultIn : Option Fault → FlatFault → Type 0
IsFaultIn found fault = answers.IsFound (fault_of fault) found

-- there is a refusal exactly where one is wanted, and it is that one
abbrev pub Refuses : Option FlatFault → Option Fault → Type 0
Refuses = answers.Refuses fault_of

-- what is made of a flat deck, exactly where there is one; else the refusal; want of memory may come in place of either
abbrev pub GivesOf : {V : Type 0} → (V → Flat → Type 0) → Result V FlatFault → Result Flat Fault → Type 0
GivesOf = answers.GivesOf fault_of

-- a flat deck, each device under its flat name and with the flat names of its nets
abbrev pub Gives : Result Flat FlatFault → Result Flat Fault → Type 0
Gives = GivesOf (λ v w. v ≡ plain w)

-- the text is that of a flat deck
abbrev pub IsTextOf : List ℕ → Flat → Type 0
IsTextOf text w = text ≡ flat_text w

-- the text of a flat deck, exactly where there is one
abbrev pub GivesText : Result (Vec ℕ Global) FlatFault → Result Flat Fault → Type 0
GivesText = GivesOf (λ text. IsTextOf text.items)
