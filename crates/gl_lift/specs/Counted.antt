-- The limits that texts pass, told before a text is built that would pass one. This project's own.
use Rattle.std.specs.Prelude.{◌≡◌, ℕ, List, length, Option, None, Some, Result, Ok, Err, ⊤}
use Rattle.gl_text.specs.Flattening.{Flat}
use Rattle.gl_base.specs.Libraries.{Library}
use Rattle.gl_lifting.specs.Runs.{Run, run_of}
use Rattle.gl_lifting.specs.LiftedDecks.{lifted_deck}
use Rattle.gl_lifting.specs.NameMaps.{map_of}
use Rattle.gl_lifting.specs.OutLimits.{OutLimit, limits}
use Rattle.gl_lifting.specs.Counting.{counted_limit}
use Rattle.gl_lifting.specs.LiftJobs.{Texts}
use Rattle.gl_limit.specs.Limits.{limit_value}
use Rattle.gl_limit.specs.declared.fault.WriteFault.{WriteFault}
use Rattle.gl_limit.specs.declared.fault.WriteFault.TheVariants as writes
use Rattle.gl_limit.specs.declared.limit.OutLimit as declared
use Rattle.gl_lift.specs.Lifting.{AreTextsOf}
use Rattle.gl_lift.specs.declared.fault.LimitFault.{LimitFault}
use Rattle.gl_lift.specs.declared.fault.LimitFault.TheVariants as faults

-- texts of a run, and the limit that they pass first as it is counted, if they pass one
pub record HaveCounted (run : Run) (flat : Flat) (limit : Option OutLimit) (texts : Texts) : Type 0 where
  pub texts_are : AreTextsOf run flat texts
  pub limit_is : counted_limit limits flat (lifted_deck texts_are.stem flat run.source texts_are.history)
      (map_of texts_are.stem flat run.source texts_are.history) (length texts_are.history.last.composites) texts.report ≡ limit

-- the texts are those of a flat deck, in whose circuit the nets of these names are kept, and no limit is counted
abbrev pub AreCountedTexts : List (List ℕ) → Library → Flat → Texts → Type 0
AreCountedTexts keep library flat texts = HaveCounted (run_of flat library keep) flat None texts

-- this limit is counted first of the texts of such a flat deck
abbrev pub IsCountedLimit : List (List ℕ) → Library → Flat → OutLimit → Type 0
IsCountedLimit keep library flat limit = (texts : Texts) × HaveCounted (run_of flat library keep) flat (Some limit) texts

-- ---- what the code answers

-- what a fault tells: this is so of the limit that is passed; want of memory tells nothing
abbrev pub TellsLimit : (OutLimit → Type 0) → LimitFault → Type 0
TellsLimit IsPassed (faults.Passed limit) = IsPassed (limit_value limit)
TellsLimit IsPassed faults.Memory = ⊤

-- no limit is passed of those that were looked at, or the first one that is passed is told
abbrev pub Judges : {V : Type 0} → Option OutLimit → Result V LimitFault → Type 0
Judges first (Ok value) = first ≡ None
Judges first (Err fault) = TellsLimit (λ limit. first ≡ Some limit) fault

-- a text that is too long passes this limit
abbrev pub passed_by : WriteFault → declared.OutLimit → LimitFault
passed_by writes.TooLong limit = faults.Passed limit
passed_by writes.Memory limit = faults.Memory
