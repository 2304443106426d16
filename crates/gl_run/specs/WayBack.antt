-- What `lift` has written when it is done, over the bytes that it read, and that `restore` takes it. This project's own.
use Rattle.std.specs.Prelude.{◌≡◌, ◌⊎◌, ℕ, List, Some}
use Rattle.gl_text.specs.Flattening.{Flat, flat_text}
use Rattle.gl_lifting.specs.LiftJobs.{Texts}
use Rattle.gl_lifting.specs.Lifted.{Options, IsLifted, IsRestored}
use Rattle.gl_lift.specs.Written.{IsWritten}
use Rattle.gl_desk.specs.declared.slot.Slot.TheVariants.{Deck, Library, Map, Out}
use Rattle.gl_job.specs.Runs.{Run, opening, IsWhole}
use Rattle.gl_job.specs.Runs as runs
use Rattle.gl_job.specs.Claims.{AreWritten}
use Rattle.gl_words.specs.Jobs.{Request, RestoreRequest}
use Rattle.gl_run.specs.Jobs.{lift_outs, texts_in_order}

-- what `lift` is asked for beside its files
abbrev pub options_of : Request → Options
options_of q = record { top = q.top; keep = q.keep }

-- a deck and a library were read to their ends, and the outputs were given texts that are what was lifted of the bytes; so these lead back
pub record IsLiftedBy (q : Request) (r : Run) : Type 0 where
  pub deck_bytes : List ℕ
  pub library_bytes : List ℕ
  pub texts : Texts
  pub deck_read : IsWhole r (opening Deck q.deck) deck_bytes
  pub library_read : IsWhole r (opening Library q.library) library_bytes
  pub given : AreWritten (lift_outs q) (texts_in_order texts) r
  pub written : IsWritten deck_bytes library_bytes (options_of q) texts
  pub lifted : IsLifted deck_bytes library_bytes (options_of q) texts.lifted texts.map texts.report
  pub restored : IsRestored q.top texts.lifted texts.map written.flat

-- the words of a lifted deck and of a map hold these texts
pub record HoldLifted (q : RestoreRequest) (texts : Texts) (r : Run) : Type 0 where
  pub lifted : r.held Deck q.lifted ≡ Some texts.lifted
  pub map : r.held Map q.map ≡ Some texts.map

-- an input or an output failed, or there was no memory
abbrev pub IsFailed : ℕ → Type 0
IsFailed status = (status ≡ 7) ⊎ (status ≡ 8) ⊎ (status ≡ 9)

-- nothing is refused: the output was given the text of the original flat deck; or a call failed, or there was no memory
abbrev pub IsTaken : RestoreRequest → Flat → ℕ → Run → Type 0
IsTaken q original status r = ((status ≡ 0) × runs.IsWritten r (opening Out q.out) (flat_text original)) ⊎ IsFailed status
