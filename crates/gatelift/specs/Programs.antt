-- What the program does with its words: it shows a text, or does a job.
use Rattle.std.specs.Prelude.{◌≡◌, ◌≢◌, ◌⊎◌, ℕ, List, None}
use Rattle.gl_desk.specs.declared.slot.Slot.{Slot}
use Rattle.gl_desk.specs.declared.slot.Slot.TheVariants.{Says}
use Rattle.gl_desk.specs.Desk.{Gives, GivesFront}
use Rattle.gl_job.specs.Runs.{Run, IsUntouched}
use Rattle.gl_job.specs.Claims.{IsDone, IsComplete, IsStatus}
use Rattle.gl_words.specs.declared.help.Topic.{Topic}
use Rattle.gl_words.specs.Jobs.{job_named}
use Rattle.gl_words.specs.Topics.{topic_text}
use Rattle.gl_run.specs.Jobs.{course_named}
use Rattle.gl_run.specs.Claims.{IsEnding, IsLongSaid, IsFailedSaid, AreClosed, AreLeft}

-- the text was said, or a front of it and then a call failed; no file was opened
pub record IsShown (topic : Topic) (status : ℕ) (r : Run) : Type 0 where
  pub says : ((status ≡ 0) × Gives (r.before Says) (r.after Says) (topic_text topic))
      ⊎ ((status ≡ 8) × GivesFront (r.before Says) (r.after Says) (topic_text topic))
  pub rest : (slot : Slot) → slot ≢ Says → IsUntouched r slot

-- the status, and what became of the slots, are those of the top call
pub record IsJobRun (words : List (List ℕ)) (status : ℕ) (r : Run) : Type 0 where
  pub ending : IsEnding status (course_named words) r
  pub named : status ≡ 1 → job_named words ≡ None
  pub unnamed : job_named words ≡ None → IsStatus status 1
  pub finished : status ≡ 0 → IsDone (course_named words) r
  pub complete : IsComplete (course_named words) status r
  pub long : IsLongSaid status r
  pub failed : IsFailedSaid status r
  pub closed : AreClosed status r
  pub unused : AreLeft (course_named words) r
