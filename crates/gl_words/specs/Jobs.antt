-- The words of a run: the job, what it reads and writes, and its options.
use Rattle.std.specs.Prelude.{ℕ, List, [], ◌∷◌, Option, None, Some, codes, option_map, unwrap_or, if◌then◌else◌}
use Rattle.clap.specs.Words.{Row, first_of}
use Rattle.gl_text.specs.LogicalLines.{same_text, folded}
use Rattle.gl_words.specs.Pieces.{names_in}
use Rattle.gl_words.specs.Reading.{words_read}
use Rattle.gl_words.specs.Commands.{lift_app, flat_app, restore_app}

-- what the job `lift` is asked for: the top and the kept names are folded
pub record Request : Type 0 where
  pub deck : List ℕ
  pub library : List ℕ
  pub lifted : List ℕ
  pub map : List ℕ
  pub report : List ℕ
  pub top : Option (List ℕ)
  pub keep : List (List ℕ)

-- what the job `flat` is asked for
pub record FlatRequest : Type 0 where
  pub deck : List ℕ
  pub out : List ℕ
  pub top : Option (List ℕ)

-- what the job `restore` is asked for
pub record RestoreRequest : Type 0 where
  pub lifted : List ℕ
  pub map : List ℕ
  pub out : List ℕ
  pub top : Option (List ℕ)

-- a job, and what it is asked for
pub data Job : Type 0 where
  lift : Request → Job
  flat : FlatRequest → Job
  restore : RestoreRequest → Job

-- ---- what was read

-- the word of a place
abbrev pub word_at : List ℕ → List Row → List ℕ
word_at id rows = unwrap_or (first_of id rows) []

-- the name that `--top` gives
abbrev pub top_in : List Row → Option (List ℕ)
top_in rows = option_map folded (first_of (codes "top") rows)

-- the names that `--keep` gives
abbrev pub keep_in : Option (List ℕ) → List (List ℕ)
keep_in None = []
keep_in (Some text) = names_in text

abbrev pub request_of : List Row → Request
request_of rows = record {
  deck = word_at (codes "deck") rows;
  library = word_at (codes "library") rows;
  lifted = word_at (codes "lifted") rows;
  map = word_at (codes "map") rows;
  report = word_at (codes "report") rows;
  top = top_in rows;
  keep = keep_in (first_of (codes "keep") rows);
}

abbrev pub flat_request_of : List Row → FlatRequest
flat_request_of rows = record { deck = word_at (codes "deck") rows; out = word_at (codes "out") rows; top = top_in rows }

abbrev pub restore_request_of : List Row → RestoreRequest
restore_request_of rows = record { lifted = word_at (codes "lifted") rows; map = word_at (codes "map") rows; out = word_at (codes "out") rows; top = top_in rows }

-- ---- the job

-- the job that the first word names, with what its command reads of all words
abbrev pub job_named : List (List ℕ) → Option Job
job_named [] = None
job_named (job ∷ words) =
    if same_text job (codes "lift") then option_map (λ rows. lift (request_of rows)) (words_read lift_app (job ∷ words))
    else (if same_text job (codes "flat") then option_map (λ rows. flat (flat_request_of rows)) (words_read flat_app (job ∷ words))
    else (if same_text job (codes "restore") then option_map (λ rows. restore (restore_request_of rows)) (words_read restore_app (job ∷ words)) else None))
