-- Words that ask for a text in place of a job.
use Rattle.std.specs.Prelude.{ℕ, List, [], ◌∷◌, Option, None, Some, codes, unwrap_or, if◌then◌else◌}
use Rattle.gl_text.specs.LogicalLines.{same_text}
use Rattle.gl_words.specs.declared.help.Topic.{Topic}
use Rattle.gl_words.specs.declared.help.Topic.TheVariants.{All, Version, Lift, Flat, Restore}
use Rattle.gl_words.specs.declared.help.TheConstants as texts

-- a job of this name
abbrev pub job_topic : List ℕ → Option Topic
job_topic word = if same_text word (codes "lift") then Some Lift
    else (if same_text word (codes "flat") then Some Flat else (if same_text word (codes "restore") then Some Restore else None))

-- `help`, `--help` or `--version` alone
abbrev pub alone_topic : List ℕ → Option Topic
alone_topic word = if same_text word (codes "help") then Some All
    else (if same_text word (codes "--help") then Some All else (if same_text word (codes "--version") then Some Version else None))

-- `help` and a job, or a job and `--help`
abbrev pub paired_topic : List ℕ → List ℕ → Option Topic
paired_topic word other = if same_text word (codes "help") then job_topic other
    else (if same_text other (codes "--help") then job_topic word else None)

-- what the words ask for; all other words are those of a job, or of none
abbrev pub topic_named : List (List ℕ) → Option Topic
topic_named (word ∷ []) = alone_topic word
topic_named (word ∷ other ∷ []) = paired_topic word other
topic_named _ = None

-- the job that the first word names, or all jobs
abbrev pub usage_named : List (List ℕ) → Topic
usage_named (word ∷ words) = unwrap_or (job_topic word) All
usage_named [] = All

-- the text of what the words ask for
abbrev pub topic_text : Topic → List ℕ
topic_text All = texts.ALL.now
topic_text Version = texts.VERSION.now
topic_text Lift = texts.LIFT.now
topic_text Flat = texts.FLAT.now
topic_text Restore = texts.RESTORE.now
