-- The outputs of a job, as the code has them.
use Rattle.std.specs.Prelude.{◌≡◌, ◌≢◌, ℕ, List, [], ◌∷◌, false, map, Result, Ok, Err}
use Rattle.gl_desk.specs.declared.slot.Slot.{Slot}
use Rattle.gl_desk.specs.declared.slot.Slot.TheVariants.{Says}
use Rattle.gl_desk.specs.Desk.{View, IsOutput}
use Rattle.gl_job.specs.declared.writing.Output.{Output}
use Rattle.gl_job.specs.declared.stop.Stop.{Stop}
use Rattle.gl_job.specs.Texts.{End, done, end_of_stop}
use Rattle.gl_job.specs.Runs.{Opening, IsApart}

-- the slot and the word
abbrev pub opening_of : Output → Opening
opening_of output = record { slot = output.slot; word = output.word.now }

-- the text
abbrev pub text_of : Output → List ℕ
text_of output = output.text.now

-- the slots of outputs
abbrev pub slots_of : List Output → List Slot
slots_of outputs = map (λ o. o.slot) outputs

-- it is an output, not what the program says, and not in use
pub record IsWritable (shows : Slot → View) (output : Output) : Type 0 where
  pub output_slot : IsOutput output.slot
  pub not_says : output.slot ≢ Says
  pub free : (shows output.slot).used ≡ false

-- no two have one slot
abbrev pub AreApart : List Output → Type 0
AreApart [] = Unit {0}
AreApart (o ∷ os) = IsApart o.slot (slots_of os) × AreApart os

-- how a run ends whose outputs are all that was left to do
abbrev pub end_of_result : Result (Unit {0}) Stop → End
end_of_result (Ok u) = done []
end_of_result (Err stop) = end_of_stop stop
