use Rattle.std.proofs.Common.{◌≡◌, ℕ, List, drop}
use Rattle.indexmap.specs.IndexMap.{get}
use Rattle.gl_text.specs.LogicalLines.{same_text}
use Rattle.gl_base.specs.TypeNames.{word_of}
use Rattle.gl_lib.specs.Keys.{first_of}
use Rattle.gl_lib.proofs.words.add_words.Given as goal

abbrev pub invariant-loop-model : goal.invariant-loop-model
invariant-loop-model l = (name : List ℕ) → first_of (get same_text l.words name) (word_of (drop l.model-index l.models) name) ≡ first_of (get same_text l.initial.words name) (word_of l.models name)
