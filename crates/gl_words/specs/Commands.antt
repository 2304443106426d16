-- The commands of the jobs: words that must be there, and options that take one value.
use Rattle.std.specs.Prelude.{ℕ, List, Some, true, codes}
use Rattle.clap.specs.Words.{App, Rule, new_app, new_rule, with_rule}

-- a word that must be there
abbrev pub word : List ℕ → Rule
word id = record (new_rule id) { required = true }

-- an option that takes one value: `--top N` and `--top=N`
abbrev pub option : List ℕ → Rule
option id = record (new_rule id) { long = Some id }

abbrev pub with_word : App → List ℕ → App
with_word app id = with_rule app (word id)

abbrev pub with_option : App → List ℕ → App
with_option app id = with_rule app (option id)

-- the five words of `lift`
abbrev pub lift_words : App
lift_words = with_word (with_word (with_word (with_word (with_word (new_app (codes "lift"))
    (codes "deck")) (codes "library")) (codes "lifted")) (codes "map")) (codes "report")

-- lift DECK LIBRARY LIFTED MAP REPORT [--top N] [--keep N,N]
unfoldable pub lift_app : App
lift_app = with_option (with_option lift_words (codes "top")) (codes "keep")

-- flat DECK OUT [--top N]
unfoldable pub flat_app : App
flat_app = with_option (with_word (with_word (new_app (codes "flat")) (codes "deck")) (codes "out")) (codes "top")

-- restore LIFTED MAP OUT [--top N]
unfoldable pub restore_app : App
restore_app = with_option (with_word (with_word (with_word (new_app (codes "restore")) (codes "lifted")) (codes "map")) (codes "out")) (codes "top")
