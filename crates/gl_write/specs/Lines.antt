-- Parts of the lines of a lifted deck. This project's own.
use Rattle.std.specs.Prelude.{ℕ, List, [], ◌∷◌, ◌++◌, option_to_list}
use Rattle.std.specs.Option.{option_copied}
use Rattle.gl_text.specs.Cards.{spaced}
use Rattle.gl_card.specs.Lines.{spaced_all}
use Rattle.gl_base.specs.Reports.{name_at}
use Rattle.gl_write.specs.declared.carried.Matched.{Matched}
use Rattle.gl_write.specs.declared.carried.Matched.TheVariants as matched

-- what stands behind a card's nodes: a model and a tail, or the name of a variant
abbrev pub matched_text : List (List ℕ) → Matched → List ℕ
matched_text names (matched.Device model tail) = spaced_all (option_to_list (option_copied model)) ++ spaced tail.now
matched_text names (matched.Variant number) = spaced_all (name_at names number ∷ [])
