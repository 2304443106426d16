-- The line of a card, by its parts.
use Rattle.std.specs.Prelude.{ℕ, List, ◌∷◌, ◌++◌, flat_map, option_to_list}
use Rattle.std.specs.List.{join_with_byte}
use Rattle.std.specs.Option.{option_copied}
use Rattle.gl_text.specs.Cards.{spaced}
use Rattle.gl_card.specs.declared.line.Parts.{Parts}

-- each word behind a space
abbrev pub spaced_all : List (List ℕ) → List ℕ
spaced_all words = flat_map (λ (w : List ℕ). 32 ∷ w) words

-- the words with one space between each two, and the tail behind a space if it is not empty
abbrev pub line_of : Parts → List ℕ
line_of p = join_with_byte 32 (p.first.now ∷ option_to_list (option_copied p.one) ++ p.many.now ++ option_to_list (option_copied p.last)) ++ spaced p.tail.now
