-- What a deck's cards count, by what is counted. The counts are those of flattening.
use Rattle.std.specs.Prelude.{ℕ, ◌+◌, List, map, min}
use Rattle.gl_text.specs.Decks.{Body, Sub}
use Rattle.gl_text.specs.Flattening.{CARDS, DEVICES, one, one_device, sizes}
use Rattle.gl_size.specs.declared.counted.Counted.{Counted}
use Rattle.gl_size.specs.declared.counted.Counted.TheVariants as counted

-- what a card counts for itself
abbrev pub own_of : Counted → Body → ℕ
own_of counted.Cards = one
own_of counted.Devices = one_device

-- one more than there may be
abbrev pub most_of : Counted → ℕ
most_of counted.Cards = CARDS + 1
most_of counted.Devices = DEVICES + 1

-- what each subcircuit counts through at most so many X cards, or one more than there may be where that's less
abbrev pub counts_of : Counted → List Sub → ℕ → List ℕ
counts_of kind subs depth = map (λ e. min e.1 (most_of kind)) (sizes (own_of kind) subs depth)
