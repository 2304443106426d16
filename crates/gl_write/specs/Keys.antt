-- How what a card of a variant carries is kept.
use Rattle.std.specs.Prelude.{ℕ}
use Rattle.std.specs.Option.{option_copied}
use Rattle.gl_lifting.specs.Variants.{Carried, sized, built}
use Rattle.gl_write.specs.declared.carried.Matched.{Matched}
use Rattle.gl_write.specs.declared.carried.Matched.TheVariants as matched

-- what a card carries, by its turn and what it was matched with
abbrev pub carried_by : ℕ → Matched → Carried
carried_by turn (matched.Device model tail) = sized turn (option_copied model) tail.now
carried_by turn (matched.Variant number) = built turn number
