-- What a deck may not expand to, and how deep.
use Rattle.std.specs.Prelude.{◌≡◌, ℕ, ◌+◌, Bool, List}
use Rattle.std.specs.List.{IsDistinct}
use Rattle.gl_text.specs.LogicalLines.{Fault, same_text, too_deep, too_many_cards, too_many_devices}
use Rattle.gl_text.specs.Decks.{Sub}
use Rattle.gl_text.specs.Flattening.{DEPTH, CARDS, DEVICES}
use Rattle.gl_deck.specs.Bodies.{names_of}
use Rattle.gl_size.specs.declared.counted.Counted.TheVariants as counted
use Rattle.gl_size.specs.declared.excess.Excess.{Excess}
use Rattle.gl_size.specs.declared.excess.Excess.TheVariants as excess
use Rattle.gl_size.specs.Chains.{chains_of}
use Rattle.gl_size.specs.Counts.{counts_of}

-- what each subcircuit counts, and whether a chain of as many X cards as there may be begins in it
pub record Sizes : Type 0 where
  pub cards : List ℕ
  pub devices : List ℕ
  pub deep : List Bool

-- those of these subcircuits
abbrev pub sizes_of : List Sub → Sizes
sizes_of subs = record { cards = counts_of counted.Cards subs DEPTH; devices = counts_of counted.Devices subs DEPTH; deep = chains_of subs DEPTH }

-- sizes of these subcircuits, whose names differ
pub record AreSizes (subs : List Sub) (given : Sizes) : Type 0 where
  pub sizes : given ≡ sizes_of subs
  pub names_differ : IsDistinct same_text (names_of subs)

-- the refusal of flattening
abbrev pub fault_of_excess : Excess → Fault
fault_of_excess excess.TooDeep = too_deep (DEPTH + 1)
fault_of_excess excess.TooManyCards = too_many_cards (CARDS + 1)
fault_of_excess excess.TooManyDevices = too_many_devices (DEVICES + 1)
