-- Chains of X cards, each but the first in the subcircuit that the one before it calls.
use Rattle.std.specs.Prelude.{ℕ, zero, suc, Bool, true, not, List, map}
use Rattle.gl_text.specs.Decks.{Body, Sub}
use Rattle.gl_text.specs.Flattening.{at_depth, is_none_left}

-- a chain of so many X cards, whose last finds its subcircuit, begins with one of these cards
abbrev pub has_chain : List Sub → List Body → ℕ → Bool
has_chain subs cards zero = true
has_chain subs cards (suc n) = not (is_none_left (at_depth subs cards n))

-- for each subcircuit whether a chain of so many X cards begins in it
abbrev pub chains_of : List Sub → ℕ → List Bool
chains_of subs n = map (λ (s : Sub). has_chain subs s.cards n) subs
