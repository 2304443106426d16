-- What a flat deck has of its deck.
use Rattle.std.specs.Prelude.{◌≡◌, ◌≤◌, ℕ, List, length}
use Rattle.gl_text.specs.Decks.{Deck}
use Rattle.gl_text.specs.Flattening.{TEXT, Flat, flat_text}

-- rails as they were given, the deck's models, and a text that is no longer than a file may be
pub record IsFlatOf (deck : Deck) (rails : List (List ℕ)) (flat : Flat) : Type 0 where
  pub rails_are : flat.rails ≡ rails
  pub models_are : flat.models ≡ deck.models
  pub short : length (flat_text flat) ≤ TEXT
