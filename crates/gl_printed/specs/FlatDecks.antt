-- Flat decks as decks, and the way back of their texts.
use Rattle.std.specs.Prelude.{◌≡◌, ℕ, true, false, List, [], ◌∷◌, map, Option, None, Some, Ok, codes}
use Rattle.std.specs.List.{AllByRecursion}
use Rattle.gl_text.specs.Cards.{Head, global}
use Rattle.gl_text.specs.Decks.{Body, dev_at, Sub, Deck, is_in, read_deck}
use Rattle.gl_text.specs.Flattening.{FlatDevice, Flat, flat_card, flat_text}
use Rattle.gl_printed.specs.ReadCards.{IsFine}
use Rattle.gl_printed.specs.ReadDecks.{AllDiffer, unnumbered}

-- names that can be rails: fine, no two the same, and none is `0`
pub record AreRails (names : List (List ℕ)) : Type 0 where
  pub fine : AllByRecursion (λ n. IsFine (global (n ∷ []))) names
  pub differ : AllDiffer names
  pub no_zero : is_in (codes "0") names ≡ false

-- flat devices as cards of no line
abbrev pub flat_cards : List FlatDevice → List Body
flat_cards devices = map (λ d. dev_at 0 (flat_card d)) devices

-- where a subcircuit is the top, the devices stand in it
abbrev pub subs_around : Option Head → List Body → List Sub
subs_around None cards = []
subs_around (Some head) cards = record { line = 0; head = head; cards = cards } ∷ []

-- where a subcircuit is the top, no device stands outside it
abbrev pub top_without : Option Head → List Body → List Body
top_without None cards = cards
top_without (Some head) cards = []

-- a flat deck as a deck, its rails as globals
abbrev pub deck_of : Flat → Deck
deck_of f = record { title = f.title; globals = f.rails; models = f.models; subs = subs_around f.top (flat_cards f.devices); top = top_without f.top (flat_cards f.devices); passed = f.passed }

-- the text of a flat deck, read with a title, is that deck but for line numbers
pub record FlatReadsBack (flat : Flat) : Type 0 where
  pub again : Deck
  pub is_read : read_deck true (flat_text flat) ≡ Ok again
  pub is_same : unnumbered again ≡ deck_of flat
