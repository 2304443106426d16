-- What is kept of a cell to find its level and whether it is skipped, by the places of the cells in their list.
use Rattle.std.specs.Prelude.{ℕ, suc, ◌||◌, Bool, List, map, find, Option, is_some, option_to_list, slice_index}
use Rattle.gl_text.specs.Decks.{Body, Sub, callees}
use Rattle.gl_deck.specs.Places.{place_in, calls_of}
use Rattle.gl_size.specs.Tallies.{has_mark}
use Rattle.gl_base.specs.Libraries.{greatest, level_through, own_skip, is_skipped_through}

-- whether it is skipped by itself, and the places of the cells that it calls, as often as it calls them
pub record Outline : Type 0 where
  pub skipped : Bool
  pub calls : List ℕ

abbrev pub outline_of : List Sub → Sub → Outline
outline_of subs cell = record { skipped = is_some (own_skip cell); calls = calls_of subs cell.cards }

-- those of all cells
abbrev pub outlines_of : List Sub → List Outline
outlines_of subs = map (outline_of subs) subs

-- the level of a cell, by the levels of all
abbrev pub level_by : List ℕ → Outline → ℕ
level_by levels o = greatest (map (λ place. suc (slice_index levels place)) o.calls)

-- whether a cell is skipped, by whether each is
abbrev pub is_skipped_by : List Bool → Outline → Bool
is_skipped_by marks o = o.skipped || has_mark marks o.calls

-- the level of each cell, through at most so many calls
abbrev pub levels_through : List Sub → ℕ → List ℕ
levels_through subs calls = map (level_through subs calls) subs

-- whether each cell is skipped, through fewer than so many calls
abbrev pub marks_through : List Sub → ℕ → List Bool
marks_through subs calls = map (is_skipped_through subs calls) subs

-- the first cell that cards call and that is skipped, by whether each is
abbrev pub marked_callee : List Bool → List Sub → List Body → Option (List ℕ)
marked_callee marks subs cards = find (λ name. has_mark marks (option_to_list (place_in subs name))) (callees cards)
