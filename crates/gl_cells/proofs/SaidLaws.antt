-- What is said of a cell, from the marks of the cells that are skipped.
use Rattle.std.proofs.Common.{◌≡◌, ◌∙◌, ℕ, List, Bool, Option, ap, length, map}
use Rattle.std.specs.Prelude.{option_to_list}
use Rattle.gl_text.specs.Decks.{Body, Sub, callees, find_sub}
use Rattle.gl_deck.specs.Places.{place_in}
use Rattle.gl_size.specs.Tallies.{has_mark}
use Rattle.gl_base.specs.Libraries.{Cell, Skip, cell_of, is_called, is_skipped_through, level_of, own_skip, skip_of, skipped_callee, uses_else}
use Rattle.gl_cells.specs.Outlines.{marked_callee, marks_through}
use Rattle.gl_cells.proofs.NameLaws.{find_same}
use Rattle.gl_cells.proofs.PlacedLaws.{mark_of}

marked_is : (f : Sub → Bool) (subs : List Sub) (cards : List Body) → marked_callee (map f subs) subs cards ≡ skipped_callee f subs cards
marked_is f subs cards =
    find_same (λ name. has_mark (map f subs) (option_to_list (place_in subs name))) (λ name. is_called f (find_sub subs name)) (callees cards) (mark_of f subs)

abbrev cell_by : ℕ → Option Skip → Cell
cell_by level skip = record { level = level; skip = skip }

-- its level, and why it is skipped by the marks of all
pub said : (subs : List Sub) (cell : Sub) (marks : List Bool) (level : ℕ) (skip : Option Skip)
    → marks ≡ marks_through subs (length subs) → level ≡ level_of subs cell → skip ≡ uses_else (own_skip cell) (marked_callee marks subs cell.cards)
    → cell_by level skip ≡ cell_of subs cell
said subs cell marks level skip m l s =
    let is : skip ≡ skip_of subs cell =
    s
    ∙ ap (λ (ms : List Bool). uses_else (own_skip cell) (marked_callee ms subs cell.cards)) m
    ∙ ap (uses_else (own_skip cell)) (marked_is (is_skipped_through subs (length subs)) subs cell.cards)
    in
    ap (λ n. cell_by n skip) l ∙ ap (cell_by (level_of subs cell)) is
