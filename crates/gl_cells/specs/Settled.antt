-- Levels and skipped cells told by the cells that are called, however many calls are between. This project's own.
use Rattle.std.specs.Prelude.{◌≡◌, map, is_some, List}
use Rattle.gl_text.specs.Decks.{Sub, callees, find_sub}
use Rattle.gl_base.specs.Libraries.{above, greatest, level_of, skip_by, skip_of}

-- a cell's level is one more than the greatest level that it calls
abbrev pub HasSettledLevel : List Sub → Sub → Type 0
HasSettledLevel subs s = level_of subs s ≡ greatest (map (λ name. above (level_of subs) (find_sub subs name)) (callees s.cards))

-- a cell is skipped by itself, or since it calls a skipped cell
abbrev pub HasSettledSkip : List Sub → Sub → Type 0
HasSettledSkip subs s = skip_of subs s ≡ skip_by (λ t. is_some (skip_of subs t)) subs s
