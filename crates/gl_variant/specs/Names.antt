-- Names of variants, and what is kept of them while they are given. This project's own.
use Rattle.std.specs.Prelude.{◌≡◌, ℕ, List, map, filter, length, Option, unwrap_or}
use Rattle.std.specs.List.{count_by, range_with_len}
use Rattle.std.specs.Map.{lookup}
use Rattle.gl_text.specs.LogicalLines.{same_text}
use Rattle.gl_lifting.specs.Variants.{Variant, variant_name, is_not_top}

-- of `CELL_v1` to `CELL_vN`, those that are not the top's
abbrev pub named_to : Option (List ℕ) → List ℕ → ℕ → List (List ℕ)
named_to top cell n = filter (is_not_top top) (map (variant_name cell) (range_with_len 1 n))

-- how many variants are of the cell of a name
abbrev pub count_of : List ℕ → List Variant → ℕ
count_of cell before = count_by (λ (v : Variant). same_text cell v.cell.head.name) before

-- the last number that was given to a variant of a cell; 0 before the first
abbrev pub last_of : List (List ℕ × ℕ) → List ℕ → ℕ
last_of lasts cell = unwrap_or (lookup (same_text cell) lasts) 0

-- of each cell as many names were passed over or given as the last number says
abbrev pub AreGiven : Option (List ℕ) → List Variant → List (List ℕ × ℕ) → Type 0
AreGiven top before lasts = (cell : List ℕ) → length (named_to top cell (last_of lasts cell)) ≡ count_of cell before
