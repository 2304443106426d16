-- What a line of a map says, as the code has it.
use Rattle.std.specs.Prelude.{ℕ, List, map, Option, Some, None}
use Rattle.gl_lifting.specs.MapReading as reading
use Rattle.gl_lifting.specs.MapReading.{row_of, words_of, map_lines}
use Rattle.gl_map.specs.declared.row.Row.{Row}
use Rattle.gl_map.specs.declared.row.Row.TheVariants as rows

-- the row
abbrev pub row_value : Row → reading.Row
row_value (rows.Device new old) = reading.of_device new.now old.now
row_value (rows.Net new old) = reading.of_net new.now old.now
row_value rows.End = reading.ending

-- nothing is the row that may not stand
abbrev pub row_seen : Option Row → reading.Row
row_seen None = reading.other
row_seen (Some row) = row_value row

-- the rows of all lines
abbrev pub rows_in : List ℕ → List reading.Row
rows_in bytes = map (λ l. row_of (words_of l)) (map_lines bytes)
