-- Rows that are checked one by one, each against those before it.
use Rattle.std.specs.Prelude.{ℕ, Bool, List, ◌++◌, Result, Ok}
use Rattle.gl_lifting.specs.MapReading.{MapFault, bad_line, double_new, Row, first_bad, is_misplaced, is_double, refused_at, map_by}
use Rattle.gl_lifting.specs.NameMaps.{NameMap}

-- all rows, where the first of those behind others has this line; or the first of these that a test finds bad
abbrev pub checked : (List Row → Row → Bool) → (ℕ → MapFault) → ℕ → List Row → List Row → Result (List Row) MapFault
checked test fault number before rows = refused_at fault (first_bad test number before rows) (Ok (before ++ rows))

-- each row stands where it may
abbrev pub placed : ℕ → List Row → List Row → Result (List Row) MapFault
placed = checked is_misplaced bad_line

-- the map of rows, none of which has the new name of an earlier one
abbrev pub named : ℕ → List Row → List Row → Result NameMap MapFault
named number before rows = refused_at double_new (first_bad is_double number before rows) (Ok (map_by (before ++ rows)))
