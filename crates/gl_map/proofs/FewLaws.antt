-- A map has no more lines than bytes.
use Rattle.std.proofs.Common.{◌≡◌, ◌+◌, ◌≤◌, ℕ, suc, List, [], ◌∷◌, length, cond, eqb, true, false, Bool, Ok, subst, arith}
use Rattle.std.proofs.lemmas.List.{length-map}
use Rattle.std.specs.List.{onto_first}
use Rattle.gl_text.specs.LogicalLines.{lines_of, trim_end, after_title}
use Rattle.gl_lifting.specs.NameMaps.{NameMap}
use Rattle.gl_lifting.specs.MapReading.{Row, of_device, of_net, ending, other, map_lines, map_by, read_map, row_of, words_of}
use Rattle.gl_map.specs.Rows.{rows_in}
use Rattle.gl_map.proofs.LineLaws.{behind_within}
use Rattle.gl_map.proofs.DoubleLaws.{devices_in, nets_in}
use Rattle.gl_map.proofs.NamedLaws.{map_is, rows_are}

onto_few : (b : ℕ) (lines : List (List ℕ)) (n : ℕ) → length lines ≤ n → length (onto_first b lines) ≤ suc n
onto_few b [] n h = omega arith
onto_few b (l ∷ ls) n h = omega (arith, h)

by_first : (c : Bool) (b : ℕ) (lines : List (List ℕ)) (n : ℕ) → length lines ≤ n → length (cond c ([] ∷ lines) (onto_first b lines)) ≤ suc n
by_first true b lines n h = omega (arith, h)
by_first false b lines n h = onto_few b lines n h

few_lines : (bytes : List ℕ) → length (lines_of bytes) ≤ length bytes
few_lines [] = omega arith
few_lines (b ∷ bs) = by_first (eqb b 10) b (lines_of bs) (length bs) (few_lines bs)

pub few_rows : (bytes : List ℕ) → length (rows_in bytes) ≤ length bytes
few_rows bytes = omega (arith, few_lines bytes, length-map (map_lines bytes) (λ l. row_of (words_of l)), length-map (lines_of bytes) (trim_end (λ b. eqb b 13)))

pub few_names : (rows : List Row) → length (devices_in rows) + length (nets_in rows) ≤ length rows
few_names [] = omega arith
few_names (of_device n o ∷ rows) = omega (arith, few_names rows)
few_names (of_net n o ∷ rows) = omega (arith, few_names rows)
few_names (ending ∷ rows) = omega (arith, few_names rows)
few_names (other ∷ rows) = omega (arith, few_names rows)

abbrev IsFew : ℕ → NameMap → Type 0
IsFew n m = length m.devices + length m.nets ≤ n

pub read_is_few : (bytes : List ℕ) (m : NameMap) → read_map bytes ≡ Ok m → length m.devices + length m.nets ≤ length bytes
read_is_few bytes m e =
    let rows = rows_in (after_title bytes) in
    let p = map_is rows m (rows_are bytes m e) in
    let few : IsFew (length rows) (map_by rows) = few_names rows in
    let here : IsFew (length rows) m = subst (IsFew (length rows)) p.1 few in
    omega (arith, here, few_rows (after_title bytes), behind_within bytes)
