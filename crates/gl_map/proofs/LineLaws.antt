-- The first line of a map, and the map of a text by its lines.
use Rattle.std.proofs.Common.{◌≡◌, ◌+◌, ◌≤◌, ◌<◌, ℕ, suc, List, [], ◌∷◌, length, map, take, drop, cond, eqb, true, false, Bool, Result, Err, refl, ap, ◌∙◌, arith, length-drop}
use Rattle.std.specs.Prelude.{◌==◌, not, codes}
use Rattle.std.specs.List.{position_or_len, onto_first, before_first, after_first}
use Rattle.gl_text.specs.LogicalLines.{same_text, trim_end, lines_of, title_of, after_title}
use Rattle.gl_lifting.specs.MapReading.{MapFault, bad_header, map_lines, map_by_lines, map_by_rows, read_map, row_of, words_of}
use Rattle.gl_lifting.specs.NameMaps.{NameMap}
use Rattle.gl_map.specs.Rows.{rows_in}

abbrev newline : ℕ → Bool
newline b = eqb b 10

-- a line in front of others, by its first byte
joined : (x : ℕ) (xs : List ℕ) → (0 < length xs → lines_of xs ≡ before_first newline xs ∷ lines_of (after_first newline xs)) → onto_first x (lines_of xs) ≡ (x ∷ before_first newline xs) ∷ lines_of (after_first newline xs)
joined x [] later = refl
joined x (y ∷ ys) later = ap (onto_first x) (later (omega arith))

abbrev SplitsAt : Bool → ℕ → List ℕ → Type 0
SplitsAt b x xs = let n = cond (not b) (1 + position_or_len newline xs) 0 in cond b ([] ∷ lines_of xs) (onto_first x (lines_of xs)) ≡ take n (x ∷ xs) ∷ lines_of (drop (suc n) (x ∷ xs))

split_by : (b : Bool) (x : ℕ) (xs : List ℕ) → (0 < length xs → lines_of xs ≡ before_first newline xs ∷ lines_of (after_first newline xs)) → SplitsAt b x xs
split_by true x xs later = refl
split_by false x xs later =
    let n = position_or_len newline xs in
    let next : n + 1 ≡ suc n = omega arith in
    let first : suc n ≡ 1 + n = omega arith in
    joined x xs later ∙ ap (λ k. (x ∷ take n xs) ∷ lines_of (drop k xs)) next ∙ ap (λ k. take k (x ∷ xs) ∷ lines_of (drop (suc k) (x ∷ xs))) first

-- the lines of a text with a byte are its first one and those behind it
pub first_line : (xs : List ℕ) → 0 < length xs → lines_of xs ≡ before_first newline xs ∷ lines_of (after_first newline xs)
first_line [] some = absurd (omega arith)
first_line (x ∷ xs) some =
    let n = position_or_len newline (x ∷ xs) in
    let next : suc n ≡ n + 1 = omega arith in
    split_by (newline x) x xs (first_line xs) ∙ ap (λ k. take n (x ∷ xs) ∷ lines_of (drop k (x ∷ xs))) next

pub first_map_line : (xs : List ℕ) → 0 < length xs → map_lines xs ≡ title_of xs ∷ map_lines (after_title xs)
first_map_line xs some = ap (map (trim_end (λ b. b == 13))) (first_line xs some)

pub first_row : (xs : List ℕ) → 0 < length xs → rows_in xs ≡ row_of (words_of (title_of xs)) ∷ rows_in (after_title xs)
first_row xs some = ap (map (λ l. row_of (words_of l))) (first_map_line xs some)

-- what is behind the first line is shorter
pub behind_shorter : (xs : List ℕ) → 0 < length xs → length (after_title xs) + 1 ≤ length xs
behind_shorter xs some = omega (arith, length-drop (position_or_len newline xs + 1) xs)

pub behind_within : (xs : List ℕ) → length (after_title xs) ≤ length xs
behind_within xs = omega (arith, length-drop (position_or_len newline xs + 1) xs)

-- the map of a text is that of the rows behind its header
abbrev pub behind_header : Bool → List ℕ → Result NameMap MapFault
behind_header b bytes = cond b (map_by_rows (rows_in bytes)) (Err bad_header)

pub read_by_header : (bytes : List ℕ) → read_map bytes ≡ behind_header (same_text (title_of bytes) (codes "gatelift map 1")) (after_title bytes)
read_by_header [] = refl
read_by_header (b ∷ bs) = ap map_by_lines (first_map_line (b ∷ bs) (omega arith))
