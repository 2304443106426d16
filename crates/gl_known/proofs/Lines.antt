-- The logical lines of a file are together no longer than its bytes.
use Rattle.std.proofs.Common.{codes, ◌≡◌, ◌≤◌, ◌+◌, ℕ, suc, List, [], ◌∷◌, length, drop, map, cond, eqb, ltb, Bool, true, false, Ok, Err, refl, arith}
use Rattle.std.specs.Prelude.{not, filter, flat_map, sum_by}
use Rattle.std.specs.List.{onto_first, position_or_len}
use Rattle.std.proofs.lemmas.List.{length-append, length-drop}
use Rattle.std.proofs.lemmas.Bool.{ltb-true, and_parts}
use Rattle.gl_text.specs.LogicalLines.{LINE, long_line, begins, trim_end, is_blank, Line, lines_of, after_title, trimmed_from, is_kept, is_more, grouped, joined, up_to_end, up_to_long, logical_of, kept_lines, logical_lines, first_field, same_text}
use Rattle.gl_text.specs.Decks.{file_lines}
use Rattle.gl_known.specs.Known.{line_size}
use Rattle.gl_known.proofs.Totals.{total, total_is, length-flat_map}
use Rattle.gl_text.proofs.Trims.{front_shorter, end_shorter}

-- ---- lines

shorter : (t : Bool) (n : ℕ) (xs ys : List (List ℕ)) → total length xs ≤ n → total length ys ≤ n → total length (cond t xs ys) ≤ n
shorter true n xs ys p q = p
shorter false n xs ys p q = q

first_longer : (b : ℕ) (ls : List (List ℕ)) → total length (onto_first b ls) ≤ suc (total length ls)
first_longer b [] = omega arith
first_longer b (l ∷ ls) = omega arith

lines_short : (bytes : List ℕ) → total length (lines_of bytes) ≤ length bytes
lines_short [] = omega arith
lines_short (b ∷ bs) = let h = lines_short bs in let f = first_longer b (lines_of bs) in shorter (eqb b 10) (suc (length bs)) ([] ∷ lines_of bs) (onto_first b (lines_of bs)) (omega arith) (omega arith)

-- ---- kept lines

abbrev text_size : Line → ℕ
text_size l = length l.text

-- what a line adds to those before it
abbrev more_size : Line → ℕ
more_size l = suc (length (drop 1 l.text))

trimmed_short : (n : ℕ) (ls : List (List ℕ)) → total text_size (trimmed_from n ls) ≤ total length ls
trimmed_short n [] = omega arith
trimmed_short n (l ∷ ls) =
    let f = front_shorter is_blank (trim_end is_blank l) in let e = end_shorter is_blank l in let h = trimmed_short (n + 1) ls in omega arith

some_same : (l : Line) → is_kept l ≡ true → more_size l ≤ length l.text
some_same l h = let s = ltb-true 0 (length l.text) (and_parts (ltb 0 (length l.text)) (not (begins 42 l.text)) h).0 in let d = length-drop 1 l.text in omega arith

kept_by : (l : Line) (ls : List Line) (t : Bool) → is_kept l ≡ t → total more_size (cond t (l ∷ ls) ls) ≤ length l.text + total more_size ls
kept_by l ls true e = let s = some_same l e in omega arith
kept_by l ls false e = omega arith

kept_short : (ls : List Line) → total more_size (filter is_kept ls) ≤ total text_size ls
kept_short [] = omega arith
kept_short (l ∷ ls) = let k = kept_by l (filter is_kept ls) (is_kept l) refl in let h = kept_short ls in omega arith

-- ---- groups

onto_same : (l : Line) (gs : List (List Line)) → total (total more_size) (onto_first l gs) ≡ more_size l + total (total more_size) gs
onto_same l [] = omega arith
onto_same l (g ∷ gs) = omega arith

grouped_same : (ls : List Line) → total (total more_size) (grouped ls) ≡ total more_size ls
grouped_same [] = refl
grouped_same (l ∷ ls) = by (is_more l) (grouped_same ls) where
  by : (t : Bool) → total (total more_size) (grouped ls) ≡ total more_size ls → total (total more_size) (cond t (onto_first l (grouped ls)) ([] ∷ onto_first l (grouped ls))) ≡ more_size l + total more_size ls
  by true h = let o = onto_same l (grouped ls) in omega arith
  by false h = let o = onto_same l (grouped ls) in omega arith

joined_short : (g : List Line) → length (joined g).text ≤ total more_size g
joined_short [] = omega arith
joined_short (l ∷ ls) =
    let a = length-append l.text (flat_map (λ (m : Line). 32 ∷ drop 1 m.text) ls) in let f = length-flat_map (λ (m : Line). 32 ∷ drop 1 m.text) ls in let d = length-drop 1 l.text in omega arith

all_joined_short : (gs : List (List Line)) → total text_size (map joined gs) ≤ total (total more_size) gs
all_joined_short [] = omega arith
all_joined_short (g ∷ gs) = let j = joined_short g in let h = all_joined_short gs in omega arith

-- ---- cuts

to_end_short : (ls : List Line) → total text_size (up_to_end ls) ≤ total text_size ls
to_end_short [] = omega arith
to_end_short (l ∷ ls) = by (same_text (first_field l.text) (codes ".end")) (to_end_short ls) where
  by : (t : Bool) → total text_size (up_to_end ls) ≤ total text_size ls → total text_size (l ∷ cond t [] (up_to_end ls)) ≤ total text_size (l ∷ ls)
  by true h = omega arith
  by false h = omega arith

to_long_short : (ls : List Line) → total line_size (up_to_long ls) ≤ total text_size ls
to_long_short [] = omega arith
to_long_short (l ∷ ls) = by (ltb LINE (length l.text)) (to_long_short ls) where
  by : (t : Bool) → total line_size (up_to_long ls) ≤ total text_size ls → total line_size (cond t (Err (long_line l.line (length l.text)) ∷ []) (Ok l ∷ up_to_long ls)) ≤ total text_size (l ∷ ls)
  by true h = omega arith
  by false h = omega arith

logical_short : (gs : List (List Line)) → total line_size (logical_of gs) ≤ total (total more_size) gs
logical_short [] = omega arith
logical_short ([] ∷ gs) =
    let l = to_long_short (up_to_end (map joined gs)) in let e = to_end_short (map joined gs) in let j = all_joined_short gs in omega arith
logical_short ((l ∷ ls) ∷ gs) = omega arith

numbered_short : (n : ℕ) (bytes : List ℕ) → total line_size (logical_lines n bytes) ≤ length bytes
numbered_short n bytes =
    let a = lines_short bytes in
    let b = trimmed_short n (lines_of bytes) in
    let c = kept_short (trimmed_from n (lines_of bytes)) in
    let d = grouped_same (kept_lines n bytes) in
    let e = logical_short (grouped (kept_lines n bytes)) in
    omega arith

pub file_short : (has_title : Bool) (bytes : List ℕ) → total line_size (file_lines has_title bytes) ≤ length bytes
file_short true bytes = let h = numbered_short 2 (after_title bytes) in let d = length-drop (position_or_len (λ b. eqb b 10) bytes + 1) bytes in omega arith
file_short false bytes = numbered_short 1 bytes

pub together : (has_title : Bool) (bytes : List ℕ) → sum_by line_size (file_lines has_title bytes) ≤ length bytes
together has_title bytes = let h = file_short has_title bytes in let t = total_is line_size (file_lines has_title bytes) in omega arith
