-- Logical lines: each is one line, not too long, and behind the one before it.
use Rattle.std.proofs.Common.{◌≡◌, ◌≤◌, ◌+◌, ℕ, List, [], ◌∷◌, length, drop, map, cond, eqb, ltb, false, Bool, Result, Ok, Err, refl, arith, filter, flat_map, ltb-false}
use Rattle.std.specs.List.{AllByRecursion, onto_first}
use Rattle.gl_text.specs.LogicalLines.{LINE, Fault, long_line, Line, is_blank, trim_end, trim_front, same_text, first_field, lines_of, trimmed_from, is_kept, is_more, grouped, joined, up_to_end, up_to_long, logical_of, kept_lines, logical_lines}
use Rattle.std.specs.Prelude.{codes}
use Rattle.gl_text.specs.WayBack.{IsOneLine}
use Rattle.gl_lists.proofs.Each.{by_cond, each_append, each_drop}
use Rattle.gl_printed.proofs.Bytes.{each_end, each_front}

abbrev Stays : ℕ → Type 0
Stays b = eqb b 10 ≡ false

onto_one : (b : ℕ) → Stays b → (ls : List (List ℕ)) → AllByRecursion IsOneLine ls → AllByRecursion IsOneLine (onto_first b ls)
onto_one b q [] h = ((q, tt), tt)
onto_one b q (l ∷ ls) h = ((q, h.0), h.1)

lines_one : (bytes : List ℕ) → AllByRecursion IsOneLine (lines_of bytes)
lines_one [] = tt
lines_one (b ∷ bs) = by_cond (AllByRecursion IsOneLine) (eqb b 10) ([] ∷ lines_of bs) (onto_first b (lines_of bs)) (λ e. (tt, lines_one bs)) (λ e. onto_one b e (lines_of bs) (lines_one bs))

-- lines in order from line n on
abbrev pub Raw : ℕ → List Line → Type 0
Raw n [] = Unit {0}
Raw n (l ∷ ls) = (n ≤ l.line) × IsOneLine l.text × Raw (l.line + 1) ls

raw : (n : ℕ) (l : Line) (ls : List Line) → n ≤ l.line → IsOneLine l.text → Raw (l.line + 1) ls → Raw n (l ∷ ls)
raw n l ls a b c = (a, b, c)

weaker : (m n : ℕ) (ls : List Line) → m ≤ n → Raw n ls → Raw m ls
weaker m n [] l h = tt
weaker m n (x ∷ ls) l h = let a = h.0 in raw m x ls (omega arith) h.1 h.2

trimmed_raw : (n : ℕ) (ls : List (List ℕ)) → AllByRecursion IsOneLine ls → Raw n (trimmed_from n ls)
trimmed_raw n [] h = tt
trimmed_raw n (l ∷ ls) h = raw n (record { line = n; text = trim_front is_blank (trim_end is_blank l) }) (trimmed_from (n + 1) ls) (omega arith) (each_front Stays is_blank (trim_end is_blank l) (each_end Stays is_blank l h.0)) (trimmed_raw (n + 1) ls h.1)

filter_raw : (t : Line → Bool) (n : ℕ) (ls : List Line) → Raw n ls → Raw n (filter t ls)
filter_raw t n [] h = tt
filter_raw t n (l ∷ ls) h = let a = h.0 in by_cond (Raw n) (t l) (l ∷ filter t ls) (filter t ls)
    (λ e. raw n l (filter t ls) h.0 h.1 (filter_raw t (l.line + 1) ls h.2)) (λ e. weaker n (l.line + 1) (filter t ls) (omega arith) (filter_raw t (l.line + 1) ls h.2))

-- ---- groups

abbrev Lined : List Line → Type 0
Lined ls = AllByRecursion (λ (l : Line). IsOneLine l.text) ls

abbrev Groups : ℕ → List (List Line) → Type 0
Groups n [] = Unit {0}
Groups n (g ∷ gs) = Lined g × Raw n (map joined gs)

more_line : (ls : List Line) → Lined ls → IsOneLine (flat_map (λ (m : Line). 32 ∷ drop 1 m.text) ls)
more_line [] h = tt
more_line (l ∷ ls) h = each_append Stays (32 ∷ drop 1 l.text) (flat_map (λ (m : Line). 32 ∷ drop 1 m.text) ls) (refl, each_drop Stays 1 l.text h.0) (more_line ls h.1)

joined_line : (l : Line) (ls : List Line) → IsOneLine l.text → Lined ls → IsOneLine (joined (l ∷ ls)).text
joined_line l ls o h = each_append Stays l.text (flat_map (λ (m : Line). 32 ∷ drop 1 m.text) ls) o (more_line ls h)

onto_more : (n : ℕ) (l : Line) (gs : List (List Line)) → n ≤ l.line → IsOneLine l.text → Groups (l.line + 1) gs → Groups n (onto_first l gs)
onto_more n l [] a o h = ((o, tt), tt)
onto_more n l (g ∷ gs) a o h = ((o, h.0), weaker n (l.line + 1) (map joined gs) (omega arith) h.1)

onto_new : (n : ℕ) (l : Line) (gs : List (List Line)) → n ≤ l.line → IsOneLine l.text → Groups (l.line + 1) gs → Groups n ([] ∷ onto_first l gs)
onto_new n l [] a o h = (tt, raw n (joined (l ∷ [])) [] a (joined_line l [] o tt) tt)
onto_new n l (g ∷ gs) a o h = (tt, raw n (joined (l ∷ g)) (map joined gs) a (joined_line l g o h.0) h.1)

groups_raw : (n : ℕ) (ls : List Line) → Raw n ls → Groups n (grouped ls)
groups_raw n [] h = (tt, tt)
groups_raw n (l ∷ ls) h = let ih = groups_raw (l.line + 1) ls h.2 in by_cond (Groups n) (is_more l) (onto_first l (grouped ls)) ([] ∷ onto_first l (grouped ls))
    (λ e. onto_more n l (grouped ls) h.0 h.1 ih) (λ e. onto_new n l (grouped ls) h.0 h.1 ih)

-- ---- logical lines

end_raw : (n : ℕ) (ls : List Line) → Raw n ls → Raw n (up_to_end ls)
end_raw n [] h = tt
end_raw n (l ∷ ls) h = raw n l (cond (same_text (first_field l.text) (codes ".end")) [] (up_to_end ls)) h.0 h.1
    (by_cond (Raw (l.line + 1)) (same_text (first_field l.text) (codes ".end")) [] (up_to_end ls) (λ e. tt) (λ e. end_raw (l.line + 1) ls h.2))

-- lines to be read, in order from line n on
abbrev pub InOrder : ℕ → List (Result Line Fault) → Type 0
InOrder n [] = Unit {0}
InOrder n (Err f ∷ rs) = Unit {0}
InOrder n (Ok l ∷ rs) = (n ≤ l.line) × IsOneLine l.text × (length l.text ≤ LINE) × InOrder (l.line + 1) rs

in_order : (n : ℕ) (l : Line) (rs : List (Result Line Fault)) → n ≤ l.line → IsOneLine l.text → length l.text ≤ LINE → InOrder (l.line + 1) rs → InOrder n (Ok l ∷ rs)
in_order n l rs a b c d = (a, b, c, d)

long_raw : (n : ℕ) (ls : List Line) → Raw n ls → InOrder n (up_to_long ls)
long_raw n [] h = tt
long_raw n (l ∷ ls) h = by_cond (InOrder n) (ltb LINE (length l.text)) (Err (long_line l.line (length l.text)) ∷ []) (Ok l ∷ up_to_long ls)
    (λ e. tt) (λ e. in_order n l (up_to_long ls) h.0 h.1 (ltb-false LINE (length l.text) e) (long_raw (l.line + 1) ls h.2))

logical_order : (n : ℕ) (gs : List (List Line)) → Groups n gs → InOrder n (logical_of gs)
logical_order n [] h = tt
logical_order n ([] ∷ gs) h = long_raw n (up_to_end (map joined gs)) (end_raw n (map joined gs) h.1)
logical_order n ((l ∷ ls) ∷ gs) h = tt

pub lines_in_order : (n : ℕ) (bytes : List ℕ) → InOrder n (logical_lines n bytes)
lines_in_order n bytes = logical_order n (grouped (kept_lines n bytes)) (groups_raw n (kept_lines n bytes) (filter_raw is_kept n (trimmed_from n (lines_of bytes)) (trimmed_raw n (lines_of bytes) (lines_one bytes))))
