-- The numbers of logical lines ascend.
use Rattle.std.proofs.Common.{codes, ◌≤◌, ◌+◌, ℕ, suc, List, [], ◌∷◌, length, map, cond, ltb, Bool, true, false, Result, Ok, Err, arith}
use Rattle.std.specs.Prelude.{filter}
use Rattle.std.specs.List.{onto_first}
use Rattle.gl_text.specs.LogicalLines.{LINE, Fault, long_line, Line, lines_of, after_title, trimmed_from, is_kept, is_more, grouped, joined, up_to_end, up_to_long, logical_of, kept_lines, logical_lines, first_field, same_text}
use Rattle.gl_text.specs.Decks.{file_lines}

-- each line is at least n, and each is above the one before
abbrev Rising : ℕ → List Line → Type 0
Rising n [] = Unit {0}
Rising n (l ∷ ls) = (n ≤ l.line) × Rising (suc l.line) ls

lower : (m n : ℕ) → m ≤ n → (ls : List Line) → Rising n ls → Rising m ls
lower m n le [] h = tt
lower m n le (l ∷ ls) h = (omega (arith, h.0), h.1)

trimmed_rise : (n : ℕ) (ls : List (List ℕ)) → Rising n (trimmed_from n ls)
trimmed_rise n [] = tt
trimmed_rise n (l ∷ ls) = (omega arith, lower (suc n) (n + 1) (omega arith) (trimmed_from (n + 1) ls) (trimmed_rise (n + 1) ls))

kept_by : (n : ℕ) (l : Line) (ls : List Line) (t : Bool) → n ≤ l.line → Rising (suc l.line) ls → Rising n (cond t (l ∷ ls) ls)
kept_by n l ls true le h = (le, h)
kept_by n l ls false le h = lower n (suc l.line) (omega arith) ls h

kept_rise : (n : ℕ) (ls : List Line) → Rising n ls → Rising n (filter is_kept ls)
kept_rise n [] h = tt
kept_rise n (l ∷ ls) h = kept_by n l (filter is_kept ls) (is_kept l) h.0 (kept_rise (suc l.line) ls h.1)

-- ---- groups: the heads of all but the first

abbrev RisingHeads : ℕ → List (List Line) → Type 0
RisingHeads n [] = Unit {0}
RisingHeads n ([] ∷ gs) = ⊥
RisingHeads n ((l ∷ ls) ∷ gs) = (n ≤ l.line) × RisingHeads (suc l.line) gs

abbrev RisingGroups : ℕ → List (List Line) → Type 0
RisingGroups n [] = Unit {0}
RisingGroups n (g ∷ gs) = RisingHeads n gs

lower_heads : (m n : ℕ) → m ≤ n → (gs : List (List Line)) → RisingHeads n gs → RisingHeads m gs
lower_heads m n le [] h = tt
lower_heads m n le ([] ∷ gs) h = absurd h
lower_heads m n le ((l ∷ ls) ∷ gs) h = (omega (arith, h.0), h.1)

grouped_by : (n : ℕ) (l : Line) (gs : List (List Line)) (t : Bool) → n ≤ l.line → RisingGroups (suc l.line) gs → RisingGroups n (cond t (onto_first l gs) ([] ∷ onto_first l gs))
grouped_by n l [] true le h = tt
grouped_by n l [] false le h = (le, tt)
grouped_by n l (g ∷ gs) true le h = lower_heads n (suc l.line) (omega arith) gs h
grouped_by n l (g ∷ gs) false le h = (le, h)

grouped_rise : (n : ℕ) (ls : List Line) → Rising n ls → RisingGroups n (grouped ls)
grouped_rise n [] h = tt
grouped_rise n (l ∷ ls) h = grouped_by n l (grouped ls) (is_more l) h.0 (grouped_rise (suc l.line) ls h.1)

joined_rise : (n : ℕ) (gs : List (List Line)) → RisingHeads n gs → Rising n (map joined gs)
joined_rise n [] h = tt
joined_rise n ([] ∷ gs) h = absurd h
joined_rise n ((l ∷ ls) ∷ gs) h = (h.0, joined_rise (suc l.line) gs h.1)

-- ---- cuts

end_by : (n : ℕ) (l : Line) (ls : List Line) (t : Bool) → n ≤ l.line → Rising (suc l.line) ls → Rising n (l ∷ cond t [] ls)
end_by n l ls true le h = (le, tt)
end_by n l ls false le h = (le, h)

to_end_rise : (n : ℕ) (ls : List Line) → Rising n ls → Rising n (up_to_end ls)
to_end_rise n [] h = tt
to_end_rise n (l ∷ ls) h = end_by n l (up_to_end ls) (same_text (first_field l.text) (codes ".end")) h.0 (to_end_rise (suc l.line) ls h.1)

-- the same of lines up to the first refusal
abbrev pub RisingLines : ℕ → List (Result Line Fault) → Type 0
RisingLines n [] = Unit {0}
RisingLines n (Err f ∷ ls) = Unit {0}
RisingLines n (Ok l ∷ ls) = (n ≤ l.line) × RisingLines (suc l.line) ls

long_by : (n : ℕ) (l : Line) (ls : List (Result Line Fault)) (t : Bool) → n ≤ l.line → RisingLines (suc l.line) ls → RisingLines n (cond t (Err (long_line l.line (length l.text)) ∷ []) (Ok l ∷ ls))
long_by n l ls true le h = tt
long_by n l ls false le h = (le, h)

to_long_rise : (n : ℕ) (ls : List Line) → Rising n ls → RisingLines n (up_to_long ls)
to_long_rise n [] h = tt
to_long_rise n (l ∷ ls) h = long_by n l (up_to_long ls) (ltb LINE (length l.text)) h.0 (to_long_rise (suc l.line) ls h.1)

logical_rise : (n : ℕ) (gs : List (List Line)) → RisingGroups n gs → RisingLines n (logical_of gs)
logical_rise n [] h = tt
logical_rise n ([] ∷ gs) h = to_long_rise n (up_to_end (map joined gs)) (to_end_rise n (map joined gs) (joined_rise n gs h))
logical_rise n ((l ∷ ls) ∷ gs) h = tt

numbered_rise : (n : ℕ) (bytes : List ℕ) → RisingLines n (logical_lines n bytes)
numbered_rise n bytes = logical_rise n (grouped (kept_lines n bytes)) (grouped_rise n (kept_lines n bytes) (kept_rise n (trimmed_from n (lines_of bytes)) (trimmed_rise n (lines_of bytes))))

lower_lines : (m n : ℕ) → m ≤ n → (ls : List (Result Line Fault)) → RisingLines n ls → RisingLines m ls
lower_lines m n le [] h = tt
lower_lines m n le (Err f ∷ ls) h = tt
lower_lines m n le (Ok l ∷ ls) h = (omega (arith, h.0), h.1)

-- from line 1 on
pub file_rises : (has_title : Bool) (bytes : List ℕ) → RisingLines 1 (file_lines has_title bytes)
file_rises true bytes = lower_lines 1 2 (omega arith) (logical_lines 2 (after_title bytes)) (numbered_rise 2 (after_title bytes))
file_rises false bytes = numbered_rise 1 bytes
