-- The logical lines of bytes: each has a card's length.
use Rattle.std.proofs.Common.{◌≡◌, ◌≤◌, ℕ, List, [], ◌∷◌, length, map, cond, ltb, true, false, Bool, Result, Ok, Err, refl, arith, length-append}
use Rattle.std.specs.Prelude.{filter, flat_map, drop, not, ◌&&◌, ⊤}
use Rattle.std.specs.List.{onto_first}
use Rattle.std.proofs.lemmas.Bool.{ltb-false, ltb-true}
use Rattle.gl_text.specs.LogicalLines.{LINE, Line, Fault, long_line, is_kept, is_more, grouped, joined, up_to_end, up_to_long, logical_of, kept_lines, logical_lines, trimmed_from, lines_of, first_field, same_text, begins}

-- a line has a byte, and none too many
abbrev pub AreRead : List (Result Line Fault) → Type 0
AreRead [] = ⊤
AreRead (Err f ∷ ls) = AreRead ls
AreRead (Ok l ∷ ls) = (1 ≤ length l.text) × (length l.text ≤ LINE) × AreRead ls

-- each line has a byte
abbrev Written : List Line → Type 0
Written [] = ⊤
Written (l ∷ ls) = (1 ≤ length l.text) × Written ls

abbrev AllWritten : List (List Line) → Type 0
AllWritten [] = ⊤
AllWritten (g ∷ gs) = Written g × AllWritten gs

-- the groups behind the first are not empty
abbrev Begun : List (List Line) → Type 0
Begun [] = ⊤
Begun ([] ∷ gs) = ⊥
Begun ((l ∷ ls) ∷ gs) = Begun gs

abbrev others : List (List Line) → List (List Line)
others [] = []
others (g ∷ gs) = gs

kept_by : (b c : Bool) (l : Line) (ls : List Line) → ltb 0 (length l.text) ≡ b → Written ls → Written (cond (b && c) (l ∷ ls) ls)
kept_by true true l ls e h = let some = ltb-true 0 (length l.text) e in (omega arith, h)
kept_by true false l ls e h = h
kept_by false c l ls e h = h

kept_written : (ls : List Line) → Written (filter is_kept ls)
kept_written [] = tt
kept_written (l ∷ ls) = kept_by (ltb 0 (length l.text)) (not (begins 42 l.text)) l (filter is_kept ls) refl (kept_written ls)

onto_written : (l : Line) (gs : List (List Line)) → 1 ≤ length l.text → AllWritten gs → AllWritten (onto_first l gs)
onto_written l [] h all = ((h, tt), tt)
onto_written l (g ∷ gs) h all = ((h, all.0), all.1)

group_written : (ls : List Line) → Written ls → AllWritten (grouped ls)
group_written [] h = (tt, tt)
group_written (l ∷ ls) h = by (is_more l) (onto_written l (grouped ls) h.0 (group_written ls h.1)) where
  by : (b : Bool) → AllWritten (onto_first l (grouped ls)) → AllWritten (cond b (onto_first l (grouped ls)) ([] ∷ onto_first l (grouped ls)))
  by true all = all
  by false all = (tt, all)

onto_begun : (l : Line) (gs : List (List Line)) → Begun (others gs) → Begun (onto_first l gs)
onto_begun l [] h = tt
onto_begun l (g ∷ gs) h = h

onto_others : (l : Line) (gs : List (List Line)) → Begun (others gs) → Begun (others (onto_first l gs))
onto_others l [] h = tt
onto_others l (g ∷ gs) h = h

group_begun : (ls : List Line) → Begun (others (grouped ls))
group_begun [] = tt
group_begun (l ∷ ls) = by (is_more l) (group_begun ls) where
  by : (b : Bool) → Begun (others (grouped ls)) → Begun (others (cond b (onto_first l (grouped ls)) ([] ∷ onto_first l (grouped ls))))
  by true h = onto_others l (grouped ls) h
  by false h = onto_begun l (grouped ls) h

joined_written : (gs : List (List Line)) → Begun gs → AllWritten gs → Written (map joined gs)
joined_written [] b h = tt
joined_written ([] ∷ gs) b h = absurd b
joined_written ((l ∷ ls) ∷ gs) b h =
    let more = length-append l.text (flat_map (λ (m : Line). 32 ∷ drop 1 m.text) ls) in
    let one = h.0.0 in
    (omega arith, joined_written gs b h.1)

end_written : (ls : List Line) → Written ls → Written (up_to_end ls)
end_written [] h = tt
end_written (l ∷ ls) h = (h.0, by (same_text (first_field l.text) (46 ∷ 101 ∷ 110 ∷ 100 ∷ [])) (end_written ls h.1)) where
  by : (b : Bool) → Written (up_to_end ls) → Written (cond b [] (up_to_end ls))
  by true g = tt
  by false g = g

long_by : (b : Bool) (l : Line) (ls : List (Result Line Fault)) → ltb LINE (length l.text) ≡ b → 1 ≤ length l.text → AreRead ls → AreRead (cond b (Err (long_line l.line (length l.text)) ∷ []) (Ok l ∷ ls))
long_by true l ls e some h = tt
long_by false l ls e some h = (some, ltb-false LINE (length l.text) e, h)

long_read : (ls : List Line) → Written ls → AreRead (up_to_long ls)
long_read [] h = tt
long_read (l ∷ ls) h = long_by (ltb LINE (length l.text)) l (up_to_long ls) refl h.0 (long_read ls h.1)

logical_read : (gs : List (List Line)) → Begun (others gs) → AllWritten gs → AreRead (logical_of gs)
logical_read [] b h = tt
logical_read ([] ∷ gs) b h = long_read (up_to_end (map joined gs)) (end_written (map joined gs) (joined_written gs b h.1))
logical_read ((l ∷ ls) ∷ gs) b h = tt

pub lines_read : (n : ℕ) (bytes : List ℕ) → AreRead (logical_lines n bytes)
lines_read n bytes =
    let ls = kept_lines n bytes in
    logical_read (grouped ls) (group_begun ls) (group_written ls (kept_written (trimmed_from n (lines_of bytes))))
