-- The first logical line and the others.
use Rattle.std.proofs.Common.{◌≡◌, ◌<◌, ℕ, List, [], ◌∷◌, ◌++◌, length, map, cond, ltb, true, false, Bool, Result, Ok, Err, refl, ap, ◌∙◌, arith}
use Rattle.std.specs.List.{onto_first}
use Rattle.gl_text.specs.LogicalLines.{LINE, Line, Fault, loose_plus, long_line, is_more, grouped, joined, up_to_end, up_to_long, logical_of, kept_lines, logical_lines, first_field, same_text}
use Rattle.gl_line.specs.Rest.{first_of, others_of, pluses, groups, added}

onto_is : (k : Line) (gs : List (List Line)) → onto_first k gs ≡ (k ∷ first_of gs) ∷ others_of gs
onto_is k [] = refl
onto_is k (g ∷ gs) = refl

-- a line that is no `+` line begins a group
pub group_first : (n m : ℕ) (bytes rest : List ℕ) (k : Line) → kept_lines n bytes ≡ k ∷ kept_lines m rest → is_more k ≡ false
    → logical_lines n bytes ≡ up_to_long (up_to_end ((record { line = k.line; text = k.text ++ added (pluses m rest) }) ∷ map joined (groups m rest)))
group_first n m bytes rest k e h =
    let gs = grouped (kept_lines m rest) in
    ap (λ ls. logical_of (grouped ls)) e ∙ ap (λ t. logical_of (cond t (onto_first k gs) ([] ∷ onto_first k gs))) h ∙ ap (λ x. up_to_long (up_to_end (map joined x))) (onto_is k gs)

-- a `+` line with no card before it
pub plus_first : (n m : ℕ) (bytes rest : List ℕ) (k : Line) → kept_lines n bytes ≡ k ∷ kept_lines m rest → is_more k ≡ true → logical_lines n bytes ≡ Err (loose_plus k.line) ∷ []
plus_first n m bytes rest k e h =
    let gs = grouped (kept_lines m rest) in
    ap (λ ls. logical_of (grouped ls)) e ∙ ap (λ t. logical_of (cond t (onto_first k gs) ([] ∷ onto_first k gs))) h ∙ ap logical_of (onto_is k gs)

-- no `+` line stands first
left_by : (gs : List (List Line)) → first_of gs ≡ [] → logical_of gs ≡ up_to_long (up_to_end (map joined (others_of gs)))
left_by [] h = refl
left_by ([] ∷ gs) h = refl
left_by ((l ∷ ls) ∷ gs) h = absurd cc

pub left_is : (n : ℕ) (bytes : List ℕ) → pluses n bytes ≡ [] → logical_lines n bytes ≡ up_to_long (up_to_end (map joined (groups n bytes)))
left_is n bytes h = left_by (grouped (kept_lines n bytes)) h

some_by : (b : Bool) (l : Line) (ls : List (Result Line Fault)) → 0 < length (cond b (Err (long_line l.line (length l.text)) ∷ []) (Ok l ∷ ls))
some_by true l ls = omega arith
some_by false l ls = omega arith

-- there is at least one
pub some_first : (l : Line) (ls : List Line) → 0 < length (up_to_long (up_to_end (l ∷ ls)))
some_first l ls = some_by (ltb LINE (length l.text)) l (up_to_long (cond (same_text (first_field l.text) (46 ∷ 101 ∷ 110 ∷ 100 ∷ [])) [] (up_to_end ls)))
