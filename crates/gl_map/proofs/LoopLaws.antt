-- What is read line by line.
use Rattle.std.proofs.Common.{◌≡◌, ◌+◌, ◌<◌, ◌≤◌, ℕ, List, [], ◌∷◌, ◌++◌, length, cond, true, false, Bool, Option, Some, None, Result, Ok, Err, sym, ap, ◌∙◌, subst, length-append}
use Rattle.gl_fault.specs.Refusals.{IsRefusal, Gives}
use Rattle.std.specs.Prelude.{codes, IfOk}
use Rattle.std.specs.List.{list_any}
use Rattle.gl_text.specs.LogicalLines.{same_text, title_of, after_title}
use Rattle.gl_lifting.specs.NameMaps.{NameMap}
use Rattle.gl_lifting.specs.Chain.{HasNames}
use Rattle.gl_lifting.specs.MapReading.{MapFault, bad_header, bad_line, no_end, Row, is_ending, is_misplaced, map_by_rows, read_map, row_of, words_of}
use Rattle.gl_map.specs.Rows.{rows_in}
use Rattle.gl_map.specs.Checks.{placed, named}
use Rattle.gl_map.proofs.LineLaws.{behind_header, first_row, read_by_header}
use Rattle.gl_map.proofs.CheckLaws.{goes_on, misplaced_is_no_map, placed_is_map}
use Rattle.gl_map.proofs.NamedLaws.{read_has_names}
use Rattle.gl_map.proofs.FewLaws.{read_is_few}

-- the rows of a text begin with the row of its first line
begins_with : (row : Row) (rest title behind : List ℕ) → 0 < length rest → title ≡ title_of rest → behind ≡ after_title rest → row ≡ row_of (words_of title) → rows_in rest ≡ row ∷ rows_in behind
begins_with row rest title behind some t b r =
    first_row rest some ∙ ap (λ (l : List ℕ). row_of (words_of l) ∷ rows_in (after_title rest)) (sym t) ∙ ap (λ (x : Row). x ∷ rows_in (after_title rest)) (sym r) ∙ ap (λ (l : List ℕ). row ∷ rows_in l) (sym b)

pub row_taken : (whole : Result (List Row) MapFault) (line : ℕ) (before new : List Row) (row : Row) (rest title behind : List ℕ) → 0 < length rest → title ≡ title_of rest → behind ≡ after_title rest → row ≡ row_of (words_of title)
    → is_misplaced before row ≡ false → new ≡ before ++ row ∷ [] → placed line before (rows_in rest) ≡ whole → placed (line + 1) new (rows_in behind) ≡ whole
row_taken whole line before new row rest title behind some t b r off put same =
    ap (λ (rs : List Row). placed (line + 1) rs (rows_in behind)) put
    ∙ sym (goes_on is_misplaced bad_line line before row (rows_in behind) off)
    ∙ ap (placed line before) (sym (begins_with row rest title behind some t b r))
    ∙ same

pub row_refused : (o : Option MapFault) (whole : Result (List Row) MapFault) (line : ℕ) (before : List Row) (row : Row) (rest title behind : List ℕ) → 0 < length rest → title ≡ title_of rest → behind ≡ after_title rest → row ≡ row_of (words_of title)
    → IsRefusal o (placed line before (row ∷ rows_in behind)) → placed line before (rows_in rest) ≡ whole → IsRefusal o whole
row_refused o whole line before row rest title behind some t b r refused same =
    subst (λ (w : Result (List Row) MapFault). IsRefusal o w) (ap (placed line before) (sym (begins_with row rest title behind some t b r)) ∙ same) refused

pub one_longer : (new before : List Row) (row : Row) → new ≡ before ++ row ∷ [] → length new ≡ length before + 1
one_longer new before row e = ap length e ∙ length-append before (row ∷ [])

-- ---- the whole map

-- what refuses the placing of rows refuses their map
pub misplaced : (o : Option MapFault) (rows : List Row) → IsRefusal o (placed 2 [] rows) → IsRefusal o (map_by_rows rows)
misplaced None rows h = tt
misplaced (Some f) rows h = misplaced_is_no_map f rows h

pub with_end : (rows given : List Row) → placed 2 [] rows ≡ Ok given → list_any is_ending given ≡ true → map_by_rows rows ≡ named 2 [] given
with_end rows given e end = placed_is_map rows given e ∙ ap (λ (b : Bool). cond b (named 2 [] given) (Err no_end)) end

pub without_end : (rows given : List Row) → placed 2 [] rows ≡ Ok given → list_any is_ending given ≡ false → map_by_rows rows ≡ Err no_end
without_end rows given e end = placed_is_map rows given e ∙ ap (λ (b : Bool). cond b (named 2 [] given) (Err no_end)) end

pub with_header : (bytes header behind : List ℕ) → header ≡ title_of bytes → behind ≡ after_title bytes → same_text header (codes "gatelift map 1") ≡ true → read_map bytes ≡ map_by_rows (rows_in behind)
with_header bytes header behind h b e =
    read_by_header bytes ∙ ap (λ (c : Bool). behind_header c (after_title bytes)) (ap (λ t. same_text t (codes "gatelift map 1")) (sym h) ∙ e) ∙ ap (λ t. map_by_rows (rows_in t)) (sym b)

pub without_header : (bytes header : List ℕ) → header ≡ title_of bytes → same_text header (codes "gatelift map 1") ≡ false → read_map bytes ≡ Err bad_header
without_header bytes header h e = read_by_header bytes ∙ ap (λ (c : Bool). behind_header c (after_title bytes)) (ap (λ t. same_text t (codes "gatelift map 1")) (sym h) ∙ e)

-- what is known of a map that is given
pub given_names : {E : Type 0} (meaning : E → Option MapFault) (r : Result NameMap E) (bytes : List ℕ) → Gives meaning r (read_map bytes) → IfOk r HasNames
given_names meaning (Ok m) bytes g = read_has_names bytes m g
given_names meaning (Err f) bytes g = tt

pub given_few : {E : Type 0} (meaning : E → Option MapFault) (r : Result NameMap E) (bytes : List ℕ) → Gives meaning r (read_map bytes) → IfOk r (λ m. length m.devices + length m.nets ≤ length bytes)
given_few meaning (Ok m) bytes g = read_is_few bytes m g
given_few meaning (Err f) bytes g = tt
