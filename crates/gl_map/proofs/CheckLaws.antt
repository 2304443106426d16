-- Rows that are checked one by one.
use Rattle.std.proofs.Common.{◌≡◌, ◌+◌, ℕ, List, [], ◌∷◌, ◌++◌, cond, true, false, Bool, Option, Some, None, Result, Ok, Err, refl, sym, ap, ◌∙◌, append_assoc}
use Rattle.std.specs.List.{list_any}
use Rattle.std.proofs.lemmas.List.{append-nil}
use Rattle.gl_lifting.specs.NameMaps.{NameMap}
use Rattle.gl_lifting.specs.MapReading.{MapFault, bad_line, double_new, no_end, Row, first_bad, is_misplaced, is_double, is_ending, refused_at, map_by, map_by_rows}
use Rattle.gl_map.specs.Checks.{checked, placed, named}

-- a row that is not bad stands among those before
pub goes_on : (test : List Row → Row → Bool) (fault : ℕ → MapFault) (number : ℕ) (before : List Row) (row : Row) (rows : List Row) → test before row ≡ false → checked test fault number before (row ∷ rows) ≡ checked test fault (number + 1) (before ++ row ∷ []) rows
goes_on test fault number before row rows off =
    let later = first_bad test (number + 1) (before ++ row ∷ []) rows in
    ap (λ (b : Bool). refused_at fault (cond b (Some number) later) (Ok (before ++ row ∷ rows))) off
    ∙ ap (λ (rs : List Row). refused_at fault later (Ok rs)) (sym (append_assoc before (row ∷ []) rows))

-- a bad row is refused
pub stops : (test : List Row → Row → Bool) (fault : ℕ → MapFault) (number : ℕ) (before : List Row) (row : Row) (rows : List Row) → test before row ≡ true → checked test fault number before (row ∷ rows) ≡ Err (fault number)
stops test fault number before row rows on = ap (λ (b : Bool). refused_at fault (cond b (Some number) (first_bad test (number + 1) (before ++ row ∷ []) rows)) (Ok (before ++ row ∷ rows))) on

-- where no row is left, all are there
pub all_checked : (test : List Row → Row → Bool) (fault : ℕ → MapFault) (number : ℕ) (before : List Row) → checked test fault number before [] ≡ Ok before
all_checked test fault number before = ap (λ (rs : List Row). Ok rs) (append-nil before)

pub named_on : (number : ℕ) (before : List Row) (row : Row) (rows : List Row) → is_double before row ≡ false → named number before (row ∷ rows) ≡ named (number + 1) (before ++ row ∷ []) rows
named_on number before row rows off =
    let later = first_bad is_double (number + 1) (before ++ row ∷ []) rows in
    ap (λ (b : Bool). refused_at double_new (cond b (Some number) later) (Ok (map_by (before ++ row ∷ rows)))) off
    ∙ ap (λ (rs : List Row). refused_at double_new later (Ok (map_by rs))) (sym (append_assoc before (row ∷ []) rows))

pub named_stops : (number : ℕ) (before : List Row) (row : Row) (rows : List Row) → is_double before row ≡ true → named number before (row ∷ rows) ≡ Err (double_new number)
named_stops number before row rows on = ap (λ (b : Bool). refused_at double_new (cond b (Some number) (first_bad is_double (number + 1) (before ++ row ∷ []) rows)) (Ok (map_by (before ++ row ∷ rows)))) on

pub all_named : (number : ℕ) (before : List Row) → named number before [] ≡ Ok (map_by before)
all_named number before = ap (λ (rs : List Row). Ok (map_by rs)) (append-nil before)

-- a value that is not refused
pub not_refused : {A : Type 0} (fault : ℕ → MapFault) (o : Option ℕ) (v w : A) → refused_at fault o (Ok v) ≡ Ok w → (o ≡ None) × (v ≡ w)
not_refused fault None v w e = (refl, cc)
not_refused fault (Some n) v w e = absurd cc

-- rows whose placing is refused are no map
refused_map : (o : Option ℕ) (f : MapFault) (rows : List Row) (k : Result NameMap MapFault) → refused_at bad_line o (Ok rows) ≡ Err f → refused_at bad_line o k ≡ Err f
refused_map None f rows k e = absurd cc
refused_map (Some n) f rows k e = cc

pub misplaced_is_no_map : (f : MapFault) (rows : List Row) → placed 2 [] rows ≡ Err f → map_by_rows rows ≡ Err f
misplaced_is_no_map f rows e = refused_map (first_bad is_misplaced 2 [] rows) f rows (cond (list_any is_ending rows) (named 2 [] rows) (Err no_end)) e

-- rows that stand where they may are a map if the end is there and no new name is double
pub placed_is_map : (rows given : List Row) → placed 2 [] rows ≡ Ok given → map_by_rows rows ≡ cond (list_any is_ending given) (named 2 [] given) (Err no_end)
placed_is_map rows given e =
    let p = not_refused bad_line (first_bad is_misplaced 2 [] rows) rows given e in
    ap (λ o. refused_at bad_line o (cond (list_any is_ending rows) (named 2 [] rows) (Err no_end))) p.0
    ∙ ap (λ rs. cond (list_any is_ending rs) (named 2 [] rs) (Err no_end)) p.1
