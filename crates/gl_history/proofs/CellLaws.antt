-- The cells of a run, by their numbers.
use Rattle.std.proofs.Common.{◌≡◌, ◌==◌, ◌+◌, ◌<◌, ℕ, suc, List, [], ◌∷◌, length, map, filter, eqb, Bool, true, false, Option, Some, None, refl, ap, ◌∙◌, arith}
use Rattle.std.specs.Prelude.{filter_map, zip}
use Rattle.std.specs.List.{AllZip, enumerate_from}
use Rattle.gl_text.specs.Decks.{Sub}
use Rattle.gl_base.specs.Libraries as libraries
use Rattle.gl_base.specs.Libraries.{greatest}
use Rattle.gl_base.specs.Rounds.{searched}
use Rattle.gl_lifting.specs.Runs.{Run, pattern_in}
use Rattle.gl_lifting.specs.Histories.{levels_of}
use Rattle.gl_match.specs.Cells.{Cell}
use Rattle.gl_history.specs.Searching.{patterns_at, number_at, numbers_at, rounds_of}
use Rattle.gl_history.specs.Replacing.{kind_at}
use Rattle.gl_lifting.specs.SearchedCells.{cell_in}
use Rattle.gl_history.proofs.ChosenLaws.{HasKind}

-- those of a level that are searched
abbrev pub searched_of : ℕ → List (Sub × libraries.Cell) → List Sub
searched_of level zs = searched (filter (λ c. c.1.level == level) zs)

-- ---- patterns

-- the patterns of a level are those of the searched cells
pub patterns_are : (run : Run) (level : ℕ) (zs : List (Sub × libraries.Cell)) → patterns_at level (map (cell_in run) zs) ≡ map (pattern_in run) (searched_of level zs)
patterns_are run level [] = refl
patterns_are run level (z ∷ zs) = by (eqb z.1.level level) z.1.skip refl refl (patterns_are run level zs)
  where
    by : (b : Bool) (o : Option libraries.Skip) → eqb z.1.level level ≡ b → z.1.skip ≡ o → patterns_at level (map (cell_in run) zs) ≡ map (pattern_in run) (searched_of level zs)
        → patterns_at level (map (cell_in run) (z ∷ zs)) ≡ map (pattern_in run) (searched_of level (z ∷ zs))
    by false o e f later = rw e later
    by true None e f later = rw e (rw f (ap (λ ps. pattern_in run z.0 ∷ ps) later))
    by true (Some skip) e f later = rw e (rw f later)

-- ---- numbers

-- the numbers of a level are those of the searched cells: their types agree
numbers_from : (run : Run) (level : ℕ) (all : List Cell) (k : ℕ) (zs : List (Sub × libraries.Cell)) → ((j : ℕ) → j < length zs → kind_at all (k + j) ≡ kind_at (map (cell_in run) zs) j)
    → AllZip (λ (s : Sub) (n : ℕ). HasKind run s (kind_at all n)) (searched_of level zs) (filter_map (number_at level) (enumerate_from k (map (cell_in run) zs)))
numbers_from run level all k [] h = tt
numbers_from run level all k (z ∷ zs) h = by (eqb z.1.level level) z.1.skip refl refl first (numbers_from run level all (k + 1) zs (λ j lt. ap (kind_at all) (omega arith) ∙ h (suc j) (omega (arith, lt))))
  where
    first : HasKind run z.0 (kind_at all k)
    first = ap (kind_at all) (omega arith) ∙ h 0 (omega arith)

    by : (b : Bool) (o : Option libraries.Skip) → eqb z.1.level level ≡ b → z.1.skip ≡ o → HasKind run z.0 (kind_at all k)
        → AllZip (λ (s : Sub) (n : ℕ). HasKind run s (kind_at all n)) (searched_of level zs) (filter_map (number_at level) (enumerate_from (k + 1) (map (cell_in run) zs)))
        → AllZip (λ (s : Sub) (n : ℕ). HasKind run s (kind_at all n)) (searched_of level (z ∷ zs)) (filter_map (number_at level) (enumerate_from k (map (cell_in run) (z ∷ zs))))
    by false o e f own later = rw e later
    by true None e f own later = rw e (rw f (own, later))
    by true (Some skip) e f own later = rw e (rw f later)

pub numbers_are : (run : Run) (level : ℕ) (zs : List (Sub × libraries.Cell)) → AllZip (λ (s : Sub) (n : ℕ). HasKind run s (kind_at (map (cell_in run) zs) n)) (searched_of level zs) (numbers_at level (map (cell_in run) zs))
numbers_are run level zs = numbers_from run level (map (cell_in run) zs) 0 zs (λ j lt. ap (kind_at (map (cell_in run) zs)) (omega arith))

-- related to what items show is related to the items
pub zip_shown : {X Y Z : Type 0} (R : X → Y → Type 0) (view : Z → Y) (xs : List X) (zs : List Z) → AllZip R xs (map view zs) → AllZip (λ x z. R x (view z)) xs zs
zip_shown R view [] [] h = tt
zip_shown R view [] (z ∷ zs) h = absurd h
zip_shown R view (x ∷ xs) [] h = absurd h
zip_shown R view (x ∷ xs) (z ∷ zs) h = (h.0, zip_shown R view xs zs h.1)

-- ---- levels

levels_same : (run : Run) (subs : List Sub) (cells : List libraries.Cell) → length cells ≡ length subs → map (λ (c : Cell). c.level) (map (cell_in run) (zip subs cells)) ≡ map (λ (c : libraries.Cell). c.level) cells
levels_same run [] [] e = refl
levels_same run [] (c ∷ cells) e = absurd (omega (arith, e))
levels_same run (s ∷ subs) [] e = absurd (omega (arith, e))
levels_same run (s ∷ subs) (c ∷ cells) e = ap (λ ls. c.level ∷ ls) (levels_same run subs cells (omega (arith, e)))

-- there are as many rounds as levels
pub rounds_are : (run : Run) (subs : List Sub) (cells : List libraries.Cell) → length cells ≡ length subs → rounds_of (map (cell_in run) (zip subs cells)) ≡ levels_of cells
rounds_are run [] [] e = refl
rounds_are run [] (c ∷ cells) e = absurd (omega (arith, e))
rounds_are run (s ∷ subs) [] e = absurd (omega (arith, e))
rounds_are run (s ∷ subs) (c ∷ cells) e = ap (λ ls. suc (greatest ls)) (levels_same run (s ∷ subs) (c ∷ cells) e)
