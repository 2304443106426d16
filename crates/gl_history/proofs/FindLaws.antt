-- What is found of the cells of a level.
use Rattle.std.proofs.Common.{◌≡◌, ◌+◌, ℕ, suc, List, [], ◌∷◌, length, map, eqb, Bool, true, false, Option, Some, None, refl, sym, ap, ◌∙◌, subst, arith}
use Rattle.std.specs.Prelude.{All, filter_map, zip}
use Rattle.std.specs.List.{enumerate_from}
use Rattle.std.specs.declared.alloc.Global.{Global}
use Rattle.std.specs.declared.vec.Vec.{Vec}
use Rattle.std.proofs.lemmas.List.{length-map}
use Rattle.std.proofs.lemmas.List.Elements.{All-nil, All-cons, All-head, All-tail}
use Rattle.gl_match.specs.declared.role.Pick.{Pick}
use Rattle.gl_match.specs.Graph.{Circuit, Pattern, FitsInto}
use Rattle.gl_match.specs.Listing.{Instance, Listed}
use Rattle.gl_match.specs.Choice.{sets_of, sets_in}
use Rattle.gl_base.specs.Rounds.{IsRound}
use Rattle.gl_match.specs.Cells.{Cell}
use Rattle.gl_history.specs.Plain.{RoundCell, round_cell}
use Rattle.gl_graph.specs.FitCells.{FitsIfAny, IsForCircuit}
use Rattle.gl_history.specs.Searching.{pattern_at, patterns_at, number_at, numbers_at}
use Rattle.gl_history.specs.Reached.{AreFound}
use Rattle.gl_history.proofs.ChosenLaws.{zip_long}

-- ---- searched cells

-- as many numbers as patterns
long_from : (level k : ℕ) (cells : List Cell) → length (filter_map (pattern_at level) cells) ≡ length (filter_map (number_at level) (enumerate_from k cells))
long_from level k [] = refl
long_from level k (cell ∷ cells) = by (pattern_at level cell) refl (long_from level (k + 1) cells)
  where
    by : (o : Option Pattern) → pattern_at level cell ≡ o → length (filter_map (pattern_at level) cells) ≡ length (filter_map (number_at level) (enumerate_from (k + 1) cells)) → length (filter_map (pattern_at level) (cell ∷ cells)) ≡ length (filter_map (number_at level) (enumerate_from k (cell ∷ cells)))
    by None e later = rw e later
    by (Some p) e later = rw e (ap suc later)

pub as_many : (level : ℕ) (cells : List Cell) → length (patterns_at level cells) ≡ length (numbers_at level cells)
as_many level cells = long_from level 0 cells

-- the pattern of a cell that is searched fits
one_fits : (c : Circuit) (level kind : ℕ) (o : Option Pattern) (p : Pattern) → FitsIfAny c kind o → o ≡ Some p → FitsInto c p
one_fits c level kind None p h e = absurd cc
one_fits c level kind (Some q) p h e = subst (FitsInto c) (let same : q ≡ p = cc in same) h.fits

-- the patterns of a level fit
pub all_fit : (c : Circuit) (level : ℕ) (cells : List Cell) → All (IsForCircuit c) cells → All (FitsInto c) (patterns_at level cells)
all_fit c level [] h = All-nil (FitsInto c)
all_fit c level (cell ∷ cells) h = by (eqb cell.level level) cell.pattern refl refl (All-head (IsForCircuit c) cell cells h).pattern (all_fit c level cells (All-tail (IsForCircuit c) cell cells h))
  where
    by : (b : Bool) (o : Option Pattern) → eqb cell.level level ≡ b → cell.pattern ≡ o → FitsIfAny c cell.kind o → All (FitsInto c) (patterns_at level cells) → All (FitsInto c) (patterns_at level (cell ∷ cells))
    by false o e f fits later = rw e later
    by true None e f fits later = rw e (rw f later)
    by true (Some p) e f fits later = rw e (rw f (All-cons (FitsInto c) p (patterns_at level cells) fits.fits later))

-- ---- lists and picks

-- what is found of cells, part by part
pub record AreParts (numbers : List ℕ) (lists : List (List Instance)) (picks : List (Vec Pick Global)) (found : List RoundCell) : Type 0 where
  pub cells : map (λ (f : RoundCell). f.cell) found ≡ numbers
  pub lists_are : map (λ (f : RoundCell). f.list) found ≡ lists
  pub picks_are : map (λ (f : RoundCell). f.picks) found ≡ map (λ (v : Vec Pick Global). v.items) picks

pub parts : (numbers : List ℕ) (lists : List (List Instance)) (picks : List (Vec Pick Global)) → length lists ≡ length numbers → length picks ≡ length numbers
    → AreParts numbers lists picks (map (λ (t : (ℕ × List Instance) × Vec Pick Global). round_cell t.0.0 t.0.1 t.1.items) (zip (zip numbers lists) picks))
parts [] [] [] e f = record { cells = refl; lists_are = refl; picks_are = refl }
parts [] [] (v ∷ picks) e f = absurd (omega (arith, f))
parts [] (l ∷ lists) picks e f = absurd (omega (arith, e))
parts (n ∷ numbers) [] picks e f = absurd (omega (arith, e))
parts (n ∷ numbers) (l ∷ lists) [] e f = absurd (omega (arith, f))
parts (n ∷ numbers) (l ∷ lists) (v ∷ picks) e f =
    let later = parts numbers lists picks (omega (arith, e)) (omega (arith, f)) in
    record { cells = ap (λ ns. n ∷ ns) later.cells; lists_are = ap (λ ls. l ∷ ls) later.lists_are; picks_are = ap (λ ps. v.items ∷ ps) later.picks_are }

-- a round of the patterns of a level, with the numbers of the cells, is what is found
pub found_is : (c : Circuit) (first level : ℕ) (cells : List Cell) (numbers : List ℕ) (patterns : List Pattern) (lists : List (List Instance)) (picks : List (Vec Pick Global)) (found : List RoundCell)
    → numbers ≡ numbers_at level cells → patterns ≡ patterns_at level cells → IsRound c first patterns lists (map (λ (v : Vec Pick Global). v.items) picks)
    → found ≡ map (λ (t : (ℕ × List Instance) × Vec Pick Global). round_cell t.0.0 t.0.1 t.1.items) (zip (zip numbers lists) picks) → AreFound c first cells level found
found_is c first level cells numbers patterns lists picks found numbers_are patterns_are round is =
    let lists_long : length patterns ≡ length lists = zip_long (Listed c) patterns lists round.complete in
    let picks_long : length (map (λ (v : Vec Pick Global). v.items) picks) ≡ length (sets_of lists) = sym (length-map (map (λ (v : Vec Pick Global). v.items) picks) length) ∙ ap length round.choice.as_many ∙ length-map (sets_of lists) length in
    let numbers_long : length numbers ≡ length patterns = ap length numbers_are ∙ sym (as_many level cells) ∙ sym (ap length patterns_are) in
    let told = subst (AreParts numbers lists picks) (sym is) (parts numbers lists picks (omega (arith, lists_long, numbers_long)) (omega (arith, lists_long, numbers_long, picks_long, length-map picks (λ (v : Vec Pick Global). v.items), length-map lists sets_in))) in
    record {
      numbers = told.cells ∙ numbers_are;
      round = subst (λ ps. IsRound c first ps (map (λ (f : RoundCell). f.list) found) (map (λ (f : RoundCell). f.picks) found)) patterns_are
          (subst (λ ls. IsRound c first patterns ls (map (λ (f : RoundCell). f.picks) found)) (sym told.lists_are)
          (subst (λ ps. IsRound c first patterns lists ps) (sym told.picks_are) round));
    }
