-- What is asked of what was found, before it is put into the circuit.
use Rattle.std.proofs.Common.{◌≡◌, ◌+◌, ◌<◌, ◌≤◌, ℕ, zero, suc, List, [], ◌∷◌, length, map, get_or, Option, Some, None, refl, sym, ap, ◌∙◌, subst, arith}
use Rattle.std.specs.Prelude.{All, filter_map}
use Rattle.std.specs.List.{enumerate_from}
use Rattle.std.proofs.lemmas.List.{length-map}
use Rattle.std.proofs.lemmas.List.Elements.{All-nil, All-cons, All-head, All-tail}
use Rattle.gl_match.specs.Graph.{Circuit, Pattern}
use Rattle.gl_match.specs.Listing.{Instance}
use Rattle.gl_match.specs.Choice.{sets_of, sets_in}
use Rattle.gl_round.proofs.KeysBelow.{lists_below}
use Rattle.gl_history.specs.declared.fate.Fate.{Fate}
use Rattle.gl_match.specs.Cells.{Cell}
use Rattle.gl_history.specs.Plain.{RoundCell}
use Rattle.gl_history.specs.Searching.{pattern_at, number_at}
use Rattle.gl_history.specs.Replacing.{Chosen}
use Rattle.gl_history.specs.Marks.{IsMarked, IsWithin, fate_at}
use Rattle.gl_history.specs.Reached.{AreFound}
use Rattle.gl_history.proofs.MarkLaws.{marked_within}
use Rattle.gl_lifting.specs.Replacement.{Slot}

-- what is so of all that items show is so of the items
shown_all : {X A : Type 0} (P : A → Type 0) (view : X → A) (xs : List X) → All P (map view xs) → All (λ x. P (view x)) xs
shown_all P view [] h = All-nil (λ x. P (view x))
shown_all P view (x ∷ xs) h = All-cons (λ y. P (view y)) x xs (All-head P (view x) (map view xs) h) (shown_all P view xs (All-tail P (view x) (map view xs) h))

-- the numbers of cells are below their count
below_from : (level k n : ℕ) (cells : List Cell) → k + length cells ≤ n → All (λ m. m < n) (filter_map (number_at level) (enumerate_from k cells))
below_from level k n [] e = All-nil (λ m. m < n)
below_from level k n (cell ∷ cells) e = by (pattern_at level cell) refl (below_from level (k + 1) n cells (omega (arith, e)))
  where
    by : (o : Option Pattern) → pattern_at level cell ≡ o → All (λ m. m < n) (filter_map (number_at level) (enumerate_from (k + 1) cells)) → All (λ m. m < n) (filter_map (number_at level) (enumerate_from k (cell ∷ cells)))
    by None f later = rw f later
    by (Some p) f later = rw f (All-cons (λ m. m < n) k (filter_map (number_at level) (enumerate_from (k + 1) cells)) (omega (arith, e)) later)

-- as many picks as instances, cell by cell
picks_fit : (found : List RoundCell) → map length (map (λ (f : RoundCell). f.picks) found) ≡ map length (sets_of (map (λ (f : RoundCell). f.list) found)) → All (λ (f : RoundCell). length f.picks ≡ length f.list) found
picks_fit [] e = All-nil (λ (f : RoundCell). length f.picks ≡ length f.list)
picks_fit (f ∷ found) e =
    let first : length f.picks ≡ length (sets_in f.list) = ap (λ ns. get_or ns 0 0) e in
    All-cons (λ (g : RoundCell). length g.picks ≡ length g.list) f found (first ∙ length-map f.list (λ (i : Instance). i.key.set)) (picks_fit found (ap tail_of e))
  where
    tail_of : List ℕ → List ℕ
    tail_of [] = []
    tail_of (n ∷ ns) = ns

module _ (c : Circuit) (first level : ℕ) (cells : List Cell) (found : List RoundCell) (are : AreFound c first cells level found) where
  -- each is a cell that there is
  pub known : All (λ (f : RoundCell). f.cell < length cells) found
  known = shown_all (λ m. m < length cells) (λ (f : RoundCell). f.cell) found (subst (All (λ m. m < length cells)) (sym are.numbers) (below_from level 0 (length cells) cells (omega arith)))

  -- the devices of each instance are the circuit's
  pub below : (n : ℕ) → n ≡ length c.devices → All (λ (f : RoundCell). All (λ (i : Instance). All (λ dev. dev < n) i.key.set) f.list) found
  below n e = subst (λ m. All (λ (f : RoundCell). All (λ (i : Instance). All (λ dev. dev < m) i.key.set) f.list) found) (sym e)
      (shown_all (λ (list : List Instance). All (λ (i : Instance). All (λ dev. dev < length c.devices) i.key.set) list) (λ (f : RoundCell). f.list) found (lists_below c _ (map (λ (f : RoundCell). f.list) found) are.round.complete))

  -- each instance has a pick
  pub picked : All (λ (f : RoundCell). length f.picks ≡ length f.list) found
  picked = picks_fit found are.round.choice.as_many

-- all that is marked leads to a chosen instance
pub all_within : (chosen : List Chosen) (fates : List Fate) (slots made : List Slot) → IsMarked chosen fates slots → made ≡ slots → All (IsWithin (length made)) fates
all_within chosen fates slots made m same k d lt =
    subst (λ (ms : List Slot). IsWithin (length ms) (get_or fates k d)) (sym same) (subst (IsWithin (length slots)) (any fates k d lt) (marked_within chosen fates slots m k))
  where
    any : (fs : List Fate) (j : ℕ) (e : Fate) → j < length fs → fate_at fs j ≡ get_or fs j e
    any [] j e below = absurd (omega (arith, below))
    any (f ∷ fs) zero e below = refl
    any (f ∷ fs) (suc j) e below = any fs j e (omega (arith, below))
