-- One mark more: what it leaves, and what it adds.
use Rattle.std.proofs.Common.{◌≡◌, ◌≢◌, ◌+◌, ◌<◌, ℕ, zero, suc, List, [], ◌∷◌, ◌++◌, length, cond, eqb, Bool, true, false, set, get_or, refl, sym, ap, ◌∙◌, arith, inl, inr}
use Rattle.std.specs.Prelude.{Contains, ◌⊎◌}
use Rattle.std.proofs.lemmas.List.Elements.{Contains-append_left, Contains-append_right, Contains-append_cases}
use Rattle.std.proofs.lemmas.Bool.{cases_Bool, eqb-true, eq-eqb}
use Rattle.std.proofs.lemmas.List.{get_or-set_same, get_or-set_other, length-set, length-append}
use Rattle.gl_deck.specs.Walks.{Walk, marked}
use Rattle.gl_deck.proofs.Members.{in_one}

abbrev pub Marked : Walk → ℕ → Type 0
Marked w i = get_or w.marks i false ≡ true

pub unmarked : List Bool → ℕ
unmarked [] = 0
unmarked (true ∷ bs) = unmarked bs
unmarked (false ∷ bs) = suc (unmarked bs)

unmarked_set : (bs : List Bool) (i : ℕ) → i < length bs → get_or bs i false ≡ false → unmarked bs ≡ suc (unmarked (set bs i true))
unfolding unmarked
unmarked_set [] i h e = absurd (omega arith)
unmarked_set (true ∷ bs) zero h e = absurd cc
unmarked_set (false ∷ bs) zero h e = refl
unmarked_set (true ∷ bs) (suc i) h e = unmarked_set bs i (omega arith) e
unmarked_set (false ∷ bs) (suc i) h e = ap (λ n. suc n) (unmarked_set bs i (omega arith) e)

-- what is still to be done
unfoldable pub left : Walk → ℕ
left w = unmarked w.marks + length w.pending

-- one more mark: the old marks stay, and what is newly marked is pending
pub record Spreads (old new : Walk) (From : ℕ → Type 0) : Type 0 where
  pub sized : length new.marks ≡ length old.marks
  pub kept : (j : ℕ) → Marked old j → Marked new j
  pub pending : (j : ℕ) → Contains old.pending j → Contains new.pending j
  pub pended : (j : ℕ) → Contains new.pending j → Contains old.pending j ⊎ Marked new j
  pub fresh : (j : ℕ) → Marked new j → Marked old j ⊎ (From j × Contains new.pending j)
  pub left : left new ≡ left old

newly : Walk → ℕ → Walk
newly w i = record { marks = set w.marks i true; pending = w.pending ++ i ∷ [] }

fresh_by : (w : Walk) (i j : ℕ) → Marked (newly w i) j → (i ≡ j) ⊎ (j ≢ i) → Marked w j ⊎ ((j ≡ i) × Contains (w.pending ++ i ∷ []) j)
unfolding newly
fresh_by w i j m (inl e) = inr (sym e, Contains-append_right w.pending (i ∷ []) j (0, omega arith, e))
fresh_by w i j m (inr ne) = inl (sym (get_or-set_other w.marks i j true false ne) ∙ m)

or_other : (i j : ℕ) → (i ≡ j) ⊎ (j ≢ i)
or_other i j = elim (cases_Bool (eqb i j)) [
  | inl e ↦ inl (eqb-true i j e)
  | inr e ↦ inr (λ f. absurd (let g : eqb i j ≡ true = eq-eqb i j (sym f) in cc))
]

kept_by : (w : Walk) (i j : ℕ) → get_or w.marks i false ≡ false → Marked w j → (i ≡ j) ⊎ (j ≢ i) → Marked (newly w i) j
unfolding newly
kept_by w i j off m (inl e) = absurd (let f : get_or w.marks i false ≡ get_or w.marks j false = ap (λ k. get_or w.marks k false) e in cc)
kept_by w i j off m (inr ne) = get_or-set_other w.marks i j true false ne ∙ m

pended_by : (w : Walk) (i j : ℕ) → i < length w.marks → Contains w.pending j ⊎ Contains (i ∷ []) j → Contains w.pending j ⊎ Marked (newly w i) j
unfolding newly
pended_by w i j h (inl p) = inl p
pended_by w i j h (inr m) = inr (ap (λ k. get_or (set w.marks i true) k false) (in_one j i m) ∙ get_or-set_same w.marks i true false h)

spread_one : (w : Walk) (i : ℕ) → i < length w.marks → get_or w.marks i false ≡ false → Spreads w (newly w i) (λ j. j ≡ i)
unfolding newly left
spread_one w i h off = record {
  sized = length-set w.marks i true;
  kept = λ j m. kept_by w i j off m (or_other i j);
  pending = λ j p. Contains-append_left w.pending (i ∷ []) j p;
  pended = λ j p. pended_by w i j h (Contains-append_cases w.pending (i ∷ []) j p);
  fresh = λ j m. fresh_by w i j m (or_other i j);
  left = let u = unmarked_set w.marks i h off in let l = length-append w.pending (i ∷ []) in omega arith;
}

pub unchanged : (w : Walk) (From : ℕ → Type 0) → Spreads w w From
unchanged w From = record { sized = refl; kept = λ j m. m; pending = λ j p. p; pended = λ j p. inl p; fresh = λ j m. inl m; left = refl }

spread_by : (b : Bool) (w : Walk) (i : ℕ) → get_or w.marks i false ≡ b → i < length w.marks → Spreads w (cond b w (newly w i)) (λ j. j ≡ i)
spread_by true w i e h = unchanged w (λ j. j ≡ i)
spread_by false w i e h = spread_one w i h e

pub spread_is : (w : Walk) (i : ℕ) → i < length w.marks → Spreads w (marked i w) (λ j. j ≡ i)
unfolding newly
spread_is w i h = spread_by (get_or w.marks i false) w i refl h

here_by : (b : Bool) (w : Walk) (i : ℕ) → get_or w.marks i false ≡ b → i < length w.marks → Marked (cond b w (newly w i)) i
unfolding newly
here_by true w i e h = e
here_by false w i e h = get_or-set_same w.marks i true false h

pub marked_here : (w : Walk) (i : ℕ) → i < length w.marks → Marked (marked i w) i
unfolding newly
marked_here w i h = here_by (get_or w.marks i false) w i refl h
