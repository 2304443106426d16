-- Lists of picks and of sets with one more.
use Rattle.std.proofs.Common.{◌≡◌, ◌<◌, ◌++◌, ◌∷◌, [], ℕ, zero, suc, List, Some, length, refl, sym, ap, arith, inl, inr}
use Rattle.std.specs.Prelude.{◌⊎◌, slice_get}
use Rattle.std.proofs.lemmas.List.{get_or_append_left, get_or_push}
use Rattle.gl_match.specs.declared.role.Pick.{Pick}
use Rattle.gl_match.specs.Choice.{set_at}

-- ---- one more pick

pub pick_cases : (picks : List Pick) (p : Pick) (i : ℕ) (q : Pick) → slice_get (picks ++ p ∷ []) i ≡ Some q → ((i < length picks) × (slice_get picks i ≡ Some q)) ⊎ ((i ≡ length picks) × (p ≡ q))
pick_cases [] p zero q e = inr (refl, of p q e) where
  of : (a b : Pick) → Some a ≡ Some b → a ≡ b
  of a b f = cc
pick_cases [] p (suc i) q e = absurd cc
pick_cases (x ∷ xs) p zero q e = inl (omega arith, e)
pick_cases (x ∷ xs) p (suc i) q e = elim (pick_cases xs p i q e) [
  | inl old ↦ inl (omega (arith, old.0), old.1)
  | inr new ↦ inr (ap suc new.0, new.1)
]

pub pick_old : (picks : List Pick) (p : Pick) (i : ℕ) → i < length picks → slice_get (picks ++ p ∷ []) i ≡ slice_get picks i
pick_old [] p i lt = absurd (omega (arith, lt))
pick_old (x ∷ xs) p zero lt = refl
pick_old (x ∷ xs) p (suc i) lt = pick_old xs p i (omega (arith, lt))

pub pick_new : (picks : List Pick) (p : Pick) → slice_get (picks ++ p ∷ []) (length picks) ≡ Some p
pick_new [] p = refl
pick_new (x ∷ xs) p = pick_new xs p

pub set_old : (sets : List (List ℕ)) (set : List ℕ) (i : ℕ) → i < length sets → set_at (sets ++ set ∷ []) i ≡ set_at sets i
set_old sets set i lt = get_or_append_left sets (set ∷ []) [] i lt

pub set_new : (sets : List (List ℕ)) (set : List ℕ) (i : ℕ) → i ≡ length sets → set_at (sets ++ set ∷ []) i ≡ set
set_new sets set i e = get_or_push sets set [] i (sym e)
