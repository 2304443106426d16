-- Places of lists: the first at which a test passes, or the length; and one item more.
use Rattle.std.proofs.Common.{◌≡◌, ◌+◌, ◌<◌, ◌≤◌, ℕ, List, [], ◌∷◌, ◌++◌, length, take, get_or, cond, ltb, Bool, true, false, Some, None, refl, sym, ap, ◌∙◌, arith}
use Rattle.std.specs.Prelude.{not}
use Rattle.std.specs.List.{position, position_or_len, prefix_len}
use Rattle.std.proofs.lemmas.Bool.{ltb-false}
use Rattle.std.proofs.lemmas.List.{take_more}

-- where one is found it is the place
pub place_found : {X : Type 0} (p : X → Bool) (xs : List X) (i : ℕ) → position p xs ≡ Some i → i ≡ position_or_len p xs
place_found p xs i e = by (ltb (position_or_len p xs) (length xs)) e
  where
    by : (b : Bool) → cond b (Some (position_or_len p xs)) None ≡ Some i → i ≡ position_or_len p xs
    by true e = cc
    by false e = absurd cc

within : {X : Type 0} (q : X → Bool) (xs : List X) → prefix_len q xs ≤ length xs
within q [] = omega arith
within q (x ∷ xs) = by (q x) refl (within q xs)
  where
    by : (b : Bool) → q x ≡ b → prefix_len q xs ≤ length xs → prefix_len q (x ∷ xs) ≤ length (x ∷ xs)
    by true e h = rw e (omega (arith, h))
    by false e h = rw e (omega arith)

-- where none is found it is the length
pub place_none : {X : Type 0} (p : X → Bool) (xs : List X) → position p xs ≡ None → length xs ≡ position_or_len p xs
place_none p xs e = by (ltb (position_or_len p xs) (length xs)) refl e
  where
    by : (b : Bool) → ltb (position_or_len p xs) (length xs) ≡ b → cond b (Some (position_or_len p xs)) None ≡ None → length xs ≡ position_or_len p xs
    by true f e = absurd cc
    by false f e = omega (arith, within (λ x. not (p x)) xs, ltb-false (position_or_len p xs) (length xs) f)

-- ---- one item more

-- so many items and the next
pub taken_more : {X : Type 0} (xs : List X) (i : ℕ) (x : X) → i < length xs → x ≡ get_or xs i x → take (i + 1) xs ≡ take i xs ++ x ∷ []
taken_more xs i x lt is = take_more xs i x lt ∙ ap (λ y. take i xs ++ y ∷ []) (sym is)
