-- What stands in a list: under its name, at its place.
use Rattle.std.proofs.Common.{◌≡◌, ℕ, zero, suc, List, [], ◌∷◌, true, Some, sym, ap, subst, arith}
use Rattle.std.specs.Prelude.{Contains, slice_get}
use Rattle.std.specs.List.{IsAmong}
use Rattle.gl_text.specs.LogicalLines.{same_text}
use Rattle.gl_text.specs.Decks.{is_in}
use Rattle.gl_text.proofs.Names.{exact, itself}
use Rattle.gl_lists.proofs.Membership.{in_tail, in_none, in_any, from_any}

pub in_one : {A : Type 0} (x y : A) → Contains (y ∷ []) x → x ≡ y
in_one x y (zero, lt, e) = sym e
in_one x y (suc k, lt, e) = absurd (omega (arith, lt))

-- ---- names

pub is_in_from : (n : List ℕ) (ns : List (List ℕ)) → Contains ns n → is_in n ns ≡ true
is_in_from n ns h = in_any (same_text n) ns n h (itself n)

pub from_is_in : (n : List ℕ) (ns : List (List ℕ)) → is_in n ns ≡ true → Contains ns n
from_is_in n ns h =
    let g = from_any (same_text n) ns h in
    subst (λ (m : List ℕ). Contains ns m) (sym (exact n g.0 g.2)) g.1

-- ---- places

pub at_in : {A : Type 0} (x : A) (xs : List A) (k : ℕ) → slice_get xs k ≡ Some x → Contains xs x
at_in x [] k h = absurd cc
at_in x (y ∷ ys) zero h = (0, omega arith, cc)
at_in x (y ∷ ys) (suc k) h = in_tail y ys x (at_in x ys k h)

pub in_at : {A : Type 0} (x : A) (xs : List A) → Contains xs x → (k : ℕ) × (slice_get xs k ≡ Some x)
in_at x [] h = absurd (in_none x h)
in_at x (y ∷ ys) (zero, lt, e) = (0, ap (λ v. Some v) e)
in_at x (y ∷ ys) (suc k, lt, e) = let g = in_at x ys (k, omega (arith, lt), e) in (suc g.0, g.1)

pub among_in : {A : Type 0} (x : A) (xs : List A) → IsAmong xs x → Contains xs x
among_in x xs h = (h.0, h.1.0, sym h.1.1)
