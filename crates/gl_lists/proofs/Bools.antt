-- Tests, and what they say of each other.
use Rattle.std.proofs.Common.{◌≡◌, ℕ, eqb, true, false, Bool, refl, sym, eqb-true, eq-eqb}
use Rattle.std.specs.Prelude.{◌&&◌, not}
use Rattle.std.specs.Cmp.{both_ways}

-- two tests that pass together are one
pub same_bool : (a b : Bool) → (a ≡ true → b ≡ true) → (b ≡ true → a ≡ true) → a ≡ b
same_bool a b f g = both_ways a b f g

pub and_not_itself : (b : Bool) → (b && not b) ≡ false
and_not_itself true = refl
and_not_itself false = refl

pub eqb_flip : (x y : ℕ) → eqb x y ≡ eqb y x
eqb_flip x y = both_ways (eqb x y) (eqb y x) (λ e. eq-eqb y x (sym (eqb-true x y e))) (λ e. eq-eqb x y (sym (eqb-true y x e)))

-- a test has one answer
pub not_both : (b : Bool) → b ≡ true → b ≡ false → ⊥
not_both b t f = cc
