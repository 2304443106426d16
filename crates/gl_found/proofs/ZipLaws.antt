-- A loop over two lists side by side ends where one of them does.
use Rattle.std.proofs.Common.{◌≡◌, ◌⊎◌, List, [], ◌∷◌, refl, ap, inl, inr}
use Rattle.std.specs.Prelude.{zip}

-- where one has no items, nothing stands side by side
pub zip_none : {A B : Type 0} (ks : List A) (vs : List B) → (ks ≡ []) ⊎ (vs ≡ []) → zip ks vs ≡ []
zip_none ks vs (inl e) = ap (λ xs. zip xs vs) e
zip_none [] vs (inr e) = refl
zip_none (k ∷ ks) vs (inr e) = ap (λ ys. zip (k ∷ ks) ys) e
