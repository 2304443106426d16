-- Nets by their numbers.
use Rattle.std.proofs.Common.{◌≡◌, ◌<◌, ◌+◌, ℕ, List, [], ◌∷◌, ◌++◌, length, take, get_or, sym, ap, ◌∙◌, map}
use Rattle.std.proofs.lemmas.List.{take_more, map-append}

-- one more
pub one_more : {A B : Type 0} (f : A → B) (xs : List A) (i : ℕ) (x : A) (old new : List B) (y : B) → i < length xs → x ≡ get_or xs i x → old ≡ map f (take i xs) → new ≡ old ++ y ∷ [] → y ≡ f x → new ≡ map f (take (i + 1) xs)
one_more f xs i x old new y lt e g h k =
    h ∙ ap (λ t. t ++ y ∷ []) g ∙ ap (λ z. map f (take i xs) ++ z ∷ []) k ∙ sym (ap (map f) (take_more xs i x lt ∙ ap (λ z. take i xs ++ z ∷ []) (sym e)) ∙ map-append f (take i xs) (x ∷ []))
