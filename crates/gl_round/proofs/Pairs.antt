-- Two lists, place by place.
use Rattle.std.proofs.Common.{◌≡◌, ◌<◌, ◌+◌, ℕ, List, [], ◌∷◌, ◌++◌, length, take, map, get_or, sym, ap, ◌∙◌, subst, arith}
use Rattle.std.specs.Prelude.{All}
use Rattle.std.specs.List.{AllZip}
use Rattle.std.proofs.lemmas.List.{take_more, map-append, length-map}
use Rattle.gl_match.proofs.Lists.{get_map}

-- one pair more
all_zip_more : {A B : Type 0} (R : A → B → Type 0) (xs : List A) (ys : List B) (x : A) (y : B) → AllZip R xs ys → R x y → AllZip R (xs ++ x ∷ []) (ys ++ y ∷ [])
all_zip_more R [] [] x y h r = (r, tt)
all_zip_more R [] (b ∷ ys) x y h r = absurd h
all_zip_more R (a ∷ xs) [] x y h r = absurd h
all_zip_more R (a ∷ xs) (b ∷ ys) x y h r = (h.0, all_zip_more R xs ys x y h.1 r)

-- what is so of all that a list shows is so of what one of its items shows
pub shown_at : {X A : Type 0} (P : A → Type 0) (view : X → A) (xs : List X) (k : ℕ) (item : X) → k < length xs → item ≡ get_or xs k item → All P (map view xs) → P (view item)
shown_at P view xs k item lt is all =
    subst P (get_map view xs k item (view item) lt ∙ ap view (sym is)) (all k (view item) (omega (arith, lt, length-map xs view)))

-- the front of what a list shows, one item longer
pub shown_more : {X A B : Type 0} (R : A → B → Type 0) (view : X → A) (xs : List X) (k : ℕ) (item : X) (ys more : List B) (y : B) → k < length xs → item ≡ get_or xs k item → more ≡ ys ++ y ∷ [] → AllZip R (map view (take k xs)) ys → R (view item) y → AllZip R (map view (take (k + 1) xs)) more
shown_more R view xs k item ys more y lt is pushed h r =
    let front : map view (take (k + 1) xs) ≡ map view (take k xs) ++ view item ∷ [] = ap (map view) (take_more xs k item lt) ∙ map-append view (take k xs) (get_or xs k item ∷ []) ∙ ap (λ x. map view (take k xs) ++ view x ∷ []) (sym is) in
    subst (λ zs. AllZip R zs more) (sym front) (subst (λ zs. AllZip R (map view (take k xs) ++ view item ∷ []) zs) (sym pushed) (all_zip_more R (map view (take k xs)) ys (view item) y h r))
