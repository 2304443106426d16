-- Lists beside each other, item by item.
use Rattle.std.proofs.Common.{◌≡◌, ◌+◌, ◌<◌, ℕ, zero, suc, List, [], ◌∷◌, ◌++◌, length, get_or, map, refl, ap, ◌∙◌, subst, inl, inr, arith}
use Rattle.std.specs.Prelude.{All, AllPairs, Contains}
use Rattle.std.proofs.lemmas.List.{get_or_append_left, length-append}
use Rattle.gl_lists.proofs.Membership.{in_head, in_tail, in_cons, in_none}
use Rattle.std.specs.List.{range_with_len, AllZip, zip}

-- related item by item, by index
pub all_zip_by : {X Y : Type 0} (R : X → Y → Type 0) (xs : List X) (ys : List Y) (d : X) (e : Y) → length xs ≡ length ys → ((k : ℕ) → k < length xs → R (get_or xs k d) (get_or ys k e)) → AllZip R xs ys
all_zip_by R [] [] d e len h = tt
all_zip_by R [] (y ∷ ys) d e len h = absurd (omega (arith, len))
all_zip_by R (x ∷ xs) [] d e len h = absurd (omega (arith, len))
all_zip_by R (x ∷ xs) (y ∷ ys) d e len h = (h 0 (omega arith), all_zip_by R xs ys d e (omega (arith, len)) (λ k lt. h (suc k) (omega (arith, lt))))

pub all_zip_push : {X Y : Type 0} (R : X → Y → Type 0) (xs : List X) (ys : List Y) (x : X) (y : Y) → AllZip R xs ys → R x y → AllZip R (xs ++ x ∷ []) (ys ++ y ∷ [])
all_zip_push R [] [] x y h r = (r, tt)
all_zip_push R [] (z ∷ ys) x y h r = absurd h
all_zip_push R (z ∷ xs) [] x y h r = absurd h
all_zip_push R (u ∷ xs) (v ∷ ys) x y h r = (h.0, all_zip_push R xs ys x y h.1 r)

pub get_zip : {X Y : Type 0} (xs : List X) (ys : List Y) (k : ℕ) (d : X) (e : Y) → k < length xs → k < length ys → get_or (zip xs ys) k (d, e) ≡ (get_or xs k d, get_or ys k e)
get_zip [] ys k d e lt gt = absurd (omega (arith, lt))
get_zip (x ∷ xs) [] k d e lt gt = absurd (omega (arith, gt))
get_zip (x ∷ xs) (y ∷ ys) zero d e lt gt = refl
get_zip (x ∷ xs) (y ∷ ys) (suc k) d e lt gt = get_zip xs ys k d e (omega (arith, lt)) (omega (arith, gt))

pub length_zip : {X Y : Type 0} (xs : List X) (ys : List Y) → length xs ≡ length ys → length (zip xs ys) ≡ length xs
length_zip [] ys e = refl
length_zip (x ∷ xs) [] e = absurd (omega (arith, e))
length_zip (x ∷ xs) (y ∷ ys) e = ap suc (length_zip xs ys (omega (arith, e)))

-- a list read at each of its indexes
pub map_get_range : {X : Type 0} (xs : List X) (d : X) → map (λ k. get_or xs k d) (range_with_len 0 (length xs)) ≡ xs
map_get_range {X} xs d = from xs 0 (λ k. get_or xs k d) d (λ k lt. ap (λ j. get_or xs j d) (omega arith)) where
  from : {X : Type 0} (xs : List X) (a : ℕ) (f : ℕ → X) (d : X) → ((k : ℕ) → k < length xs → f (a + k) ≡ get_or xs k d) → map f (range_with_len a (length xs)) ≡ xs
  from [] a f d h = refl
  from {X} (x ∷ xs) a f d h =
      let first : f a ≡ x = ap f (omega arith) ∙ h 0 (omega arith) in
      let rest : map f (range_with_len (a + 1) (length xs)) ≡ xs = from xs (a + 1) f d (λ k lt. ap f (omega arith) ∙ h (suc k) (omega (arith, lt))) in
      cc

pub pair_eq : {X Y : Type 0} (a b : X × Y) → a.0 ≡ b.0 → a.1 ≡ b.1 → a ≡ b
pair_eq (x, y) (u, v) e f = cc

pub length_zips : {X Y : Type 0} (R : X → Y → Type 0) (xs : List X) (ys : List Y) → AllZip R xs ys → length xs ≡ length ys
length_zips R [] [] h = refl
length_zips R [] (y ∷ ys) h = absurd h
length_zips R (x ∷ xs) [] h = absurd h
length_zips R (x ∷ xs) (y ∷ ys) h = ap suc (length_zips R xs ys h.1)

-- ---- fronts

pub zip_front : {X Y : Type 0} (R : X → Y → Type 0) (xs xs' : List X) (ys ys' : List Y) → length xs ≡ length ys → AllZip R (xs ++ xs') (ys ++ ys') → AllZip R xs ys
zip_front R [] xs' [] ys' e h = tt
zip_front R [] xs' (y ∷ ys) ys' e h = absurd (omega (arith, e))
zip_front R (x ∷ xs) xs' [] ys' e h = absurd (omega (arith, e))
zip_front R (x ∷ xs) xs' (y ∷ ys) ys' e h = (h.0, zip_front R xs xs' ys ys' (omega (arith, e)) h.1)

pub pairs_front : {X : Type 0} (R : X → X → Type 0) (xs ys : List X) → AllPairs R (xs ++ ys) → AllPairs R xs
pairs_front R xs ys h i j d lt lt' =
    let both = h i j d lt (omega (arith, length-append xs ys)) in
    rw (get_or_append_left xs ys d i (omega arith), get_or_append_left xs ys d j lt') at both

pub all_front : {X : Type 0} (P : X → Type 0) (xs ys : List X) → All P (xs ++ ys) → All P xs
all_front P xs ys h k d lt =
    let one = h k d (omega (arith, length-append xs ys)) in
    rw (get_or_append_left xs ys d k lt) at one

-- ---- what stands in lists beside each other

pub left_in : {X Y : Type 0} (xs : List X) (ys : List Y) (p : X × Y) → Contains (zip xs ys) p → Contains xs p.0
left_in [] ys p h = absurd (in_none p h)
left_in (x ∷ xs) [] p h = absurd (in_none p h)
left_in {X} {Y} (x ∷ xs) (y ∷ ys) p h = elim (in_cons (x, y) (zip xs ys) p h) [
  | inl same ↦ subst (λ (z : X × Y). Contains (x ∷ xs) z.0) same (in_head x xs)
  | inr later ↦ in_tail x xs p.0 (left_in xs ys p later)
]

pub right_in : {X Y : Type 0} (xs : List X) (ys : List Y) (p : X × Y) → Contains (zip xs ys) p → Contains ys p.1
right_in [] ys p h = absurd (in_none p h)
right_in (x ∷ xs) [] p h = absurd (in_none p h)
right_in {X} {Y} (x ∷ xs) (y ∷ ys) p h = elim (in_cons (x, y) (zip xs ys) p h) [
  | inl same ↦ subst (λ (z : X × Y). Contains (y ∷ ys) z.1) same (in_head y ys)
  | inr later ↦ in_tail y ys p.1 (right_in xs ys p later)
]

-- a map after a map
pub map_map : {X Y Z : Type 0} (f : Y → Z) (g : X → Y) (xs : List X) → map f (map g xs) ≡ map (λ x. f (g x)) xs
map_map f g [] = refl
map_map {X} {Y} {Z} f g (x ∷ xs) = ap (λ (zs : List Z). f (g x) ∷ zs) (map_map f g xs)
