-- Lists beside each other: what holds of pairs, of what stands in the one list.
use Rattle.std.proofs.Common.{◌≡◌, ◌<◌, ℕ, suc, List, [], ◌∷◌, length, get_or, map, refl, ap, ap₂, subst, arith, inl, inr}
use Rattle.std.specs.Prelude.{Contains, zip}
use Rattle.std.specs.List.{AllByRecursion, AllZip}
use Rattle.gl_match.proofs.Lists.{Once, in_head, in_tail, in_cons, in_none, in_map, from_map}
pub use Rattle.gl_lists.proofs.Zips.{map_map as map_again}

-- what stands in the one list has something beside it in the other
partner : {X Y : Type 0} (R : X → Y → Type 0) (xs : List X) (ys : List Y) → AllZip R xs ys → (x : X) → Contains xs x → (y : Y) × Contains ys y × R x y
partner R [] ys h x at = absurd (in_none x at)
partner R (z ∷ xs) [] h x at = absurd h
partner {X} {Y} R (z ∷ xs) (y ∷ ys) h x at = elim (in_cons z xs x at) [
  | inl same ↦ (y, in_head y ys, subst (λ (w : X). R w y) same h.0)
  | inr later ↦ let r = partner R xs ys h.1 x later in (r.0, in_tail y ys r.0 r.1, r.2)
]

-- where keys beside each other tell each other, keys differ in the one list where they do in the other
pub once_beside : {X Y K L : Type 0} (R : X → Y → Type 0) (f : X → K) (g : Y → L) (xs : List X) (ys : List Y) → AllZip R xs ys → ((x z : X) (y w : Y) → Contains ys y → Contains ys w → R x y → R z w → f x ≡ f z → g y ≡ g w) → Once (map g ys) → Once (map f xs)
once_beside R f g [] ys h tell once = tt
once_beside R f g (x ∷ xs) [] h tell once = absurd h
once_beside {X} {Y} {K} {L} R f g (x ∷ xs) (y ∷ ys) h tell once = (
  (λ at.
      let r = from_map f xs (f x) at in
      let p = partner R xs ys h.1 r.0 r.1 in
      once.0 (subst (λ (l : L). Contains (map g ys) l) (tell r.0 x p.0 y (in_tail y ys p.0 p.1) (in_head y ys) p.2 h.0 r.2) (in_map g ys p.0 p.1))),
  once_beside R f g xs ys h.1 (λ a b c d ac ad. tell a b c d (in_tail y ys c ac) (in_tail y ys d ad)) once.1,
)

-- what is known of all pairs holds of each of the one list
pub each_beside : {X Y : Type 0} (R : X → Y → Type 0) (P : X → Type 0) (xs : List X) (ys : List Y) → AllZip R xs ys → ((x : X) (y : Y) → Contains ys y → R x y → P x) → AllByRecursion P xs
each_beside R P [] ys h f = tt
each_beside R P (x ∷ xs) [] h f = absurd h
each_beside R P (x ∷ xs) (y ∷ ys) h f = (f x y (in_head y ys) h.0, each_beside R P xs ys h.1 (λ a b at. f a b (in_tail y ys b at)))

-- what stands beside each other stands at one place
pub zip_get : {X Y : Type 0} (xs : List X) (ys : List Y) (d : X) (e : Y) (z : X × Y) → Contains (zip xs ys) z → (k : ℕ) × (k < length xs) × (k < length ys) × (get_or xs k d ≡ z.0) × (get_or ys k e ≡ z.1)
zip_get [] ys d e z at = absurd (in_none z at)
zip_get (x ∷ xs) [] d e z at = absurd (in_none z at)
zip_get {X} {Y} (x ∷ xs) (y ∷ ys) d e z at = elim (in_cons (x, y) (zip xs ys) z at) [
  | inl same ↦ (0, omega arith, omega arith, ap (λ (w : X × Y). w.0) same, ap (λ (w : X × Y). w.1) same)
  | inr later ↦ let r = zip_get xs ys d e z later in (suc r.0, omega (arith, r.1), omega (arith, r.2), r.3, r.4)
]

-- functions that agree on a list's items
pub map_both : {X Y : Type 0} (f g : X → Y) (xs : List X) → ((x : X) → Contains xs x → f x ≡ g x) → map f xs ≡ map g xs
map_both f g [] h = refl
map_both {X} {Y} f g (x ∷ xs) h = ap₂ (λ (y : Y) (ys : List Y). y ∷ ys) (h x (in_head x xs)) (map_both f g xs (λ z at. h z (in_tail x xs z at)))
