-- Flat names that are too long, looked for device by device.
use Rattle.gl_fault.specs.Refusals.{first_some}
use Rattle.std.proofs.Common.{◌≡◌, ◌≤◌, ◌-◌, ℕ, List, [], ◌∷◌, ◌++◌, length, take, drop, get_or, Option, Some, None, refl, sym, ap, ◌∙◌, subst, map, flat_map, arith}
use Rattle.std.proofs.lemmas.List.{take_all}
use Rattle.gl_text.specs.LogicalLines.{Fault}
use Rattle.gl_text.specs.Flattening.{FlatDevice, Bearer, bearers, bearer_name, long_in}
use Rattle.gl_printed.proofs.Each.{each_right}
use Rattle.gl_flat.specs.LongNames.{AreCountable, IsCountable, long_name}

whole : {A : Type 0} (xs : List A) (n : ℕ) → length xs ≤ n → take n xs ≡ xs
whole xs n e = take_all n xs e

pub head_of : {A : Type 0} (xs : List A) (x : A) → 1 ≤ length xs → x ≡ get_or xs 0 x → xs ≡ x ∷ take (length xs - 1) (drop 1 xs)
head_of [] x some e = absurd (omega (arith, some))
head_of (y ∷ ys) x some e = ap (λ z. z ∷ ys) (sym e) ∙ ap (λ zs. x ∷ zs) (sym (whole ys (length (y ∷ ys) - 1) (omega arith)))

none_by : (o : Option Fault) (xs ys zs : List (Option Fault)) → (first_some xs ≡ None → first_some ys ≡ first_some zs) → first_some (o ∷ xs) ≡ None → first_some (o ∷ ys) ≡ first_some zs
none_by None xs ys zs r h = r h
none_by (Some g) xs ys zs r h = absurd cc

none_behind : (f : Bearer → Option Fault) (xs ys : List Bearer) → first_some (map f xs) ≡ None → first_some (map f (xs ++ ys)) ≡ first_some (map f ys)
none_behind f [] ys e = refl
none_behind f (x ∷ xs) ys e = none_by (f x) (map f xs) (map f (xs ++ ys)) (map f ys) (none_behind f xs ys) e

some_by : (o : Option Fault) (xs ys : List (Option Fault)) (g : Fault) → (first_some xs ≡ Some g → first_some ys ≡ Some g) → first_some (o ∷ xs) ≡ Some g → first_some (o ∷ ys) ≡ Some g
some_by None xs ys g r h = r h
some_by (Some k) xs ys g r h = h

some_before : (f : Bearer → Option Fault) (xs ys : List Bearer) (g : Fault) → first_some (map f xs) ≡ Some g → first_some (map f (xs ++ ys)) ≡ Some g
some_before f [] ys g e = absurd cc
some_before f (x ∷ xs) ys g e = some_by (f x) (map f xs) (map f (xs ++ ys)) g (some_before f xs ys g) e

abbrev long_by : Bearer → Option Fault
long_by b = long_name (bearer_name b)

-- the first device has one
pub long_now : (xs behind : List FlatDevice) (x : FlatDevice) (g : Fault) → xs ≡ x ∷ behind → Some g ≡ long_in (bearers x) → Some g ≡ long_in (flat_map bearers xs)
long_now xs behind x g e f = sym (ap (λ ds. long_in (flat_map bearers ds)) e ∙ some_before long_by (bearers x) (flat_map bearers behind) g (sym f))

-- or has none
pub long_later : (xs behind : List FlatDevice) (x : FlatDevice) → xs ≡ x ∷ behind → None ≡ long_in (bearers x) → long_in (flat_map bearers behind) ≡ long_in (flat_map bearers xs)
long_later xs behind x e f = sym (ap (λ ds. long_in (flat_map bearers ds)) e ∙ none_behind long_by (bearers x) (flat_map bearers behind) (sym f))

pub countable_behind : (xs behind : List FlatDevice) (x : FlatDevice) → xs ≡ x ∷ behind → AreCountable (flat_map bearers xs) → AreCountable (flat_map bearers behind)
countable_behind xs behind x e h = each_right (λ b. IsCountable (bearer_name b)) (bearers x) (flat_map bearers behind) (subst (λ ds. AreCountable (flat_map bearers ds)) e h)
