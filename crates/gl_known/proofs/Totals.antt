-- Sums over lists, by recursion on the list.
use Rattle.std.proofs.Common.{◌≡◌, ◌≤◌, ◌+◌, ℕ, List, [], ◌∷◌, length, cond, Bool, true, false, Option, Some, None, refl, ap, ◌∙◌, arith}
use Rattle.std.specs.Prelude.{filter, filter_map, flat_map, sum_by}
use Rattle.std.specs.List.{cons_option}
use Rattle.std.proofs.lemmas.List.{length-append}
use Rattle.std.proofs.lemmas.List.Sums.{sum_by-cons}

-- f summed over a list
abbrev pub total : {X : Type 0} → (X → ℕ) → List X → ℕ
total f [] = 0
total f (x ∷ xs) = f x + total f xs

-- one for each item
abbrev pub one : {X : Type 0} → X → ℕ
one x = 1

-- f of what there is
abbrev pub if_some : {X : Type 0} → (X → ℕ) → Option X → ℕ
if_some f None = 0
if_some f (Some x) = f x

-- the sum as the contracts have it
pub total_is : {X : Type 0} (f : X → ℕ) (xs : List X) → sum_by f xs ≡ total f xs
total_is f [] = refl
total_is f (x ∷ xs) = sum_by-cons f x xs ∙ ap (λ n. f x + n) (total_is f xs)

-- a length is a sum of ones
pub length_is : {X : Type 0} (xs : List X) → length xs ≡ total one xs
length_is [] = refl
length_is (x ∷ xs) = let h = length_is xs in omega arith

-- sums of smaller terms are smaller, and of the same terms the same
pub total-le : {X : Type 0} (f g : X → ℕ) → ((x : X) → f x ≤ g x) → (xs : List X) → total f xs ≤ total g xs
total-le f g le [] = omega arith
total-le f g le (x ∷ xs) = let h = le x in let t = total-le f g le xs in omega arith

pub total-same : {X : Type 0} (f g : X → ℕ) → ((x : X) → f x ≡ g x) → (xs : List X) → total f xs ≡ total g xs
total-same f g same [] = refl
total-same f g same (x ∷ xs) = let h = same x in let t = total-same f g same xs in omega arith

kept_by : {X : Type 0} (f : X → ℕ) (b : Bool) (x : X) (xs : List X) → total f (cond b (x ∷ xs) xs) ≤ f x + total f xs
kept_by f true x xs = omega arith
kept_by f false x xs = omega arith

-- what is left of a list has no larger sum
pub total-filter : {X : Type 0} (f : X → ℕ) (test : X → Bool) (xs : List X) → total f (filter test xs) ≤ total f xs
total-filter f test [] = omega arith
total-filter f test (x ∷ xs) = let h = kept_by f (test x) x (filter test xs) in let t = total-filter f test xs in omega arith

some_by : {Y : Type 0} (f : Y → ℕ) (o : Option Y) (ys : List Y) → total f (cons_option o ys) ≡ if_some f o + total f ys
some_by f None ys = omega arith
some_by f (Some y) ys = refl

-- sums over what is made of a list
pub total-filter_map : {X Y : Type 0} (f : Y → ℕ) (h : X → Option Y) (xs : List X) → total f (filter_map h xs) ≡ total (λ x. if_some f (h x)) xs
total-filter_map f h [] = refl
total-filter_map f h (x ∷ xs) = some_by f (h x) (filter_map h xs) ∙ ap (λ n. if_some f (h x) + n) (total-filter_map f h xs)

pub length-flat_map : {X Y : Type 0} (h : X → List Y) (xs : List X) → length (flat_map h xs) ≡ total (λ x. length (h x)) xs
length-flat_map h [] = refl
length-flat_map h (x ∷ xs) = let t = length-flat_map h xs in length-append (h x) (flat_map h xs) ∙ ap (λ n. length (h x) + n) t
