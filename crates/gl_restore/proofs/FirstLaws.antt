-- The first of mapped items that a test finds, from an item on.
use Rattle.std.proofs.Common.{◌≡◌, ◌+◌, ◌<◌, ◌≤◌, ℕ, List, ◌∷◌, Bool, true, false, cond, Option, None, Some, length, drop, get_or, map, sym, ap, ◌∙◌}
use Rattle.std.specs.Prelude.{find}
use Rattle.std.proofs.lemmas.List.{drop_more, drop_all}

split : {A : Type 0} (xs : List A) (i : ℕ) (x : A) → i < length xs → x ≡ get_or xs i x → drop i xs ≡ x ∷ drop (i + 1) xs
split xs i x lt is = drop_more xs i x lt ∙ ap (λ c. c ∷ drop (i + 1) xs) (sym is)

step : {A B : Type 0} (f : A → B) (p : B → Bool) (xs : List A) (i : ℕ) (x : A) (b : Bool) → i < length xs → x ≡ get_or xs i x → p (f x) ≡ b
    → find p (map f (drop i xs)) ≡ cond b (Some (f x)) (find p (map f (drop (i + 1) xs)))
step f p xs i x b lt is e = ap (λ ys. find p (map f ys)) (split xs i x lt is) ∙ ap (λ c. cond c (Some (f x)) (find p (map f (drop (i + 1) xs)))) e

-- the item is found
pub find_here : {A B : Type 0} (f : A → B) (p : B → Bool) (xs : List A) (i : ℕ) (x : A) (whole : Option B) → i < length xs → x ≡ get_or xs i x → p (f x) ≡ true
    → find p (map f (drop i xs)) ≡ whole → whole ≡ Some (f x)
find_here f p xs i x whole lt is on h = sym h ∙ step f p xs i x true lt is on

-- the item is passed over
pub find_more : {A B : Type 0} (f : A → B) (p : B → Bool) (xs : List A) (i : ℕ) (x : A) (whole : Option B) → i < length xs → x ≡ get_or xs i x → p (f x) ≡ false
    → find p (map f (drop i xs)) ≡ whole → find p (map f (drop (i + 1) xs)) ≡ whole
find_more f p xs i x whole lt is off h = sym (step f p xs i x false lt is off) ∙ h

-- no item is left
pub find_none : {A B : Type 0} (f : A → B) (p : B → Bool) (xs : List A) (i : ℕ) (whole : Option B) → length xs ≤ i → find p (map f (drop i xs)) ≡ whole → whole ≡ None
find_none f p xs i whole past h = sym h ∙ ap (λ ys. find p (map f ys)) (drop_all i xs past)

-- ---- the same of items themselves

plain : {A : Type 0} (p : A → Bool) (xs : List A) (i : ℕ) (x : A) (b : Bool) → i < length xs → x ≡ get_or xs i x → p x ≡ b
    → find p (drop i xs) ≡ cond b (Some x) (find p (drop (i + 1) xs))
plain p xs i x b lt is e = ap (find p) (split xs i x lt is) ∙ ap (λ c. cond c (Some x) (find p (drop (i + 1) xs))) e

pub plain_here : {A : Type 0} (p : A → Bool) (xs : List A) (i : ℕ) (x : A) (whole : Option A) → i < length xs → x ≡ get_or xs i x → p x ≡ true → find p (drop i xs) ≡ whole → whole ≡ Some x
plain_here p xs i x whole lt is on h = sym h ∙ plain p xs i x true lt is on

pub plain_more : {A : Type 0} (p : A → Bool) (xs : List A) (i : ℕ) (x : A) (whole : Option A) → i < length xs → x ≡ get_or xs i x → p x ≡ false → find p (drop i xs) ≡ whole → find p (drop (i + 1) xs) ≡ whole
plain_more p xs i x whole lt is off h = sym (plain p xs i x false lt is off) ∙ h
