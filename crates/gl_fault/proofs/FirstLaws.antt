-- The first of several refusals, and what follows where there is none.
use Rattle.std.proofs.Common.{◌≡◌, List, [], ◌∷◌, ◌++◌, map, Bool, true, false, Option, Some, None, Result, Ok, Err, All, refl, ap, ◌∙◌, arith}
use Rattle.std.specs.List.{AllByRecursion}
use Rattle.std.specs.Option.{option_or}
use Rattle.std.proofs.lemmas.List.Elements.{All-cons}
use Rattle.gl_fault.specs.Refusals.{first_some, when, or_else, ◌>>=◌}

-- ---- one refusal, and others

pub only : {F : Type 0} (o : Option F) → first_some (o ∷ []) ≡ o
only None = refl
only (Some f) = refl

-- the same in front of lists with the same first refusal
pub first_behind : {F : Type 0} (o : Option F) (xs ys : List (Option F)) → first_some xs ≡ first_some ys → first_some (o ∷ xs) ≡ first_some (o ∷ ys)
first_behind None xs ys e = e
first_behind (Some f) xs ys e = refl

-- one more is looked for behind others
pub first_more : {F : Type 0} (xs : List (Option F)) (y : Option F) → option_or (first_some xs) y ≡ first_some (xs ++ y ∷ [])
first_more [] None = refl
first_more [] (Some f) = refl
first_more (None ∷ xs) y = first_more xs y
first_more (Some f ∷ xs) y = refl

-- ---- none

pub none_first : {F : Type 0} (o : Option F) (os : List (Option F)) → first_some (o ∷ os) ≡ None → (o ≡ None) × (first_some os ≡ None)
none_first None os h = (refl, h)
none_first (Some f) os h = absurd cc

pub none_of : {F : Type 0} (os : List (Option F)) → first_some os ≡ None → AllByRecursion (λ o. o ≡ None) os
none_of [] h = tt
none_of (None ∷ os) h = (refl, none_of os h)
none_of (Some f ∷ os) h = absurd cc

-- and back
pub first_none : {F : Type 0} (os : List (Option F)) → AllByRecursion (λ o. o ≡ None) os → first_some os ≡ None
first_none [] h = refl
first_none (o ∷ os) h = ap (λ v. first_some (v ∷ os)) h.0 ∙ first_none os h.1

-- no item is refused
pub no_first : {F X : Type 0} (f : X → Option F) (xs : List X) → AllByRecursion (λ x. f x ≡ None) xs → first_some (map f xs) ≡ None
no_first f [] h = refl
no_first f (x ∷ xs) h = ap (λ o. first_some (o ∷ map f xs)) h.0 ∙ no_first f xs h.1

-- and what is known of each item that is not
pub none_each : {F X : Type 0} (f : X → Option F) (P : X → Type 0) → ((x : X) → f x ≡ None → P x) → (xs : List X) → first_some (map f xs) ≡ None → All P xs
none_each f P g [] h = λ k d lt. absurd (omega arith)
none_each f P g (x ∷ xs) h = let e = none_first (f x) (map f xs) h in All-cons P x xs (g x e.0) (none_each f P g xs e.1)

pub when_none : {F : Type 0} (b : Bool) (f : F) → when b f ≡ None → b ≡ false
when_none true f h = absurd cc
when_none false f h = refl

-- ---- values

-- what was given was not refused, and is what was to be given
pub or_else_ok : {F A : Type 0} (o : Option F) (x y : A) → or_else o x ≡ Ok y → (o ≡ None) × (x ≡ y)
or_else_ok None x y h = (refl, cc)
or_else_ok (Some f) x y h = absurd cc

-- what follows was given, so what comes before was too
pub bind_ok : {F A B : Type 0} (r : Result A F) (k : A → Result B F) (y : B) → (r >>= k) ≡ Ok y → (x : A) × (r ≡ Ok x) × (k x ≡ Ok y)
bind_ok (Ok x) k y h = (x, refl, h)
bind_ok (Err f) k y h = absurd cc
