-- Tables of what was put under numbers first.
use Rattle.std.proofs.Common.{◌≡◌, ◌==◌, ◌⊎◌, ◌+◌, ◌<◌, ℕ, zero, suc, List, [], ◌∷◌, ◌++◌, length, map, take, get_or, Option, Some, None, refl, sym, ap, ◌∙◌, inl, inr}
use Rattle.std.specs.Prelude.{find, option_map, unwrap_or}
use Rattle.std.specs.Option.{option_or}
use Rattle.std.proofs.lemmas.List.Folds.{find-append}
use Rattle.std.proofs.lemmas.List.{take_more, map-append}
use Rattle.gl_lifting.specs.NameMaps.{under}
use Rattle.gl_named.specs.Firsts.{at_number, Adds, Holds}
use Rattle.gl_named.specs.Walks.{net_row}

-- nothing behind a table is as nothing past its end
pub none_behind : {A : Type 0} (table : List (Option A)) (k : ℕ) → at_number (table ++ None ∷ []) k ≡ at_number table k
none_behind [] zero = refl
none_behind [] (suc k) = refl
none_behind (o ∷ os) zero = refl
none_behind (o ∷ os) (suc k) = none_behind os k

-- first of some
pub or_assoc : {A : Type 0} (a b c : Option A) → option_or (option_or a b) c ≡ option_or a (option_or b c)
or_assoc None b c = refl
or_assoc (Some x) b c = refl

map_or : {A B : Type 0} (f : A → B) (a b : Option A) → option_map f (option_or a b) ≡ option_or (option_map f a) (option_map f b)
map_or f None b = refl
map_or f (Some x) b = refl

-- under a number stands the first row of some, or else of others
pub under_append : {A : Type 0} (rows more : List (ℕ × A)) (n : ℕ) → under (rows ++ more) n ≡ option_or (under rows n) (under more n)
under_append {A} rows more n =
    ap (option_map (λ (row : ℕ × A). row.1)) (find-append (λ (row : ℕ × A). row.0 == n) rows more)
    ∙ map_or (λ (row : ℕ × A). row.1) (find (λ (row : ℕ × A). row.0 == n) rows) (find (λ (row : ℕ × A). row.0 == n) more)

-- rows and then more
pub adds_both : {A : Type 0} (a b c : List (Option A)) (rows more : List (ℕ × A)) → Adds a b rows → Adds b c more → Adds a c (rows ++ more)
adds_both a b c rows more one two n =
    two n ∙ ap (λ o. option_or o (under more n)) (one n) ∙ or_assoc (at_number a n) (under rows n) (under more n) ∙ ap (option_or (at_number a n)) (sym (under_append rows more n))

-- row by row: with those of one put, those of the rest are left
pub rest_more : {A : Type 0} (old new : List (Option A)) (row rest all : List (ℕ × A)) (whole : Option A) (n : ℕ) → Adds old new row → all ≡ row ++ rest → option_or (at_number old n) (under all n) ≡ whole → option_or (at_number new n) (under rest n) ≡ whole
rest_more old new row rest all whole n one split before =
    ap (λ o. option_or o (under rest n)) (one n)
    ∙ or_assoc (at_number old n) (under row n) (under rest n)
    ∙ ap (option_or (at_number old n)) (sym (under_append row rest n))
    ∙ ap (λ rows. option_or (at_number old n) (under rows n)) (sym split)
    ∙ before

-- or else nothing
pub or_none : {A : Type 0} (o : Option A) → option_or o None ≡ o
or_none None = refl
or_none (Some x) = refl

-- rows are in a table that held others
pub holds_more : {A : Type 0} (old new : List (Option A)) (rows more : List (ℕ × A)) → Holds old rows → Adds old new more → Holds new (rows ++ more)
holds_more old new rows more held adds n = adds n ∙ ap (λ o. option_or o (under more n)) (held n) ∙ sym (under_append rows more n)

-- where no rows are left, all are put
pub rest_none : {A : Type 0} (table : List (Option A)) (rest : List (ℕ × A)) (whole : Option A) (n : ℕ) → rest ≡ [] → option_or (at_number table n) (under rest n) ≡ whole → at_number table n ≡ whole
rest_none table rest whole n none before =
    sym (or_none (at_number table n)) ∙ sym (ap (λ rows. option_or (at_number table n) (under rows n)) none) ∙ before

-- one of two lists has no items, nor has it where they are mapped
pub both_empty : {A B C D : Type 0} (f : A → C) (g : B → D) (xs : List A) (ys : List B) → (xs ≡ []) ⊎ (ys ≡ []) → (map f xs ≡ []) ⊎ (map g ys ≡ [])
both_empty f g xs ys (inl e) = inl (ap (map f) e)
both_empty f g xs ys (inr e) = inr (ap (map g) e)

pub first_empty : {A B C : Type 0} (f : A → C) (xs : List A) (ys : List B) → (xs ≡ []) ⊎ (ys ≡ []) → (map f xs ≡ []) ⊎ (ys ≡ [])
first_empty f xs ys (inl e) = inl (ap (map f) e)
first_empty f xs ys (inr e) = inr e

-- a loop over what gives a row each
pub adds_next : {X A : Type 0} (f : X → ℕ × A) (old now new : List (Option A)) (xs : List X) (i : ℕ) (x : X) → i < length xs → x ≡ get_or xs i x → Adds old now (map f (take i xs)) → Adds now new (map f (x ∷ [])) → Adds old new (map f (take (i + 1) xs))
adds_next f old now new xs i x lt is before step n =
    adds_both old now new (map f (take i xs)) (map f (x ∷ [])) before step n
    ∙ ap (λ rows. option_or (at_number old n) (under rows n)) (sym (map-append f (take i xs) (x ∷ [])) ∙ ap (map f) (ap (λ y. take i xs ++ y ∷ []) is ∙ sym (take_more xs i x lt)))

-- rows of nets tell the images that they are told by
pub rows_agree : (way : List ℕ) (one two : ℕ → Option ℕ) → ((n : ℕ) → one n ≡ two n) → (nets : List (ℕ × List ℕ)) → map (net_row way one) nets ≡ map (net_row way two) nets
rows_agree way one two same [] = refl
rows_agree way one two same (net ∷ nets) =
    ap (λ (o : Option ℕ). (unwrap_or o 0, way ++ net.1) ∷ map (net_row way one) nets) (same net.0)
    ∙ ap (λ rows. net_row way two net ∷ rows) (rows_agree way one two same nets)
