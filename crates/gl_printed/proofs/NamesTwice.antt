-- Texts that are the same, and lists of them in which nothing stands twice.
use Rattle.std.proofs.Common.{◌≡◌, ℕ, List, [], ◌∷◌, ◌++◌, false, refl, sym, ◌∙◌}
use Rattle.std.proofs.lemmas.Bool.{or_parts, or_from}
use Rattle.std.proofs.lemmas.List.Folds.{list_any-append}
use Rattle.gl_text.specs.LogicalLines.{same_text}
use Rattle.gl_text.specs.Decks.{is_in, has_twice}
use Rattle.gl_text.proofs.Names.{flipped}
pub use Rattle.gl_text.proofs.Names.{flipped as same_flip}

-- ---- lists in which nothing stands twice

pub twice_middle : (xs : List (List ℕ)) (y : List ℕ) (ys : List (List ℕ)) → has_twice (xs ++ y ∷ ys) ≡ false → is_in y xs ≡ false
twice_middle [] y ys h = refl
twice_middle (x ∷ xs) y ys h =
    let a = or_parts (is_in x (xs ++ y ∷ ys)) (has_twice (xs ++ y ∷ ys)) h in
    let b = or_parts (is_in x xs) (is_in x (y ∷ ys)) (sym (list_any-append (same_text x) xs (y ∷ ys)) ∙ a.0) in
    let c = or_parts (same_text x y) (is_in x ys) b.1 in
    or_from (same_text y x) (is_in y xs) (flipped y x ∙ c.0) (twice_middle xs y ys a.1)

pub twice_more : (xs : List (List ℕ)) (y : List ℕ) → has_twice xs ≡ false → is_in y xs ≡ false → has_twice (xs ++ y ∷ []) ≡ false
twice_more [] y h i = refl
twice_more (x ∷ xs) y h i =
    let a = or_parts (is_in x xs) (has_twice xs) h in
    let b = or_parts (same_text y x) (is_in y xs) i in
    or_from (is_in x (xs ++ y ∷ [])) (has_twice (xs ++ y ∷ []))
    (list_any-append (same_text x) xs (y ∷ []) ∙ or_from (is_in x xs) (is_in x (y ∷ [])) a.0 (or_from (same_text x y) false (flipped x y ∙ b.0) refl))
    (twice_more xs y a.1 b.1)
