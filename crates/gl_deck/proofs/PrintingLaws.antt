-- A deck, printed section by section.
use Rattle.std.proofs.Common.{◌≡◌, ℕ, List, [], ◌∷◌, ◌++◌, ap, ◌∙◌, append_assoc}

grouped : (out title n a b c d e f : List ℕ) → ((((((out ++ (title ++ n)) ++ a) ++ b) ++ c) ++ d) ++ e) ++ f ≡ out ++ ((((((title ++ (n ++ a)) ++ b) ++ c) ++ d) ++ e) ++ f)
grouped out title n a b c d e f = simp append_assoc

-- a newline stands behind the title
pub sections : (out title a b c d e f : List ℕ) → ((((((out ++ (title ++ 10 ∷ [])) ++ a) ++ b) ++ c) ++ d) ++ e) ++ f ≡ out ++ (title ++ 10 ∷ a ++ b ++ c ++ d ++ e ++ f)
sections out title a b c d e f = grouped out title (10 ∷ []) a b c d e f

-- one more section
pub one_more : {A : Type 0} (section : A → List ℕ) (old new text : List ℕ) (x y : A) → new ≡ old ++ section x → x ≡ y → old ≡ text → new ≡ text ++ section y
one_more section old new text x y e f g = e ∙ ap (λ z. old ++ section z) f ∙ ap (λ t. t ++ section y) g
