-- A flat deck, printed section by section.
use Rattle.std.proofs.Common.{◌≡◌, ℕ, List, [], ◌∷◌, ◌++◌, ap, sym, ◌∙◌, append_assoc}
use Rattle.std.specs.Prelude.{Option, option_to_list}
use Rattle.std.proofs.lemmas.List.{append-nil}
use Rattle.gl_text.specs.Cards.{spaced, with_tail}
use Rattle.gl_card.specs.Lines.{spaced_all}
use Rattle.gl_card.proofs.PrintLaws.{line_is}

grouped : (out title n a b c d e : List ℕ) → (((((out ++ (title ++ n)) ++ a) ++ b) ++ c) ++ d) ++ e ≡ out ++ (((((title ++ (n ++ a)) ++ b) ++ c) ++ d) ++ e)
grouped out title n a b c d e = simp append_assoc

-- a newline stands behind the title
pub sections : (out title a b c d e : List ℕ) → (((((out ++ (title ++ 10 ∷ [])) ++ a) ++ b) ++ c) ++ d) ++ e ≡ out ++ (title ++ 10 ∷ a ++ b ++ c ++ d ++ e)
sections out title a b c d e = grouped out title (10 ∷ []) a b c d e

gathered : (out name nodes model tail end : List ℕ) → ((((out ++ name) ++ nodes) ++ model) ++ tail) ++ end ≡ out ++ ((((name ++ nodes) ++ model) ++ tail) ++ end)
gathered out name nodes model tail end = simp append_assoc

-- a device's line, word by word
pub device_words : (out name : List ℕ) (nodes : List (List ℕ)) (model : Option (List ℕ)) (tail : List ℕ) → ((((out ++ name) ++ spaced_all nodes) ++ spaced_all (option_to_list model)) ++ spaced tail) ++ 10 ∷ []
    ≡ out ++ (with_tail (name ∷ nodes ++ option_to_list model) tail ++ 10 ∷ [])
device_words out name nodes model tail =
    gathered out name (spaced_all nodes) (spaced_all (option_to_list model)) (spaced tail) (10 ∷ [])
    ∙ ap (λ n. out ++ ((((n ++ spaced_all nodes) ++ spaced_all (option_to_list model)) ++ spaced tail) ++ 10 ∷ [])) (sym (append-nil name))
    ∙ ap (λ t. out ++ (t ++ 10 ∷ [])) (line_is name [] nodes (option_to_list model) (spaced tail))
