-- Subcircuits by their names, and X cards by their calls.
use Rattle.std.proofs.Common.{◌≡◌, ℕ, List, [], ◌∷◌, cond, Option, Some, refl, ap, ◌∙◌}
use Rattle.std.specs.Map.{keys_of, values_of, lookup}
use Rattle.gl_text.specs.LogicalLines.{same_text}
use Rattle.gl_text.specs.Decks.{Sub, find_sub}
use Rattle.gl_text.proofs.Names.{flipped}
use Rattle.gl_deck.specs.Bodies.{names_of}

pub found_by : (n k m : List ℕ) (s : Sub) (o p : Option Sub) → k ≡ m → o ≡ p → cond (same_text n k) (Some s) o ≡ cond (same_text m n) (Some s) p
found_by n k m s o p e f = ap (λ j. cond (same_text n j) (Some s) o) e ∙ ap (λ b. cond b (Some s) o) (flipped n m) ∙ ap (λ q. cond (same_text m n) (Some s) q) f

-- the table finds what the list has
pub find_is : (es : List (List ℕ × Sub)) (n : List ℕ) → keys_of es ≡ names_of (values_of es) → lookup (same_text n) es ≡ find_sub (values_of es) n
find_is [] n h = refl
find_is (e ∷ es) n h =
    let head : e.0 ≡ e.1.head.name = cc in
    let tail : keys_of es ≡ names_of (values_of es) = cc in
    found_by n e.0 e.1.head.name e.1 (lookup (same_text n) es) (find_sub (values_of es) n) head (find_is es n tail)
