-- The words of a line, printed one after another.
use Rattle.std.proofs.Common.{◌≡◌, ℕ, List, [], ◌∷◌, ◌++◌, map, refl, ap, ◌∙◌, append_assoc}
use Rattle.std.specs.Prelude.{codes}
use Rattle.std.specs.List.{join_with_byte}
use Rattle.gl_base.specs.Reports.{line}
use Rattle.gl_base.specs.RoundReports.{card_name}
use Rattle.gl_deck.specs.Bodies.{body_value, bodies_value}
use Rattle.gl_deck.specs.declared.body.Body.{Body}

-- the names of cards, one by one
pub names_of_cards : (cards : List Body) → map (λ (b : Body). card_name (body_value b)) cards ≡ map card_name (bodies_value cards)
names_of_cards [] = refl
names_of_cards (card ∷ cards) = ap (λ (names : List (List ℕ)). card_name (body_value card) ∷ names) (names_of_cards cards)

-- the front of a line
pub front_printed : (out a b c d round name : List ℕ) → a ≡ out ++ codes "round " → b ≡ a ++ round → c ≡ b ++ codes " cell " → d ≡ c ++ name → d ++ codes " key" ≡ out ++ join_with_byte 32 (codes "round" ∷ round ∷ codes "cell" ∷ name ∷ codes "key" ∷ [])
front_printed out a b c d round name e f g h =
    let pieces : d ≡ (((out ++ codes "round ") ++ round) ++ codes " cell ") ++ name = h ∙ ap (λ t. t ++ name) (g ∙ ap (λ t. t ++ codes " cell ") (f ∙ ap (λ t. t ++ round) e)) in
    ap (λ t. t ++ codes " key") pieces ∙ simp append_assoc

-- the end of a line
pub end_printed : (out a b c d depth candidates : List ℕ) → a ≡ out ++ codes " depth " → b ≡ a ++ depth → c ≡ b ++ codes " candidates " → d ≡ c ++ candidates → d ++ codes "\n" ≡ out ++ (join_with_byte 32 (codes " depth" ∷ depth ∷ codes "candidates" ∷ candidates ∷ []) ++ codes "\n")
end_printed out a b c d depth candidates e f g h =
    let pieces : d ≡ (((out ++ codes " depth ") ++ depth) ++ codes " candidates ") ++ candidates = h ∙ ap (λ t. t ++ candidates) (g ∙ ap (λ t. t ++ codes " candidates ") (f ∙ ap (λ t. t ++ depth) e)) in
    ap (λ t. t ++ codes "\n") pieces ∙ simp append_assoc

-- a line, by its pieces
pub line_printed : (out a b c round name vertex depth candidates : List ℕ) → a ≡ out ++ join_with_byte 32 (codes "round" ∷ round ∷ codes "cell" ∷ name ∷ codes "key" ∷ []) → b ≡ a ++ codes " " → c ≡ b ++ vertex
    → c ++ (join_with_byte 32 (codes " depth" ∷ depth ∷ codes "candidates" ∷ candidates ∷ []) ++ codes "\n") ≡ out ++ line (codes "round" ∷ round ∷ codes "cell" ∷ name ∷ codes "key" ∷ vertex ∷ codes "depth" ∷ depth ∷ codes "candidates" ∷ candidates ∷ [])
line_printed out a b c round name vertex depth candidates e f g =
    let last = join_with_byte 32 (codes " depth" ∷ depth ∷ codes "candidates" ∷ candidates ∷ []) ++ codes "\n" in
    let pieces : c ≡ ((out ++ join_with_byte 32 (codes "round" ∷ round ∷ codes "cell" ∷ name ∷ codes "key" ∷ [])) ++ codes " ") ++ vertex = g ∙ ap (λ t. t ++ vertex) (f ∙ ap (λ t. t ++ codes " ") e) in
    ap (λ t. t ++ last) pieces ∙ simp append_assoc
