-- Lengths of texts, added up text by text.
use Rattle.std.proofs.Common.{◌≡◌, ℕ, List, [], ◌∷◌, ◌++◌, sym, ap, ◌∙◌, append_assoc, arith, length-append}
use Rattle.std.specs.Prelude.{codes}
use Rattle.gl_text.specs.Cards.{Head, subckt}
use Rattle.gl_text.specs.Decks.{line_of}
use Rattle.gl_card.specs.Lines.{spaced_all}
use Rattle.gl_card.proofs.PrintLaws.{joined}
use Rattle.gl_flat.specs.Lengths.{after}

-- a text behind a text
pub both : (t : ℕ) (x y : List ℕ) → after (after t x) y ≡ after t (x ++ y)
both t x y = let e = length-append x y in omega arith

-- one more text
pub next : (t : ℕ) (a b c : List ℕ) (r s : ℕ) → r ≡ after t a → s ≡ after r b → b ≡ c → s ≡ after t (a ++ c)
next t a b c r s e f g = f ∙ ap (λ k. after k b) e ∙ both t a b ∙ ap (λ x. after t (a ++ x)) g

-- the line that opens the top subcircuit
pub head_words : (h : Head) → ((codes ".subckt" ++ 32 ∷ h.name) ++ spaced_all h.ports) ++ 10 ∷ [] ≡ line_of (subckt h)
head_words h = ap (λ t. t ++ 10 ∷ []) (append_assoc (codes ".subckt") (32 ∷ h.name) (spaced_all h.ports) ∙ sym (joined (codes ".subckt") (h.name ∷ h.ports)))
