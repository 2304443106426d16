-- What is flattened: the cards outside subcircuits, or a subcircuit.
use Rattle.std.proofs.Common.{◌≡◌, ℕ, List, [], ◌∷◌, map, Option, Some, None, Ok, Err, refl, sym, ap, ◌∙◌, subst}
use Rattle.gl_fault.specs.Refusals.{or_else}
use Rattle.gl_fault.proofs.FirstLaws.{or_else_ok}
use Rattle.gl_text.specs.LogicalLines.{Fault, no_top}
use Rattle.gl_text.specs.Cards.{Head}
use Rattle.gl_text.specs.Decks.{Body, Deck, Sub, find_sub}
use Rattle.gl_text.specs.Flattening.{chosen}
use Rattle.gl_printed.specs.ReadDecks.{AllDiffer, IsReadDeck, body_name}
use Rattle.gl_printed.proofs.FlatDevices.{found_sub}
use Rattle.gl_flat.specs.Steps.{beside_fault}

-- what is found is what the deck has
pub found_in : (d : Deck) (subs : List Sub) (name : List ℕ) (o : Option Sub) → o ≡ find_sub subs name → subs ≡ d.subs → find_sub d.subs name ≡ o
found_in d subs name o e same = ap (λ ss. find_sub ss name) (sym same) ∙ sym e

pub none_chosen : (d : Deck) (name : List ℕ) → find_sub d.subs name ≡ None → chosen d (Some name) ≡ Err (no_top name)
none_chosen d name e = rw e refl

-- a top's head, and cards
abbrev pub Picked : Type 0
Picked = Option Head × List Body

abbrev pub picked : Option Head → List Body → Picked
picked head cards = (head, cards)

-- a subcircuit that is there is the top, unless a card stands beside it
pub sub_chosen : (d : Deck) (name : List ℕ) (s : Sub) (top : List Body) → find_sub d.subs name ≡ Some s → top ≡ d.top → chosen d (Some name) ≡ or_else (beside_fault top) (picked (Some s.head) s.cards)
sub_chosen d name s [] e f = rw e (rw (sym f) refl)
sub_chosen d name s (card ∷ cards) e f = rw e (rw (sym f) refl)

-- ---- the names of what is chosen

-- what is given in place of a refusal, or of none
given_differ : (o : Option Fault) (p q : Picked) → or_else o p ≡ Ok q → AllDiffer (map body_name p.1) → AllDiffer (map body_name q.1)
given_differ o p q e h = subst (λ (x : Picked). AllDiffer (map body_name x.1)) ((or_else_ok o p q e).1) h

refused_differ : (f : Fault) (p q : Picked) → or_else (Some f) p ≡ Ok q → AllDiffer (map body_name q.1)
refused_differ f p q e = absurd cc

found_differ : (d : Deck) (name : List ℕ) (head : Option Head) (cards : List Body) (o : Option Sub) → IsReadDeck d → find_sub d.subs name ≡ o → chosen d (Some name) ≡ Ok (head, cards) → AllDiffer (map body_name cards)
found_differ d name head cards None h e g = refused_differ (no_top name) (picked head cards) (picked head cards) (sym (none_chosen d name e) ∙ g)
found_differ d name head cards (Some s) h e g =
    given_differ (beside_fault d.top) (picked (Some s.head) s.cards) (picked head cards) (sym (sub_chosen d name s d.top e refl) ∙ g) (found_sub d.subs d.subs h.subs name s e).names_differ

-- they differ
pub chosen_differ : (d : Deck) (top : Option (List ℕ)) (head : Option Head) (cards : List Body) → IsReadDeck d → chosen d top ≡ Ok (head, cards) → AllDiffer (map body_name cards)
chosen_differ d None head cards h e = given_differ None (picked None d.top) (picked head cards) e h.top_differ
chosen_differ d (Some name) head cards h e = found_differ d name head cards (find_sub d.subs name) h refl e
