-- The cards of a deck as it is read are fine, and none but the last ends the file.
use Rattle.std.proofs.Common.{◌≡◌, ℕ, List, [], ◌∷◌, ◌++◌, map, eqb, false, Some, refl, arith, codes, flat_map}
use Rattle.std.specs.List.{AllByRecursion, join_with_byte}
use Rattle.std.proofs.lemmas.List.{length-append}
use Rattle.gl_text.specs.Cards.{Card, Head, model, subckt, ends, global, passed}
use Rattle.gl_text.specs.Decks.{Body, dev_at, call_at, Sub, Deck}
use Rattle.gl_text.specs.WayBack.{IsOneLine}
use Rattle.gl_printed.specs.ReadCards.{IsFine}
use Rattle.gl_printed.specs.PrintedLines.{is_end}
use Rattle.gl_printed.specs.ReadDecks.{body_card, IsReadSub, IsReadDeck, sub_cards, cards_of}
use Rattle.gl_lists.proofs.Each.{each_append, each_map, each_right, each_to, each_true}
use Rattle.gl_printed.proofs.GlobalLaws.{lines_joined}

each_sub : (P : Card → Type 0) (ss : List Sub) → AllByRecursion (λ s. AllByRecursion P (sub_cards s)) ss → AllByRecursion P (flat_map sub_cards ss)
each_sub P [] h = tt
each_sub P (s ∷ ss) h = each_append P (sub_cards s) (flat_map sub_cards ss) h.0 (each_sub P ss h.1)

each_card : (P : Card → Type 0) (d : Deck) → AllByRecursion (λ n. P (global (n ∷ []))) d.globals → AllByRecursion (λ m. P (model m)) d.models → AllByRecursion (λ s. AllByRecursion P (sub_cards s)) d.subs
    → AllByRecursion (λ b. P (body_card b)) d.top → AllByRecursion (λ t. P (passed t)) d.passed → AllByRecursion P (cards_of d)
each_card P d g m s t p =
    let f : List ℕ → Card = λ n. global (n ∷ []) in
    let gs = map f d.globals in
    let ms = map model d.models in
    let ss = flat_map sub_cards d.subs in
    let ts = map body_card d.top in
    let a = each_append P gs ms (each_map P f d.globals g) (each_map P model d.models m) in
    let b = each_append P (gs ++ ms) ss a (each_sub P d.subs s) in
    let c = each_append P (gs ++ ms ++ ss) ts b (each_map P body_card d.top t) in
    each_append P (gs ++ ms ++ ss ++ ts) (map passed d.passed) c (each_map P passed d.passed p)

body_goes_on : (b : Body) → is_end (body_card b) ≡ false
body_goes_on (dev_at line d) = refl
body_goes_on (call_at line c) = refl

sub_goes_on : (s : Sub) → AllByRecursion (λ c. is_end c ≡ false) (sub_cards s)
sub_goes_on s = (refl, each_append (λ c. is_end c ≡ false) (map body_card s.cards) (ends (Some s.head.name) ∷ []) (each_map (λ c. is_end c ≡ false) body_card s.cards (each_true (λ b. is_end (body_card b) ≡ false) body_goes_on s.cards)) (refl, tt))

pub all_go_on : (d : Deck) → AllByRecursion (λ c. is_end c ≡ false) (cards_of d)
all_go_on d = each_card (λ c. is_end c ≡ false) d (each_true (λ n. is_end (global (n ∷ [])) ≡ false) (λ n. refl) d.globals) (each_true (λ m. is_end (model m) ≡ false) (λ m. refl) d.models)
    (each_true (λ s. AllByRecursion (λ c. is_end c ≡ false) (sub_cards s)) sub_goes_on d.subs) (each_true (λ b. is_end (body_card b) ≡ false) body_goes_on d.top) (each_true (λ t. is_end (passed t) ≡ false) (λ t. refl) d.passed)

-- the card that closes a subcircuit is fine, where its head is
close_fine : (h : Head) → IsFine (subckt h) → IsFine (ends (Some h.name))
close_fine h f =
    let name = h.name in
    let line : IsOneLine name = (lines_joined name h.ports (each_right (λ b. eqb b 10 ≡ false) (codes ".subckt ") (join_with_byte 32 (name ∷ h.ports)) f.one_line)).0 in
    let short = f.is_read.0.short in
    let e = length-append (codes ".ends ") name in
    record {
      is_read = (f.is_read.0, tt);
      one_line = each_append (λ b. eqb b 10 ≡ false) (codes ".ends ") name (refl, (refl, (refl, (refl, (refl, (refl, tt)))))) line;
      short = omega arith;
    }

sub_fine : (subs : List Sub) (s : Sub) → IsReadSub subs s → AllByRecursion IsFine (sub_cards s)
sub_fine subs s h = (h.head, each_append IsFine (map body_card s.cards) (ends (Some s.head.name) ∷ []) (each_map IsFine body_card s.cards h.cards) (close_fine s.head h.head, tt))

pub all_fine : (d : Deck) → IsReadDeck d → AllByRecursion IsFine (cards_of d)
all_fine d h = each_card IsFine d h.globals h.models (each_to (IsReadSub d.subs) (λ s. AllByRecursion IsFine (sub_cards s)) (sub_fine d.subs) d.subs h.subs) h.top h.passed
