-- What was read is a deck as it is read.
use Rattle.std.proofs.Common.{◌≡◌, ◌≤◌, ◌+◌, ℕ, List, [], ◌∷◌, length, take, map, cond, eqb, ltb, true, false, not, Bool, Some, None, Result, Ok, refl, sym, ap, ◌∙◌, subst, arith, codes, filter_map, flat_map, ltb-false, one-add}
use Rattle.std.specs.List.{AllByRecursion, position_or_len}
use Rattle.gl_text.specs.LogicalLines.{LINE, Fault, long_line, Line, same_text, title_of, after_title}
use Rattle.gl_fault.specs.Refusals.{first_some, or_else, ◌>>=◌}
use Rattle.gl_text.specs.Cards.{Model, model, global, passed}
use Rattle.gl_text.specs.Decks.{Body, Sub, Deck, Placed, has_twice, placed_from, model_of, sub_of, passed_of, globals_of, once, deck_by, left_open, call_fault, title_fault, file_lines, read_deck}
use Rattle.gl_text.specs.WayBack.{IsOneLine}
use Rattle.gl_printed.specs.ReadCards.{IsFine}
use Rattle.gl_printed.specs.ReadDecks.{IsTitle, FindsSub, IsReadDeck}
use Rattle.gl_lists.proofs.Each.{each_filter, each_to}
use Rattle.gl_printed.proofs.Bytes.{each_end, twice_by}
use Rattle.gl_fault.proofs.FirstLaws.{none_first, or_else_ok, when_none, bind_ok}
use Rattle.gl_printed.proofs.DistinctNames.{body_in}
use Rattle.gl_printed.proofs.Reading.{finish}
use Rattle.gl_printed.proofs.ReadLineLaws.{InOrder, lines_in_order}
use Rattle.gl_printed.proofs.HeldCards.{Held, cards_held}
use Rattle.gl_printed.proofs.GlobalLaws.{card_globals, differ_filter, each_once, no_zero_left, once_differ}
use Rattle.gl_printed.proofs.PickedCards.{bodies_fine, each_flat, each_picked, model_picked, passed_picked}
use Rattle.gl_printed.proofs.CalledSubs.{top_call}
use Rattle.gl_printed.proofs.ReadSubLaws.{Unrefused, sub_names, subs_read}

-- ---- the deck

deck_read : (title : List ℕ) (m : ℕ) (cards : List Placed) → IsTitle title → Held m cards → Unrefused (filter_map (sub_of cards) cards) cards → IsReadDeck (deck_by title cards)
deck_read title m cards t h u =
    let fine : AllByRecursion (λ (p : Placed). IsFine p.card) cards = h.fine in
    let subs = filter_map (sub_of cards) cards in
    let names = flat_map globals_of cards in
    let f : List ℕ → Type 0 = λ n. IsFine (global (n ∷ [])) in
    record {
      title = t;
      globals = each_filter (λ n. IsFine (global (n ∷ []))) (λ n. not (same_text n (codes "0"))) (once names) (each_once (λ n. IsFine (global (n ∷ []))) names
          (each_flat (λ n. IsFine (global (n ∷ []))) globals_of cards (each_to (λ (p : Placed). IsFine p.card) (λ p. AllByRecursion (λ n. IsFine (global (n ∷ []))) (globals_of p)) (λ p i. card_globals p.scope p.line p.card i) cards fine)));
      globals_differ = differ_filter (λ n. not (same_text n (codes "0"))) (once names) (once_differ names);
      no_zero = no_zero_left (once names);
      models = each_picked (λ m. IsFine (model m)) model_of cards (each_to (λ (p : Placed). IsFine p.card) (λ p. (m : Model) → model_of p ≡ Some m → IsFine (model m)) (λ p i. model_picked p.scope p.line p.card i) cards fine);
      models_differ = h.differ.models;
      subs = subs_read m cards subs h u;
      subs_differ = ap has_twice (sub_names cards cards) ∙ h.differ.subs;
      top = bodies_fine 0 m cards h;
      top_differ = h.differ.scopes 0;
      top_calls = each_picked (FindsSub subs) (body_in 0) cards (each_to (λ p. call_fault subs p ≡ None) (λ p. (b : Body) → body_in 0 p ≡ Some b → FindsSub subs b) (λ p i. top_call subs p.scope p.line p.card i) cards u);
      passed = each_picked (λ t. IsFine (passed t)) passed_of cards (each_to (λ (p : Placed). IsFine p.card) (λ p. (t : List ℕ) → passed_of p ≡ Some t → IsFine (passed t)) (λ p i. passed_picked p.scope p.line p.card i) cards fine);
    }

-- ---- the title

first_line : (bytes : List ℕ) → IsOneLine (take (position_or_len (λ b. eqb b 10) bytes) bytes)
first_line [] = tt
first_line (b ∷ bs) = by (eqb b 10) refl (first_line bs) where
  by : (t : Bool) → eqb b 10 ≡ t → IsOneLine (take (position_or_len (λ x. eqb x 10) bs) bs) → IsOneLine (take (cond (not t) (1 + position_or_len (λ x. eqb x 10) bs) 0) (b ∷ bs))
  by true e r = tt
  by false e r = subst (λ k. IsOneLine (take k (b ∷ bs))) (sym (one-add (position_or_len (λ x. eqb x 10) bs))) (e, r)

title_read : (bytes : List ℕ) → title_fault true bytes ≡ None → IsTitle (title_of bytes)
title_read bytes e = record {
  one_line = each_end (λ b. eqb b 10 ≡ false) (λ b. eqb b 13) (take (position_or_len (λ b. eqb b 10) bytes) bytes) (first_line bytes);
  no_returns = twice_by (λ b. eqb b 13) (take (position_or_len (λ b. eqb b 10) bytes) bytes);
  short = ltb-false LINE (length (title_of bytes)) (when_none (ltb LINE (length (title_of bytes))) (long_line 1 (length (title_of bytes))) e);
}

no_title : IsTitle []
no_title = record { one_line = tt; no_returns = refl; short = omega arith }

-- ---- the whole file

all_unrefused : (subs : List Sub) (cards : List Placed) → first_some (map (call_fault subs) cards) ≡ None → Unrefused subs cards
all_unrefused subs [] e = tt
all_unrefused subs (p ∷ ps) e = let a = none_first (call_fault subs p) (map (call_fault subs) ps) e in (a.0, all_unrefused subs ps a.1)

file_read : (n : ℕ) (lines : List (Result Line Fault)) (title : List ℕ) (deck : Deck) → 1 ≤ n → InOrder n lines → IsTitle title → (placed_from [] lines >>= finish title) ≡ Ok deck → IsReadDeck deck
unfolding finish
file_read n lines title deck l i t h =
    let a = bind_ok (placed_from [] lines) (finish title) deck h in
    let cards = a.0 in
    let b = bind_ok (or_else (left_open cards) (deck_by title cards)) (λ d. or_else (first_some (map (call_fault d.subs) cards)) d) deck a.2 in
    let c = or_else_ok (left_open cards) (deck_by title cards) b.0 b.1 in
    let d = or_else_ok (first_some (map (call_fault b.0.subs) cards)) b.0 deck b.2 in
    let held = cards_held lines n cards l i a.1 in
    let calls = all_unrefused (filter_map (sub_of cards) cards) cards (subst (λ (x : Deck). first_some (map (call_fault x.subs) cards) ≡ None) (sym c.1) d.0) in
    subst IsReadDeck (c.1 ∙ d.1) (deck_read title held.0 cards t held.1 calls)

-- what was read, with or without a title, is a deck as it is read
pub read_fine : (has_title : Bool) (bytes : List ℕ) (deck : Deck) → read_deck has_title bytes ≡ Ok deck → IsReadDeck deck
unfolding finish
read_fine true bytes deck h =
    let a = bind_ok (or_else (title_fault true bytes) []) (λ before. placed_from before (file_lines true bytes) >>= finish (title_of bytes)) deck h in
    let b = or_else_ok (title_fault true bytes) [] a.0 a.1 in
    file_read 2 (file_lines true bytes) (title_of bytes) deck (omega arith) (lines_in_order 2 (after_title bytes)) (title_read bytes b.0) (subst (λ x. (placed_from x (file_lines true bytes) >>= finish (title_of bytes)) ≡ Ok deck) (sym b.1) a.2)
read_fine false bytes deck h = file_read 1 (file_lines false bytes) [] deck (omega arith) (lines_in_order 1 bytes) no_title h
