-- A deck as it is read, printed, reads back.
use Rattle.std.proofs.Common.{◌≡◌, ◌≤◌, ℕ, List, [], ◌∷◌, ◌++◌, length, map, true, not, None, Ok, refl, sym, ap, ◌∙◌, subst, arith, codes, filter, flat_map, le-ltb}
use Rattle.std.specs.List.{AllByRecursion}
use Rattle.gl_text.specs.LogicalLines.{LINE, long_line, open_subckt, same_text, title_of, after_title, logical_lines}
use Rattle.gl_fault.specs.Refusals.{first_some, when, or_else, ◌>>=◌}
use Rattle.gl_text.specs.Cards.{Model, ended}
use Rattle.gl_text.specs.Decks.{Body, Sub, Deck, Scope, Placed, top_scope, is_inside, placed_from, once, deck_by, left_open, call_fault, file_lines, read_deck, line_of, deck_text}
use Rattle.gl_printed.specs.ReadCards.{IsFine}
use Rattle.gl_printed.specs.PrintedLines.{numbered}
use Rattle.gl_printed.specs.ReadDecks.{IsReadDeck, cards_of, unnumbered, ReadsBack}
use Rattle.gl_lists.proofs.Each.{each_append}
use Rattle.gl_printed.proofs.FineByKind.{ended_fine}
use Rattle.gl_printed.proofs.PrintedLineLaws.{lines_again}
use Rattle.gl_printed.proofs.DeckCards.{all_are, all_cards}
use Rattle.gl_printed.proofs.DeckTextLaws.{rest_again, text_is, title_again}
use Rattle.gl_printed.proofs.Renumbered.{Same}
use Rattle.gl_printed.proofs.PlacedCards.{each_part, globals_again, models_again, passed_again, placing, scope_at_end}
use Rattle.gl_printed.proofs.ScopedCards.{subs_again, top_again}
use Rattle.gl_printed.proofs.PlacingLaws.{Sits, placed_again}
use Rattle.gl_printed.proofs.Reading.{finish}
use Rattle.gl_printed.proofs.GlobalLaws.{globals_same}
use Rattle.gl_printed.proofs.FineCards.{all_fine, all_go_on}
use Rattle.gl_fault.proofs.FirstLaws.{no_first}
use Rattle.gl_printed.proofs.SittingCards.{all_called, all_differ, all_sit}

-- ---- the same deck

deck_with : List ℕ → List (List ℕ) → List Model → List Sub → List Body → List (List ℕ) → Deck
deck_with t g m s u p = record { title = t; globals = g; models = m; subs = s; top = u; passed = p }

same_deck : (d e : Deck) → d.title ≡ e.title → d.globals ≡ e.globals → d.models ≡ e.models → d.subs ≡ e.subs → d.top ≡ e.top → d.passed ≡ e.passed → d ≡ e
unfolding deck_with
same_deck d e a b c f g h =
    ap (λ x. deck_with x d.globals d.models d.subs d.top d.passed) a ∙ ap (λ x. deck_with e.title x d.models d.subs d.top d.passed) b ∙ ap (λ x. deck_with e.title e.globals x d.subs d.top d.passed) c
    ∙ ap (λ x. deck_with e.title e.globals e.models x d.top d.passed) f ∙ ap (λ x. deck_with e.title e.globals e.models e.subs x d.passed) g ∙ ap (deck_with e.title e.globals e.models e.subs e.top) h

placed_deck : Deck → List Placed
placed_deck d = placing 2 top_scope (all_cards d)

deck_again : (d : Deck) → IsReadDeck d → unnumbered (deck_by d.title (placed_deck d)) ≡ unnumbered d
unfolding placed_deck
deck_again d h =
    let again = deck_by d.title (placed_deck d) in
    let g = ap (λ ns. filter (λ n. not (same_text n (codes "0"))) (once ns)) (globals_again d 2) ∙ globals_same d.globals h.globals_differ h.no_zero in
    same_deck (unnumbered again) (unnumbered d) refl g (models_again d 2) (subs_again d 2 (omega arith)) (top_again d 2 (omega arith)) (passed_again d 2)

-- ---- the reading, step by step

title_kept : (text : List ℕ) → length (title_of text) ≤ LINE → read_deck true text ≡ (placed_from [] (file_lines true text) >>= finish (title_of text))
unfolding finish
title_kept text l = ap (λ t. or_else (when t (long_line 1 (length (title_of text)))) [] >>= λ before. placed_from before (file_lines true text) >>= finish (title_of text)) (le-ltb LINE (length (title_of text)) l)

closed : (d : Deck) → left_open (placed_deck d) ≡ None
unfolding placed_deck
closed d = ap (λ (s : Scope). when (is_inside s) (open_subckt s.line)) (scope_at_end d 2)

finished : (d : Deck) → IsReadDeck d → finish d.title (placed_deck d) ≡ Ok (deck_by d.title (placed_deck d))
unfolding finish placed_deck
finished d h =
    let again = deck_by d.title (placed_deck d) in
    let e : Same again.subs d.subs = subs_again d 2 (omega arith) in
    let calls : first_some (map (call_fault again.subs) (placed_deck d)) ≡ None = no_first (call_fault again.subs) (placed_deck d) (each_part (λ p. call_fault again.subs p ≡ None) d (all_called d again.subs h e) 2 (omega arith)) in
    ap (λ o. or_else o again >>= λ deck. or_else (first_some (map (call_fault deck.subs) (placed_deck d))) deck) (closed d) ∙ ap (λ o. or_else o again) calls

lines_are : (d : Deck) → IsReadDeck d → (text : List ℕ) → after_title text ≡ flat_map line_of (cards_of d ++ ended ∷ []) → file_lines true text ≡ map Ok (numbered 2 (all_cards d))
lines_are d h text e = ap (logical_lines 2) e ∙ lines_again 2 (cards_of d) (all_fine d h) (all_go_on d) ∙ ap (λ cs. map Ok (numbered 2 cs)) (all_are d)

cards_are : (d : Deck) → IsReadDeck d → placed_from [] (map Ok (numbered 2 (all_cards d))) ≡ Ok (placed_deck d)
unfolding placed_deck
cards_are d h = placed_again (all_cards d) [] top_scope 2 refl (subst (AllByRecursion IsFine) (all_are d) (each_append IsFine (cards_of d) (ended ∷ []) (all_fine d h) (ended_fine, tt)))
    (each_part Sits d (all_sit d h) 2 (omega arith)) (all_differ d h)

read_by : (d : Deck) → IsReadDeck d → (text : List ℕ) → title_of text ≡ d.title → after_title text ≡ flat_map line_of (cards_of d ++ ended ∷ []) → read_deck true text ≡ Ok (deck_by d.title (placed_deck d))
read_by d h text t a =
    title_kept text (subst (λ x. length x ≤ LINE) (sym t) h.title.short) ∙ ap (λ ls. placed_from [] ls >>= finish (title_of text)) (lines_are d h text a)
    ∙ ap (λ r. r >>= finish (title_of text)) (cards_are d h) ∙ ap (λ x. finish x (placed_deck d)) t ∙ finished d h

-- a deck as it is read, printed, reads back
pub read_back : (deck : Deck) → IsReadDeck deck → ReadsBack deck
read_back d h =
    let body = flat_map line_of (cards_of d ++ ended ∷ []) in
    let e = text_is d in
    record {
      again = deck_by d.title (placed_deck d);
      is_read = read_by d h (deck_text d) (ap title_of e ∙ title_again d.title body h.title) (ap after_title e ∙ rest_again d.title body h.title);
      is_same = deck_again d h;
    }
