-- The printed deck, cut into its title and its printed cards.
use Rattle.std.proofs.Common.{◌≡◌, ◌+◌, ℕ, suc, List, [], ◌∷◌, ◌++◌, length, take, drop, map, cond, eqb, not, Some, refl, sym, ap, ◌∙◌, arith, append-nil, append_assoc, flat_map, add-one}
use Rattle.std.specs.List.{position_or_len}
use Rattle.std.proofs.lemmas.Grind.{flat_map-append}
use Rattle.std.proofs.lemmas.List.Folds.{flat_map-map}
use Rattle.std.proofs.Math.Seq.{take-append_seam}
use Rattle.gl_text.specs.LogicalLines.{title_of, after_title, trim_end}
use Rattle.gl_text.specs.Cards.{subckt, ends, global, model, passed, ended}
use Rattle.gl_text.specs.Decks.{Body, dev_at, call_at, Sub, Deck, body_line, sub_text, line_of, deck_text}
use Rattle.gl_text.specs.WayBack.{IsOneLine}
use Rattle.gl_printed.specs.ReadDecks.{IsTitle, body_card, sub_cards, cards_of}
use Rattle.gl_printed.proofs.DeckCards.{all_are, all_cards, picked_parts}

-- ---- the cards of a deck, printed

body_lines : (bs : List Body) → flat_map (λ b. line_of (body_card b)) bs ≡ flat_map body_line bs
body_lines [] = refl
body_lines (dev_at line d ∷ bs) = ap (λ t. body_line (dev_at line d) ++ t) (body_lines bs)
body_lines (call_at line c ∷ bs) = ap (λ t. body_line (call_at line c) ++ t) (body_lines bs)

sub_is : (s : Sub) → flat_map line_of (sub_cards s) ≡ sub_text s
sub_is s =
    let e = ends (Some s.head.name) in
    ap (λ t. line_of (subckt s.head) ++ t)
    (flat_map-append line_of (map body_card s.cards) (e ∷ []) ∙ ap (λ t. t ++ (line_of e ++ [])) (flat_map-map line_of body_card s.cards ∙ body_lines s.cards) ∙ ap (λ t. flat_map body_line s.cards ++ t) (append-nil (line_of e)))
    ∙ sym (append_assoc (line_of (subckt s.head)) (flat_map body_line s.cards) (line_of e))

subs_are : (ss : List Sub) → flat_map (λ s. flat_map line_of (sub_cards s)) ss ≡ flat_map sub_text ss
subs_are [] = refl
subs_are (s ∷ ss) = ap (λ t. t ++ flat_map (λ u. flat_map line_of (sub_cards u)) ss) (sub_is s) ∙ ap (λ t. sub_text s ++ t) (subs_are ss)

lines_of_all : (d : Deck) → flat_map line_of (all_cards d) ≡ flat_map (λ n. line_of (global (n ∷ []))) d.globals ++ (flat_map (λ m. line_of (model m)) d.models
    ++ (flat_map sub_text d.subs ++ (flat_map body_line d.top ++ (flat_map (λ t. line_of (passed t)) d.passed ++ line_of ended))))
lines_of_all d = picked_parts line_of d (flat_map (λ n. line_of (global (n ∷ []))) d.globals) (flat_map (λ m. line_of (model m)) d.models) (flat_map sub_text d.subs) (flat_map body_line d.top) (flat_map (λ t. line_of (passed t)) d.passed ++ line_of ended)
    refl refl (subs_are d.subs) (body_lines d.top) refl

regroup : (t g m s u p e : List ℕ) → t ++ g ++ m ++ s ++ u ++ p ++ e ≡ t ++ (g ++ (m ++ (s ++ (u ++ (p ++ e)))))
regroup t g m s u p e = simp append_assoc

-- the printed deck is its title and its cards
pub text_is : (d : Deck) → deck_text d ≡ d.title ++ 10 ∷ flat_map line_of (cards_of d ++ ended ∷ [])
text_is d =
    regroup d.title (10 ∷ flat_map (λ n. line_of (global (n ∷ []))) d.globals) (flat_map (λ m. line_of (model m)) d.models) (flat_map sub_text d.subs) (flat_map body_line d.top) (flat_map (λ t. line_of (passed t)) d.passed) (line_of ended)
    ∙ ap (λ t. d.title ++ 10 ∷ t) (sym (ap (flat_map line_of) (all_are d) ∙ lines_of_all d))

-- ---- the title, read again

title_length : (title rest : List ℕ) → IsOneLine title → position_or_len (λ b. eqb b 10) (title ++ 10 ∷ rest) ≡ length title
title_length [] rest h = refl
title_length (b ∷ title) rest h = let ih = title_length title rest h.1 in ap (λ t. cond (not t) (1 + position_or_len (λ x. eqb x 10) (title ++ 10 ∷ rest)) 0) h.0 ∙ omega arith

behind_title : (title rest : List ℕ) → drop (suc (length title)) (title ++ 10 ∷ rest) ≡ rest
behind_title [] rest = refl
behind_title (b ∷ title) rest = behind_title title rest

pub title_again : (title rest : List ℕ) → IsTitle title → title_of (title ++ 10 ∷ rest) ≡ title
title_again title rest h = ap (λ n. trim_end (λ b. eqb b 13) (take n (title ++ 10 ∷ rest))) (title_length title rest h.one_line) ∙ ap (trim_end (λ b. eqb b 13)) (take-append_seam title (10 ∷ rest)) ∙ h.no_returns

pub rest_again : (title rest : List ℕ) → IsTitle title → after_title (title ++ 10 ∷ rest) ≡ rest
rest_again title rest h = ap (λ n. drop (n + 1) (title ++ 10 ∷ rest)) (title_length title rest h.one_line) ∙ ap (λ n. drop n (title ++ 10 ∷ rest)) (add-one (length title)) ∙ behind_title title rest
