-- A printed text stays as it is, read and printed again.
use Rattle.std.proofs.Common.{◌≡◌, ℕ, List, [], ◌∷◌, ◌++◌, map, flat_map, Bool, true, Result, Ok, Option, Some, refl, sym, ap, ◌∙◌, subst}
use Rattle.gl_text.specs.LogicalLines.{Fault}
use Rattle.gl_text.specs.Cards.{subckt, ends, global, model, passed, ended}
use Rattle.gl_text.specs.Flattening.{flat_text, flatten, flat_of, flat_job}
use Rattle.gl_fault.specs.Refusals.{◌>>=◌}
use Rattle.gl_text.specs.Decks.{Body, dev_at, call_at, Sub, Deck, body_line, sub_text, line_of, read_deck, deck_text}
use Rattle.gl_printed.specs.ReadDecks.{unnumbered_body, unnumbered_sub, unnumbered, reprinted}
use Rattle.gl_fault.proofs.FirstLaws.{bind_ok}
use Rattle.gl_printed.proofs.ReadDeckLaws.{read_fine}
use Rattle.gl_printed.proofs.ReadBackLaws.{read_back}
use Rattle.gl_printed.proofs.FlatAlike.{alike}

bare_lines : (bs : List Body) → flat_map body_line (map unnumbered_body bs) ≡ flat_map body_line bs
bare_lines [] = refl
bare_lines (dev_at line d ∷ bs) = ap (λ t. body_line (dev_at line d) ++ t) (bare_lines bs)
bare_lines (call_at line c ∷ bs) = ap (λ t. body_line (call_at line c) ++ t) (bare_lines bs)

bare_subs : (ss : List Sub) → flat_map sub_text (map unnumbered_sub ss) ≡ flat_map sub_text ss
bare_subs [] = refl
bare_subs (s ∷ ss) = ap (λ t. (line_of (subckt s.head) ++ t ++ line_of (ends (Some s.head.name))) ++ flat_map sub_text (map unnumbered_sub ss)) (bare_lines s.cards) ∙ ap (λ t. sub_text s ++ t) (bare_subs ss)

-- line numbers are not printed
pub bare_text : (d : Deck) → deck_text (unnumbered d) ≡ deck_text d
bare_text d =
    let front = d.title ++ 10 ∷ flat_map (λ n. line_of (global (n ∷ []))) d.globals ++ flat_map (λ m. line_of (model m)) d.models in
    let back = flat_map (λ t. line_of (passed t)) d.passed in
    ap (λ t. front ++ t ++ flat_map body_line (map unnumbered_body d.top) ++ back ++ line_of ended) (bare_subs d.subs) ∙ ap (λ t. front ++ flat_map sub_text d.subs ++ t ++ back ++ line_of ended) (bare_lines d.top)

ok_is : (x y : List ℕ) (r : Result (List ℕ) Fault) → r ≡ Ok x → r ≡ Ok y → x ≡ y
ok_is x y r e f = cc

-- a text that was printed from what was read stays
pub text_stays : (has_title : Bool) (bytes text : List ℕ) → reprinted has_title bytes ≡ Ok text → reprinted true text ≡ Ok text
text_stays has_title bytes text h =
    let a = bind_ok (read_deck has_title bytes) (λ deck. Ok (deck_text deck)) text h in
    let deck = a.0 in
    let e : deck_text deck ≡ text = ok_is (deck_text deck) text (Ok (deck_text deck)) refl a.2 in
    let r = read_back deck (read_fine has_title bytes deck a.1) in
    let f : deck_text r.again ≡ deck_text deck = sym (bare_text r.again) ∙ ap deck_text r.is_same ∙ bare_text deck in
    subst (λ t. reprinted true t ≡ Ok text) e (ap (λ x. x >>= λ d. Ok (deck_text d)) r.is_read ∙ ap Ok (f ∙ e))

-- and flattens alike
pub flattens_alike : (top : Option (List ℕ)) (bytes text flat : List ℕ) → reprinted true bytes ≡ Ok text → flat_job top bytes ≡ Ok flat → flat_job top text ≡ Ok flat
flattens_alike top bytes text flat h k =
    let a = bind_ok (read_deck true bytes) (λ deck. Ok (deck_text deck)) text h in
    let deck = a.0 in
    let e : deck_text deck ≡ text = ok_is (deck_text deck) text (Ok (deck_text deck)) refl a.2 in
    let b = bind_ok (flat_of top bytes) (λ f. Ok (flat_text f)) flat k in
    let r = read_back deck (read_fine true bytes deck a.1) in
    let here : flatten deck deck.globals top ≡ Ok b.0 = sym (ap (λ x. x >>= λ d. flatten d d.globals top) a.1) ∙ b.1 in
    let again : flatten r.again deck.globals top ≡ Ok b.0 = alike deck r.again deck.globals top b.0 (sym r.is_same) here in
    let rails : r.again.globals ≡ deck.globals = ap (λ (d : Deck). d.globals) r.is_same in
    let all : flat_of top (deck_text deck) ≡ Ok b.0 = ap (λ x. x >>= λ d. flatten d d.globals top) r.is_read ∙ ap (λ x. flatten r.again x top) rails ∙ again in
    subst (λ t. flat_job top t ≡ Ok flat) e (ap (λ x. x >>= λ g. Ok (flat_text g)) all ∙ b.2)
