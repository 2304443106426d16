-- The deck that is read line by line is the deck of the definition.
use Rattle.std.proofs.Common.{◌≡◌, ◌<◌, ◌+◌, ℕ, List, [], ◌∷◌, ◌++◌, Bool, Option, Some, None, Result, Ok, Err, refl, sym, ap, ◌∙◌, subst, arith}
use Rattle.gl_text.specs.LogicalLines.{Fault, Line}
use Rattle.gl_fault.specs.Refusals.{or_else, ◌>>=◌}
use Rattle.gl_text.specs.Cards.{no_card, card_of}
use Rattle.gl_text.specs.Decks.{Sub, Deck, Scope, Placed, placed_from, title_fault, file_lines, read_deck, scope_behind}
use Rattle.gl_deck.specs.Drafts.{Draft, empty_draft, with_card, draft_after, card_fault, drafted_from, finished, title_in, deck_behind, deck_by_draft}
use Rattle.gl_deck.proofs.Ascent.{Ascends, file_rises}
use Rattle.gl_deck.proofs.PlacedLists.{placed}
use Rattle.gl_deck.proofs.CardSteps.{current_after}
use Rattle.gl_deck.proofs.FaultSteps.{place_fault, fault_at, faults_same, nothing_nested, nothing_known}
use Rattle.gl_deck.proofs.DraftOf.{IsDraftOf, numbered, step, nothing_yet}
use Rattle.gl_deck.proofs.DraftEnds.{whole, ends_same}

-- ---- line by line

abbrev drafted : List ℕ → Draft → List (Result Line Fault) → Result Deck Fault
drafted title d ls = drafted_from d ls >>= λ e. finished title e

abbrev defined : List ℕ → List Placed → List (Result Line Fault) → Result Deck Fault
defined title cards ls = placed_from cards ls >>= λ cs. whole title cs

-- a line that has a card, by what refuses it
card_by : (title : List ℕ) (cards : List Placed) (new : Draft) (p : Placed) (ls : List (Result Line Fault)) (o q : Option Fault) → q ≡ o → (o ≡ None → drafted title new ls ≡ defined title (cards ++ p ∷ []) ls)
    → ((or_else o new >>= λ e. drafted_from e ls) >>= λ e. finished title e) ≡ ((or_else q p >>= λ r. placed_from (cards ++ r ∷ []) ls) >>= λ cs. whole title cs)
card_by title cards new p ls None q same h = h refl ∙ ap (λ r. ((or_else r p >>= λ t. placed_from (cards ++ t ∷ []) ls) >>= λ cs. whole title cs)) (sym same)
card_by title cards new p ls (Some f) q same h = ap (λ r. ((or_else r p >>= λ t. placed_from (cards ++ t ∷ []) ls) >>= λ cs. whole title cs)) (sym same)

abbrev placed_here : List Placed → Line → Placed
placed_here cards l = record { scope = scope_behind cards; line = l.line; card = card_of l.text }

-- a line, by what leaves it without a card
line_by : (title : List ℕ) (cards : List Placed) (d : Draft) (l : Line) (ls : List (Result Line Fault)) (o : Option Fault)
    → ((or_else (card_fault d l (card_of l.text)) (draft_after d l.line (card_of l.text)) >>= λ e. drafted_from e ls) >>= λ e. finished title e)
    ≡ ((or_else (place_fault cards (record { scope = scope_behind cards; line = l.line; card = card_of l.text }) l) (record { scope = scope_behind cards; line = l.line; card = card_of l.text }) >>= λ r. placed_from (cards ++ r ∷ []) ls) >>= λ cs. whole title cs)
    → (((or_else o (card_of l.text) >>= λ card. or_else (card_fault d l card) (draft_after d l.line card)) >>= λ e. drafted_from e ls) >>= λ e. finished title e)
    ≡ (((or_else o (placed_here cards l) >>= λ p. or_else (place_fault cards p l) p) >>= λ r. placed_from (cards ++ r ∷ []) ls) >>= λ cs. whole title cs)
line_by title cards d l ls None h = h
line_by title cards d l ls (Some f) h = refl

same_from : (title : List ℕ) (b : ℕ) (cards : List Placed) (cur : Option Sub) (d : Draft) (ls : List (Result Line Fault)) → 0 < b → Ascends b ls → IsDraftOf b cards cur d → drafted title d ls ≡ defined title cards ls
same_from title b cards cur d [] some up h = ends_same b cards cur d title h
same_from title b cards cur d (Err f ∷ ls) some up h = refl
same_from title b cards cur d (Ok l ∷ ls) some up h =
    let card = card_of l.text in
    let p : Placed = placed cur l.line card in
    let new : Draft = with_card cur d l.line card in
    let faults : place_fault cards p l ≡ fault_at cur d l card =
    faults_same cards cur d l card (numbered b cards d cur h.subs_are.current_is) (record { here = h.here_are; of_models = h.model_names_are; heads = h.subs_are.heads; subs_named = h.subs_are.named }) in
    let next : fault_at cur d l card ≡ None → drafted title new ls ≡ defined title (cards ++ p ∷ []) ls =
    λ none. same_from title (l.line + 1) (cards ++ p ∷ []) (current_after cur l.line card) new ls (omega arith) up.1
    (step b l.line cards cur d card up.0 some (nothing_nested cur d l card none) (nothing_known cur d l card none) h) in
    let by_cur = card_by title cards new p ls (fault_at cur d l card) (place_fault cards p l) faults next in
    let P : Option Sub → Type 0 = λ c. ((or_else (fault_at c d l card) (with_card c d l.line card) >>= λ e. drafted_from e ls) >>= λ e. finished title e)
    ≡ ((or_else (place_fault cards p l) p >>= λ r. placed_from (cards ++ r ∷ []) ls) >>= λ cs. whole title cs) in
    let Q : Scope → Type 0 = λ s. ((or_else (card_fault d l card) (draft_after d l.line card) >>= λ e. drafted_from e ls) >>= λ e. finished title e)
    ≡ ((or_else (place_fault cards (record { scope = s; line = l.line; card = card }) l) (record { scope = s; line = l.line; card = card }) >>= λ r. placed_from (cards ++ r ∷ []) ls) >>= λ cs. whole title cs) in
    line_by title cards d l ls (no_card l) (subst Q (sym h.scope_is) (subst P (sym h.current_is) by_cur))

title_by : (title : List ℕ) (ls : List (Result Line Fault)) (o : Option Fault) → drafted title empty_draft ls ≡ defined title [] ls
    → (or_else o title >>= λ t. deck_behind t ls) ≡ (or_else o [] >>= λ before. placed_from before ls >>= λ cs. whole title cs)
title_by title ls None h = h
title_by title ls (Some f) h = refl

pub same_deck : (has_title : Bool) (bytes : List ℕ) → deck_by_draft has_title bytes ≡ read_deck has_title bytes
same_deck has_title bytes =
    let title = title_in has_title bytes in
    let ls = file_lines has_title bytes in
    title_by title ls (title_fault has_title bytes) (same_from title 1 [] None empty_draft ls (omega arith) (file_rises has_title bytes) nothing_yet)
