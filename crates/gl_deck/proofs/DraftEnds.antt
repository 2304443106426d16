-- The deck of a draft behind all lines.
use Rattle.std.proofs.Common.{◌≡◌, ℕ, List, [], ◌∷◌, map, ltb, true, Option, Some, None, Result, refl, sym, ap, ◌∙◌}
use Rattle.std.specs.Prelude.{filter_map, flat_map, option_map}
use Rattle.std.specs.List.{AllByRecursion, cons_option}
use Rattle.std.proofs.lemmas.Bool.{lt-ltb}
use Rattle.std.proofs.lemmas.List.{append-nil}
use Rattle.std.specs.Map.{values_of}
use Rattle.gl_text.specs.LogicalLines.{Fault, open_subckt}
use Rattle.gl_fault.proofs.FirstLaws.{only, first_behind}
use Rattle.gl_fault.specs.Refusals.{first_some, when, or_else, ◌>>=◌}
use Rattle.gl_text.specs.Cards.{Head, Model, Card, dev, call, model, subckt, ends, global, ended, passed}
use Rattle.gl_text.specs.Decks.{Body, Sub, Deck, Scope, Placed, is_inside, bodies, sub_of, model_of, globals_of, once, deck_by, left_open, call_fault}
use Rattle.gl_deck.specs.Calls.{Site, site_fault}
use Rattle.gl_deck.specs.Drafts.{Draft, calls_in, deck_of, finished, without_zero}
use Rattle.gl_deck.proofs.GlobalLaws.{keys_once}
use Rattle.gl_deck.proofs.PlacedLists.{site_by, site_at}
use Rattle.gl_deck.proofs.SubSteps.{SubsAre, HasBodies, head_in, head_at, head_part}
use Rattle.gl_deck.proofs.DraftOf.{IsDraftOf}

-- ---- the deck of a draft

abbrev sub_at : List Placed → ℕ × Head → Sub
sub_at cards x = record { line = x.0; head = x.1; cards = bodies x.0 cards }

subs_by : (cards : List Placed) (s : Scope) (k : ℕ) (card : Card) (xs : List Sub) (hs : List (ℕ × Head)) → xs ≡ map (sub_at cards) hs
    → cons_option (sub_of cards (record { scope = s; line = k; card = card })) xs ≡ map (sub_at cards) (cons_option (head_in k card) hs)
subs_by cards s k (dev c) xs hs h = h
subs_by cards s k (call c) xs hs h = h
subs_by cards s k (model m) xs hs h = h
subs_by cards s k (subckt g) xs hs h = ap (λ t. sub_at cards (k, g) ∷ t) h
subs_by cards s k (ends name) xs hs h = h
subs_by cards s k (global names) xs hs h = h
subs_by cards s k ended xs hs h = h
subs_by cards s k (passed text) xs hs h = h

subs_from : (cards ps : List Placed) → filter_map (sub_of cards) ps ≡ map (sub_at cards) (filter_map head_at ps)
subs_from cards [] = refl
subs_from cards (p ∷ ps) = subs_by cards p.scope p.line p.card (filter_map (sub_of cards) ps) (filter_map head_at ps) (subs_from cards ps)

subs_back : (cards : List Placed) (ss : List Sub) → AllByRecursion (HasBodies cards) ss → map (sub_at cards) (map head_part ss) ≡ ss
subs_back cards [] h = refl
subs_back cards (s ∷ ss) h = ap (λ bs. record s { cards = bs } ∷ map (sub_at cards) (map head_part ss)) (sym h.0) ∙ ap (λ t. s ∷ t) (subs_back cards ss h.1)

subs_same : (b : ℕ) (cards : List Placed) (d : Draft) → SubsAre b cards None d.subs → values_of d.subs ≡ filter_map (sub_of cards) cards
subs_same b cards d h =
    sym (subs_back cards (values_of d.subs) h.closed_bodies) ∙ ap (map (sub_at cards)) (sym (append-nil (map head_part (values_of d.subs))) ∙ h.heads)
    ∙ sym (subs_from cards cards)

abbrev deck_with : List ℕ → List (List ℕ) → List Model → List Sub → List Body → List (List ℕ) → Deck
deck_with title gs ms ss top ps = record { title = title; globals = gs; models = ms; subs = ss; top = top; passed = ps }

deck_same : (b : ℕ) (cards : List Placed) (d : Draft) (title : List ℕ) → IsDraftOf b cards None d → deck_of title d ≡ deck_by title cards
deck_same b cards d title h =
    ap (λ gs. deck_with title (without_zero gs) d.models (values_of d.subs) d.top d.passed) (h.globals_are ∙ keys_once (flat_map globals_of cards))
    ∙ ap (λ ms. deck_with title (without_zero (once (flat_map globals_of cards))) ms (values_of d.subs) d.top d.passed) h.models_are
    ∙ ap (λ ss. deck_with title (without_zero (once (flat_map globals_of cards))) (filter_map model_of cards) ss d.top d.passed) (subs_same b cards d h.subs_are)
    ∙ ap (λ top. deck_with title (without_zero (once (flat_map globals_of cards))) (filter_map model_of cards) (filter_map (sub_of cards) cards) top d.passed) h.top_is
    ∙ ap (λ ps. deck_with title (without_zero (once (flat_map globals_of cards))) (filter_map model_of cards) (filter_map (sub_of cards) cards) (bodies 0 cards) ps) h.passed_are

-- ---- the refusals of calls

calls_by : (subs : List Sub) (s : Scope) (k : ℕ) (card : Card) (xs : List (Option Fault)) (ss : List Site) → first_some xs ≡ first_some (map (site_fault subs) ss)
    → first_some (call_fault subs (record { scope = s; line = k; card = card }) ∷ xs) ≡ first_some (map (site_fault subs) (cons_option (site_by s k card) ss))
calls_by subs s k (dev c) xs ss h = h
calls_by subs s k (call c) xs ss h = first_behind (call_fault subs (record { scope = s; line = k; card = call c })) xs (map (site_fault subs) ss) h
calls_by subs s k (model m) xs ss h = h
calls_by subs s k (subckt g) xs ss h = h
calls_by subs s k (ends name) xs ss h = h
calls_by subs s k (global names) xs ss h = h
calls_by subs s k ended xs ss h = h
calls_by subs s k (passed text) xs ss h = h

calls_same : (subs : List Sub) (cards : List Placed) → first_some (map (call_fault subs) cards) ≡ first_some (map (site_fault subs) (filter_map site_at cards))
calls_same subs [] = refl
calls_same subs (p ∷ ps) = calls_by subs p.scope p.line p.card (map (call_fault subs) ps) (filter_map site_at ps) (calls_same subs ps)

-- ---- behind all lines

abbrev pub unless_called : List Placed → Deck → Result Deck Fault
unless_called cards deck = or_else (first_some (map (call_fault deck.subs) cards)) deck

abbrev pub whole : List ℕ → List Placed → Result Deck Fault
whole title cards = or_else (left_open cards) (deck_by title cards) >>= unless_called cards

abbrev open_at : Scope → Option Fault
open_at s = when (is_inside s) (open_subckt s.line)

abbrev with_open : Option Sub → Option Fault → Deck → Result Deck Fault
with_open cur o deck = or_else (first_some (option_map (λ (s : Sub). open_subckt s.line) cur ∷ o ∷ [])) deck

ends_well : (b : ℕ) (cards : List Placed) (d : Draft) (title : List ℕ) → IsDraftOf b cards None d → finished title d ≡ whole title cards
ends_well b cards d title h =
    ap (λ cur. with_open cur (calls_in d) (deck_of title d)) h.current_is
    ∙ ap (λ o. or_else o (deck_of title d)) (only (calls_in d))
    ∙ ap (λ sites. or_else (first_some (map (site_fault (values_of d.subs)) sites)) (deck_of title d)) h.sites_are
    ∙ ap (λ o. or_else o (deck_of title d)) (sym (calls_same (values_of d.subs) cards))
    ∙ ap (unless_called cards) (deck_same b cards d title h)
    ∙ ap (λ s. or_else (open_at s) (deck_by title cards) >>= unless_called cards) (sym h.scope_is)

ends_open : (b : ℕ) (cards : List Placed) (s : Sub) (d : Draft) (title : List ℕ) → IsDraftOf b cards (Some s) d → finished title d ≡ whole title cards
ends_open b cards s d title h =
    let inside : ltb 0 s.line ≡ true = lt-ltb 0 s.line h.subs_are.current_is.0 in
    ap (λ cur. with_open cur (calls_in d) (deck_of title d)) h.current_is
    ∙ ap (λ t. or_else (when t (open_subckt s.line)) (deck_by title cards) >>= unless_called cards) (sym inside)
    ∙ ap (λ t. or_else (open_at t) (deck_by title cards) >>= unless_called cards) (sym h.scope_is)

pub ends_same : (b : ℕ) (cards : List Placed) (cur : Option Sub) (d : Draft) (title : List ℕ) → IsDraftOf b cards cur d → finished title d ≡ whole title cards
ends_same b cards None d title h = ends_well b cards d title h
ends_same b cards (Some s) d title h = ends_open b cards s d title h
