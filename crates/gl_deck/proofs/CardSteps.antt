-- A card more: each part of a draft is a list over the cards that were placed.
use Rattle.std.proofs.Common.{◌≡◌, ◌<◌, ℕ, List, [], ◌∷◌, ◌++◌, cond, eqb, Option, Some, None, refl, sym, ap, ◌∙◌}
use Rattle.std.specs.Prelude.{flat_map, option_to_list}
use Rattle.std.specs.List.{AllByRecursion, cons_option}
use Rattle.std.proofs.lemmas.List.{append-nil}
use Rattle.std.proofs.lemmas.List.Sums.{fold-append}
use Rattle.std.proofs.lemmas.Grind.{flat_map-append}
use Rattle.indexmap.specs.IndexMap.{insert_entry}
use Rattle.indexmap.specs.IndexSet.{insert_key, insert_all}
use Rattle.gl_text.specs.LogicalLines.{same_text}
use Rattle.gl_text.specs.Cards.{Card, dev, call, model, subckt, ends, global, ended, passed}
use Rattle.gl_text.specs.Decks.{Body, dev_at, call_at, Sub, Scope, Placed, body_of, bodies, model_of, passed_of, globals_of, scope_behind, scope_after}
use Rattle.gl_deck.specs.Drafts.{Draft, scope_of, with_card, names_at, known_at}
use Rattle.gl_deck.proofs.PlacedLists.{placed, name_in, names_in, model_name, body_in, site_at, grown, none_more, apart, apart_back, same_number, IsNumbered, absent}

-- ---- the parts

pub top_step : (cur : Option Sub) (d : Draft) (l : ℕ) (card : Card) → IsNumbered cur → (with_card cur d l card).top ≡ d.top ++ option_to_list (body_in 0 (placed cur l card))
top_step None d l (dev c) n = refl
top_step (Some s) d l (dev c) n = sym (append-nil d.top) ∙ ap (λ b. d.top ++ option_to_list (cond b (Some (dev_at l c)) None)) (sym (apart_back 0 s.line n))
top_step None d l (call c) n = refl
top_step (Some s) d l (call c) n = sym (append-nil d.top) ∙ ap (λ b. d.top ++ option_to_list (cond b (Some (call_at l c)) None)) (sym (apart_back 0 s.line n))
top_step cur d l (model m) n = none_more d.top (eqb (scope_of cur).line 0)
top_step cur d l (subckt h) n = none_more d.top (eqb (scope_of cur).line 0)
top_step None d l (ends name) n = sym (append-nil d.top)
top_step (Some s) d l (ends name) n = none_more d.top (eqb s.line 0)
top_step cur d l (global names) n = none_more d.top (eqb (scope_of cur).line 0)
top_step cur d l ended n = none_more d.top (eqb (scope_of cur).line 0)
top_step cur d l (passed text) n = none_more d.top (eqb (scope_of cur).line 0)

pub top_names_step : (cur : Option Sub) (d : Draft) (l : ℕ) (card : Card) → IsNumbered cur → known_at cur d card ≡ None → (with_card cur d l card).top_names ≡ d.top_names ++ option_to_list (name_in 0 (placed cur l card))
top_names_step None d l (dev c) n k = absent c.name l d.top_names k
top_names_step (Some s) d l (dev c) n k = sym (append-nil d.top_names) ∙ ap (λ b. d.top_names ++ option_to_list (cond b (Some (c.name, l)) None)) (sym (apart 0 s.line n))
top_names_step None d l (call c) n k = absent c.name l d.top_names k
top_names_step (Some s) d l (call c) n k = sym (append-nil d.top_names) ∙ ap (λ b. d.top_names ++ option_to_list (cond b (Some (c.name, l)) None)) (sym (apart 0 s.line n))
top_names_step cur d l (model m) n k = sym (append-nil d.top_names)
top_names_step cur d l (subckt h) n k = sym (append-nil d.top_names)
top_names_step None d l (ends name) n k = sym (append-nil d.top_names)
top_names_step (Some s) d l (ends name) n k = sym (append-nil d.top_names)
top_names_step cur d l (global names) n k = sym (append-nil d.top_names)
top_names_step cur d l ended n k = sym (append-nil d.top_names)
top_names_step cur d l (passed text) n k = sym (append-nil d.top_names)

pub model_names_step : (cur : Option Sub) (d : Draft) (l : ℕ) (card : Card) → known_at cur d card ≡ None → (with_card cur d l card).model_names ≡ d.model_names ++ option_to_list (model_name (placed cur l card))
model_names_step None d l (dev c) k = sym (append-nil d.model_names)
model_names_step (Some s) d l (dev c) k = sym (append-nil d.model_names)
model_names_step None d l (call c) k = sym (append-nil d.model_names)
model_names_step (Some s) d l (call c) k = sym (append-nil d.model_names)
model_names_step cur d l (model m) k = absent m.name l d.model_names k
model_names_step cur d l (subckt h) k = sym (append-nil d.model_names)
model_names_step None d l (ends name) k = sym (append-nil d.model_names)
model_names_step (Some s) d l (ends name) k = sym (append-nil d.model_names)
model_names_step cur d l (global names) k = sym (append-nil d.model_names)
model_names_step cur d l ended k = sym (append-nil d.model_names)
model_names_step cur d l (passed text) k = sym (append-nil d.model_names)

pub models_step : (cur : Option Sub) (d : Draft) (l : ℕ) (card : Card) → (with_card cur d l card).models ≡ d.models ++ option_to_list (model_of (placed cur l card))
models_step None d l (dev c) = sym (append-nil d.models)
models_step (Some s) d l (dev c) = sym (append-nil d.models)
models_step None d l (call c) = sym (append-nil d.models)
models_step (Some s) d l (call c) = sym (append-nil d.models)
models_step cur d l (model m) = refl
models_step cur d l (subckt h) = sym (append-nil d.models)
models_step None d l (ends name) = sym (append-nil d.models)
models_step (Some s) d l (ends name) = sym (append-nil d.models)
models_step cur d l (global names) = sym (append-nil d.models)
models_step cur d l ended = sym (append-nil d.models)
models_step cur d l (passed text) = sym (append-nil d.models)

pub passed_step : (cur : Option Sub) (d : Draft) (l : ℕ) (card : Card) → (with_card cur d l card).passed ≡ d.passed ++ option_to_list (passed_of (placed cur l card))
passed_step None d l (dev c) = sym (append-nil d.passed)
passed_step (Some s) d l (dev c) = sym (append-nil d.passed)
passed_step None d l (call c) = sym (append-nil d.passed)
passed_step (Some s) d l (call c) = sym (append-nil d.passed)
passed_step cur d l (model m) = sym (append-nil d.passed)
passed_step cur d l (subckt h) = sym (append-nil d.passed)
passed_step None d l (ends name) = sym (append-nil d.passed)
passed_step (Some s) d l (ends name) = sym (append-nil d.passed)
passed_step cur d l (global names) = sym (append-nil d.passed)
passed_step cur d l ended = sym (append-nil d.passed)
passed_step cur d l (passed text) = refl

pub sites_step : (cur : Option Sub) (d : Draft) (l : ℕ) (card : Card) → (with_card cur d l card).sites ≡ d.sites ++ option_to_list (site_at (placed cur l card))
sites_step None d l (dev c) = sym (append-nil d.sites)
sites_step (Some s) d l (dev c) = sym (append-nil d.sites)
sites_step None d l (call c) = refl
sites_step (Some s) d l (call c) = refl
sites_step cur d l (model m) = sym (append-nil d.sites)
sites_step cur d l (subckt h) = sym (append-nil d.sites)
sites_step None d l (ends name) = sym (append-nil d.sites)
sites_step (Some s) d l (ends name) = sym (append-nil d.sites)
sites_step cur d l (global names) = sym (append-nil d.sites)
sites_step cur d l ended = sym (append-nil d.sites)
sites_step cur d l (passed text) = sym (append-nil d.sites)

pub globals_step : (cur : Option Sub) (d : Draft) (l : ℕ) (card : Card) → (with_card cur d l card).globals ≡ insert_all same_text d.globals (globals_of (placed cur l card))
globals_step None d l (dev c) = refl
globals_step (Some s) d l (dev c) = refl
globals_step None d l (call c) = refl
globals_step (Some s) d l (call c) = refl
globals_step cur d l (model m) = refl
globals_step cur d l (subckt h) = refl
globals_step None d l (ends name) = refl
globals_step (Some s) d l (ends name) = refl
globals_step cur d l (global names) = refl
globals_step cur d l ended = refl
globals_step cur d l (passed text) = refl

pub globals_grown : (cards : List Placed) (p : Placed) (old new : List (List ℕ)) → old ≡ insert_all same_text [] (flat_map globals_of cards) → new ≡ insert_all same_text old (globals_of p)
    → new ≡ insert_all same_text [] (flat_map globals_of (cards ++ p ∷ []))
globals_grown cards p old new e step =
    step ∙ ap (λ ks. insert_all same_text ks (globals_of p)) e ∙ sym (fold-append (insert_key same_text) [] (flat_map globals_of cards) (globals_of p))
    ∙ ap (λ ns. insert_all same_text [] (flat_map globals_of cards ++ ns)) (sym (append-nil (globals_of p))) ∙ ap (insert_all same_text []) (sym (flat_map-append globals_of cards (p ∷ [])))

-- ---- the subcircuit that is open

abbrev pub with_last : Option Sub → Body → Option Sub
with_last None card = None
with_last (Some s) card = Some (record s { cards = s.cards ++ card ∷ [] })

abbrev pub current_after : Option Sub → ℕ → Card → Option Sub
current_after cur l (dev c) = with_last cur (dev_at l c)
current_after cur l (call c) = with_last cur (call_at l c)
current_after cur l (subckt h) = Some (record { line = l; head = h; cards = [] })
current_after cur l (ends name) = None
current_after cur l _ = cur

pub current_step : (cur : Option Sub) (d : Draft) (l : ℕ) (card : Card) → d.current ≡ cur → (with_card cur d l card).current ≡ current_after cur l card
current_step None d l (dev c) e = e
current_step (Some s) d l (dev c) e = refl
current_step None d l (call c) e = e
current_step (Some s) d l (call c) e = refl
current_step cur d l (model m) e = e
current_step cur d l (subckt h) e = refl
current_step None d l (ends name) e = e
current_step (Some s) d l (ends name) e = refl
current_step cur d l (global names) e = e
current_step cur d l ended e = e
current_step cur d l (passed text) e = e

pub scope_step : (cur : Option Sub) (l : ℕ) (card : Card) → scope_after (scope_of cur) l card ≡ scope_of (current_after cur l card)
scope_step None l (dev c) = refl
scope_step (Some s) l (dev c) = refl
scope_step None l (call c) = refl
scope_step (Some s) l (call c) = refl
scope_step cur l (model m) = refl
scope_step cur l (subckt h) = refl
scope_step None l (ends name) = refl
scope_step (Some s) l (ends name) = refl
scope_step cur l (global names) = refl
scope_step cur l ended = refl
scope_step cur l (passed text) = refl

pub scope_grown : (cards : List Placed) (cur : Option Sub) (l : ℕ) (card : Card) → scope_behind cards ≡ scope_of cur → scope_behind (cards ++ placed cur l card ∷ []) ≡ scope_of (current_after cur l card)
scope_grown cards cur l card e =
    fold-append (λ s (p : Placed). scope_after s p.line p.card) (record { line = 0; name = [] }) cards (placed cur l card ∷ [])
    ∙ ap (λ s. scope_after s l card) e ∙ scope_step cur l card

-- ---- names of the scope that is open

none_one : (t : ℕ) (s : Scope) (l : ℕ) (card : Card) → s.line < t → name_in t (record { scope = s; line = l; card = card }) ≡ None
none_one t s l (dev c) h = ap (λ b. cond b (Some (c.name, l)) None) (apart_back s.line t h)
none_one t s l (call c) h = ap (λ b. cond b (Some (c.name, l)) None) (apart_back s.line t h)
none_one t s l (model m) h = refl
none_one t s l (subckt k) h = refl
none_one t s l (ends name) h = refl
none_one t s l (global names) h = refl
none_one t s l ended h = refl
none_one t s l (passed text) h = refl

-- a scope that begins later has no names and no cards
pub no_names : (t : ℕ) (cards : List Placed) → AllByRecursion (λ (p : Placed). p.scope.line < t) cards → names_in t cards ≡ []
no_names t [] h = refl
no_names t (p ∷ ps) h = ap (λ o. cons_option o (names_in t ps)) (none_one t p.scope p.line p.card h.0) ∙ no_names t ps h.1

pub no_bodies : (t : ℕ) (cards : List Placed) → AllByRecursion (λ (p : Placed). p.scope.line < t) cards → bodies t cards ≡ []
no_bodies t [] h = refl
no_bodies t (p ∷ ps) h = ap (λ b. cons_option (cond b (body_of p) None) (bodies t ps)) (apart p.scope.line t h.0) ∙ no_bodies t ps h.1

pub here_step : (cards : List Placed) (cur : Option Sub) (d : Draft) (l : ℕ) (card : Card) → known_at cur d card ≡ None → AllByRecursion (λ (p : Placed). p.scope.line < l) cards
    → d.top_names ≡ names_in 0 cards → names_at cur d ≡ names_in (scope_of cur).line cards
    → names_at (current_after cur l card) (with_card cur d l card) ≡ names_in (scope_of (current_after cur l card)).line (cards ++ placed cur l card ∷ [])
here_step cards None d l (dev c) k low top here = grown (name_in 0) cards (placed None l (dev c)) d.top_names (insert_entry same_text d.top_names c.name l) top (absent c.name l d.top_names k)
here_step cards (Some s) d l (dev c) k low top here =
    grown (name_in s.line) cards (placed (Some s) l (dev c)) d.inner_names (insert_entry same_text d.inner_names c.name l) here
    (absent c.name l d.inner_names k ∙ ap (λ b. d.inner_names ++ option_to_list (cond b (Some (c.name, l)) None)) (sym (same_number s.line)))
here_step cards None d l (call c) k low top here = grown (name_in 0) cards (placed None l (call c)) d.top_names (insert_entry same_text d.top_names c.name l) top (absent c.name l d.top_names k)
here_step cards (Some s) d l (call c) k low top here =
    grown (name_in s.line) cards (placed (Some s) l (call c)) d.inner_names (insert_entry same_text d.inner_names c.name l) here
    (absent c.name l d.inner_names k ∙ ap (λ b. d.inner_names ++ option_to_list (cond b (Some (c.name, l)) None)) (sym (same_number s.line)))
here_step cards None d l (model m) k low top here = grown (name_in 0) cards (placed None l (model m)) d.top_names d.top_names top (sym (append-nil d.top_names))
here_step cards (Some s) d l (model m) k low top here = grown (name_in s.line) cards (placed (Some s) l (model m)) d.inner_names d.inner_names here (sym (append-nil d.inner_names))
here_step cards None d l (global names) k low top here = grown (name_in 0) cards (placed None l (global names)) d.top_names d.top_names top (sym (append-nil d.top_names))
here_step cards (Some s) d l (global names) k low top here = grown (name_in s.line) cards (placed (Some s) l (global names)) d.inner_names d.inner_names here (sym (append-nil d.inner_names))
here_step cards None d l ended k low top here = grown (name_in 0) cards (placed None l ended) d.top_names d.top_names top (sym (append-nil d.top_names))
here_step cards (Some s) d l ended k low top here = grown (name_in s.line) cards (placed (Some s) l ended) d.inner_names d.inner_names here (sym (append-nil d.inner_names))
here_step cards None d l (passed text) k low top here = grown (name_in 0) cards (placed None l (passed text)) d.top_names d.top_names top (sym (append-nil d.top_names))
here_step cards (Some s) d l (passed text) k low top here = grown (name_in s.line) cards (placed (Some s) l (passed text)) d.inner_names d.inner_names here (sym (append-nil d.inner_names))
here_step cards cur d l (subckt h) k low top here = grown (name_in l) cards (placed cur l (subckt h)) [] [] (sym (no_names l cards low)) refl
here_step cards None d l (ends name) k low top here = grown (name_in 0) cards (placed None l (ends name)) d.top_names d.top_names top (sym (append-nil d.top_names))
here_step cards (Some s) d l (ends name) k low top here = grown (name_in 0) cards (placed (Some s) l (ends name)) d.top_names d.top_names top (sym (append-nil d.top_names))
