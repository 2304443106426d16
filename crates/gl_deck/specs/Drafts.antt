-- A deck that is read line by line: what stands of it behind some of its cards. This project's own; the law
-- `lines_make_the_deck` says that it leads to the deck of the definition.
use Rattle.std.specs.Prelude.{ℕ, ◌&&◌, not, filter, Bool, List, [], ◌∷◌, ◌++◌, length, Option, Some, None, nat_lt, option_map, is_some, Result, Ok, Err, codes, if◌then◌else◌}
use Rattle.std.specs.Map.{lookup, values_of}
use Rattle.indexmap.specs.IndexMap.{insert_entry}
use Rattle.indexmap.specs.IndexSet.{insert_all}
use Rattle.gl_text.specs.LogicalLines.{LINE, Fault, Line, long_line, nested_subckt, loose_ends, wrong_ends, open_subckt, local_card, duplicate_name, duplicate_port, zero_port, same_text, title_of}
use Rattle.gl_fault.specs.Refusals.{first_some, when, or_else, ◌>>=◌}
use Rattle.gl_text.specs.Cards.{Call, Model, Head, Card, dev, call, model, subckt, ends, global, ended, passed, no_card, has_parameters, has_long_tail, card_of}
use Rattle.gl_text.specs.Decks.{Body, dev_at, call_at, Sub, Deck, Scope, top_scope, is_in, is_of_top, has_twice, ports_of, title_fault, file_lines}
use Rattle.gl_deck.specs.Calls.{Site, first_by_call}

-- what stands of a deck behind some of its cards
pub record Draft : Type 0 where
  -- the subcircuit that is not closed yet, with its cards so far
  pub current : Option Sub
  -- names with the lines of their cards: devices and X cards of the top and of the open subcircuit, and models
  pub top_names : List (List ℕ × ℕ)
  pub inner_names : List (List ℕ × ℕ)
  pub model_names : List (List ℕ × ℕ)
  -- each once, `0` too
  pub globals : List (List ℕ)
  pub models : List Model
  -- the closed subcircuits under their names
  pub subs : List (List ℕ × Sub)
  pub top : List Body
  pub passed : List (List ℕ)
  -- the X cards
  pub sites : List Site

-- behind none
abbrev pub empty_draft : Draft
empty_draft = record { current = None; top_names = []; inner_names = []; model_names = []; globals = []; models = []; subs = []; top = []; passed = []; sites = [] }

-- the scope in which the next card stands
abbrev pub scope_of : Option Sub → Scope
scope_of None = top_scope
scope_of (Some s) = record { line = s.line; name = s.head.name }

-- an X card of a place as far as its call goes
abbrev pub site_of : Option Sub → ℕ → Call → Site
site_of current line c = record { line = line; scope = scope_of current; sub = c.sub; nodes = length c.nodes }

-- ---- a card more

-- a device or X card, in the open subcircuit or at the top
abbrev pub with_body : Option Sub → Draft → List ℕ → ℕ → Body → Draft
with_body None d name line card = record d { top_names = insert_entry same_text d.top_names name line; top = d.top ++ card ∷ [] }
with_body (Some s) d name line card = record d { inner_names = insert_entry same_text d.inner_names name line; current = Some (record s { cards = s.cards ++ card ∷ [] }) }

-- a call more
abbrev pub with_site : Draft → Site → Draft
with_site d site = record d { sites = d.sites ++ site ∷ [] }

-- a model more
abbrev pub with_model : Draft → ℕ → Model → Draft
with_model d line m = record d { model_names = insert_entry same_text d.model_names m.name line; models = d.models ++ m ∷ [] }

-- a subcircuit opens
abbrev pub opened : Draft → ℕ → Head → Draft
opened d line h = record d { current = Some (record { line = line; head = h; cards = [] }); inner_names = [] }

-- the open subcircuit closes
abbrev pub closed : Option Sub → Draft → Draft
closed None d = d
closed (Some s) d = record d { current = None; subs = insert_entry same_text d.subs s.head.name s }

-- the names that are not there yet
abbrev pub with_globals : Draft → List (List ℕ) → Draft
with_globals d names = record d { globals = insert_all same_text d.globals names }

-- a passed card more
abbrev pub with_passed : Draft → List ℕ → Draft
with_passed d text = record d { passed = d.passed ++ text ∷ [] }

-- a device or X card where the next card stands
abbrev pub with_body_here : Draft → List ℕ → ℕ → Body → Draft
with_body_here d name line card = with_body d.current d name line card

-- an X card there, with its call
abbrev pub with_call_here : Draft → ℕ → Call → Draft
with_call_here d line c = with_site (with_body_here d c.name line (call_at line c)) (site_of d.current line c)

-- where this subcircuit is open
abbrev pub with_card : Option Sub → Draft → ℕ → Card → Draft
with_card current d line (dev c) = with_body current d c.name line (dev_at line c)
with_card current d line (call c) = with_site (with_body current d c.name line (call_at line c)) (site_of current line c)
with_card current d line (model m) = with_model d line m
with_card current d line (subckt h) = opened d line h
with_card current d line (ends name) = closed current d
with_card current d line (global names) = with_globals d names
with_card current d line ended = d
with_card current d line (passed text) = with_passed d text

-- the draft with the card of a line
abbrev pub draft_after : Draft → ℕ → Card → Draft
draft_after d line card = with_card d.current d line card

-- ---- what refuses a card behind a draft

-- a `.subckt` where one is open
abbrev pub nested_in : Option Sub → ℕ → Card → Option Fault
nested_in current line (subckt h) = when (is_some current) (nested_subckt line)
nested_in current line _ = None

-- an `.ends` where none is open, or of another name
abbrev pub bad_ends_in : Option Sub → ℕ → Card → Option Fault
bad_ends_in None line (ends name) = Some (loose_ends line)
bad_ends_in (Some s) line (ends (Some name)) = when (not (same_text name s.head.name)) (wrong_ends line)
bad_ends_in current line _ = None

-- a card of the top where a subcircuit is open
abbrev pub local_in : Option Sub → ℕ → Card → Option Fault
local_in current line card = when (is_some current && is_of_top card) (local_card line)

-- the names of devices and X cards where the next card stands
abbrev pub names_at : Option Sub → Draft → List (List ℕ × ℕ)
names_at None d = d.top_names
names_at (Some s) d = d.inner_names

-- the line of the card that has this card's name already, where this subcircuit is open
abbrev pub known_at : Option Sub → Draft → Card → Option ℕ
known_at current d (dev c) = lookup (same_text c.name) (names_at current d)
known_at current d (call c) = lookup (same_text c.name) (names_at current d)
known_at current d (model m) = lookup (same_text m.name) d.model_names
known_at current d (subckt h) = option_map (λ (s : Sub). s.line) (lookup (same_text h.name) d.subs)
known_at current d _ = None

-- the line of the card that has this card's name already
abbrev pub known_line : Draft → Card → Option ℕ
known_line d card = known_at d.current d card

-- a name that is taken
abbrev pub duplicate_in : Draft → ℕ → Card → Option Fault
duplicate_in d line card = option_map (λ first. duplicate_name line first) (known_line d card)

-- a port twice
abbrev pub twice_in : ℕ → Card → Option Fault
twice_in line card = when (has_twice (ports_of card)) (duplicate_port line)

-- the port `0`
abbrev pub zero_in : ℕ → Card → Option Fault
zero_in line card = when (is_in (codes "0") (ports_of card)) (zero_port line)

-- the lowest refusal of a line that has a card
abbrev pub card_fault : Draft → Line → Card → Option Fault
card_fault d l card = first_some (nested_in d.current l.line card ∷ bad_ends_in d.current l.line card ∷ local_in d.current l.line card ∷ has_parameters l
    ∷ duplicate_in d l.line card ∷ twice_in l.line card ∷ zero_in l.line card ∷ has_long_tail l ∷ [])

-- ---- lines

-- a line more, or its lowest refusal
abbrev pub draft_step : Draft → Line → Result Draft Fault
draft_step d l = or_else (no_card l) (card_of l.text) >>= λ card. or_else (card_fault d l card) (draft_after d l.line card)

-- lines more, or the first refusal
abbrev pub drafted_from : Draft → List (Result Line Fault) → Result Draft Fault
drafted_from d [] = Ok d
drafted_from d (Err f ∷ ls) = Err f
drafted_from d (Ok l ∷ ls) = draft_step d l >>= λ e. drafted_from e ls

-- a title is too long
abbrev pub long_title : List ℕ → Option Fault
long_title title = when (nat_lt LINE (length title)) (long_line 1 (length title))

-- ---- the deck

-- the names but `0`
abbrev pub without_zero : List (List ℕ) → List (List ℕ)
without_zero names = filter (λ n. not (same_text n (codes "0"))) names

-- the deck of a draft
abbrev pub deck_of : List ℕ → Draft → Deck
deck_of title d = record { title = title; globals = without_zero d.globals; models = d.models; subs = values_of d.subs; top = d.top; passed = d.passed }

-- a subcircuit that is still open
abbrev pub open_in : Draft → Option Fault
open_in d = option_map (λ (s : Sub). open_subckt s.line) d.current

-- the first X card whose call is refused
abbrev pub calls_in : Draft → Option Fault
calls_in d = first_by_call (values_of d.subs) d.sites

-- what refuses a draft behind all cards
abbrev pub end_fault : Draft → Option Fault
end_fault d = first_some (open_in d ∷ calls_in d ∷ [])

-- the deck of a draft behind all cards, or the first refusal
abbrev pub finished : List ℕ → Draft → Result Deck Fault
finished title d = or_else (end_fault d) (deck_of title d)

-- the title of a file that has one
abbrev pub title_in : Bool → List ℕ → List ℕ
title_in has_title bytes = if has_title then title_of bytes else []

-- the deck of lines behind a title, or the first refusal
abbrev pub deck_behind : List ℕ → List (Result Line Fault) → Result Deck Fault
deck_behind title lines = drafted_from empty_draft lines >>= λ d. finished title d

-- the deck of a file, or the first refusal
abbrev pub deck_by_draft : Bool → List ℕ → Result Deck Fault
deck_by_draft has_title bytes = or_else (title_fault has_title bytes) (title_in has_title bytes) >>= λ title. deck_behind title (file_lines has_title bytes)
