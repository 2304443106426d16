-- A deck.
use Rattle.std.specs.Prelude.{ℕ, zero, suc, ◌==◌, ◌||◌, ◌&&◌, not, nat_lt, Bool, true, false, List, [], ◌∷◌, ◌++◌, length, map, filter, flat_map, filter_map, fold, find, Option, Some, None, option_map, Result, Ok, Err, codes, if◌then◌else◌}
use Rattle.std.specs.List.{list_any}
use Rattle.gl_text.specs.LogicalLines.{LINE, Fault, long_line, nested_subckt, loose_ends, wrong_ends, open_subckt, local_card, duplicate_name, duplicate_port, zero_port, unknown_subckt, wrong_node_count, recursive, same_text, title_of, after_title, Line, logical_lines}
use Rattle.gl_fault.specs.Refusals.{first_some, when, or_else, ◌>>=◌}
use Rattle.gl_text.specs.Cards.{Device, Call, Model, Head, Card, dev, call, model, subckt, ends, global, ended, passed, no_card, has_parameters, has_long_tail, card_of, printed}

-- a device or an X card, with its line
pub data Body : Type 0 where
  dev_at : ℕ → Device → Body
  call_at : ℕ → Call → Body

-- the name of a device or an X card
abbrev pub body_name : Body → List ℕ
body_name (dev_at line d) = d.name
body_name (call_at line c) = c.name

-- a subcircuit: the line of its `.subckt`, its name and ports, its cards
pub record Sub : Type 0 where
  pub line : ℕ
  pub head : Head
  pub cards : List Body

-- a deck: each part in the order of its cards
pub record Deck : Type 0 where
  pub title : List ℕ
  pub globals : List (List ℕ)
  pub models : List Model
  pub subs : List Sub
  pub top : List Body
  pub passed : List (List ℕ)

-- the line and the name of the subcircuit that a card stands in; line 0 at the top
pub record Scope : Type 0 where
  pub line : ℕ
  pub name : List ℕ

-- a card with its line and the scope that it stands in
pub record Placed : Type 0 where
  pub scope : Scope
  pub line : ℕ
  pub card : Card

-- the scope outside subcircuits
abbrev pub top_scope : Scope
top_scope = record { line = 0; name = [] }

-- a scope is a subcircuit's
abbrev pub is_inside : Scope → Bool
is_inside s = nat_lt 0 s.line

-- the scope behind a card, and behind cards
abbrev pub scope_after : Scope → ℕ → Card → Scope
scope_after s line (subckt h) = record { line = line; name = h.name }
scope_after s line (ends name) = top_scope
scope_after s line _ = s

-- the scope behind cards
abbrev pub scope_behind : List Placed → Scope
scope_behind cards = fold (λ s (p : Placed). scope_after s p.line p.card) top_scope cards

-- ---- refusals of a card behind others

-- a name is among names
abbrev pub is_in : List ℕ → List (List ℕ) → Bool
is_in name names = list_any (same_text name) names

-- a `.subckt` inside a subcircuit
abbrev pub nested : Placed → Option Fault
nested p = of p.card where
  of : Card → Option Fault
  of (subckt h) = when (is_inside p.scope) (nested_subckt p.line)
  of _ = None

-- `.ends` outside a subcircuit, or of another name
abbrev pub bad_ends : Placed → Option Fault
bad_ends p = of p.card where
  of : Card → Option Fault
  of (ends None) = when (not (is_inside p.scope)) (loose_ends p.line)
  of (ends (Some name)) = first_some (when (not (is_inside p.scope)) (loose_ends p.line) ∷ when (not (same_text name p.scope.name)) (wrong_ends p.line) ∷ [])
  of _ = None

-- a card that may stand at the top alone
abbrev pub is_of_top : Card → Bool
is_of_top (model m) = true
is_of_top (global names) = true
is_of_top (passed text) = true
is_of_top _ = false

-- what a card names, by the namespace: devices and X cards of a scope, models, subcircuits
pub data Named : Type 0 where
  in_scope : ℕ → List ℕ → Named
  of_model of_sub : List ℕ → Named
  nothing : Named

-- what a placed card names
abbrev pub named : Placed → Named
named p = of p.card where
  of : Card → Named
  of (dev d) = in_scope p.scope.line d.name
  of (call c) = in_scope p.scope.line c.name
  of (model m) = of_model m.name
  of (subckt h) = of_sub h.name
  of _ = nothing

-- two cards name the same
abbrev pub same_named : Named → Named → Bool
same_named (in_scope s m) (in_scope t n) = (s == t) && same_text m n
same_named (of_model m) (of_model n) = same_text m n
same_named (of_sub m) (of_sub n) = same_text m n
same_named _ _ = false

-- an earlier card names the same
abbrev pub duplicate : List Placed → Placed → Option Fault
duplicate before p = option_map (λ (q : Placed). duplicate_name p.line q.line) (find (λ (q : Placed). same_named (named p) (named q)) before)

-- a name stands twice among names
abbrev pub has_twice : List (List ℕ) → Bool
has_twice [] = false
has_twice (n ∷ ns) = is_in n ns || has_twice ns

-- the ports, where a card is a `.subckt`
abbrev pub ports_of : Card → List (List ℕ)
ports_of (subckt h) = h.ports
ports_of _ = []

-- the lowest of 3 to 9 and 11 to 16 of a line behind these cards, or its card
abbrev pub place : List Placed → Line → Result Placed Fault
place before l = or_else (no_card l) (record { scope = scope_behind before; line = l.line; card = card_of l.text }) >>= λ p.
    or_else (first_some (nested p ∷ bad_ends p
    ∷ when (is_inside p.scope && is_of_top p.card) (local_card p.line)
    ∷ has_parameters l ∷ duplicate before p
    ∷ when (has_twice (ports_of p.card)) (duplicate_port p.line)
    ∷ when (is_in (codes "0") (ports_of p.card)) (zero_port p.line)
    ∷ has_long_tail l ∷ [])) p

-- the cards of lines behind others, or the first refusal
abbrev pub placed_from : List Placed → List (Result Line Fault) → Result (List Placed) Fault
placed_from before [] = Ok before
placed_from before (Err f ∷ ls) = Err f
placed_from before (Ok l ∷ ls) = place before l >>= λ p. placed_from (before ++ p ∷ []) ls

-- ---- the deck of cards

-- a device or an X card with its line, where a card is one
abbrev pub body_of : Placed → Option Body
body_of p = of p.card where
  of : Card → Option Body
  of (dev d) = Some (dev_at p.line d)
  of (call c) = Some (call_at p.line c)
  of _ = None

-- the devices and X cards of the scope that begins at a line
abbrev pub bodies : ℕ → List Placed → List Body
bodies line cards = filter_map (λ (p : Placed). if p.scope.line == line then body_of p else None) cards

-- a subcircuit with its cards, where a card is its `.subckt`
abbrev pub sub_of : List Placed → Placed → Option Sub
sub_of cards p = of p.card where
  of : Card → Option Sub
  of (subckt h) = Some (record { line = p.line; head = h; cards = bodies p.line cards })
  of _ = None

-- the model, where a card is one
abbrev pub model_of : Placed → Option Model
model_of p = of p.card where
  of : Card → Option Model
  of (model m) = Some m
  of _ = None

-- the text, where a card is a passed one
abbrev pub passed_of : Placed → Option (List ℕ)
passed_of p = of p.card where
  of : Card → Option (List ℕ)
  of (passed text) = Some text
  of _ = None

-- the names, where a card is `.global`
abbrev pub globals_of : Placed → List (List ℕ)
globals_of p = of p.card where
  of : Card → List (List ℕ)
  of (global names) = names
  of _ = []

-- each once, in order of first appearance
abbrev pub once : List (List ℕ) → List (List ℕ)
once [] = []
once (n ∷ ns) = n ∷ filter (λ m. not (same_text n m)) (once ns)

-- the deck of a title and placed cards
abbrev pub deck_by : List ℕ → List Placed → Deck
deck_by title cards = record {
  title = title;
  globals = filter (λ n. not (same_text n (codes "0"))) (once (flat_map globals_of cards));
  models = filter_map model_of cards;
  subs = filter_map (sub_of cards) cards;
  top = bodies 0 cards;
  passed = filter_map passed_of cards;
}

-- ---- refusals 10 and 17 to 19

-- a subcircuit is open behind all cards
abbrev pub left_open : List Placed → Option Fault
left_open cards = let s = scope_behind cards in when (is_inside s) (open_subckt s.line)

-- the subcircuit of a name
abbrev pub find_sub : List Sub → List ℕ → Option Sub
find_sub subs name = find (λ (s : Sub). same_text s.head.name name) subs

-- the subcircuits that cards call
abbrev pub callees : List Body → List (List ℕ)
callees [] = []
callees (dev_at line d ∷ cards) = callees cards
callees (call_at line c ∷ cards) = c.sub ∷ callees cards

-- the subcircuits among these and those that they call
abbrev pub step : List Sub → List Sub → List Sub
step subs found = filter (λ (s : Sub). is_in s.head.name (map (λ (t : Sub). t.head.name) found ++ flat_map (λ (t : Sub). callees t.cards) found)) subs

-- the subcircuits that some reach by at most so many calls
abbrev pub steps : List Sub → ℕ → List Sub → List Sub
steps subs zero found = found
steps subs (suc n) found = steps subs n (step subs found)

-- T is S, or reaches S by X cards; as many steps are enough as there are subcircuits
abbrev pub reaches : List Sub → Sub → List ℕ → Bool
reaches subs t name = list_any (λ (u : Sub). same_text u.head.name name) (steps subs (length subs) (t ∷ []))

-- why an X card's call is refused: no such subcircuit, another number of ports, a call that leads back
abbrev pub call_fault : List Sub → Placed → Option Fault
call_fault subs p = of p.card where
  known : Call → Option Sub → Option Fault
  known c None = Some (unknown_subckt p.line)
  known c (Some t) = first_some (when (not (length c.nodes == length t.head.ports)) (wrong_node_count p.line (length c.nodes) (length t.head.ports))
      ∷ when (is_inside p.scope && reaches subs t p.scope.name) (recursive p.line) ∷ [])

  of : Card → Option Fault
  of (call c) = known c (find_sub subs c.sub)
  of _ = None

-- ---- the whole file

-- the title is too long
abbrev pub title_fault : Bool → List ℕ → Option Fault
title_fault has_title bytes = when (has_title && nat_lt LINE (length (title_of bytes))) (long_line 1 (length (title_of bytes)))

-- the logical lines of a file with or without a title
abbrev pub file_lines : Bool → List ℕ → List (Result Line Fault)
file_lines has_title bytes = if has_title then logical_lines 2 (after_title bytes) else logical_lines 1 bytes

-- the deck, or the first refusal
abbrev pub read_deck : Bool → List ℕ → Result Deck Fault
read_deck has_title bytes =
    or_else (title_fault has_title bytes) [] >>= λ before.
    placed_from before (file_lines has_title bytes) >>= λ cards.
    or_else (left_open cards) (deck_by (if has_title then title_of bytes else []) cards) >>= λ deck.
    or_else (first_some (map (call_fault deck.subs) cards)) deck

-- ---- printing

-- the line of a card, with its newline
abbrev pub line_of : Card → List ℕ
line_of card = printed card ++ 10 ∷ []

-- the line of a device or an X card
abbrev pub body_line : Body → List ℕ
body_line (dev_at line d) = line_of (dev d)
body_line (call_at line c) = line_of (call c)

-- the line of a global net
abbrev pub global_line : List ℕ → List ℕ
global_line name = line_of (global (name ∷ []))

-- the line of a model
abbrev pub model_line : Model → List ℕ
model_line m = line_of (model m)

-- the line that opens a subcircuit
abbrev pub head_line : Head → List ℕ
head_line h = line_of (subckt h)

-- the line that closes the subcircuit of a name
abbrev pub ends_line : List ℕ → List ℕ
ends_line name = line_of (ends (Some name))

-- the line of a card that is carried along
abbrev pub passed_line : List ℕ → List ℕ
passed_line text = line_of (passed text)

-- the lines of a subcircuit
abbrev pub sub_text : Sub → List ℕ
sub_text s = head_line s.head ++ flat_map body_line s.cards ++ ends_line s.head.name

-- the text of a deck: title, globals, models, subcircuits, top cards, passed cards, `.end`
abbrev pub deck_text : Deck → List ℕ
deck_text d = d.title ++ 10 ∷ flat_map global_line d.globals ++ flat_map model_line d.models
    ++ flat_map sub_text d.subs ++ flat_map body_line d.top ++ flat_map passed_line d.passed ++ line_of ended
