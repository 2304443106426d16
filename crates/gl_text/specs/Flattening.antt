-- A flat deck.
use Rattle.gl_fault.specs.Refusals.{first_some, when, or_else, ◌>>=◌}
use Rattle.std.specs.Prelude.{ℕ, zero, suc, ◌+◌, ◌||◌, ◌&&◌, not, nat_lt, Bool, true, false, List, [], ◌∷◌, ◌++◌, length, map, filter, flat_map, sum_by, find, zip, Option, Some, None, option_map, option_map, unwrap_or, Result, Ok, Err, codes, if◌then◌else◌}
use Rattle.std.specs.List.{list_any}
use Rattle.gl_text.specs.LogicalLines.{FILE, NAME, Fault, name_clash, long_flat_name, too_many_cards, too_many_devices, too_deep, no_top, top_devices, long_text, same_text}
use Rattle.gl_text.specs.Cards.{Device, Call, Model, Head, dev, ended, first_byte}
use Rattle.gl_text.specs.Decks.{Body, dev_at, call_at, Sub, Deck, read_deck, is_in, find_sub, callees, line_of, global_line, model_line, head_line, ends_line, passed_line}

-- how many X cards may stand in a chain
abbrev pub DEPTH : ℕ
DEPTH = 32

-- how many device and X cards may be expanded
abbrev pub CARDS : ℕ
CARDS = 400000

-- how many flat devices there may be
abbrev pub DEVICES : ℕ
DEVICES = 200000

-- how many bytes the text of a flat deck may have: as many as a file
abbrev pub TEXT : ℕ
TEXT = FILE

-- ---- nets and devices

-- a net: the X cards on the way to its scope, and its name there
pub record Net : Type 0 where
  pub path : List (List ℕ)
  pub name : List ℕ

-- a device: the X cards on the way to it, its card, and its nets
pub record FlatDevice : Type 0 where
  pub path : List (List ℕ)
  pub card : Device
  pub nets : List Net

-- a net of the top
abbrev pub top_net : List ℕ → Net
top_net name = record { path = []; name = name }

-- `0` and the names of the list
abbrev pub is_rail : List (List ℕ) → List ℕ → Bool
is_rail rails name = same_text name (codes "0") || is_in name rails

-- where cards stand: the X cards on the way, and the actual nets of the ports
pub record Place : Type 0 where
  pub path : List (List ℕ)
  pub ports : List (List ℕ × Net)

-- the actual net of a port
abbrev pub actual : List (List ℕ × Net) → List ℕ → Option Net
actual ports name = option_map (λ p. p.1) (find (λ p. same_text p.0 name) ports)

-- where the top's cards stand
abbrev pub top_place : Place
top_place = record { path = []; ports = [] }

-- a port is its actual net, a rail's name that of the top, any other name the scope's own
abbrev pub net_of : List (List ℕ) → Place → List ℕ → Net
net_of rails place name = unwrap_or (actual place.ports name) (if is_rail rails name then top_net name else record { path = place.path; name = name })

-- the place of the cards of a subcircuit that is called
abbrev pub inside : List (List ℕ) → Place → Call → Sub → Place
inside rails place c sub = record { path = place.path ++ c.name ∷ []; ports = zip sub.head.ports (map (net_of rails place) c.nodes) }

-- the devices of a card, by those of the cards of a called subcircuit
abbrev pub devices_of : List (List ℕ) → List Sub → (Place → List Body → List FlatDevice) → Place → Body → List FlatDevice
devices_of rails subs inner place (dev_at line d) = record { path = place.path; card = d; nets = map (net_of rails place) d.nodes } ∷ []
devices_of rails subs inner place (call_at line c) = called (find_sub subs c.sub) where
  called : Option Sub → List FlatDevice
  called None = []
  called (Some sub) = inner (inside rails place c sub) sub.cards

-- the devices of cards, through at most so many X cards
abbrev pub flat_devices : List (List ℕ) → List Sub → ℕ → Place → List Body → List FlatDevice
flat_devices rails subs zero place cards = flat_map (devices_of rails subs (λ p c. []) place) cards
flat_devices rails subs (suc depth) place cards = flat_map (devices_of rails subs (flat_devices rails subs depth) place) cards

-- ---- flat names

-- the names of the X cards on the way, each with a dot behind it
abbrev pub path_text : List (List ℕ) → List ℕ
path_text path = flat_map (λ x. x ++ codes ".") path

-- the flat name of a net
abbrev pub net_name : Net → List ℕ
net_name n = path_text n.path ++ n.name

-- the flat name of a device: its letter, the way and its name; at the top its name alone
abbrev pub device_name : FlatDevice → List ℕ
device_name d = below d.path where
  below : List (List ℕ) → List ℕ
  below [] = d.card.name
  below (x ∷ xs) = first_byte d.card.name ∷ codes "." ++ path_text (x ∷ xs) ++ d.card.name

-- ---- the flat deck and its text

-- a flat deck
pub record Flat : Type 0 where
  pub title : List ℕ
  pub rails : List (List ℕ)
  pub models : List Model
  pub top : Option Head
  pub devices : List FlatDevice
  pub passed : List (List ℕ)

-- a flat device as a card
abbrev pub flat_card : FlatDevice → Device
flat_card d = record { name = device_name d; nodes = map net_name d.nets; model = d.card.model; tail = d.card.tail }

-- a text inside the top's `.subckt` and `.ends`, if there is a top
abbrev pub around : Option Head → List ℕ → List ℕ
around None text = text
around (Some h) text = head_line h ++ text ++ ends_line h.name

-- the line of a flat device
abbrev pub flat_line : FlatDevice → List ℕ
flat_line d = line_of (dev (flat_card d))

-- the text of a flat deck
abbrev pub flat_text : Flat → List ℕ
flat_text f = f.title ++ 10 ∷ flat_map global_line f.rails ++ flat_map model_line f.models
    ++ around f.top (flat_map flat_line f.devices) ++ flat_map passed_line f.passed ++ line_of ended

-- ---- refusals 20 to 26

-- a card for itself, and for those of the subcircuit that it calls
abbrev pub size_of : (Body → ℕ) → List (List ℕ × ℕ) → Body → ℕ
size_of own sizes (dev_at line d) = own (dev_at line d)
size_of own sizes (call_at line c) = own (call_at line c) + unwrap_or (option_map (λ s. s.1) (find (λ s. same_text s.0 c.sub) sizes)) 0

-- what each subcircuit counts, through at most so many X cards
abbrev pub sizes : (Body → ℕ) → List Sub → ℕ → List (List ℕ × ℕ)
sizes own subs zero = []
sizes own subs (suc depth) = let below = sizes own subs depth in map (λ (s : Sub). (s.head.name, sum_by (size_of own below) s.cards)) subs

-- what cards count when they are expanded
abbrev pub count : (Body → ℕ) → List Sub → List Body → ℕ
count own subs cards = sum_by (size_of own (sizes own subs DEPTH)) cards

-- each card counts
abbrev pub one : Body → ℕ
one card = 1

-- each device counts
abbrev pub one_device : Body → ℕ
one_device (dev_at line d) = 1
one_device (call_at line c) = 0

-- the subcircuits that the last of n + 1 X cards in a chain calls
abbrev pub at_depth : List Sub → List Body → ℕ → List Sub
at_depth subs cards zero = filter (λ (s : Sub). is_in s.head.name (callees cards)) subs
at_depth subs cards (suc n) = let above = at_depth subs cards n in filter (λ (s : Sub). is_in s.head.name (flat_map (λ (t : Sub). callees t.cards) above)) subs

-- what has a flat name: a device, or a net of one
pub data Bearer : Type 0 where
  device : List ℕ → Bearer
  net : Net → Bearer

-- what has a flat name in a device: itself, and its nets in order
abbrev pub bearers : FlatDevice → List Bearer
bearers d = device (device_name d) ∷ map net d.nets

-- the flat name
abbrev pub bearer_name : Bearer → List ℕ
bearer_name (device name) = name
bearer_name (net n) = net_name n

-- two ways are the same
abbrev pub same_path : List (List ℕ) → List (List ℕ) → Bool
same_path [] [] = true
same_path (x ∷ xs) (y ∷ ys) = same_text x y && same_path xs ys
same_path _ _ = false

-- two devices of one name, or two different nets of one name
abbrev pub clash : Bearer → Bearer → Bool
clash (device m) (device n) = same_text m n
clash (net m) (net n) = same_text (net_name m) (net_name n) && not (same_path m.path n.path && same_text m.name n.name)
clash _ _ = false

-- the first bearer of a name that an earlier one has
abbrev pub first_clash : List Bearer → List Bearer → Option Fault
first_clash before [] = None
first_clash before (b ∷ bs) = first_some (when (list_any (clash b) before) (name_clash (bearer_name b)) ∷ first_clash (before ++ b ∷ []) bs ∷ [])

-- ---- what refuses cards, and what refuses devices

-- there is none
abbrev pub is_none_left : List Sub → Bool
is_none_left [] = true
is_none_left (s ∷ ss) = false

-- what cards exceed first: a chain of X cards, then the cards, then the devices
abbrev pub excess_in : List Sub → List Body → Option Fault
excess_in subs cards = first_some (when (not (is_none_left (at_depth subs cards DEPTH))) (too_deep (DEPTH + 1))
    ∷ when (nat_lt CARDS (count one subs cards)) (too_many_cards (CARDS + 1))
    ∷ when (nat_lt DEVICES (count one_device subs cards)) (too_many_devices (DEVICES + 1)) ∷ [])

-- a text that is too long
abbrev pub text_fault : Flat → Option Fault
text_fault flat = when (nat_lt TEXT (length (flat_text flat))) (long_text (TEXT + 1))

-- the first flat name that is too long
abbrev pub long_in : List Bearer → Option Fault
long_in names = first_some (map (λ b. when (nat_lt NAME (length (bearer_name b))) (long_flat_name (length (bearer_name b)))) names)

-- the first name of devices that clashes with that of a net of the top (`0`, a rail or a port), or of a device or net before it
abbrev pub clash_in : List (List ℕ) → List (List ℕ) → List FlatDevice → Option Fault
clash_in rails ports devices = first_clash (map (λ n. net (top_net n)) (codes "0" ∷ rails ++ ports)) (flat_map bearers devices)

-- ---- flattening

-- the line of a device or an X card
abbrev pub line_of_body : Body → ℕ
line_of_body (dev_at line d) = line
line_of_body (call_at line c) = line

-- the cards to be flattened, and the top's head
abbrev pub chosen : Deck → Option (List ℕ) → Result (Option Head × List Body) Fault
chosen deck None = Ok (None, deck.top)
chosen deck (Some name) = found (find_sub deck.subs name) deck.top where
  found : Option Sub → List Body → Result (Option Head × List Body) Fault
  found None top = Err (no_top name)
  found (Some s) [] = Ok (Some s.head, s.cards)
  found (Some s) (card ∷ cards) = Err (top_devices (line_of_body card))

-- the ports of the top, if there is one
abbrev pub top_ports : Option Head → List (List ℕ)
top_ports None = []
top_ports (Some h) = h.ports

-- the flat deck, or the first refusal
abbrev pub flatten : Deck → List (List ℕ) → Option (List ℕ) → Result Flat Fault
flatten deck rails top =
    chosen deck top >>= λ c.
    or_else (excess_in deck.subs c.1) c >>= λ c.
    let devices = flat_devices rails deck.subs DEPTH top_place c.1 in
    let flat : Flat = record { title = deck.title; rails = rails; models = deck.models; top = c.0; devices = devices; passed = deck.passed } in
    or_else (text_fault flat) flat >>= λ flat.
    or_else (long_in (flat_map bearers devices)) flat >>= λ flat.
    or_else (clash_in rails (top_ports c.0) devices) flat

-- from bytes, with the deck's own globals
abbrev pub flat_of : Option (List ℕ) → List ℕ → Result Flat Fault
flat_of top bytes = read_deck true bytes >>= λ deck. flatten deck deck.globals top

-- the text that is printed, or the refusal
abbrev pub flat_job : Option (List ℕ) → List ℕ → Result (List ℕ) Fault
flat_job top bytes = flat_of top bytes >>= λ f. Ok (flat_text f)
