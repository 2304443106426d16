-- One card.
use Rattle.std.specs.Prelude.{◌≡◌, ℕ, zero, suc, ◌==◌, ◌&&◌, nat_lt, Bool, true, false, List, [], ◌∷◌, ◌++◌, length, take, drop, map, Option, Some, None, Result, codes, slice_get, option_to_list, if◌then◌else◌}
use Rattle.std.specs.List.{join_with_byte, list_any}
use Rattle.gl_fault.specs.Refusals.{first_some, when, or_else}
use Rattle.gl_text.specs.LogicalLines.{NAME, TAIL, Fault, long_name, unknown_card, short_card, control_block, parameters, long_tail, Piece, fields_of, first_field, fold_byte, folded, is_blank, trim_end, tail_of, same_text, Line}

-- M, D, R, C, L, V and I cards; the letter is the name's first byte
pub record Device : Type 0 where
  pub name : List ℕ
  pub nodes : List (List ℕ)
  pub model : Option (List ℕ)
  pub tail : List ℕ

-- an X card: its name, its nodes, and the subcircuit that it calls
pub record Call : Type 0 where
  pub name : List ℕ
  pub nodes : List (List ℕ)
  pub sub : List ℕ

-- a model: its name, its type word and what follows
pub record Model : Type 0 where
  pub name : List ℕ
  pub word : List ℕ
  pub tail : List ℕ

-- what a `.subckt` names: the subcircuit and its ports
pub record Head : Type 0 where
  pub name : List ℕ
  pub ports : List (List ℕ)

-- what one logical line says
pub data Card : Type 0 where
  dev : Device → Card
  call : Call → Card
  model : Model → Card
  subckt : Head → Card
  ends : Option (List ℕ) → Card
  global : List (List ℕ) → Card
  ended : Card
  passed : List ℕ → Card

-- What a card is by its first byte and field; a device has a number of nodes, and of fields before its tail.
pub data Kind : Type 0 where
  device : ℕ → ℕ → Kind
  caller modelling opening closing globals ending control other unknown : Kind

-- the kind that a table gives a word
abbrev pub word_in : List (List ℕ × Kind) → List ℕ → Kind
word_in [] word = other
word_in (w ∷ ws) word = if same_text w.0 word then w.1 else word_in ws word

-- the dot cards that mean something
abbrev pub dot_words : List (List ℕ × Kind)
dot_words = (codes ".subckt", opening) ∷ (codes ".ends", closing) ∷ (codes ".model", modelling) ∷ (codes ".global", globals) ∷ (codes ".end", ending) ∷ (codes ".control", control) ∷ []

-- the kind that a table gives a byte
abbrev pub by_byte : List (ℕ × Kind) → ℕ → Kind
by_byte [] b = unknown
by_byte (w ∷ ws) b = if w.0 == b then w.1 else by_byte ws b

-- m; d; r, c, l, v, i; x; the dot
abbrev pub kinds : Kind → List (ℕ × Kind)
kinds dot = (109, device 4 6) ∷ (100, device 2 4) ∷ (114, device 2 3) ∷ (99, device 2 3) ∷ (108, device 2 3) ∷ (118, device 2 3) ∷ (105, device 2 3) ∷ (120, caller) ∷ (46, dot) ∷ []

-- what the card of a text is
abbrev pub kind_of : List ℕ → Kind
kind_of [] = unknown
kind_of (b ∷ bs) = by_byte (kinds (word_in dot_words (first_field (b ∷ bs)))) (fold_byte b)

-- how many fields it needs
abbrev pub needs : Kind → ℕ
needs (device nodes count) = count
needs modelling = 3
needs caller = 2
needs opening = 2
needs _ = 1

-- the fields that are names
abbrev pub names_of : Kind → List (List ℕ) → List (List ℕ)
names_of (device nodes count) fields = take count fields
names_of caller fields = fields
names_of modelling fields = drop 1 (take 3 fields)
names_of closing fields = drop 1 (take 2 fields)
names_of opening fields = drop 1 fields
names_of globals fields = drop 1 fields
names_of _ fields = []

-- what stands behind field number k, counted from 1
abbrev pub behind : ℕ → List Piece → List ℕ
behind zero fields = []
behind (suc k) [] = []
behind (suc zero) (p ∷ ps) = p.behind
behind (suc (suc k)) (p ∷ ps) = behind (suc k) ps

-- a card's own tail
abbrev pub tail_at : Kind → List Piece → List ℕ
tail_at (device nodes count) fields = tail_of (behind count fields)
tail_at modelling fields = tail_of (behind 3 fields)
tail_at _ fields = []

-- the first of some names, or the given one
abbrev pub first_or : List ℕ → List (List ℕ) → List ℕ
first_or d [] = d
first_or d (x ∷ xs) = x

-- the last of some names
abbrev pub last_name : List (List ℕ) → List ℕ
last_name [] = []
last_name (x ∷ []) = x
last_name (x ∷ y ∷ ys) = last_name (y ∷ ys)

-- all but the last
abbrev pub but_last : {A : Type 0} → List A → List A
but_last [] = []
but_last (x ∷ []) = []
but_last (x ∷ y ∷ ys) = x ∷ but_last (y ∷ ys)

-- the first, if there is one
abbrev pub front : {A : Type 0} → List A → Option A
front [] = None
front (x ∷ xs) = Some x

-- the card of a kind, by its names, its tail and its text
abbrev pub card_by : Kind → List (List ℕ) → List ℕ → List ℕ → Card
card_by (device nodes count) names tail text = dev (record { name = first_or [] names; nodes = take nodes (drop 1 names); model = front (drop nodes (drop 1 names)); tail = tail })
card_by caller names tail text = call (record { name = first_or [] names; nodes = but_last (drop 1 names); sub = last_name names })
card_by modelling names tail text = model (record { name = first_or [] names; word = last_name names; tail = tail })
card_by opening names tail text = subckt (record { name = first_or [] names; ports = drop 1 names })
card_by closing names tail text = ends (slice_get names 0)
card_by globals names tail text = global names
card_by ending names tail text = ended
card_by _ names tail text = passed (trim_end is_blank text)

-- the fields of a text, folded
abbrev pub all_fields : List ℕ → List (List ℕ)
all_fields text = map (λ (p : Piece). folded p.bytes) (fields_of text)

-- the card that a text would be, refused or not
abbrev pub card_of : List ℕ → Card
card_of text = card_by (kind_of text) (names_of (kind_of text) (all_fields text)) (tail_at (kind_of text) (fields_of text)) text

-- ---- refusals

-- the first byte begins no card
abbrev pub is_unknown : Kind → Bool
is_unknown unknown = true
is_unknown _ = false

-- the first field is `.control`
abbrev pub is_control : Kind → Bool
is_control control = true
is_control _ = false

-- an X card or a `.subckt`
abbrev pub has_nodes : Kind → Bool
has_nodes caller = true
has_nodes opening = true
has_nodes _ = false

-- the first byte of a text, 0 where there is none
abbrev pub first_byte : List ℕ → ℕ
first_byte [] = 0
first_byte (b ∷ bs) = b

-- 3 to 6: there is no card
abbrev pub no_card_by : Line → Kind → List (List ℕ) → Option Fault
no_card_by l kind fields = first_some
    (first_some (map (λ (n : List ℕ). when (nat_lt NAME (length n)) (long_name l.line (length n))) (names_of kind fields))
    ∷ when (is_unknown kind) (unknown_card l.line (first_byte l.text))
    ∷ when (nat_lt (length fields) (needs kind)) (short_card l.line (length fields) (needs kind))
    ∷ when (is_control kind) (control_block l.line) ∷ [])

-- the same of a line
abbrev pub no_card : Line → Option Fault
no_card l = no_card_by l (kind_of l.text) (all_fields l.text)

-- 12 and 16: there is one, but it is refused
abbrev pub has_parameters : Line → Option Fault
has_parameters l = when (has_nodes (kind_of l.text) && list_any (λ b. b == 61) l.text) (parameters l.line)

-- a tail is too long
abbrev pub tail_fault : ℕ → List ℕ → Option Fault
tail_fault line tail = when (nat_lt TAIL (length tail)) (long_tail line (length tail))

-- the tail of a line is too long
abbrev pub has_long_tail : Line → Option Fault
has_long_tail l = tail_fault l.line (tail_at (kind_of l.text) (fields_of l.text))

-- the card of a line, or the lowest of 3, 4, 5, 6, 12 and 16
abbrev pub read_card : Line → Result Card Fault
read_card l = or_else (first_some (no_card l ∷ has_parameters l ∷ has_long_tail l ∷ [])) (card_of l.text)

-- ---- printing

-- a tail behind a space, if it is not empty
abbrev pub spaced : List ℕ → List ℕ
spaced [] = []
spaced (b ∷ tail) = 32 ∷ b ∷ tail

-- fields with one space between each two, and a tail behind a space
abbrev pub with_tail : List (List ℕ) → List ℕ → List ℕ
with_tail fields tail = join_with_byte 32 fields ++ spaced tail

-- one space between fields, and before a tail that is not empty
abbrev pub printed : Card → List ℕ
printed (dev d) = with_tail (d.name ∷ d.nodes ++ option_to_list d.model) d.tail
printed (call c) = join_with_byte 32 (c.name ∷ c.nodes ++ c.sub ∷ [])
printed (model m) = with_tail (codes ".model" ∷ m.name ∷ m.word ∷ []) m.tail
printed (subckt h) = join_with_byte 32 (codes ".subckt" ∷ h.name ∷ h.ports)
printed (ends name) = join_with_byte 32 (codes ".ends" ∷ option_to_list name)
printed (global names) = join_with_byte 32 (codes ".global" ∷ names)
printed ended = codes ".end"
printed (passed text) = text

-- a device card as it is read: the nodes that its letter demands, and a model exactly where the letter has one
pub record IsDeviceCard (d : Device) : Type 0 where
  pub letter : (dot : Kind) → by_byte (kinds dot) (first_byte d.name) ≡ device (length d.nodes) (length (d.name ∷ d.nodes ++ option_to_list d.model))
