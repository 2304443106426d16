-- Cards as they are read: what each kind of card keeps of the line that it was read from.
use Rattle.std.specs.Prelude.{◌≡◌, ◌≤◌, ℕ, List, [], ◌∷◌, ◌++◌, length, option_to_list}
use Rattle.std.specs.List.{AllByRecursion}
use Rattle.gl_text.specs.LogicalLines.{LINE, TAIL, is_blank, trim_end, tail_of}
use Rattle.gl_text.specs.Cards.{Device, Call, Model, Card, dev, call, model, subckt, ends, global, ended, passed, Kind, caller, other, IsDeviceCard, kinds, by_byte, kind_of, first_byte, printed}
use Rattle.gl_text.specs.WayBack.{IsName, IsOneLine}

-- a device has the nodes and the model that its letter demands; its tail is normal and short
pub record IsReadDevice (d : Device) : Type 0 where
  pub kind : IsDeviceCard d
  pub names : AllByRecursion IsName (d.name ∷ d.nodes ++ option_to_list d.model)
  pub normal : tail_of d.tail ≡ d.tail
  pub short : length d.tail ≤ TAIL

-- an X card is one by its letter; its fields are names
pub record IsReadCall (c : Call) : Type 0 where
  pub letter : (dot : Kind) → by_byte (kinds dot) (first_byte c.name) ≡ caller
  pub names : AllByRecursion IsName (c.name ∷ c.nodes ++ c.sub ∷ [])

-- a model's name and word are names; its tail is normal and short
pub record IsReadModel (m : Model) : Type 0 where
  pub names : AllByRecursion IsName (m.name ∷ m.word ∷ [])
  pub normal : tail_of m.tail ≡ m.tail
  pub short : length m.tail ≤ TAIL

-- a passed line begins with a dot and an unknown word, and has no blank at its end
pub record IsReadText (text : List ℕ) : Type 0 where
  pub kind : kind_of text ≡ other
  pub no_blanks : trim_end is_blank text ≡ text

-- what is kept of a card, by its kind
abbrev pub IsRead : Card → Type 0
IsRead (dev d) = IsReadDevice d
IsRead (call c) = IsReadCall c
IsRead (model m) = IsReadModel m
IsRead (subckt h) = AllByRecursion IsName (h.name ∷ h.ports)
IsRead (ends name) = AllByRecursion IsName (option_to_list name)
IsRead (global names) = AllByRecursion IsName names
IsRead ended = Unit {0}
IsRead (passed text) = IsReadText text

-- a card that a line can hold: printed, it is one line and not too long
pub record IsFine (c : Card) : Type 0 where
  pub is_read : IsRead c
  pub one_line : IsOneLine (printed c)
  pub short : length (printed c) ≤ LINE
