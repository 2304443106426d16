-- The cards of a circuit, as the definition of decks has them.
use Rattle.std.specs.Prelude.{ℕ, List, map}
use Rattle.gl_text.specs.Decks as decks
use Rattle.gl_deck.specs.declared.body.Body.{Body}
use Rattle.gl_deck.specs.declared.body.Body.TheVariants as body

-- a device or an X card, with its line
abbrev pub body_value : Body → decks.Body
body_value (body.Dev line d) = decks.dev_at line d
body_value (body.Call line c) = decks.call_at line c

-- devices and X cards, with their lines
abbrev pub bodies_value : List Body → List decks.Body
bodies_value cards = map body_value cards

-- the number of its line
abbrev pub line_of : Body → ℕ
line_of (body.Dev line d) = line
line_of (body.Call line c) = line

-- the names of subcircuits
abbrev pub names_of : List decks.Sub → List (List ℕ)
names_of subs = map (λ (s : decks.Sub). s.head.name) subs

-- subcircuits under their names
abbrev pub table_of : List decks.Sub → List (List ℕ × decks.Sub)
table_of subs = map (λ (s : decks.Sub). (s.head.name, s)) subs
