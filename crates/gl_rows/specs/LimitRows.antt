-- A small deck whose lifted deck, flat text, map and report grow in this order, under limits of any size.
use Rattle.std.specs.Prelude.{ℕ, true, List, ◌++◌, codes, replicate, None, Option, Result, Ok, Err}
use Rattle.gl_text.specs.LogicalLines.{Fault}
use Rattle.gl_text.specs.Decks.{read_deck}
use Rattle.gl_text.specs.Flattening.{Flat, flat_of}
use Rattle.gl_lifting.specs.OutLimits.{OutLimit, Limits, restored_limit}
use Rattle.gl_lifting.specs.LiftJobs.{Refusal, Texts, texts_with}
use Rattle.gl_rows.specs.LiftRows.{no_options}

-- three times two resistors in a row; its flat text has 55 bytes
abbrev pub row_deck : List ℕ
row_deck = codes "t\nra1 p q\nra2 q 0\nrb1 s u\nrb2 u 0\nrc1 w z\nrc2 z 0\n.end\n"

-- a cell of two resistors in a row, and an empty cell with a name of 90 letters
abbrev pub row_library : List ℕ
row_library = codes ".subckt c a\nr1 a b\nr2 b 0\n.ends\n.subckt " ++ replicate 90 122 ++ codes "\n.ends\n"

-- so many bytes of a name, so many cards, so many bytes of a text
abbrev pub small : ℕ → ℕ → ℕ → Limits
small name cards text = record { name = name; cards = cards; text = text }

-- what is lifted of them under limits
abbrev pub lifted_under : Limits → Result Texts Refusal
lifted_under l = texts_with l no_options row_library (read_deck true row_deck)

-- the limit that the deck passes when it is restored
abbrev pub restored_under : Limits → Option OutLimit
restored_under l = by (flat_of None row_deck) where
  by : Result Flat Fault → Option OutLimit
  by (Ok flat) = restored_limit l flat
  by (Err fault) = None
