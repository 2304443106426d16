-- The way back: what is made of a lifted deck and of its map, or why nothing.
use Rattle.std.specs.Prelude.{◌≡◌, ◌⊎◌, ℕ, List, Option, Result, Ok}
use Rattle.gl_text.specs.LogicalLines.{Fault}
use Rattle.gl_text.specs.Flattening.{Flat, flat_of}
use Rattle.gl_text.specs.PlainFlats.{plain}
use Rattle.gl_lifting.specs.NameMaps.{NameMap}
use Rattle.gl_lifting.specs.Renaming.{restore}
use Rattle.gl_job.specs.declared.kind.Kind.TheVariants as kinds
use Rattle.gl_job.specs.Texts.{End}
use Rattle.gl_job.specs.Runs.{Run, Opening}
use Rattle.gl_job.specs.Points.{Refuses, IsRead}
use Rattle.gl_restore.specs.Texts.{fault_text, limit_text}
use Rattle.gl_restore.specs.TooLong.{text_within}

-- the value is the wanted flat deck, each device at the top, under its flat name and with the flat names of its nets
pub record IsPlainOf (wanted : Result Flat Fault) (value : Flat) : Type 0 where
  pub flat : Flat
  pub flat_is : wanted ≡ Ok flat
  pub value_is : value ≡ plain flat

-- the input was read whole, and the value is the flat deck of its bytes, each device at the top
pub record IsFlatRead (top : Option (List ℕ)) (o : Opening) (value : Flat) (r : Run) : Type 0 where
  pub flat : Flat
  pub deck_read : IsRead (flat_of top) o flat r
  pub value_is : value ≡ plain flat

-- the text is that of the flat deck under the old names of the map
pub record IsRestoredText (flat : Flat) (names : NameMap) (text : List ℕ) : Type 0 where
  pub restored : Flat
  pub restored_is : restore flat names ≡ Ok restored
  pub text_is : text_within restored ≡ Ok text

-- the end tells that the restored deck is too long
pub record IsRestoredTooLong (flat : Flat) (names : NameMap) (end : End) : Type 0 where
  pub restored : Flat
  pub restored_is : restore flat names ≡ Ok restored
  pub refuses : Refuses kinds.Limit limit_text (text_within restored) end

-- the end tells why there is no text
abbrev pub IsNotRestored : Flat → NameMap → End → Type 0
IsNotRestored flat names end = Refuses kinds.Map fault_text (restore flat names) end ⊎ IsRestoredTooLong flat names end
