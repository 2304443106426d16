-- The text of a refusal of kept names: number, name, and the field with its value.
use Rattle.std.specs.Prelude.{ℕ, List, [], codes}
use Rattle.gl_said.specs.Texts.{named}

-- a kept name that is unknown
abbrev pub keep_text : List ℕ → List ℕ
keep_text name = named (codes "32 UnknownKeep name=") name []
