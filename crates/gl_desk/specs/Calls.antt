-- Which calls of one kind are to fail (this project's own).
use Rattle.std.specs.Prelude.{ℕ, ◌+◌, min, Contains}
use Rattle.gl_desk.specs.declared.calls.Calls.{Calls}

-- the number of the next call, from 1; it stands still at the end of its type
abbrev pub next_number : Calls → ℕ
next_number calls = min (calls.made + 1) 4294967295

-- the next call is to fail
abbrev pub IsDue : Calls → Type 0
IsDue calls = Contains calls.listed.items (next_number calls)
