-- Lengths of texts, added up as far as a count goes.
use Rattle.std.specs.Prelude.{ℕ, ◌+◌, ◌-◌, ◌^◌, List, length, min}

-- a count behind a text more
abbrev pub after : ℕ → List ℕ → ℕ
after total text = min (total + length text) (2 ^ 64 - 1)
