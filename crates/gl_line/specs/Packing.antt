-- Bytes in place or in a piece of memory.
use Rattle.std.specs.Prelude.{ℕ, ◌≡◌, ◌≤◌, List, take, length}
use Rattle.gl_line.specs.declared.packed.Form.{Form}
use Rattle.gl_line.specs.declared.packed.Form.TheVariants.{Short, Long}

-- the bytes that are kept
abbrev pub bytes_of : Form → List ℕ
bytes_of (Short len place) = take len place
bytes_of (Long bytes) = bytes.value.items

-- no more bytes in place than there are places
abbrev pub IsSound : Form → Type 0
IsSound (Short len place) = (len ≤ 22) × (length place ≡ 22)
IsSound (Long bytes) = Unit {0}
