-- Devices and X cards by their names.
use Rattle.std.specs.Prelude.{◌≡◌, ℕ, ◌==◌, List, [], take, drop, if◌then◌else◌}
use Rattle.gl_text.specs.Cards.{Device, Call, first_byte, first_or, but_last, last_name, front}
use Rattle.gl_card.specs.Letters.{byte_of}
use Rattle.gl_card.specs.declared.letter.Letter.{Letter}

-- a byte is the letter of a device
abbrev pub IsLetter : ℕ → Type 0
IsLetter byte = (l : Letter) × (byte_of l ≡ byte)

-- how many nodes a device has whose name begins with a byte
abbrev pub nodes_by : ℕ → ℕ
nodes_by byte = if byte == 109 then 4 else 2

-- the device with these names, its own first, then its nodes', then its model's if it has one, and with this tail
abbrev pub device_by : List (List ℕ) → List ℕ → Device
device_by names tail = record {
  name = first_or [] names;
  nodes = take (nodes_by (first_byte (first_or [] names))) (drop 1 names);
  model = front (drop (nodes_by (first_byte (first_or [] names))) (drop 1 names));
  tail = tail;
}

-- the X card with these names, its own first, then its nodes', then that of the subcircuit
abbrev pub call_by : List (List ℕ) → Call
call_by names = record { name = first_or [] names; nodes = but_last (drop 1 names); sub = last_name names }
