use Rattle.std.proofs.Common.{◌≡◌, ◌+◌, ◌≤◌, drop}
use Rattle.gl_name.specs.Needs.{underscores}
use Rattle.gl_name.proofs.underscores.underscores_at.Given as goal

abbrev pub invariant-loop-byte : goal.invariant-loop-byte
invariant-loop-byte l = record { counted : l.count + underscores (drop l.byte-index l.bytes) ≡ underscores l.bytes; few : l.count ≤ l.byte-index }
