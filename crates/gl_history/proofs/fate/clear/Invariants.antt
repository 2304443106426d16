use Rattle.std.proofs.Common.{◌≡◌, drop, ℕ}
use Rattle.std.specs.Prelude.{if◌then◌else◌}
use Rattle.gl_match.specs.Graph.{is_in}
use Rattle.gl_history.specs.Marks.{fate_at, gone}
use Rattle.gl_history.proofs.fate.clear.Given as goal

abbrev pub invariant-loop-dev : goal.invariant-loop-dev
invariant-loop-dev l = (dev : ℕ) → (if is_in (drop l.dev-index l.set) dev then gone (fate_at l.fates dev) else fate_at l.fates dev) ≡ (if is_in l.set dev then gone (fate_at l.fn.fates dev) else fate_at l.fn.fates dev)
