use Rattle.std.proofs.Common.{◌≡◌, drop, ℕ, Some}
use Rattle.std.specs.Prelude.{if◌then◌else◌}
use Rattle.gl_match.specs.Graph.{is_in}
use Rattle.gl_cover.specs.Owners.{owner_at}
use Rattle.gl_cover.proofs.owners.give.Given as goal

abbrev pub invariant-loop-dev : goal.invariant-loop-dev
invariant-loop-dev l = (dev : ℕ) → (if is_in (drop l.dev-index l.set) dev then Some l.number else owner_at l.numbers dev) ≡ (if is_in l.set dev then Some l.number else owner_at l.fn.numbers dev)
