use Rattle.std.proofs.Common.{◌≡◌, ◌+◌, ◌≤◌, drop, map}
use Rattle.gl_history.specs.Plain.{origin_value}
use Rattle.gl_report.specs.Shown.{left_of}
use Rattle.gl_report.proofs.originals.left.Given as goal

abbrev pub invariant-loop-origin : goal.invariant-loop-origin
invariant-loop-origin l = record { counted : l.count + left_of (map origin_value (drop l.origin-index l.origins)) ≡ left_of (map origin_value l.origins); few : l.count ≤ l.origin-index }
