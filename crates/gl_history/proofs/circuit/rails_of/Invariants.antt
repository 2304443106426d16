use Rattle.std.proofs.Common.{◌≡◌, take}
use Rattle.gl_history.proofs.circuit.rails_of.Given as goal

abbrev pub invariant-loop-rail : goal.invariant-loop-rail
invariant-loop-rail l = l.rails.items ≡ take l.rail l.circuit.rails
