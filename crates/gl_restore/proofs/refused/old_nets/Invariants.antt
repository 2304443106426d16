use Rattle.std.proofs.Common.{◌≡◌, map, take, drop}
use Rattle.gl_lifting.specs.Renaming.{first_missing, old_name}
use Rattle.gl_restore.proofs.refused.old_nets.Given as goal

abbrev pub invariant-loop-net : goal.invariant-loop-net
invariant-loop-net l = record {
  first : first_missing l.lines (drop l.net-index l.nets) ≡ first_missing l.lines l.nets;
  names : map (λ n. n.now) l.olds.items ≡ map (old_name l.lines) (take l.net-index l.nets);
}
