use Rattle.std.proofs.Common.{◌≡◌, drop}
use Rattle.gl_text.specs.LogicalLines.{NAME}
use Rattle.gl_lifting.specs.Counting.{has_longer}
use Rattle.gl_lifting.specs.Renaming.{new_names}
use Rattle.gl_named.specs.Firsts.{at_number}
use Rattle.gl_named.specs.Walks.{renamed_from}
use Rattle.gl_named.proofs.long.has_long_net.Given as goal

abbrev pub invariant-loop-net : goal.invariant-loop-net
invariant-loop-net l = record {
  so_far : has_longer NAME (new_names (renamed_from (at_number l.table) l.number (drop l.net-index l.nets))) ≡ has_longer NAME (new_names (renamed_from (at_number l.table) 0 l.nets));
  count : l.number ≡ l.net-index;
}
