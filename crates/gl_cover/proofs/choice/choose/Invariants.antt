use Rattle.std.proofs.Common.{◌≡◌, ◌≤◌, ◌+◌, [], List, length, map, take}
use Rattle.std.specs.Prelude.{fold}
use Rattle.std.specs.List.{sum_by}
use Rattle.std.specs.declared.alloc.Global.{Global}
use Rattle.std.specs.declared.vec.Vec.{Vec}
use Rattle.gl_match.specs.declared.role.Pick.{Pick}
use Rattle.gl_match.specs.Listing.{Instance}
use Rattle.gl_match.specs.Choice.{sets_of}
use Rattle.gl_cover.specs.Owners.{Keeps}
use Rattle.gl_match.specs.Picks.{chosen_after_all, picks_by_list}
use Rattle.gl_cover.proofs.choice.choose.Given as goal

abbrev pub invariant-loop-list : goal.invariant-loop-list
invariant-loop-list l =
    let lists = take l.list-index (sets_of l.lists) in
    record {
      picks : map (λ (v : Vec Pick Global). v.items) l.picks.items ≡ picks_by_list l.first [] lists;
      chosen : Keeps l.first (fold (chosen_after_all l.first) [] lists) l.owners.numbers.items l.owners.next;
      next : l.owners.next ≤ l.first + sum_by (λ (list : List Instance). length list) (take l.list-index l.lists);
      devices : length l.owners.numbers.items ≡ l.devices;
    }
