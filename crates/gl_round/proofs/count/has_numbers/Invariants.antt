use Rattle.std.proofs.Common.{◌≡◌, ◌+◌, ◌<◌, ◌^◌, List, length, take}
use Rattle.std.specs.List.{sum_by}
use Rattle.gl_match.specs.Listing.{Instance}
use Rattle.gl_round.proofs.count.has_numbers.Given as goal

abbrev pub invariant-loop-list : goal.invariant-loop-list
invariant-loop-list l = record {
  sum : l.next ≡ l.first + sum_by (λ (list : List Instance). length list) (take l.list-index l.lists);
  fits : l.next < 2 ^ 32;
}
