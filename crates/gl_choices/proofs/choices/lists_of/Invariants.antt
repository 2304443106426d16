use Rattle.std.proofs.Common.{◌≤◌, ◌*◌, ◌<◌, All, List, length}
use Rattle.std.specs.List.{sum_by}
use Rattle.gl_match.specs.Listing.{Instance}
use Rattle.gl_choices.proofs.choices.lists_of.Given as goal

abbrev pub invariant-loop-sets : goal.invariant-loop-sets
invariant-loop-sets g l = record {
  below : All (λ (list : List Instance). All (λ (i : Instance). All (λ dev. dev < 6) i.key.set) list) l.lists.items;
  count : sum_by (λ (list : List Instance). length list) l.lists.items ≤ 8 * l.sets-index;
  few : length l.given ≤ 8;
}
