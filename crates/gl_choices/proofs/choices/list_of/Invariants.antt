use Rattle.std.proofs.Common.{◌≡◌, ◌≤◌, ◌<◌, All, length}
use Rattle.gl_match.specs.Listing.{Instance}
use Rattle.gl_choices.proofs.choices.list_of.Given as goal

abbrev pub invariant-loop-set : goal.invariant-loop-set
invariant-loop-set g l = record {
  below : All (λ (i : Instance). All (λ dev. dev < 6) i.key.set) l.items.items;
  count : length l.items.items ≡ l.set-index;
  few : length l.given ≤ 8;
}
