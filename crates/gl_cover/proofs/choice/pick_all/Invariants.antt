use Rattle.std.proofs.Common.{◌≡◌, ◌≤◌, ◌+◌, ℕ, List, length, take}
use Rattle.gl_match.specs.Choice.{sets_in}
use Rattle.gl_cover.specs.Owners.{Keeps}
use Rattle.gl_match.specs.Picks.{chosen_after_all, picks_after}
use Rattle.gl_cover.proofs.choice.pick_all.Given as goal

abbrev pub invariant-loop-instance : goal.invariant-loop-instance
invariant-loop-instance l =
    let sets = take l.instance-index (sets_in l.list) in
    record {
      picks : (first : ℕ) (chosen : List (List ℕ)) → Keeps first chosen l.fn.owners.numbers.items l.fn.owners.next → l.picks.items ≡ picks_after first chosen sets;
      chosen : (first : ℕ) (chosen : List (List ℕ)) → Keeps first chosen l.fn.owners.numbers.items l.fn.owners.next → Keeps first (chosen_after_all first chosen sets) l.owners.numbers.items l.owners.next;
      next : l.owners.next ≤ l.fn.owners.next + l.instance-index;
      devices : length l.owners.numbers.items ≡ length l.fn.owners.numbers.items;
    }
