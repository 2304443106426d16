use Rattle.std.proofs.Common.{◌≡◌, drop}
use Rattle.std.specs.Prelude.{fold}
use Rattle.std.specs.List.{filter_map}
use Rattle.gl_cover.specs.Owners.{least_owner, lesser_number, owner_at}
use Rattle.gl_cover.proofs.owners.number_over.Given as goal

abbrev pub invariant-loop-dev : goal.invariant-loop-dev
invariant-loop-dev l = fold lesser_number l.least (filter_map (owner_at l.numbers) (drop l.dev-index l.set)) ≡ least_owner l.numbers l.set
