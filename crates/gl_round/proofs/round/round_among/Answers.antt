use Rattle.std.proofs.Common.{◌<◌, ℕ, List, length, map, sym, subst}
use Rattle.std.specs.Prelude.{All}
use Rattle.gl_match.specs.Listing.{Instance}
use Rattle.gl_round.proofs.KeysBelow.{lists_below}
use Rattle.gl_round.proofs.round.round_among.Goals as goal

pub choose-requires-clause-below : goal.choose-requires-clause-below
choose-requires-clause-below c =
    let circuit = c.args.circuit.now in
    let below = lists_below circuit (map (λ p. p.now) c.args.patterns.now) c.in_ok-lists.lists.items c.in_ok-lists.ensures.complete in
    let same = subst (λ (ls : List (List Instance)). All (λ list. All (λ (i : Instance). All (λ dev. dev < length circuit.devices) i.key.set) list) ls) (sym c.deref-2.ensures.value) below in
    subst (λ (n : ℕ). All (λ list. All (λ (i : Instance). All (λ dev. dev < n) i.key.set) list) c.deref-2.result.now) (sym c.devices.ensures.count) same
