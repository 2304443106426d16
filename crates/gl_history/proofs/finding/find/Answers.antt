use Rattle.std.proofs.Common.{map, sym, ap, ◌∙◌, subst}
use Rattle.std.specs.Prelude.{All}
use Rattle.gl_match.specs.Graph.{FitsInto}
use Rattle.gl_history.proofs.FindLaws.{all_fit, found_is}
use Rattle.gl_history.proofs.finding.find.Goals as goal

pub round_among-requires : goal.round_among-requires
round_among-requires c =
    let circuit = c.args.circuit.now in
    let same = ap (map (λ p. p.now)) c.deref.ensures.value ∙ c.in_ok-patterns.ensures.patterns in
    record { fit = subst (All (FitsInto circuit)) (sym same) (all_fit circuit c.args.level c.args.cells.now c.requires.cells) }

pub returns : goal.returns
returns c =
    let same = ap (map (λ p. p.now)) c.deref.ensures.value ∙ c.in_ok-patterns.ensures.patterns in
    record { found = found_is c.args.circuit.now c.args.first c.args.level c.args.cells.now c.in_ok-numbers.numbers.items (map (λ p. p.now) c.deref.result.now) c.in_ok-found.found.lists.items c.in_ok-found.found.picks.items c.in_ok-cells.cells.items c.in_ok-numbers.ensures.numbers same c.in_ok-found.ensures.round c.in_ok-cells.ensures.cells }
