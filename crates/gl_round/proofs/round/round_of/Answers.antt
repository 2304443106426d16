use Rattle.std.proofs.Common.{map, sym, ap, ◌∙◌, subst}
use Rattle.std.specs.Prelude.{All}
use Rattle.gl_match.specs.Graph.{FitsInto}
use Rattle.gl_round.proofs.round.round_of.Goals as goal

pub round_among-requires : goal.round_among-requires
round_among-requires c = record { fit = subst (All (FitsInto c.args.circuit.now)) (sym (ap (map (λ p. p.now)) c.deref.ensures.value ∙ c.in_ok-patterns.ensures.same)) c.requires.fit }
