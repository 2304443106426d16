use Rattle.gl_match.specs.Graph.{FitsInto}
use Rattle.gl_match.specs.Listing.{Listed}
use Rattle.gl_round.proofs.Pairs.{shown_at, shown_more}
use Rattle.gl_round.proofs.lists.lists_among.Goals as goal

pub plain-requires : goal.plain-requires
plain-requires c = record { fits = shown_at (FitsInto c.args.circuit.now) (λ p. p.now) c.args.patterns.now c.loop-pattern.pattern-index c.pattern-item.result c.loop-pattern-test.true c.pattern-item.is c.requires.fit }

pub loop-pattern-preserved : goal.loop-pattern-preserved
loop-pattern-preserved c = shown_more (Listed c.args.circuit.now) (λ p. p.now) c.args.patterns.now c.loop-pattern.pattern-index c.pattern-item.result c.loop-pattern.lists.items c.push.new.self.items c.in_ok-plain.field-0 c.loop-pattern-test.true c.pattern-item.is c.in_ok-push.ensures.items c.loop-pattern.invariant c.in_ok-plain.ensures.listed
