use Rattle.std.proofs.Common.{◌∙◌, ap}
use Rattle.gl_text.specs.Decks.{find_sub}
use Rattle.gl_deck.proofs.CallLaws.{find_is}
use Rattle.gl_deck.proofs.subs.Subs.get.Goals as goal

pub returns-clause-found : goal.returns-clause-found
returns-clause-found c = c.get.ensures.value ∙ find_is c.self.inside.table.entries c.args.name.now c.self.invariant ∙ ap (λ ss. find_sub ss c.args.name.now) c.self.view_is
