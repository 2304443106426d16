use Rattle.gl_fault.specs.Refusals.{IsFound}
use Rattle.std.proofs.Common.{◌∙◌, ap, sym, subst, List}
use Rattle.std.specs.Option.{option_copied}
use Rattle.gl_text.specs.Decks.{Sub}
use Rattle.gl_text.specs.Flattening.{excess_in}
use Rattle.gl_deck.specs.Bodies.{bodies_value}
use Rattle.gl_flat.specs.Refusals.{fault_of}
use Rattle.gl_flat.proofs.StepLaws.{refused_on, choice_refuses, excess_refuses}
use Rattle.gl_flat.proofs.flattening.chosen_cards.Goals as goal

pub returns-in_err-chosen-clause-refused : goal.returns-in_err-chosen-clause-refused
returns-in_err-chosen-clause-refused c =
    let f = c.in_err-chosen.field-0.0 in
    refused_on c.from_residual.result f c.args.deck.now (option_copied c.args.top) c.from_residual.ensures.1
    (λ rails. choice_refuses (fault_of f) c.args.deck.now rails (option_copied c.args.top) c.in_err-chosen.ensures.refused)

pub returns-in_err-refuse_excess-clause-refused : goal.returns-in_err-refuse_excess-clause-refused
returns-in_err-refuse_excess-clause-refused c =
    let f = c.in_err-refuse_excess.field-0.0 in
    let cards = bodies_value c.in_ok-chosen.chosen.cards.now in
    let found = subst (λ (ss : List Sub). IsFound (fault_of f) (excess_in ss cards)) c.subs.ensures.subs c.in_err-refuse_excess.ensures.refused in
    refused_on c.from_residual-in_err-refuse_excess.result f c.args.deck.now (option_copied c.args.top) c.from_residual-in_err-refuse_excess.ensures.1
    (λ rails. excess_refuses (fault_of f) c.args.deck.now rails (option_copied c.args.top) (option_copied c.in_ok-chosen.chosen.head) cards c.in_ok-chosen.ensures.ok found)

pub returns-clause-fits : goal.returns-clause-fits
returns-clause-fits c =
    ap (λ ss. excess_in ss (bodies_value c.in_ok-chosen.chosen.cards.now)) (sym c.subs.ensures.subs) ∙ c.in_ok-refuse_excess.ensures.ok
