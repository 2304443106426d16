use Rattle.std.proofs.Common.{refl}
use Rattle.std.specs.Option.{option_copied}
use Rattle.gl_deck.specs.Bodies.{bodies_value}
use Rattle.gl_flat.specs.Refusals.{fault_of}
use Rattle.gl_flat.specs.Steps.{all_devices}
use Rattle.gl_flat.proofs.ChosenLaws.{chosen_differ}
use Rattle.gl_fault.proofs.AnswerLaws.{gives_of_refusal}
use Rattle.gl_flat.proofs.StepLaws.{gives_same, judged_is}
use Rattle.gl_flat.proofs.flattening.flatten.Goals as goal

pub returns-in_err-chosen : goal.returns-in_err-chosen
returns-in_err-chosen c = record { gives = gives_of_refusal fault_of _ c.from_residual.result c.in_err-chosen.field-0.0 _ c.from_residual.ensures.1 (c.in_err-chosen.ensures.refused c.args.rails.now) }

pub flat_of_chosen-requires-clause-names : goal.flat_of_chosen-requires-clause-names
flat_of_chosen-requires-clause-names c =
    chosen_differ c.args.deck.now (option_copied c.args.top) (option_copied c.in_ok-chosen.chosen.head) (bodies_value c.in_ok-chosen.chosen.cards.now) c.requires.sound c.in_ok-chosen.ensures.chosen

pub returns : goal.returns
returns c =
    let deck = c.args.deck.now in
    let rails = c.args.rails.now in
    let cards = bodies_value c.in_ok-chosen.chosen.cards.now in
    record {
      gives = gives_same _ c.flat_of_chosen.result _ _
          (judged_is deck rails (option_copied c.args.top) (option_copied c.in_ok-chosen.chosen.head) cards (all_devices deck rails cards) c.in_ok-chosen.ensures.chosen c.in_ok-chosen.ensures.fits refl) c.flat_of_chosen.ensures.gives;
    }
