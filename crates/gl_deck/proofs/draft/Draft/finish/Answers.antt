use Rattle.gl_fault.proofs.AnswerLaws.{refused_by}
use Rattle.gl_text.specs.Decks.{Deck}
use Rattle.gl_deck.specs.Refusals.{fault_of}
use Rattle.gl_deck.specs.Drafts.{deck_of, end_fault, open_in}
use Rattle.gl_deck.proofs.TitleLaws.{still_must}
use Rattle.gl_deck.proofs.draft.Draft.finish.Goals as goal

pub returns-in-Err : goal.returns-in-Err
returns-in-Err c =
    let d = c.args.self in
    record {
      finished = refused_by (fault_of c.in-Err.fault) (end_fault d) (deck_of c.args.title.items d) c.in-Err.ensures.first;
      left_open = still_must (Unit {0}) Deck c.in-Err.fault (open_in d) c.in-Err.ensures.left_open;
    }
