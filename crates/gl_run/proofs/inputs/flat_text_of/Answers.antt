use Rattle.std.specs.Option.{option_copied}
use Rattle.gl_flat.specs.Refusals.{fault_of}
use Rattle.gl_run.specs.Endings.{end_of}
use Rattle.gl_run.proofs.Bytes.{read_refuses, flatten_refused, flat_text_is}
use Rattle.gl_run.proofs.inputs.flat_text_of.Goals as goal

pub returns-in-Err-clause-refused : goal.returns-in-Err-clause-refused
returns-in-Err-clause-refused c = read_refuses (option_copied c.args.top) c.args.bytes.now (end_of c.in-Err.ending) c.in-Err.ensures.refused

pub returns-clause-refused : goal.returns-clause-refused
returns-clause-refused c =
    flatten_refused (option_copied c.args.top) c.args.bytes.now c.in-Ok.deck (fault_of c.in-Err-text_of_deck.fault) c.in-Ok.ensures.deck c.in-Err-text_of_deck.ensures.gives

pub returns-in-Ok-text_of_deck-clause-text : goal.returns-in-Ok-text_of_deck-clause-text
returns-in-Ok-text_of_deck-clause-text c =
    let given = c.in-Ok-text_of_deck.ensures.gives in
    flat_text_is (option_copied c.args.top) c.args.bytes.now c.in-Ok.deck given.0 c.in-Ok-text_of_deck.text.items c.in-Ok.ensures.deck given.1 given.2
