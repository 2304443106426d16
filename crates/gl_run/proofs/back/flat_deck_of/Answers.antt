use Rattle.std.specs.Option.{option_copied}
use Rattle.gl_flat.specs.Refusals.{fault_of}
use Rattle.gl_run.specs.Endings.{end_of}
use Rattle.gl_run.proofs.Bytes.{unread_flat, unflattened, flat_is}
use Rattle.gl_run.proofs.back.flat_deck_of.Goals as goal

pub returns-in-Err-clause-refused : goal.returns-in-Err-clause-refused
returns-in-Err-clause-refused c = unread_flat (option_copied c.args.top) c.args.bytes.now (end_of c.in-Err.ending) c.in-Err.ensures.refused

pub returns-clause-refused : goal.returns-clause-refused
returns-clause-refused c =
    unflattened (option_copied c.args.top) c.args.bytes.now c.in-Ok.deck (fault_of c.in-Err-flatten_deck.fault) c.in-Ok.ensures.deck c.in-Err-flatten_deck.ensures.gives

pub returns-in-Ok-flatten_deck-clause-flat : goal.returns-in-Ok-flatten_deck-clause-flat
returns-in-Ok-flatten_deck-clause-flat c =
    let given = c.in-Ok-flatten_deck.ensures.gives in
    flat_is (option_copied c.args.top) c.args.bytes.now c.in-Ok.deck given.0 c.in-Ok-flatten_deck.flat c.in-Ok.ensures.deck given.1 given.2
