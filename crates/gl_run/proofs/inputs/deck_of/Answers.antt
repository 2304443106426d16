use Rattle.std.proofs.Common.{true}
use Rattle.gl_text.specs.Decks.{read_deck}
use Rattle.gl_deck.specs.Refusals.{fault_of}
use Rattle.gl_job.specs.declared.kind.Kind.TheVariants as kinds
use Rattle.gl_job.proofs.Points.{end_refuses}
use Rattle.gl_deck.specs.Texts.{fault_text}
use Rattle.gl_run.proofs.inputs.deck_of.Goals as goal

pub returns-in-Err-clause-refused : goal.returns-in-Err-clause-refused
returns-in-Err-clause-refused c = end_refuses kinds.Deck fault_text (fault_of c.in-Err.fault) (read_deck true c.args.bytes.now) c.in-Err.ensures.read
