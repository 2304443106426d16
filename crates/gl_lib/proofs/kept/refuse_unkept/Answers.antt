use Rattle.std.proofs.Common.{subst}
use Rattle.std.specs.Prelude.{not, find, IfErr}
use Rattle.gl_text.specs.Decks.{is_in}
use Rattle.gl_fault.specs.Refusals.{IsFound}
use Rattle.gl_lib.specs.Kept.{unknown_of}
use Rattle.gl_lib.proofs.kept.refuse_unkept.Goals as goal

pub returns-clause-refused : goal.returns-clause-refused
returns-clause-refused c =
    subst (λ ns. IfErr c.refuse_unknown.result (λ fault. IsFound (unknown_of fault) (find (λ name. not (is_in name ns)) c.args.keep.now))) c.nets.ensures.nets c.refuse_unknown.ensures.first
