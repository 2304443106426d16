use Rattle.gl_base.proofs.StemLaws.{stem_of_is}
use Rattle.gl_base.proofs.TriedLaws.{lists_are}
use Rattle.gl_base.proofs.laws.tried_stems_and_lists.Goals as goal

pub returns : goal.returns
returns c = record { stem = stem_of_is; lists = lists_are }
