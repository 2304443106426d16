use Rattle.indexmap.specs.IndexMap.{get}
use Rattle.gl_text.specs.LogicalLines.{same_text}
use Rattle.gl_lib.specs.Tables.{source_of, run_in}
use Rattle.gl_lib.proofs.BuildLaws.{known_by_tables, kind_by_tables}
use Rattle.gl_lib.proofs.cards.device_kind.Goals as goal

pub number-requires : goal.number-requires
number-requires c =
    let t = c.args.tables.now in
    known_by_tables (source_of c.args.parts.now) (get same_text t.words) t.kinds c.args.card.now c.in_ok-kind.kind c.requires.tables.words_are c.requires.tables.kinds_are c.in_ok-kind.ensures.kind c.requires.known

pub returns : goal.returns
returns c =
    let t = c.args.tables.now in
    record { kind = kind_by_tables (run_in c.args.parts.now) (get same_text t.words) t.kinds c.args.card.now c.in_ok-kind.kind c.number.result c.requires.tables.words_are c.requires.tables.kinds_are c.in_ok-kind.ensures.kind c.requires.known c.number.ensures.number }
