use Rattle.std.proofs.Common.{◌∙◌, sym, subst}
use Rattle.gl_map.specs.Refusals.{fault_of, Gives}
use Rattle.gl_map.proofs.LoopLaws.{with_header, without_header, given_names, given_few}
use Rattle.gl_map.proofs.name_map.NameMap.read.Goals as goal

pub returns-then-is_header : goal.returns-then-is_header
returns-then-is_header c =
    let whole = with_header c.args.bytes.now c.split_title.result.0.now c.split_title.result.1.now c.split_title.ensures.title c.split_title.ensures.after (sym c.is_header.ensures.is_header ∙ c.if-is_header.true) in
    let read : Gives c.map_behind.result _ = subst (Gives c.map_behind.result) (sym whole) c.map_behind.ensures.map in
    record {
      read = read;
      names = given_names fault_of c.map_behind.result c.args.bytes.now read;
      few = given_few fault_of c.map_behind.result c.args.bytes.now read;
    }

pub returns-else-is_header-clause-read : goal.returns-else-is_header-clause-read
returns-else-is_header-clause-read c = without_header c.args.bytes.now c.split_title.result.0.now c.split_title.ensures.title (sym c.is_header.ensures.is_header ∙ c.if-is_header.false)
