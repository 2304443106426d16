use Rattle.std.proofs.Common.{ap, length, arith, ◌∙◌}
use Rattle.gl_lib.proofs.InsertLaws.{rails_are_all}
use Rattle.gl_lib.proofs.names.rail_table.Goals as goal

pub of_set-requires : goal.of_set-requires
of_set-requires c =
    let all = rails_are_all _ _ _ c.args.rails.now c.in_ok-zero.zero c.new-set.ensures.empty c.in_ok-zero.ensures.bytes c.in_ok-add_name.ensures.added c.in_ok-add_names.ensures.added c.requires.differ in
    let count = ap length all in
    record { few = omega (arith, count, c.requires.few) }

pub returns : goal.returns
returns c = record {
  rails = c.of_set.ensures.names ∙ rails_are_all _ _ _ c.args.rails.now c.in_ok-zero.zero c.new-set.ensures.empty c.in_ok-zero.ensures.bytes c.in_ok-add_name.ensures.added c.in_ok-add_names.ensures.added c.requires.differ;
}
