use Rattle.std.proofs.Common.{◌∙◌}
use Rattle.gl_lib.proofs.InsertLaws.{names_inserted, few_names}
use Rattle.gl_lib.proofs.names.name_table.Goals as goal

pub of_set-requires : goal.of_set-requires
of_set-requires c = record { few = few_names _ _ _ (names_inserted _ _ _ c.new-set.ensures.empty c.in_ok-add_names.ensures.added) c.requires }

pub returns : goal.returns
returns c = record { names = c.of_set.ensures.names ∙ names_inserted _ _ _ c.new-set.ensures.empty c.in_ok-add_names.ensures.added }
