use Rattle.gl_map.proofs.NamedLaws.{read_has_names}
use Rattle.gl_map.proofs.FewLaws.{read_is_few}
use Rattle.gl_map.proofs.laws.read_maps_have_names.Goals as goal

pub returns : goal.returns
returns c = record { names = read_has_names; few = read_is_few }
