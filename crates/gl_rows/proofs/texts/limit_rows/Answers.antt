use Rattle.std.proofs.Common.{refl}
use Rattle.gl_rows.proofs.texts.limit_rows.Goals as goal

pub returns : goal.returns
returns c = record { tail = refl; both = refl; x = refl; flat_name = refl; device_clash = refl }
