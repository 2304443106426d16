-- The numbers are printed.
use Rattle.std.proofs.Common.{refl}
use Rattle.std.specs.Fmt.{digits}
use Rattle.gl_cases.proofs.texts.flattening_refusals.Goals as goal

pub returns : goal.returns
unfolding digits
returns c = record { name_clash = refl; long_flat_name = refl; too_many_cards = refl; too_many_devices = refl; too_deep = refl; no_top = refl; top_devices = refl; long_text = refl }
