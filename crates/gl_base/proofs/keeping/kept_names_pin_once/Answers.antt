use Rattle.gl_base.proofs.KeepLaws.{few_pinned, nothing_kept}
use Rattle.gl_base.proofs.keeping.kept_names_pin_once.Goals as goal

pub returns : goal.returns
returns c = record { no_more = few_pinned; nothing_kept = nothing_kept }
