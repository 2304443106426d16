use Rattle.std.proofs.Common.{◌∙◌, sym}
use Rattle.gl_text.specs.LogicalLines.{same_text}
use Rattle.gl_named.proofs.SetLaws.{place_none}
use Rattle.gl_named.proofs.images.number_of.Goals as goal

pub returns-in-None : goal.returns-in-None
returns-in-None c =
    let none = sym c.get_index_of.ensures.index ∙ c.in-None.is in
    record { number = c.len.ensures.len ∙ place_none (same_text c.args.net.now) c.args.nets.now.keys none }
