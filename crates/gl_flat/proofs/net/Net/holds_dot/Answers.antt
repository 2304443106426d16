use Rattle.std.proofs.Common.{◌∙◌, sym}
use Rattle.gl_flat.proofs.DotLaws.{below_dot}
use Rattle.gl_flat.proofs.net.Net.holds_dot.Goals as goal

pub returns-then-has_path : goal.returns-then-has_path
returns-then-has_path c =
    let net = c.args.self.now in
    record { dot = c.if-has_path.true ∙ sym (below_dot net.path net.name (sym c.has_path.ensures.below ∙ c.if-has_path.true)) }
