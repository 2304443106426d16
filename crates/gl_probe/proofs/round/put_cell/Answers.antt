use Rattle.std.proofs.Common.{◌≡◌, ◌∙◌, Some, sym, ap}
use Rattle.std.specs.Option.{option_copied}
use Rattle.gl_history.specs.Searching.{pattern_at}
use Rattle.gl_probe.proofs.KeyLaws.{fits_at, deep_at}
use Rattle.gl_probe.proofs.round.put_cell.Goals as goal

pub put_key-requires : goal.put_key-requires
put_key-requires c =
    let round = c.args.round.now in
    let cell = c.args.cell.now in
    let e : pattern_at round.level cell ≡ Some c.in-Some.pattern.now = sym c.level_pattern.ensures.pattern ∙ ap option_copied c.in-Some.is in
    record {
      labels = c.requires.labels;
      fits = fits_at round.circuit.now round.level cell c.in-Some.pattern.now c.requires.fits e;
      deep = deep_at round.level round.labels.now.deepest cell c.in-Some.pattern.now c.requires.deep e;
    }
