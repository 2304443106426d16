use Rattle.std.proofs.Common.{◌∙◌, sym, ap, map}
use Rattle.std.specs.Prelude.{List, ℕ}
use Rattle.gl_text.specs.Flattening.{FlatDevice, Net, net_of}
use Rattle.gl_flat.specs.Ways.{place_of}
use Rattle.gl_flat.proofs.WayLaws.{path_is}
use Rattle.gl_flat.proofs.way.device_at.Goals as goal

pub returns : goal.returns
returns c =
    let rails = c.args.rails.now.keys in
    let way = c.args.way.now in
    let path = c.in_ok-path_names.ensures.names ∙ sym (path_is rails way) in
    let nets = c.in_ok-nets_at.ensures.nets ∙ ap (map (net_of rails (place_of rails way))) c.nodes.ensures.nodes in
    record { device = ap (λ (p : List (List ℕ)). same p c.in_ok-nets_at.field-0.items) path ∙ ap (same (place_of rails way).path) nets } where
      same : List (List ℕ) → List Net → FlatDevice
      same p ns = record { path = p; card = c.args.card.now; nets = ns }
