use Rattle.std.proofs.Common.{◌≡◌, ◌∙◌, ◌++◌, ℕ, List, refl, ap, map}
use Rattle.std.specs.Prelude.{flat_map}
use Rattle.gl_text.specs.Cards.{ended}
use Rattle.gl_text.specs.Decks.{line_of, global_line, model_line, passed_line}
use Rattle.gl_text.specs.Flattening.{around, flat_card, flat_line}
use Rattle.gl_base.specs.BaseCircuit.{nets_of}
use Rattle.gl_deck.proofs.PrintingLaws.{one_more}
use Rattle.gl_flat.specs.Kept.{device_line}
use Rattle.gl_flat.proofs.FlatKept.{kept_lines}
use Rattle.gl_flat.proofs.PrintingLaws.{sections}
use Rattle.gl_flat.proofs.print.put_flat.Goals as goal

pub returns-clause-ok : goal.returns-clause-ok
returns-clause-ok c =
    let out = c.args.out.now.items in
    let f = c.args.flat.now in
    let nets = nets_of (map flat_card f.devices) in
    let devices = around f.top (flat_map flat_line f.devices) in
    let a = one_more passed_line out _ out _ _ c.in_ok-put_text.ensures.ok c.title.ensures.title refl in
    let b = one_more (flat_map global_line) _ _ _ _ _ c.in_ok-put_globals.ensures.ok c.rails.ensures.rails a in
    let e = one_more (flat_map model_line) _ _ _ _ _ c.in_ok-put_models.ensures.ok c.models.ensures.models b in
    let names : c.items.result.now ≡ nets = c.items.ensures.items ∙ c.nets.ensures.nets in
    let lines : flat_map (device_line c.items.result.now) c.devices.result.now ≡ flat_map flat_line f.devices =
    ap (λ (ns : List (List ℕ)). flat_map (device_line ns) c.devices.result.now) names
    ∙ ap (flat_map (device_line nets)) c.devices.ensures.devices ∙ kept_lines f.devices in
    let middle = c.in_ok-put_around.ensures.ok
    ∙ ap (λ top. c.put_models.new.out.items ++ around top (flat_map (device_line c.items.result.now) c.devices.result.now)) c.top.ensures.top
    ∙ ap (λ (t : List ℕ). c.put_models.new.out.items ++ around f.top t) lines in
    let g = middle ∙ ap (λ t. t ++ devices) e in
    let h = one_more (flat_map passed_line) _ _ _ _ _ c.in_ok-put_all_passed.ensures.ok c.passed.ensures.passed g in
    c.in_ok-put_text-2.ensures.ok ∙ ap (λ t. t ++ line_of ended) h
    ∙ sections out f.title (flat_map global_line f.rails) (flat_map model_line f.models) devices (flat_map passed_line f.passed) (line_of ended)
