use Rattle.std.proofs.Common.{◌≡◌, ◌∙◌, ◌++◌, List, ℕ, Some, length, ap, sym, subst}
use Rattle.std.proofs.lemmas.Bool.{ltb-true}
use Rattle.std.proofs.lemmas.Option.{slice_get-get_or}
use Rattle.std.specs.Prelude.{OnOk, slice_get}
use Rattle.gl_base.specs.BaseCircuit.{nets_of}
use Rattle.gl_base.specs.Rounds.{cards_of}
use Rattle.gl_flat.specs.Kept.{device_line, kept_of}
use Rattle.gl_write.proofs.KeptLaws.{line_there}
use Rattle.gl_write.proofs.device.put_base.Goals as goal

pub returns-in-Some : goal.returns-in-Some
returns-in-Some c =
    let cards = cards_of c.args.flat.now in
    let d = c.in-Some.device.now in
    let names : c.items.result.now ≡ nets_of cards = c.items.ensures.items ∙ c.nets.ensures.nets in
    let ds = c.devices.result.now in
    let i = c.dev.inside.0 in
    let within = ltb-true i (length ds) (sym c.in-Some.ensures.lookup.0) in
    let there : slice_get (kept_of cards) c.args.dev ≡ Some d =
    sym (ap (λ ks. slice_get ks c.args.dev) c.devices.ensures.devices) ∙ sym (ap (slice_get ds) c.dev.view_is) ∙ slice_get-get_or ds i d within ∙ ap Some (sym c.in-Some.ensures.lookup.1) in
    let line = ap (λ (ns : List (List ℕ)). device_line ns d) names ∙ line_there cards c.args.dev d there in
    record { ok = subst (λ (t : List ℕ). OnOk c.put_device.result (c.put_device.new.out.items ≡ c.args.out.now.items ++ t)) line c.put_device.ensures.ok }
