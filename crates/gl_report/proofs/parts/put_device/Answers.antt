use Rattle.std.proofs.Common.{◌≡◌, ◌∙◌, ◌<◌, ◌++◌, List, ℕ, length, map, sym, ap}
use Rattle.std.proofs.lemmas.Result.{IfOk-equal}
use Rattle.std.proofs.lemmas.Bool.{ltb-true}
use Rattle.gl_text.specs.Flattening.{device_name}
use Rattle.gl_base.specs.Reports.{name_at}
use Rattle.gl_lifting.specs.HistoryReports.{origin_name}
use Rattle.gl_history.specs.Plain.{origin_value}
use Rattle.gl_report.specs.Naming.{RoundNames}
use Rattle.gl_report.proofs.PartLaws.{origin_named}
use Rattle.gl_report.proofs.parts.put_device.Goals as goal

pub returns-in-Some : goal.returns-in-Some
returns-in-Some c =
    let out = c.args.out.now.items in
    let inside = c.names.inside in
    let found = c.in-Some.ensures.lookup in
    let named = origin_name inside.stem.now (map device_name inside.flat.now.devices) in
    let within : c.dev.inside.0 < length inside.origins.now = ltb-true c.dev.inside.0 (length inside.origins.now) (sym found.0) in
    let name : named (origin_value c.in-Some.origin.now) ≡ name_at c.args.names.now.devices c.args.dev =
    origin_named named inside.origins.now c.dev.inside.0 c.in-Some.origin.now within found.1
    ∙ (ap (λ (n : RoundNames). name_at n.devices c.dev.inside.0) c.names.view_is ∙ ap (name_at c.args.names.now.devices) c.dev.view_is) in
    record { ok = IfOk-equal c.put_origin.result c.put_origin.new.out.items (out ++ named (origin_value c.in-Some.origin.now)) (out ++ name_at c.args.names.now.devices c.args.dev) c.put_origin.ensures.ok (ap (λ (t : List ℕ). out ++ t) name) }
