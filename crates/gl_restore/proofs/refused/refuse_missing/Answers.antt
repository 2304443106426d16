use Rattle.std.proofs.Common.{◌≡◌, ◌∙◌, ap, sym, subst, Some, not, true, false}
use Rattle.std.specs.Prelude.{option_map}
use Rattle.gl_text.specs.Decks.{is_in}
use Rattle.gl_lifting.specs.Renaming.{missing, new_names}
use Rattle.gl_restore.specs.Refusals.{IsFaultIn}
use Rattle.gl_restore.specs.Backs.{kept_name}
use Rattle.gl_restore.proofs.FirstLaws.{find_here, find_more, find_none}
use Rattle.gl_restore.proofs.refused.refuse_missing.Goals as goal

pub returns-then-not-has-clause-refused : goal.returns-then-not-has-clause-refused
returns-then-not-has-clause-refused c =
    let lines = c.args.lines.now in
    let off : is_in c.device-item.result.name (new_names lines) ≡ false = ap (λ n. is_in n (new_names lines)) (sym c.name.ensures.name) ∙ (sym c.has.ensures.has ∙ c.if-not-has.true) in
    let whole = find_here kept_name (λ name. not (is_in name (new_names lines))) c.args.devices.now c.loop-device.device-index c.device-item.result _ c.loop-device-test.true c.device-item.is (ap not off) c.loop-device.invariant in
    subst (λ o. IsFaultIn o c.missing_name.result) (ap (λ n. Some (missing n)) c.name-then-not-has.ensures.name ∙ sym (ap (option_map missing) whole)) c.missing_name.ensures.missing

pub loop-device-preserved : goal.loop-device-preserved
loop-device-preserved c =
    let lines = c.args.lines.now in
    let on : is_in c.device-item.result.name (new_names lines) ≡ true = ap (λ n. is_in n (new_names lines)) (sym c.name.ensures.name) ∙ (sym c.has.ensures.has ∙ c.if-not-has.false) in
    find_more kept_name (λ name. not (is_in name (new_names lines))) c.args.devices.now c.loop-device.device-index c.device-item.result _ c.loop-device-test.true c.device-item.is (ap not on) c.loop-device.invariant

pub returns-clause-ok : goal.returns-clause-ok
returns-clause-ok c = find_none kept_name (λ name. not (is_in name (new_names c.args.lines.now))) c.args.devices.now c.loop-device.device-index _ c.loop-device-test.false c.loop-device.invariant
