use Rattle.std.proofs.Common.{◌∙◌, ℕ, List, ap, map}
use Rattle.gl_fault.proofs.AnswerLaws.{gives_refusal}
use Rattle.gl_lifting.specs.Renaming.{old_name}
use Rattle.gl_restore.specs.Refusals.{fault_of}
use Rattle.gl_restore.specs.Backs.{backs_of}
use Rattle.gl_restore.proofs.AnswerLaws.{are_named, name_refuses, line_refuses, names_of_kept, given_back}
use Rattle.gl_restore.proofs.restored.Restored.of.Goals as goal

pub returns-in_err-olds : goal.returns-in_err-olds
returns-in_err-olds c =
    let f = c.args.flat.now in
    record {
      restored = gives_refusal fault_of _ c.from_residual.result c.in_err-olds.field-0.0 _ c.from_residual.ensures.1
          (name_refuses (fault_of c.in_err-olds.field-0.0) f c.args.names.now _ _ (names_of_kept f _ c.devices.ensures.devices) (c.items.ensures.items ∙ c.nets.ensures.nets) c.in_err-olds.ensures.refused);
    }

pub returns-in_err-refuse_lines : goal.returns-in_err-refuse_lines
returns-in_err-refuse_lines c =
    let f = c.args.flat.now in
    let m = c.args.names.now in
    let named = are_named f m _ _ (names_of_kept f _ c.devices.ensures.devices) (c.items.ensures.items ∙ c.nets.ensures.nets) c.in_ok-olds.ensures.ok in
    record {
      restored = gives_refusal fault_of _ c.from_residual-in_err-refuse_lines.result c.in_err-refuse_lines.field-0.0 _ c.from_residual-in_err-refuse_lines.ensures.1
          (line_refuses (fault_of c.in_err-refuse_lines.field-0.0) f m _ _ (names_of_kept f _ (c.in_ok-kept.ensures.devices ∙ c.devices-2.ensures.devices)) c.nets-2.ensures.nets named c.in_err-refuse_lines.ensures.refused);
    }

pub returns : goal.returns
returns c =
    let f = c.args.flat.now in
    let m = c.args.names.now in
    let nets_are = c.items.ensures.items ∙ c.nets.ensures.nets in
    let named = are_named f m _ _ (names_of_kept f _ c.devices.ensures.devices) nets_are c.in_ok-olds.ensures.ok in
    record {
      restored = given_back f m _ _ _ _ (c.in_ok-kept.ensures.devices ∙ c.devices-2.ensures.devices) c.nets-2.ensures.nets named c.in_ok-refuse_lines.ensures.ok
          (c.in_ok-olds.ensures.olds ∙ ap (λ (ns : List (List ℕ)). map (old_name m.nets) ns) nets_are)
          (c.in_ok-backs.ensures.backs ∙ ap (backs_of _) c.devices-3.ensures.devices);
    }
