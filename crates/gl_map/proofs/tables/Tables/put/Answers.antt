use Rattle.std.proofs.Common.{◌∙◌, ◌++◌, ◌∷◌, [], ap, sym, subst}
use Rattle.gl_fault.specs.Refusals.{IsRefusal}
use Rattle.gl_lifting.specs.MapReading.{is_double, map_by, of_device, of_net}
use Rattle.gl_map.specs.Refusals.{fault_of}
use Rattle.gl_map.specs.Rows.{row_value}
use Rattle.gl_map.specs.Checks.{named}
use Rattle.gl_map.proofs.DoubleLaws.{device_double, device_put, net_double, net_put, double_end, end_put, found_refused, refused_on}
use Rattle.gl_map.proofs.tables.Tables.put.Goals as goal

pub returns-in_err-put_names-in-Device-clause-refused : goal.returns-in_err-put_names-in-Device-clause-refused
returns-in_err-put_names-in-Device-clause-refused c =
    refused_on fault_of c.from_residual.result c.in_err-put_names-in-Device.field-0.0 c.args.line c.args.self.now _ c.from_residual.ensures.1
    (λ before rows is. subst (λ r. IsRefusal (fault_of c.in_err-put_names-in-Device.field-0.0) (named c.args.line before (row_value r ∷ rows))) (sym c.in-Device.is)
    (found_refused (fault_of c.in_err-put_names-in-Device.field-0.0) _ c.args.line before (of_device c.in-Device.new.now c.in-Device.old.now) rows (device_double c.args.self.now c.self.inside.devices.entries c.self.inside.nets.entries before c.in-Device.new.now c.in-Device.old.now (sym c.self.view_is) is) c.in_err-put_names-in-Device.ensures.refused))

pub returns-in_err-put_names-in-Net-clause-refused : goal.returns-in_err-put_names-in-Net-clause-refused
returns-in_err-put_names-in-Net-clause-refused c =
    refused_on fault_of c.from_residual-in_err-put_names-in-Net.result c.in_err-put_names-in-Net.field-0.0 c.args.line c.args.self.now _ c.from_residual-in_err-put_names-in-Net.ensures.1
    (λ before rows is. subst (λ r. IsRefusal (fault_of c.in_err-put_names-in-Net.field-0.0) (named c.args.line before (row_value r ∷ rows))) (sym c.in-Net.is)
    (found_refused (fault_of c.in_err-put_names-in-Net.field-0.0) _ c.args.line before (of_net c.in-Net.new.now c.in-Net.old.now) rows (net_double c.args.self.now c.self.inside.devices.entries c.self.inside.nets.entries before c.in-Net.new.now c.in-Net.old.now (sym c.self.view_is) is) c.in_err-put_names-in-Net.ensures.refused))

pub returns-in_ok-put_names-in-Device-clause-single : goal.returns-in_ok-put_names-in-Device-clause-single
returns-in_ok-put_names-in-Device-clause-single c before is =
    ap (λ r. is_double before (row_value r)) c.in-Device.is ∙ device_double c.args.self.now c.self.inside.devices.entries c.self.inside.nets.entries before c.in-Device.new.now c.in-Device.old.now (sym c.self.view_is) is ∙ c.in_ok-put_names-in-Device.ensures.single

pub returns-in_ok-put_names-in-Device-clause-put : goal.returns-in_ok-put_names-in-Device-clause-put
returns-in_ok-put_names-in-Device-clause-put c before is =
    device_put c.args.self.now c.self.inside.devices.entries c.self.inside.nets.entries c.put_names.new.table.entries before c.in-Device.new.now c.in-Device.old.now (sym c.self.view_is) c.in_ok-put_names-in-Device.ensures.put is
    ∙ ap (λ r. map_by (before ++ row_value r ∷ [])) (sym c.in-Device.is)

pub returns-in_ok-put_names-in-Net-clause-single : goal.returns-in_ok-put_names-in-Net-clause-single
returns-in_ok-put_names-in-Net-clause-single c before is =
    ap (λ r. is_double before (row_value r)) c.in-Net.is ∙ net_double c.args.self.now c.self.inside.devices.entries c.self.inside.nets.entries before c.in-Net.new.now c.in-Net.old.now (sym c.self.view_is) is ∙ c.in_ok-put_names-in-Net.ensures.single

pub returns-in_ok-put_names-in-Net-clause-put : goal.returns-in_ok-put_names-in-Net-clause-put
returns-in_ok-put_names-in-Net-clause-put c before is =
    net_put c.args.self.now c.self.inside.devices.entries c.self.inside.nets.entries c.put_names-in-Net.new.table.entries before c.in-Net.new.now c.in-Net.old.now (sym c.self.view_is) c.in_ok-put_names-in-Net.ensures.put is
    ∙ ap (λ r. map_by (before ++ row_value r ∷ [])) (sym c.in-Net.is)

pub returns-in-End-clause-single : goal.returns-in-End-clause-single
returns-in-End-clause-single c before is = ap (λ r. is_double before (row_value r)) c.in-End.is ∙ double_end before

pub returns-in-End-clause-put : goal.returns-in-End-clause-put
returns-in-End-clause-put c before is = end_put c.args.self.now before is ∙ ap (λ r. map_by (before ++ row_value r ∷ [])) (sym c.in-End.is)
