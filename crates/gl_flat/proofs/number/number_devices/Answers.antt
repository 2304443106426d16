use Rattle.gl_text.specs.Flattening.{bearers}
use Rattle.gl_flat.specs.Refusals.{fault_of}
use Rattle.gl_fault.proofs.AnswerLaws.{passed_on}
use Rattle.gl_flat.proofs.SeenLaws.{item_added, item_refused}
use Rattle.gl_flat.proofs.SeenNumbers.{device_numbered, device_fits}
use Rattle.gl_flat.proofs.number.number_devices.Goals as goal

pub number_device-requires : goal.number_device-requires
number_device-requires c =
    record { few = device_fits c.args.seen.now c.loop-device.seen c.args.devices.now c.loop-device.device-index c.device-item.result c.loop-device-test.true c.device-item.is c.loop-device.invariant.seen c.requires.few }

pub loop-device-preserved : goal.loop-device-preserved
loop-device-preserved c =
    let s = c.args.seen.now in
    let t = c.loop-device.seen in
    let u = c.number_device.new.seen in
    let ds = c.args.devices.now in
    let i = c.loop-device.device-index in
    record {
      seen = item_added bearers ds i c.device-item.result s t u c.loop-device-test.true c.device-item.is c.loop-device.invariant.seen c.in_ok-number_device.ensures.ok;
      numbered = device_numbered s t u ds i c.device-item.result c.loop-device.numbered.items c.push.new.self.items c.in_ok-number_device.field-0 c.loop-device-test.true c.device-item.is c.loop-device.invariant.seen c.in_ok-number_device.ensures.ok c.loop-device.invariant.numbered c.in_ok-push.ensures.items c.in_ok-number_device.ensures.device;
    }

pub returns-in_err-number_device-clause-refused : goal.returns-in_err-number_device-clause-refused
returns-in_err-number_device-clause-refused c =
    passed_on fault_of c.from_residual-in_err-number_device.result c.in_err-number_device.field-0.0 _ c.from_residual-in_err-number_device.ensures.1
    (item_refused (fault_of c.in_err-number_device.field-0.0) bearers c.args.devices.now c.loop-device.device-index c.device-item.result c.args.seen.now c.loop-device.seen c.loop-device-test.true c.device-item.is c.loop-device.invariant.seen c.in_err-number_device.ensures.refused)
