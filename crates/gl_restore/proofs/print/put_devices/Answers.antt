use Rattle.gl_card.proofs.PrintLaws.{front_stays}
use Rattle.gl_restore.proofs.print.put_devices.Goals as goal

pub returns-in_err-put_device-clause-front : goal.returns-in_err-put_device-clause-front
returns-in_err-put_device-clause-front c = front_stays c.args.out.now.items c.loop-back.out.items c.put_device.new.out.items _ c.loop-back.invariant c.in_err-put_device.ensures.front
