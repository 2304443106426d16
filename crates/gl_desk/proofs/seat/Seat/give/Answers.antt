use Rattle.std.proofs.Common.{◌≡◌, false, ap, ◌∙◌, Some, arith}
use Rattle.gl_desk.proofs.seat.Seat.give.Goals as goal

pub returns-then-is_due-clause-failed : goal.returns-then-is_due-clause-failed
returns-then-is_due-clause-failed c = c.fault.ensures.shows false

pub returns-in-Err-clause-failed : goal.returns-in-Err-clause-failed
returns-in-Err-clause-failed c =
    let failed = c.fault-in-Err.ensures.shows false in
    let same : c.extend_from_slice.new.self.items ≡ c.args.self.now.bytes.items = grind (arith, c.extend_from_slice.ensures.items, c.in-Err.is) in
    record {
      left = failed.left;
      given = failed.given ∙ ap Some same;
      taken = failed.taken;
      used = failed.used;
      never_falls = failed.never_falls;
      faults = failed.faults;
    }
