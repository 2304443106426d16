use Rattle.std.proofs.Common.{◌+◌, ◌≤◌, length, refl, ap, arith, Some}
use Rattle.std.proofs.lemmas.Grind.{common_steps}
use Rattle.gl_desk.proofs.Pieces.{piece_moves}
use Rattle.gl_desk.proofs.seat.Seat.take_front.Goals as goal

pub returns-clause-bytes : goal.returns-clause-bytes
returns-clause-bytes c =
    let same = c.deref.ensures.value in
    let in_range : c.args.self.now.mark + c.min-count.result ≤ length c.args.self.now.bytes.items = grind (arith, common_steps) in
    let m = piece_moves c.args.self.now.bytes.items c.deref.result.now c.args.buf.now c.copy_from_slice.new.self c.args.self.now.mark c.min-count.result same in_range c.copy_from_slice.ensures.after in
    record { left = ap Some m.0; given = refl; taken = ap (λ n. c.args.self.now.mark + n) m.1; used = refl; faults = omega arith }
