use Rattle.std.proofs.Common.{◌+◌, ◌<◌, ◌^◌, refl, arith}
use Rattle.std.specs.Option.{option_copied}
use Rattle.gl_write.proofs.NamingLaws.{first, second}
use Rattle.gl_write.proofs.naming.next_name.Goals as goal

pub returns-then-not-is_top-clause-name : goal.returns-then-not-is_top-clause-name
returns-then-not-is_top-clause-name c = λ others given.
    let low : c.args.last + 2 < 2 ^ 64 = omega (arith, c.ranges.last.fits) in
    (first (option_copied c.args.top) c.args.cell.now c.args.last c.in_ok-number.number c.in_ok-text.text.items c.deref.result.now low c.in_ok-number.ensures.next c.in_ok-text.ensures.text c.deref.ensures.value c.if-not-is_top.ensures.top others given).0

pub returns-then-not-is_top-clause-number : goal.returns-then-not-is_top-clause-number
returns-then-not-is_top-clause-number c =
    let low : c.args.last + 2 < 2 ^ 64 = omega (arith, c.ranges.last.fits) in
    (first (option_copied c.args.top) c.args.cell.now c.args.last c.in_ok-number.number c.in_ok-text.text.items c.deref.result.now low c.in_ok-number.ensures.next c.in_ok-text.ensures.text c.deref.ensures.value c.if-not-is_top.ensures.top _ refl).1

pub returns-clause-name : goal.returns-clause-name
returns-clause-name c = λ others given.
    let low : c.args.last + 2 < 2 ^ 64 = omega (arith, c.ranges.last.fits) in
    (second (option_copied c.args.top) c.args.cell.now c.args.last c.in_ok-number.number c.in_ok-text.text.items c.deref.result.now c.in_ok-number-2.number c.in_ok-text-2.text.items low c.in_ok-number.ensures.next c.in_ok-text.ensures.text c.deref.ensures.value c.if-not-is_top.ensures.top c.in_ok-number-2.ensures.next c.in_ok-text-2.ensures.text others given).0

pub returns-clause-number : goal.returns-clause-number
returns-clause-number c =
    let low : c.args.last + 2 < 2 ^ 64 = omega (arith, c.ranges.last.fits) in
    (second (option_copied c.args.top) c.args.cell.now c.args.last c.in_ok-number.number c.in_ok-text.text.items c.deref.result.now c.in_ok-number-2.number c.in_ok-text-2.text.items low c.in_ok-number.ensures.next c.in_ok-text.ensures.text c.deref.ensures.value c.if-not-is_top.ensures.top c.in_ok-number-2.ensures.next c.in_ok-text-2.ensures.text _ refl).1
