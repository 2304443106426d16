use Rattle.std.proofs.Common.{◌≡◌, ◌<◌, ◌∙◌, length, true, false, arith}
use Rattle.gl_desk.specs.Desk.{is_input}
use Rattle.gl_desk.proofs.Resting.{no_text, text_here}
use Rattle.gl_desk.proofs.memory_desk.MemoryDesk.text.Goals as goal

pub returns-then-reads : goal.returns-then-reads
returns-then-reads c =
    let same : is_input c.args.slot ≡ true = grind (arith, c.reads.ensures, c.if-reads.true) in
    no_text c.args.self.now.seats c.args.slot same

pub returns : goal.returns
returns c =
    let same : is_input c.args.slot ≡ false = grind (arith, c.reads.ensures, c.if-reads.false) in
    let within : c.place.result < length c.args.self.now.seats = omega arith in
    c.bytes.ensures ∙ text_here c.args.self.now.seats c.args.slot c.place.result c.index-self-place.result c.place.ensures.place within same
