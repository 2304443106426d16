use Rattle.std.proofs.Common.{refl}
use Rattle.gl_desk.proofs.Seating.{others_kept, wants_kept}
use Rattle.gl_desk.proofs.memory_desk.MemoryDeskDesk.give.Goals as goal

pub returns-clause-others : goal.returns-clause-others
returns-clause-others c = others_kept c.args.self.now.seats c.args.slot c.place.result c.give.new.self c.place.ensures.place

pub returns-clause-names : goal.returns-clause-names
returns-clause-names c = record {
  same_held = λ slot name. refl;
  same_wants = wants_kept c.args.self.now.seats c.place.result c.give.new.self c.index-self-place.result c.give.ensures.wants;
}
