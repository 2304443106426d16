use Rattle.gl_desk.proofs.Resting.{new_seats}
use Rattle.gl_desk.proofs.memory_desk.MemoryDesk.new.Goals as goal

pub returns-clause-views : goal.returns-clause-views
returns-clause-views c =
    new_seats c.new-2.result c.new-3.result c.new-4.result c.new-5.result c.new-6.result c.new-7.result c.new-8.result c.new-9.result
    c.new-2.ensures c.new-3.ensures c.new-4.ensures c.new-5.ensures c.new-6.ensures c.new-7.ensures c.new-8.ensures c.new-9.ensures
