use Rattle.std.proofs.Common.{arith}
use Rattle.std.proofs.lemmas.Map.Text.{text_keys}
use Rattle.gl_desk.proofs.memory_desk.MemoryDesk.put.Goals as goal

pub returns-clause-ok : goal.returns-clause-ok
returns-clause-ok c = record {
  here = λ slot. grind (arith, text_keys);
  others = λ slot other away. grind (arith, text_keys);
}
