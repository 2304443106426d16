use Rattle.std.proofs.Common.{◌∙◌, ℕ, List, ap, arith}
use Rattle.gl_base.specs.Reports.{name_at}
use Rattle.gl_named.specs.Firsts.{at_number}
use Rattle.gl_named.proofs.CountLaws.{new_found, new_missing}
use Rattle.gl_named.proofs.new_nets.NewNets.name.Goals as goal

pub returns-in-Some : goal.returns-in-Some
returns-in-Some c =
    let nets = c.self.inside in
    let number = c.args.number in
    record {
      name = c.as_bytes.ensures.bytes ∙ c.new_name.ensures.name
          ∙ new_found (at_number nets.table.now) 0 nets.olds.now number number c.in-Some.old.now (omega arith) c.in-Some.ensures.lookup.3.0 c.in-Some.ensures.lookup.1
          ∙ ap (λ (names : List (List ℕ)). name_at names number) c.self.view_is;
    }

pub returns-in-None : goal.returns-in-None
returns-in-None c =
    let nets = c.self.inside in
    record {
      name = new_missing (at_number nets.table.now) 0 nets.olds.now c.args.number c.in-None.ensures.lookup.3
          ∙ ap (λ (names : List (List ℕ)). name_at names c.args.number) c.self.view_is;
    }
