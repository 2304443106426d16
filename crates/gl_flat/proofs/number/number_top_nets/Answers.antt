use Rattle.gl_flat.specs.Refusals.{fault_of}
use Rattle.gl_fault.proofs.AnswerLaws.{passed_on}
use Rattle.gl_flat.proofs.TopNets.{top_added, top_refused, top_numbered, top_fits}
use Rattle.gl_flat.proofs.number.number_top_nets.Goals as goal

pub number_net-requires : goal.number_net-requires
number_net-requires c = record { few = top_fits c.args.seen.now c.loop-name.seen c.args.names.now c.loop-name.name-index c.name-item.result c.of_top-net.result c.loop-name-test.true c.name-item.is c.of_top-net.ensures.net c.loop-name.invariant.seen c.requires.few }

pub loop-name-preserved : goal.loop-name-preserved
loop-name-preserved c =
    let s = c.args.seen.now in
    let t = c.loop-name.seen in
    let u = c.number_net.new.seen in
    let names = c.args.names.now in
    let i = c.loop-name.name-index in
    let name = c.name-item.result in
    let m = c.of_top-net.result in
    record {
      seen = top_added names i name m s t u c.loop-name-test.true c.name-item.is c.of_top-net.ensures.net c.loop-name.invariant.seen c.in_ok-number_net.ensures.ok;
      numbers = top_numbered s t u names i name m c.loop-name.numbers.items c.push.new.self.items c.in_ok-number_net.field-0 c.loop-name-test.true c.name-item.is c.of_top-net.ensures.net c.loop-name.invariant.seen c.in_ok-number_net.ensures.ok
          c.loop-name.invariant.numbers c.in_ok-push.ensures.items c.in_ok-number_net.ensures.number;
    }

pub returns-in_err-number_net-clause-refused : goal.returns-in_err-number_net-clause-refused
returns-in_err-number_net-clause-refused c =
    passed_on fault_of c.from_residual-in_err-number_net.result c.in_err-number_net.field-0.0 _ c.from_residual-in_err-number_net.ensures.1
    (top_refused (fault_of c.in_err-number_net.field-0.0) c.args.names.now c.loop-name.name-index c.name-item.result c.of_top-net.result c.args.seen.now c.loop-name.seen c.loop-name-test.true c.name-item.is c.of_top-net.ensures.net c.loop-name.invariant.seen c.in_err-number_net.ensures.refused)
