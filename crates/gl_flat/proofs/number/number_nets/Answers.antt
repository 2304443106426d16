use Rattle.gl_flat.specs.Refusals.{fault_of}
use Rattle.gl_fault.proofs.AnswerLaws.{passed_on}
use Rattle.gl_flat.proofs.SeenLaws.{net_added, net_refused}
use Rattle.gl_flat.proofs.SeenNumbers.{net_numbered, net_fits}
use Rattle.gl_flat.proofs.number.number_nets.Goals as goal

pub number_net-requires : goal.number_net-requires
number_net-requires c = record { few = net_fits c.args.seen.now c.loop-net.seen c.args.nets.now c.loop-net.net-index c.net-item.result c.loop-net-test.true c.net-item.is c.loop-net.invariant.seen c.requires.few }

pub loop-net-preserved : goal.loop-net-preserved
loop-net-preserved c =
    let s = c.args.seen.now in
    let t = c.loop-net.seen in
    let u = c.number_net.new.seen in
    let nets = c.args.nets.now in
    let i = c.loop-net.net-index in
    record {
      seen = net_added nets i c.net-item.result s t u c.loop-net-test.true c.net-item.is c.loop-net.invariant.seen c.in_ok-number_net.ensures.ok;
      numbers = net_numbered s t u nets i c.net-item.result c.loop-net.numbers.items c.push.new.self.items c.in_ok-number_net.field-0 c.loop-net-test.true c.net-item.is c.loop-net.invariant.seen c.in_ok-number_net.ensures.ok c.loop-net.invariant.numbers c.in_ok-push.ensures.items c.in_ok-number_net.ensures.number;
    }

pub returns-in_err-number_net-clause-refused : goal.returns-in_err-number_net-clause-refused
returns-in_err-number_net-clause-refused c =
    passed_on fault_of c.from_residual-in_err-number_net.result c.in_err-number_net.field-0.0 _ c.from_residual-in_err-number_net.ensures.1
    (net_refused (fault_of c.in_err-number_net.field-0.0) c.args.nets.now c.loop-net.net-index c.net-item.result c.args.seen.now c.loop-net.seen c.loop-net-test.true c.net-item.is c.loop-net.invariant.seen c.in_err-number_net.ensures.refused)
