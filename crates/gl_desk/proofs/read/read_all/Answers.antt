use Rattle.std.proofs.Common.{◌≤◌, ◌+◌, ◌++◌, ℕ, List, rules, arith, take, length}
use Rattle.std.proofs.lemmas.Grind.{common_steps}
use Rattle.gl_desk.specs.Desk.{LONGEST, View, Takes, TakesSome}
use Rattle.gl_desk.proofs.Taking.{takes_more}
use Rattle.gl_desk.proofs.read.read_all.Goals as goal

-- what was taken, and a piece more
lost_with : (a b c : View) (xs ys : List ℕ) → Takes a b xs → Takes b c ys → length (xs ++ ys) ≤ LONGEST + 1 → TakesSome a c
lost_with a b c xs ys p q few = record { piece = xs ++ ys; takes = takes_more a b c xs ys p q; few = few }

pub returns-in_err-extend_from_slice-clause-lost :
    goal.returns-in_err-extend_from_slice-clause-lost
returns-in_err-extend_from_slice-clause-lost g c =
    let before = g.D.Desk.shows c.args.desk.now c.args.slot in
    let between = g.D.Desk.shows c.loop-all.desk c.args.slot in
    let after = g.D.Desk.shows c.take.new.self c.args.slot in
    let all = c.loop-all.all.items in
    let piece = take c.in_ok-count.count c.take.new.buf in
    let few : length (all ++ piece) ≤ LONGEST + 1 = grind (arith, common_steps) in
    let lost = lost_with before between after all piece c.loop-all.invariant.takes c.in_ok-count.ensures.bytes few in
    search (rules, lost)

pub returns-then-len-count-eq-TOO_LONG-clause-lost :
    goal.returns-then-len-count-eq-TOO_LONG-clause-lost
returns-then-len-count-eq-TOO_LONG-clause-lost g c =
    let before = g.D.Desk.shows c.args.desk.now c.args.slot in
    let between = g.D.Desk.shows c.loop-all.desk c.args.slot in
    let after = g.D.Desk.shows c.take.new.self c.args.slot in
    let all = c.loop-all.all.items in
    let piece = take c.in_ok-count.count c.take.new.buf in
    let few : length (all ++ piece) ≤ LONGEST + 1 = grind (arith, common_steps) in
    lost_with before between after all piece c.loop-all.invariant.takes c.in_ok-count.ensures.bytes few
