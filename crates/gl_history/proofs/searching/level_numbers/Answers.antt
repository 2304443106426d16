use Rattle.std.proofs.Common.{◌<◌, ◌+◌, length, refl, arith}
use Rattle.std.specs.List.{enumerate_from}
use Rattle.std.proofs.lemmas.List.FromFn.{length-enumerate_from}
use Rattle.gl_history.specs.Searching as searching
use Rattle.gl_history.proofs.ListLaws.{from_here, numbered_at, kept_next, kept_end}
use Rattle.gl_history.proofs.searching.level_numbers.Goals as goal

pub loop-number-preserved : goal.loop-number-preserved
loop-number-preserved c =
    let cells = c.args.cells.now in
    let n = c.loop-number.number in
    let cell = c.index-cells-number.result in
    let all = enumerate_from 0 cells in
    let lt : n < length all = omega (arith, c.loop-number-test.true, length-enumerate_from 0 cells) in
    let from = from_here all n (n + 1) (n, cell) lt refl (numbered_at cells n cell c.loop-number-test.true c.index-cells-number.is) in
    kept_next (searching.number_at c.args.level) all n (n + 1) (n, cell) c.loop-number.numbers.items c.add_number.new.numbers.items _ from c.in_ok-add_number.ensures.added c.loop-number.invariant

pub returns : goal.returns
returns c =
    let cells = c.args.cells.now in
    record { numbers = kept_end (searching.number_at c.args.level) (enumerate_from 0 cells) c.loop-number.number c.loop-number.numbers.items _ (omega (arith, length-enumerate_from 0 cells)) c.loop-number.invariant }
