use Rattle.std.proofs.Common.{length, refl}
use Rattle.std.proofs.lemmas.List.{length_push}
use Rattle.std.proofs.lemmas.Slice.Zip.{zip_turn, zip_end}
use Rattle.gl_lists.proofs.Zips.{left_in}
use Rattle.gl_lifting.specs.SearchedCells.{cell_in}
use Rattle.gl_lib.specs.Tables.{run_in}
use Rattle.gl_lib.proofs.LevelLaws.{pair_there, whole_unless, cells_step, cells_done}
use Rattle.gl_lib.proofs.levels.searched_cells.Goals as goal

pub add_cell-requires-clause-inside : goal.add_cell-requires-clause-inside
add_cell-requires-clause-inside c =
    let l = c.args.parts.now.library.now in
    let turn = zip_turn l.deck.subs l.cells c.loop-cell.yielded c.into_iter-cell-iterator.result c.loop-cell.cell-iterator c.next.new.self c.next.result (cc) (cc) c.loop-cell.yielded_by (c.in-Some.cell, c.in-Some.told) c.in-Some.is c.next.ensures.steps in
    left_in l.deck.subs l.cells (c.in-Some.cell.now, c.in-Some.told.now) (pair_there l.deck.subs l.cells (length c.loop-cell.yielded) c.in-Some.cell.now c.in-Some.told.now turn.0 turn.1 (turn.2 c.in-Some.cell.now) (turn.3 c.in-Some.told.now))

pub add_cell-requires-clause-whole : goal.add_cell-requires-clause-whole
add_cell-requires-clause-whole c =
    let l = c.args.parts.now.library.now in
    let turn = zip_turn l.deck.subs l.cells c.loop-cell.yielded c.into_iter-cell-iterator.result c.loop-cell.cell-iterator c.next.new.self c.next.result (cc) (cc) c.loop-cell.yielded_by (c.in-Some.cell, c.in-Some.told) c.in-Some.is c.next.ensures.steps in
    whole_unless l c.requires.sound.cells c.in-Some.cell.now c.in-Some.told.now (pair_there l.deck.subs l.cells (length c.loop-cell.yielded) c.in-Some.cell.now c.in-Some.told.now turn.0 turn.1 (turn.2 c.in-Some.cell.now) (turn.3 c.in-Some.told.now))

pub loop-cell-preserved : goal.loop-cell-preserved
loop-cell-preserved c =
    let p = c.args.parts.now in
    let l = p.library.now in
    let turn = zip_turn l.deck.subs l.cells c.loop-cell.yielded c.into_iter-cell-iterator.result c.loop-cell.cell-iterator c.next.new.self c.next.result (cc) (cc) c.loop-cell.yielded_by (c.in-Some.cell, c.in-Some.told) c.in-Some.is c.next.ensures.steps in
    cells_step (cell_in (run_in p)) l.deck.subs l.cells (length c.loop-cell.yielded) _ _ _ c.in-Some.cell.now c.in-Some.told.now (cell_in (run_in p) (c.in-Some.cell.now, c.in-Some.told.now)) turn.0 turn.1 (length_push c.loop-cell.yielded (c.in-Some.cell, c.in-Some.told)) (turn.2 c.in-Some.cell.now) (turn.3 c.in-Some.told.now)
    c.loop-cell.invariant refl c.in_ok-add_cell.ensures.added

pub returns : goal.returns
returns c =
    let p = c.args.parts.now in
    let l = p.library.now in
    let all = zip_end l.deck.subs l.cells c.loop-cell.yielded c.into_iter-cell-iterator.result c.loop-cell.cell-iterator c.next.new.self c.next.result (cc) (cc) c.loop-cell.yielded_by c.in-None.is c.next.ensures.steps in
    record { cells = cells_done (cell_in (run_in p)) l.deck.subs l.cells (length c.loop-cell.yielded) _ all c.loop-cell.invariant }
