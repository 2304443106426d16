use Rattle.std.proofs.Common.{◌<◌, ◌∙◌, ◌++◌, List, length, take, get_or, subst, arith}
use Rattle.std.specs.Prelude.{filter_map, zip}
use Rattle.std.proofs.lemmas.List.{take_all}
use Rattle.std.proofs.lemmas.Slice.Zip.{length-zip}
use Rattle.gl_base.proofs.OnceLaws.{any_default}
use Rattle.gl_match.specs.declared.role.Pick.TheVariants.{Taken}
use Rattle.gl_history.specs.Replacing.{Chosen, chosen_at}
use Rattle.gl_history.specs.Marks.{IsMarked}
use Rattle.gl_history.proofs.ListLaws.{kept_more, paired_at}
use Rattle.gl_history.proofs.marks.add_items.Goals as goal

pub loop-i-preserved : goal.loop-i-preserved
loop-i-preserved c =
    let list = c.args.list.now in
    let picks = c.args.picks.now in
    let i = c.loop-i.i in
    let item = c.index-list-i.result in
    let pick = get_or picks i (Taken 0) in
    let within : i < length picks = omega (arith, c.requires.picked, c.loop-i-test.true) in
    let all = zip list picks in
    let lt : i < length all = omega (arith, c.loop-i-test.true, within, length-zip list picks) in
    let f = chosen_at c.args.kind in
    let next = c.add_item.new.marks in
    record {
      marked = λ before m. subst (λ (cs : List Chosen). IsMarked cs next.fates.items next.slots.items)
          (kept_more f before all i (item, pick) lt (paired_at list picks i item pick c.loop-i-test.true within c.index-list-i.is (any_default picks i (Taken 0) pick within)))
          (c.in_ok-add_item.ensures.marked (before ++ filter_map f (take i all)) (c.loop-i.invariant.marked before m));
      devices = c.add_item.ensures.devices ∙ c.loop-i.invariant.devices;
    }

pub returns-clause-marked : goal.returns-clause-marked
returns-clause-marked c = λ before m.
    let list = c.args.list.now in
    let picks = c.args.picks.now in
    let all = zip list picks in
    let f = chosen_at c.args.kind in
    let now = c.loop-i.marks in
    subst (λ xs. IsMarked (before ++ filter_map f xs) now.fates.items now.slots.items) (take_all c.loop-i.i all (omega (arith, length-zip list picks, c.requires.picked))) (c.loop-i.invariant.marked before m)
