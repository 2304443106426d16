use Rattle.std.proofs.Common.{◌≡◌, ◌∙◌, ◌<◌, ◌≤◌, ◌++◌, ◌∷◌, [], ℕ, List, take, get_or, map, length, sym, ap, subst, arith}
use Rattle.std.specs.Prelude.{fold}
use Rattle.std.specs.declared.alloc.Global.{Global}
use Rattle.std.specs.declared.vec.Vec.{Vec}
use Rattle.std.proofs.lemmas.List.{get_or-map, length-map, map_push, take_all}
use Rattle.std.proofs.lemmas.List.Sums.{sum_by_more}
use Rattle.gl_match.specs.declared.role.Pick.{Pick}
use Rattle.gl_match.specs.Listing.{Instance}
use Rattle.gl_match.specs.Choice.{IsChoice, sets_in, sets_of}
use Rattle.gl_cover.specs.Owners.{Keeps}
use Rattle.gl_match.specs.Picks.{chosen_after_all, picks_after, picks_by_list, picks_of}
use Rattle.gl_cover.proofs.Going.{chosen_by_list_more, lists_more}
use Rattle.gl_cover.proofs.OneChoice.{picks_are_choice}
use Rattle.gl_cover.proofs.choice.choose.Goals as goal

pub loop-list-preserved : goal.loop-list-preserved
loop-list-preserved c =
    let first = c.args.first in
    let lists = c.args.lists.now in
    let all = sets_of lists in
    let i = c.loop-list.list-index in
    let item = c.list-item.result in
    let made = c.in_ok-pick_all.field-0 in
    let old = c.loop-list.owners in
    let new = c.pick_all.new.owners in
    let before = fold (chosen_after_all first) [] (take i all) in
    let lt : i < length lists = c.loop-list-test.true in
    let few : i < length all = omega (arith, lt, length-map lists sets_in) in
    let mine : c.deref.result.now ≡ item = cc in
    let sets-are : sets_in c.deref.result.now ≡ get_or all i [] = ap sets_in (mine ∙ c.list-item.is) ∙ sym (get_or-map sets_in lists i item [] lt) in
    let keeps : Keeps first before old.numbers.items old.next = c.loop-list.invariant.chosen in
    let picks-are : made.items ≡ picks_after first before (get_or all i []) = c.in_ok-pick_all.ensures.picks first before keeps ∙ ap (picks_after first before) sets-are in
    let count : length c.deref.result.now ≡ length (get_or lists i item) = ap length (mine ∙ c.list-item.is) in
    record {
      picks =
          ap (map (λ (v : Vec Pick Global). v.items)) c.in_ok-push.ensures.items
          ∙ map_push (λ (v : Vec Pick Global). v.items) c.loop-list.picks.items made
          ∙ ap (λ (ps : List (List Pick)). ps ++ made.items ∷ []) c.loop-list.invariant.picks
          ∙ ap (λ (ps : List Pick). picks_by_list first [] (take i all) ++ ps ∷ []) picks-are
          ∙ sym (lists_more first [] all i few);
      chosen = subst (λ (ss : List (List ℕ)). Keeps first ss new.numbers.items new.next)
          (ap (chosen_after_all first before) sets-are ∙ sym (chosen_by_list_more first [] all i few))
          (c.in_ok-pick_all.ensures.chosen first before keeps);
      next = omega (arith, c.in_ok-pick_all.ensures.next, c.loop-list.invariant.next, count, sum_by_more (λ (list : List Instance). length list) lists i item lt);
      devices = c.in_ok-pick_all.ensures.devices ∙ c.loop-list.invariant.devices;
    }

pub returns-clause-choice : goal.returns-clause-choice
returns-clause-choice c =
    let lists = sets_of c.args.lists.now in
    let i = c.loop-list.list-index in
    let all : length lists ≤ i = omega (arith, c.loop-list-test.false, length-map c.args.lists.now sets_in) in
    let same : picks_by_list c.args.first [] (take i lists) ≡ picks_of c.args.first lists = ap (picks_by_list c.args.first []) (take_all i lists all) in
    subst (λ (ps : List (List Pick)). IsChoice c.args.first lists ps) (sym (c.loop-list.invariant.picks ∙ same)) (picks_are_choice c.args.first lists)
