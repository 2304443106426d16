use Rattle.std.proofs.Common.{◌≡◌, ◌∙◌, ◌<◌, ◌≤◌, ◌++◌, ◌∷◌, [], ℕ, List, take, get_or, length, sym, ap, subst, arith, rules}
use Rattle.std.proofs.lemmas.List.{get_or-map, length-map, take_all}
use Rattle.gl_match.specs.declared.role.Pick.{Pick}
use Rattle.gl_match.specs.Listing.{Instance}
use Rattle.gl_match.specs.Choice.{sets_in}
use Rattle.gl_cover.specs.Owners.{Keeps}
use Rattle.gl_match.specs.Picks.{chosen_after, chosen_after_all, pick_after, picks_after}
use Rattle.gl_cover.proofs.Going.{chosen_more, picks_more}
use Rattle.gl_cover.proofs.choice.pick_all.Goals as goal

pub loop-instance-preserved : goal.loop-instance-preserved
loop-instance-preserved c =
    let list = c.args.list.now in
    let sets = sets_in list in
    let i = c.loop-instance.instance-index in
    let item = c.instance-item.result in
    let owners = c.pick.new.owners in
    let lt : i < length list = c.loop-instance-test.true in
    let few : i < length sets = omega (arith, lt, length-map list (λ (s : Instance). s.key.set)) in
    let mine : c.deref.result.now ≡ item.key.set = search rules in
    let set-is : c.deref.result.now ≡ get_or sets i [] = mine ∙ ap (λ (s : Instance). s.key.set) c.instance-item.is ∙ sym (get_or-map (λ (s : Instance). s.key.set) list i item [] lt) in
    record {
      picks = λ first chosen h.
          let before = chosen_after_all first chosen (take i sets) in
          let pick-is : c.pick.result ≡ pick_after first before (get_or sets i []) = c.pick.ensures.pick first before (c.loop-instance.invariant.chosen first chosen h) ∙ ap (pick_after first before) set-is in
          c.in_ok-push.ensures.items
          ∙ ap (λ (ps : List Pick). ps ++ c.pick.result ∷ []) (c.loop-instance.invariant.picks first chosen h)
          ∙ ap (λ (p : Pick). picks_after first chosen (take i sets) ++ p ∷ []) pick-is
          ∙ sym (picks_more first chosen sets i few);
      chosen = λ first chosen h.
          let before = chosen_after_all first chosen (take i sets) in
          subst (λ (ss : List (List ℕ)). Keeps first ss owners.numbers.items owners.next) (ap (chosen_after first before) set-is ∙ sym (chosen_more first chosen sets i few))
          (c.pick.ensures.chosen first before (c.loop-instance.invariant.chosen first chosen h));
      next = omega (arith, c.pick.ensures.next, c.loop-instance.invariant.next);
      devices = c.pick.ensures.devices ∙ c.loop-instance.invariant.devices;
    }

pub returns-clause-picks : goal.returns-clause-picks
returns-clause-picks c = λ first chosen h.
    let list = c.args.list.now in
    let all : length (sets_in list) ≤ c.loop-instance.instance-index = omega (arith, c.loop-instance-test.false, length-map list (λ (s : Instance). s.key.set)) in
    c.loop-instance.invariant.picks first chosen h ∙ ap (picks_after first chosen) (take_all c.loop-instance.instance-index (sets_in list) all)

pub returns-clause-chosen : goal.returns-clause-chosen
returns-clause-chosen c = λ first chosen h.
    let list = c.args.list.now in
    let owners = c.loop-instance.owners in
    let all : length (sets_in list) ≤ c.loop-instance.instance-index = omega (arith, c.loop-instance-test.false, length-map list (λ (s : Instance). s.key.set)) in
    subst (λ (ss : List (List ℕ)). Keeps first (chosen_after_all first chosen ss) owners.numbers.items owners.next) (take_all c.loop-instance.instance-index (sets_in list) all)
    (c.loop-instance.invariant.chosen first chosen h)
