use Rattle.std.proofs.Common.{◌≡◌, ◌∙◌, ◌+◌, ℕ, List, Option, None, Some, cond, length, sym, ap, subst}
use Rattle.std.proofs.lemmas.List.{with_items_is}
use Rattle.gl_match.specs.Graph.{is_in}
use Rattle.gl_cover.specs.Owners.{Keeps, least_owner, owner_at}
use Rattle.gl_match.specs.Picks.{chosen_after}
use Rattle.gl_cover.proofs.Picking.{kept_next, kept_over, pick_next, pick_over}
use Rattle.gl_cover.proofs.owners.pick.Goals as goal

pub returns-in-Some-clause-pick : goal.returns-in-Some-clause-pick
returns-in-Some-clause-pick c = λ first chosen h.
    let set = c.args.set.now in
    pick_over first chosen c.args.owners.now.numbers.items c.args.owners.now.next set c.in-Some.number h (c.in-Some.ensures.least ∙ ap (λ os. least_owner os set) c.deref.ensures.value)

pub returns-in-Some-clause-chosen : goal.returns-in-Some-clause-chosen
returns-in-Some-clause-chosen c = λ first chosen h.
    let set = c.args.set.now in
    kept_over first chosen c.args.owners.now.numbers.items c.args.owners.now.next set c.in-Some.number h (c.in-Some.ensures.least ∙ ap (λ os. least_owner os set) c.deref.ensures.value)

pub returns-clause-pick : goal.returns-clause-pick
returns-clause-pick c = λ first chosen h.
    let set = c.args.set.now in
    let none : None ≡ least_owner c.deref.result.now set = sym c.in_default.is ∙ c.number_over.ensures.least in
    pick_next first chosen c.args.owners.now.numbers.items c.args.owners.now.next set h (none ∙ ap (λ os. least_owner os set) c.deref.ensures.value)

pub returns-clause-chosen : goal.returns-clause-chosen
returns-clause-chosen c = λ first chosen h.
    let set = c.args.set.now in
    let old = c.args.owners.now.numbers in
    let next = c.args.owners.now.next in
    let none : None ≡ least_owner c.deref.result.now set = sym c.in_default.is ∙ c.number_over.ensures.least in
    let as_many : length c.give.new.numbers ≡ old.len = c.give.auto.numbers ∙ ap length c.deref_mut.ensures.value ∙ sym old.ok.0 in
    let given : (dev : ℕ) → owner_at c.give.new.numbers dev ≡ cond (is_in set dev) (Some next) (owner_at old.items dev) = λ dev. c.give.ensures.given dev ∙ ap (λ os. cond (is_in set dev) (Some next) (owner_at os dev)) c.deref_mut.ensures.value in
    subst (λ (os : List (Option ℕ)). Keeps first (chosen_after first chosen set) os (next + 1)) (sym (with_items_is old c.give.new.numbers as_many))
    (kept_next first chosen old.items c.give.new.numbers next set h (none ∙ ap (λ os. least_owner os set) c.deref.ensures.value) given)
