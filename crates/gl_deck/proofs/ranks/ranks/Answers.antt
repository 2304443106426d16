use Rattle.std.proofs.Common.{◌≡◌, ◌∙◌, ℕ, List, [], ◌∷◌, ◌++◌, sym, ap, subst, length, get_or, set, take, drop, ◌-◌, arith, refl}
use Rattle.std.proofs.lemmas.List.{append-nil, take_all, drop_all}
use Rattle.std.specs.List.{IsDistinct}
use Rattle.gl_text.specs.LogicalLines.{same_text}
use Rattle.gl_deck.specs.Bodies.{names_of}
use Rattle.gl_deck.specs.CallCounts.{uncalled_at}
use Rattle.gl_deck.proofs.NumberLaws.{IsNumbering, begins_with, last_within, last_left, last_enough}
use Rattle.gl_deck.proofs.NumberSteps.{advances}
use Rattle.gl_deck.proofs.NumberEnds.{none_up, all_down}
use Rattle.gl_deck.proofs.ranks.ranks.Goals as goal

pub loop-place-init : goal.loop-place-init
loop-place-init c =
    let subs = c.args.subs.now in
    begins_with subs c.in_ok-calls.calls.items c.in_ok-ready.ready.items c.in_ok-ranks.ranks.items c.len.result c.len-next.result
    c.len.ensures.len (c.in_ok-ranks.ensures.items_if_clones_equal (λ y h. h)) c.len-next.ensures.len
    c.in_ok-calls.ensures.sized c.in_ok-calls.ensures.counted (λ p. c.in_ok-ready.ensures.each_once p ∙ ap (λ xs. uncalled_at xs p) c.deref.ensures.value)

pub index_mut-requires : goal.index_mut-requires
index_mut-requires c =
    let low = last_within _ _ c.loop-place.invariant c.in-Some.ensures.items in
    let own = c.loop-place.ranks.ok.0 in
    omega (arith, low, own)

pub overflow_sub-next : goal.overflow_sub-next
overflow_sub-next c = last_left _ _ c.loop-place.invariant c.in-Some.ensures.items

pub release_calls-requires-clause-called : goal.release_calls-requires-clause-called
release_calls-requires-clause-called c = λ p.
    let enough = last_enough _ _ p c.loop-place.invariant c.in-Some.ensures.items in
    let same = ap (λ xs. get_or xs p 0) c.deref_mut.ensures.value in
    omega (arith, enough, same)

pub loop-place-smaller : goal.loop-place-smaller
loop-place-smaller c = let some = last_left _ _ c.loop-place.invariant c.in-Some.ensures.items in omega (arith, some)

-- a slice of a whole vector, written back
back : (new old : List ℕ) (n : ℕ) → n ≡ length old → length new ≡ length old → take n (new ++ drop (length new) old) ≡ new
back new old n e f = ap (λ xs. take n (new ++ xs)) (drop_all (length new) old (omega (arith, f))) ∙ ap (take n) (append-nil new) ∙ take_all n new (omega (arith, e, f))

pub loop-place-preserved : goal.loop-place-preserved
loop-place-preserved c =
    let subs = c.args.subs.now in
    let old = c.loop-place.calls.items in
    let new = c.release_calls.new.calls in
    let ranks = c.loop-place.ranks.items in
    let value = c.deref_mut.ensures.value in
    let kept : length new ≡ length old = c.release_calls.auto.calls ∙ ap length value in
    let next = advances subs old c.pop.new.self.items c.loop-place.ready.items ranks new c.release_calls.new.ready.items c.loop-place.next c.in-Some.place c.loop-place.invariant c.in-Some.ensures.items kept
    (λ p. ap (λ xs. get_or xs p 0) (sym value) ∙ c.in_ok-release_calls.ensures.fewer p)
    (λ p. let h = c.in_ok-release_calls.ensures.freed p in let k = ap (λ xs. uncalled_at xs p) value in omega (arith, h, k)) in
    subst (λ (xs : List ℕ). IsNumbering subs xs c.release_calls.new.ready.items (set ranks c.in-Some.place c.loop-place.next) (c.loop-place.next - 1)) (sym (back new old c.loop-place.calls.len c.loop-place.calls.ok.0 kept)) next

pub returns-clause-not_up : goal.returns-clause-not_up
returns-clause-not_up c =
    let distinct : IsDistinct same_text (names_of c.args.subs.now) = c.len.ensures.names_differ in
    none_up c.args.subs.now c.loop-place.ranks.items distinct c.loop-place.invariant.ordered

nothing : (xs : List ℕ) → length xs ≡ 0 → xs ≡ []
nothing [] e = refl
nothing (x ∷ xs) e = absurd (omega (arith, e))

pub returns-clause-down : goal.returns-clause-down
returns-clause-down c = λ none.
    let ready = c.loop-place.ready in
    let distinct : IsDistinct same_text (names_of c.args.subs.now) = c.len.ensures.names_differ in
    let empty : ready.items ≡ [] = nothing ready.items (let e = c.in_default.ensures.cases.0 in let own = ready.ok.0 in omega (arith, e, own)) in
    all_down c.args.subs.now c.loop-place.calls.items ready.items c.loop-place.ranks.items c.loop-place.next distinct c.loop-place.invariant empty none
