use Rattle.std.proofs.Common.{◌≡◌, ◌∙◌, take, ap}
use Rattle.std.proofs.lemmas.List.{take_all}
use Rattle.gl_deck.specs.CallCounts.{uncalled_at}
use Rattle.gl_deck.proofs.ReadyLaws.{front_more}
use Rattle.gl_deck.proofs.ranks.uncalled.Goals as goal

pub loop-place-preserved : goal.loop-place-preserved
loop-place-preserved c = front_more c.args.calls.now c.loop-place.places.items c.add_uncalled.new.ready.items c.loop-place.place c.loop-place-test.true c.loop-place.invariant c.in_ok-add_uncalled.ensures.added

pub returns : goal.returns
returns c =
    let all : take c.loop-place.place c.args.calls.now ≡ c.args.calls.now = take_all c.loop-place.place c.args.calls.now c.loop-place-test.false in
    record { each_once = λ p. c.loop-place.invariant p ∙ ap (λ xs. uncalled_at xs p) all }
