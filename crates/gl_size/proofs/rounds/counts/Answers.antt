use Rattle.std.proofs.Common.{◌∙◌, add-one, List, ℕ, map, ap, sym}
use Rattle.gl_size.specs.Counts.{counts_of}
use Rattle.gl_size.specs.Tallies.{Tally, count_through}
use Rattle.gl_size.proofs.CountLaws.{next_counts}
use Rattle.gl_size.proofs.rounds.counts.Goals as goal

pub loop-depth-preserved : goal.loop-depth-preserved
loop-depth-preserved c = λ subs e.
    let kind = c.args.counted in
    let n = c.loop-depth.depth in
    c.in_ok-counts.ensures.counts
    ∙ ap (λ (cs : List ℕ). map (count_through kind cs) c.args.tallies.now) (c.deref.ensures.value ∙ c.loop-depth.invariant subs e)
    ∙ ap (λ (ts : List Tally). map (count_through kind (counts_of kind subs n)) ts) e
    ∙ next_counts kind subs n ∙ ap (λ k. counts_of kind subs k) (sym (add-one n))
