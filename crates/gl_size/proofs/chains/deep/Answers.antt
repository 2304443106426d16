use Rattle.std.proofs.Common.{◌∙◌, add-one, List, Bool, map, ap, sym}
use Rattle.gl_size.specs.Chains.{chains_of}
use Rattle.gl_size.specs.Tallies.{Tally}
use Rattle.gl_size.proofs.ChainLaws.{first_chains, next_chains, calls_by}
use Rattle.gl_size.proofs.chains.deep.Goals as goal

pub loop-depth-init : goal.loop-depth-init
loop-depth-init c = λ subs distinct e. c.in_ok-marks.ensures.items_if_clones_equal (λ y h. h) ∙ first_chains subs c.args.tallies.now e

pub loop-depth-preserved : goal.loop-depth-preserved
loop-depth-preserved c = λ subs distinct e.
    let n = c.loop-depth.depth in
    c.in_ok-marks-2.ensures.marks
    ∙ ap (λ (bs : List Bool). map (calls_by bs) c.args.tallies.now) (c.deref.ensures.value ∙ c.loop-depth.invariant subs distinct e)
    ∙ ap (λ (ts : List Tally). map (calls_by (chains_of subs n)) ts) e
    ∙ next_chains subs n distinct ∙ ap (λ k. chains_of subs k) (sym (add-one n))
