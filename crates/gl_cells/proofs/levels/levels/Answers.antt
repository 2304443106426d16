use Rattle.std.proofs.Common.{◌+◌, ◌≤◌, ◌∙◌, ℕ, add-one, arith, List, length, ap, map, subst, sym}
use Rattle.std.specs.Prelude.{slice_index}
use Rattle.gl_cells.specs.Outlines.{Outline, levels_through, level_by}
use Rattle.gl_cells.proofs.PlacedLaws.{first_low, first_values, levels_low, next_levels}
use Rattle.gl_cells.proofs.levels.levels.Goals as goal

pub loop-calls-init : goal.loop-calls-init
loop-calls-init c =
    let start = c.in_ok-levels.ensures.items_if_clones_equal (λ y h. h) in
    record {
      low = λ place. subst (λ (ns : List ℕ). slice_index ns place ≤ 0) (sym start) (first_low (length c.args.cells.now) place);
      through = λ subs e. start ∙ first_values 0 subs c.args.cells.now e;
    }

pub loop-calls-preserved : goal.loop-calls-preserved
loop-calls-preserved c =
    let n = c.loop-calls.calls in
    let made = c.in_ok-levels-2.ensures.levels ∙ ap (λ (ns : List ℕ). map (level_by ns) c.args.cells.now) c.deref.ensures.value in
    record {
      low = λ place.
          let low = levels_low c.loop-calls.levels.items n c.args.cells.now c.loop-calls.invariant.low place in
          subst (λ (ns : List ℕ). slice_index ns place ≤ n + 1) (sym made) (omega arith);
      through = λ subs e.
          made
          ∙ ap (λ (ns : List ℕ). map (level_by ns) c.args.cells.now) (c.loop-calls.invariant.through subs e)
          ∙ ap (λ (os : List Outline). map (level_by (levels_through subs n)) os) e
          ∙ next_levels subs n ∙ ap (λ k. levels_through subs k) (sym (add-one n));
    }
