use Rattle.gl_match.specs.declared.role.Pick.TheVariants.{Over}
use Rattle.gl_cover.proofs.laws.others_meet_a_chosen_one.Goals as goal

pub returns : goal.returns
returns c = record {
  meets = λ first lists picks h i k is. (h.each i (Over k) is).meets_one;
  lowest = λ first lists picks h i k is. (h.each i (Over k) is).is_lowest;
}
