-- What is appended leaves what stood before.
use Rattle.std.proofs.Common.{◌≡◌, ◌∙◌, ◌++◌, ◌≤◌, ℕ, List, length, take, refl, sym, ap, arith, length-append}
use Rattle.std.proofs.lemmas.List.{take-take, take_at}

-- what was appended to what began with the text before still begins with it
pub front_stays : (out middle after more : List ℕ) → middle ≡ out ++ more → take (length middle) after ≡ middle → take (length out) after ≡ out
front_stays out middle after more is stays =
    let short : length out ≤ length middle = omega (arith, ap length is, length-append out more) in
    let cut : take (length out) (take (length middle) after) ≡ take (length out) after = take-take (length out) (length middle) after short in
    sym cut ∙ (ap (take (length out)) (stays ∙ is) ∙ take_at out more (length out) refl)
