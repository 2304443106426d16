-- Composites from the last to the first: their numbers go down, and they weigh the same.
use Rattle.std.proofs.Common.{◌≡◌, ◌<◌, ◌≤◌, ◌∙◌, ◌+◌, ℕ, List, [], ◌∷◌, ◌++◌, refl, sym, ap, subst, arith}
use Rattle.std.specs.Prelude.{Contains, reverse}
use Rattle.std.specs.List.{AllByRecursion}
use Rattle.std.proofs.lemmas.List.{reverse-append, reverse-reverse}
use Rattle.std.proofs.lemmas.List.Sorted.{IsPermutation-reverse, Contains-permutation}
use Rattle.gl_lifting.specs.Replacement.{Origin, Composite}
use Rattle.gl_base.specs.BaseCircuit.{Source}
use Rattle.gl_lifting.proofs.EachLaws.{all_append}
use Rattle.gl_lifting.proofs.StageLaws.{parts_weight, parts-append, MadeFrom}
use Rattle.gl_lifting.proofs.InnerRowLaws.{inner_sum, sum-append}
use Rattle.gl_lifting.proofs.WayLaws.{Descend}

-- the first is the last
turned : (c : Composite) (cs : List Composite) → reverse (c ∷ cs) ≡ reverse cs ++ c ∷ []
turned c cs = reverse-append (c ∷ []) cs

pub in_reverse : (cs : List Composite) (c : Composite) → Contains cs c → Contains (reverse cs) c
in_reverse cs c at = Contains-permutation cs (reverse cs) c (IsPermutation-reverse cs) at

pub from_reverse : (cs : List Composite) (c : Composite) → Contains (reverse cs) c → Contains cs c
from_reverse cs c at = subst (λ (ds : List Composite). Contains ds c) (reverse-reverse cs) (in_reverse (reverse cs) c at)

pub weight_reverse : (g : Origin → ℕ) (cs : List Composite) → parts_weight g (reverse cs) ≡ parts_weight g cs
weight_reverse g [] = refl
weight_reverse g (c ∷ cs) = let e = ap (parts_weight g) (turned c cs) ∙ parts-append g (reverse cs) (c ∷ []) in omega (arith, e, weight_reverse g cs)

pub sum_reverse : (s : Source) (i : ℕ) (cs : List Composite) → inner_sum s i (reverse cs) ≡ inner_sum s i cs
sum_reverse s i [] = refl
sum_reverse s i (c ∷ cs) = let e = ap (inner_sum s i) (turned c cs) ∙ sum-append s i (reverse cs) (c ∷ []) in omega (arith, e, sum_reverse s i cs)

-- ---- numbers

from_n : (n m : ℕ) (cs : List Composite) → n ≤ m → MadeFrom m cs → AllByRecursion (λ (c : Composite). n ≤ c.number) cs
from_n n m [] le h = tt
from_n n m (c ∷ cs) le h = (omega (arith, le, h.0), from_n n (m + 1) cs (omega (arith, le)) h.1)

each_reverse : (P : Composite → Type 0) (cs : List Composite) → AllByRecursion P cs → AllByRecursion P (reverse cs)
each_reverse P [] h = tt
each_reverse P (c ∷ cs) h = subst (λ (ds : List Composite). AllByRecursion P ds) (sym (turned c cs)) (all_append P (reverse cs) (c ∷ []) (each_reverse P cs h.1) (h.0, tt))

push : (ds : List Composite) (c : Composite) → Descend ds → AllByRecursion (λ (d : Composite). c.number < d.number) ds → Descend (ds ++ c ∷ [])
push [] c h k = (tt, tt)
push (d ∷ ds) c h k = (all_append (λ (x : Composite). x.number < d.number) ds (c ∷ []) h.0 (k.0, tt), push ds c h.1 k.1)

-- numbers that run on go down from the last
pub descend_reverse : (n : ℕ) (cs : List Composite) → MadeFrom n cs → Descend (reverse cs)
descend_reverse n [] h = tt
descend_reverse n (c ∷ cs) h =
    let above = each_reverse (λ (d : Composite). c.number < d.number) cs (each_above (from_n (n + 1) (n + 1) cs (omega arith) h.1)) in
    subst Descend (sym (turned c cs)) (push (reverse cs) c (descend_reverse (n + 1) cs h.1) above)
  where
    each_above : AllByRecursion (λ (d : Composite). n + 1 ≤ d.number) cs → AllByRecursion (λ (d : Composite). c.number < d.number) cs
    each_above g = all_up cs g where
      all_up : (ds : List Composite) → AllByRecursion (λ (d : Composite). n + 1 ≤ d.number) ds → AllByRecursion (λ (d : Composite). c.number < d.number) ds
      all_up [] g = tt
      all_up (d ∷ ds) g = (omega (arith, g.0, h.0), all_up ds g.1)
