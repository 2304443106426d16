-- Bytes that are taken one piece after another.
use Rattle.std.proofs.Common.{◌≡◌, ◌++◌, ℕ, List, Option, None, Some, refl, ap, sym, ◌∙◌, arith, length-append, append_assoc}
use Rattle.std.specs.Option.{option_map}
use Rattle.gl_desk.specs.Desk.{View, Takes, Fails}

map_twice : (x y : List ℕ) (o : Option (List ℕ)) → option_map (λ s. x ++ s) (option_map (λ s. y ++ s) o) ≡ option_map (λ s. (x ++ y) ++ s) o
map_twice x y None = refl
map_twice x y (Some s) = ap Some (sym (append_assoc x y s))

-- one more piece
pub takes_more : (a b c : View) (xs ys : List ℕ) → Takes a b xs → Takes b c ys → Takes a c (xs ++ ys)
takes_more a b c xs ys p q = record {
  left = p.left ∙ ap (option_map (λ s. xs ++ s)) q.left ∙ map_twice xs ys c.left;
  given = q.given ∙ p.given;
  taken = omega (arith, p.taken, q.taken, length-append xs ys);
  used = q.used ∙ p.used;
  faults = omega (arith, p.faults, q.faults);
}

-- a failed call takes nothing
pub takes_failed : (a b c : View) (xs : List ℕ) → Takes a b xs → Fails b c → Takes a c xs
takes_failed a b c xs p q = record {
  left = p.left ∙ ap (option_map (λ s. xs ++ s)) (sym q.left);
  given = q.given ∙ p.given;
  taken = q.taken ∙ p.taken;
  used = q.used ∙ p.used;
  faults = omega (arith, p.faults, q.never_falls);
}
