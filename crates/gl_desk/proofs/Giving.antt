-- Bytes that are given one piece after another.
use Rattle.std.proofs.Common.{◌≡◌, ◌+◌, ◌-◌, ◌++◌, ℕ, List, Option, None, Some, refl, ap, sym, ◌∙◌, arith, take, drop, length, append_assoc, take-add}
use Rattle.std.specs.Option.{option_map}
use Rattle.std.proofs.lemmas.List.{take_rest}
use Rattle.gl_desk.specs.Desk.{View, Gives}

map_twice : (x y : List ℕ) (o : Option (List ℕ)) → option_map (λ s. s ++ y) (option_map (λ s. s ++ x) o) ≡ option_map (λ s. s ++ (x ++ y)) o
map_twice x y None = refl
map_twice x y (Some s) = ap Some (append_assoc s x y)

-- one more piece
pub gives_more : (a b c : View) (bytes : List ℕ) (i n : ℕ) → Gives a b (take i bytes) → Gives b c (take n (take (length bytes - i) (drop i bytes))) → Gives a c (take (i + n) bytes)
gives_more a b c bytes i n p q =
    let piece : take n (take (length bytes - i) (drop i bytes)) ≡ take n (drop i bytes) = ap (take n) (take_rest bytes i) in
    let whole : take i bytes ++ take n (drop i bytes) ≡ take (i + n) bytes = sym (take-add i n bytes) in
    record {
      left = q.left ∙ p.left;
      given = q.given ∙ ap (option_map (λ s. s ++ take n (take (length bytes - i) (drop i bytes)))) p.given ∙ map_twice (take i bytes) (take n (take (length bytes - i) (drop i bytes))) a.given ∙ ap (λ t. option_map (λ s. s ++ t) a.given) (ap (λ t. take i bytes ++ t) piece ∙ whole);
      taken = q.taken ∙ p.taken;
      used = q.used ∙ p.used;
      faults = omega (arith, p.faults, q.faults);
    }
