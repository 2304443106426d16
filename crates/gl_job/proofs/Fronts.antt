-- Texts that are given one after another, the last perhaps in part.
use Rattle.std.proofs.Common.{◌≡◌, ◌+◌, ◌-◌, ◌≤◌, ◌++◌, ℕ, List, [], ◌∷◌, Option, None, Some, refl, ap, sym, ◌∙◌, arith, take, drop, length, append_assoc, length-append, inl, inr, subst}
use Rattle.std.specs.Option.{option_map}
use Rattle.std.specs.Prelude.{Result, Ok, Err, OnErr, slice_index_or}
use Rattle.std.proofs.Math.Seq.{take-append-add}
use Rattle.std.proofs.lemmas.List.{take-append-le, take_rest}
use Rattle.gl_desk.specs.Desk.{View, Gives, GivesFront, HasRisen}
use Rattle.gl_said.specs.declared.part.Part.{Part}
use Rattle.gl_said.specs.Texts.{part_text, parts_text}

-- a text and then a front of another
pub gives_then_front : (a b c : View) (x y : List ℕ) → Gives a b x → GivesFront b c y → GivesFront a c (x ++ y)
gives_then_front a b c x y p q =
    let n = q.front.0 in
    let step : c.given ≡ option_map (λ s. s ++ (x ++ take n y)) a.given = q.front.1 ∙ (ap (option_map (λ s. s ++ take n y)) p.given ∙ map_twice x (take n y) a.given) in
    record {
      front = (length x + n, step ∙ ap (λ t. option_map (λ s. s ++ t) a.given) (sym (take-append-add x y n)), omega (arith, q.front.2, length-append x y));
      left = q.left ∙ p.left;
      taken = q.taken ∙ p.taken;
      used = q.used ∙ p.used;
      never_falls = omega (arith, p.faults, q.never_falls);
      faults = later q.faults;
    } where
      map_twice : (x y : List ℕ) (o : Option (List ℕ)) → option_map (λ s. s ++ y) (option_map (λ s. s ++ x) o) ≡ option_map (λ s. s ++ (x ++ y)) o
      map_twice x y None = refl
      map_twice x y (Some s) = ap Some (append_assoc s x y)

      later : HasRisen b.faults c.faults → HasRisen a.faults c.faults
      later (inl lt) = inl (omega (arith, lt, p.faults))
      later (inr end) = inr end

-- a front of a text is one of a longer text
pub front_longer : (a b : View) (x y : List ℕ) → GivesFront a b x → GivesFront a b (x ++ y)
front_longer a b x y p = record {
  front = (p.front.0, p.front.1 ∙ ap (λ t. option_map (λ s. s ++ t) a.given) (sym (take-append-le p.front.0 x y (omega (arith, p.front.2)))), omega (arith, p.front.2, length-append x y));
  left = p.left;
  taken = p.taken;
  used = p.used;
  never_falls = p.never_falls;
  faults = p.faults;
}

-- what holds anyway holds of a refusal
pub on_err : {A E : Type 0} {P : Type 0} (r : Result A E) → P → OnErr r P
on_err (Ok x) p = tt
on_err (Err e) p = p

-- what follows from what holds of a refusal
pub err_then : {A E : Type 0} {P Q : Type 0} (r : Result A E) → (P → Q) → OnErr r P → OnErr r Q
err_then (Ok x) f p = tt
err_then (Err e) f p = f p

-- the first part was given, and a front of the others
pub parts_front : {A E : Type 0} (r : Result A E) (a b c : View) (ps : List Part) (d : Part) → 1 ≤ length ps → Gives a b (part_text (slice_index_or ps 0 d))
    → OnErr r (GivesFront b c (parts_text (take (length ps - 1) (drop 1 ps)))) → OnErr r (GivesFront a c (parts_text ps))
parts_front r a b c [] d some given front = absurd (omega (arith, some))
parts_front r a b c (p ∷ ps) d some given front =
    err_then {P = GivesFront b c (parts_text ps)} {Q = GivesFront a c (parts_text (p ∷ ps))} r (λ f. gives_then_front a b c (part_text p) (parts_text ps) given f)
    (subst (λ (q : List Part). OnErr r (GivesFront b c (parts_text q))) (take_rest (p ∷ ps) 1) front)
