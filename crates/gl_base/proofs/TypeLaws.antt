-- Types of devices: which are the same, and each once.
use Rattle.std.proofs.Common.{Bool, false, sym, ◌∙◌, ◌≡◌, List, [], ◌∷◌, true, eqb, refl, ap}
use Rattle.std.specs.Prelude.{not, filter}
use Rattle.std.proofs.lemmas.Bool.{and_parts, and_from, eqb-true, eq-eqb}
use Rattle.gl_text.specs.LogicalLines.{same_text}
use Rattle.gl_base.specs.TypeNames.{TypeName, of_word, of_model, of_letter, of_cell, same_type, each_once}
use Rattle.std.specs.Cmp.{IsEquivalence}
use Rattle.gl_lists.proofs.EachOnce.{once_by, same_if, differ_if}
use Rattle.gl_base.proofs.TextLaws as text

pub exact : (x y : TypeName) → same_type x y ≡ true → x ≡ y
exact (of_word a v) (of_word b w) e = let r = and_parts (eqb a b) (same_text v w) e in ap (λ c. of_word c v) (eqb-true a b r.0) ∙ ap (of_word b) (text.exact v w r.1)
exact (of_word a v) (of_model b w) e = absurd cc
exact (of_word a v) (of_letter b) e = absurd cc
exact (of_word a v) (of_cell c n) e = absurd cc
exact (of_model a v) (of_word b w) e = absurd cc
exact (of_model a v) (of_model b w) e = let r = and_parts (eqb a b) (same_text v w) e in ap (λ c. of_model c v) (eqb-true a b r.0) ∙ ap (of_model b) (text.exact v w r.1)
exact (of_model a v) (of_letter b) e = absurd cc
exact (of_model a v) (of_cell c n) e = absurd cc
exact (of_letter a) (of_word b w) e = absurd cc
exact (of_letter a) (of_model b w) e = absurd cc
exact (of_letter a) (of_letter b) e = ap of_letter (eqb-true a b e)
exact (of_letter a) (of_cell c n) e = absurd cc
exact (of_cell c m) (of_word b w) e = absurd cc
exact (of_cell c m) (of_model b w) e = absurd cc
exact (of_cell c m) (of_letter b) e = absurd cc
exact (of_cell c m) (of_cell d n) e = let r = and_parts (same_text m n) (same_text c d) e in ap (of_cell c) (text.exact m n r.0) ∙ ap (λ b. of_cell b n) (text.exact c d r.1)

pub itself : (x : TypeName) → same_type x x ≡ true
itself (of_word a v) = and_from (eqb a a) (same_text v v) (eq-eqb a a refl) (text.itself v)
itself (of_model a v) = and_from (eqb a a) (same_text v v) (eq-eqb a a refl) (text.itself v)
itself (of_letter a) = eq-eqb a a refl
itself (of_cell c n) = and_from (same_text n n) (same_text c c) (text.itself n) (text.itself c)

pub once_is : (types : List TypeName) → each_once types ≡ once_by same_type types
once_is [] = refl
once_is (t ∷ ts) = ap (λ us. t ∷ filter (λ u. not (same_type t u)) us) (once_is ts)

-- the test is an equivalence
pub same_type_equiv : IsEquivalence same_type
same_type_equiv = record {
  refl = itself;
  symm = λ x y. go x y (same_type x y) refl;
  congr = λ x y z h. ap (λ t. same_type t z) (exact x y h);
} where
  go : (x y : TypeName) (b : Bool) → same_type x y ≡ b → same_type x y ≡ same_type y x
  go x y true on = on ∙ sym (same_if same_type exact itself y x (sym (exact x y on)))
  go x y false off = off ∙ sym (differ_if same_type exact itself y x (λ e. let on : same_type x y ≡ true = same_if same_type exact itself x y (sym e) in absurd cc))
