-- The first of several refusals.
use Rattle.std.proofs.Common.{◌≡◌, [], ◌∷◌, Option, Some, None, refl, sym, ◌∙◌, subst}
use Rattle.std.specs.Option.{option_or}
use Rattle.gl_fault.specs.Refusals.{first_some}
use Rattle.gl_fault.proofs.AnswerLaws.{or_more, one}
use Rattle.gl_text.specs.LogicalLines.{Fault}
use Rattle.gl_card.specs.declared.fault.CardFault.{CardFault}
use Rattle.gl_card.specs.Reading.{Refuses, fault_of}

or_assoc : (a b c : Option CardFault) → option_or (option_or a b) c ≡ option_or a (option_or b c)
or_assoc None b c = refl
or_assoc (Some x) b c = refl

-- the first of four, looked for in turn
pub or_four : (a b c d : Option CardFault) (x y z w : Option Fault) → Refuses a x → Refuses b y → Refuses c z → Refuses d w
    → Refuses (option_or (option_or (option_or a b) c) d) (first_some (x ∷ y ∷ z ∷ w ∷ []))
or_four a b c d x y z w p q r s =
    let e : option_or a (option_or b (option_or c d)) ≡ option_or (option_or (option_or a b) c) d = sym (or_assoc (option_or a b) c d ∙ or_assoc a b (option_or c d)) in
    let P : Option CardFault → Type 0 = λ o. Refuses o (first_some (x ∷ y ∷ z ∷ w ∷ [])) in
    subst P e (or_more fault_of a (option_or b (option_or c d)) x (y ∷ z ∷ w ∷ []) p (or_more fault_of b (option_or c d) y (z ∷ w ∷ []) q (or_more fault_of c d z (w ∷ []) r (one fault_of w d s))))

-- the first of two
pub or_two : (a b o : Option CardFault) (x y : Option Fault) → o ≡ option_or a b → Refuses a x → Refuses b y → Refuses o (first_some (x ∷ y ∷ []))
or_two a b o x y e p q =
    let P : Option CardFault → Type 0 = λ o. Refuses o (first_some (x ∷ y ∷ [])) in
    subst P (sym e) (or_more fault_of a b x (y ∷ []) p (one fault_of y b q))
