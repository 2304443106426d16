-- Flattening, put together from its steps.
use Rattle.gl_fault.specs.Refusals.{first_some, when, or_else, ◌>>=◌, IsFound, IsRefusal}
use Rattle.std.proofs.Common.{◌≡◌, ◌≤◌, ◌<◌, ◌+◌, ℕ, List, [], ◌∷◌, length, flat_map, Bool, true, false, ltb, Option, Some, None, Result, Ok, Err, refl, sym, ap, ◌∙◌, subst, arith}
use Rattle.std.specs.Prelude.{OnOk, IfOk, IfErr}
use Rattle.std.specs.Result.{IsErrAnd}
use Rattle.std.proofs.lemmas.Bool.{ltb-true, ltb-false, lt-ltb}
use Rattle.gl_fault.proofs.AnswerLaws.{given, none_is, through, refused_by}
use Rattle.gl_fault.proofs.FirstLaws.{none_first, only}
use Rattle.gl_text.specs.LogicalLines.{Fault, long_text}
use Rattle.gl_text.specs.Cards.{Head}
use Rattle.gl_text.specs.Decks.{Body, Sub, Deck}
use Rattle.gl_text.specs.Flattening.{DEPTH, TEXT, FlatDevice, Flat, flat_devices, flat_text, flatten, chosen, top_place, excess_in, text_fault, bearers, long_in}
use Rattle.gl_flat.specs.declared.fault.FlatFault.{FlatFault}
use Rattle.gl_flat.specs.Lengths.{after}
use Rattle.gl_flat.specs.Refusals.{GivesOf, Refuses, fault_of}
use Rattle.gl_flat.specs.Steps.{AreShort, flat_unless, flat_or_fault, length_fault, stepwise}

-- ---- the text's length

not_long : (n : ℕ) (b : Bool) → ltb TEXT n ≡ b → when b (long_text (TEXT + 1)) ≡ None → n ≤ TEXT
not_long n true e h = absurd cc
not_long n false e h = ltb-false TEXT n e

pub short_text : (f : Flat) → text_fault f ≡ None → length (flat_text f) ≤ TEXT
short_text f h = not_long (length (flat_text f)) (ltb TEXT (length (flat_text f))) refl h

none_by : (n : ℕ) (b : Bool) → ltb TEXT n ≡ b → n ≤ TEXT → when b (long_text (TEXT + 1)) ≡ None
none_by n true e h = let l = ltb-true TEXT n e in absurd (omega (arith, l, h))
none_by n false e h = refl

pub fits : (f : Flat) (n : ℕ) → n ≡ after 0 (flat_text f) → n ≤ TEXT → text_fault f ≡ None
fits f n e h = none_by (length (flat_text f)) (ltb TEXT (length (flat_text f))) refl (let len = length (flat_text f) in omega (arith, e, h))

pub too_long : (f : Flat) (n : ℕ) → n ≡ after 0 (flat_text f) → TEXT < n → text_fault f ≡ Some (long_text (TEXT + 1))
too_long f n e h = ap (λ b. when b (long_text (TEXT + 1))) (lt-ltb TEXT (length (flat_text f)) (omega (arith, e, h)))

-- ---- refusals

-- what is not refused by its lengths is short
pub short : (f : Flat) → Refuses None (length_fault f) → AreShort f
short f p =
    let none = none_first (text_fault f) (long_in (flat_map bearers f.devices) ∷ []) (none_is fault_of (length_fault f) p) in
    record { text = none.0; names = sym (only (long_in (flat_map bearers f.devices))) ∙ none.1 }

unless_by : (f : Flat) (a b c : Option Fault) → (or_else (first_some (a ∷ b ∷ [])) f >>= λ g. or_else c g) ≡ flat_unless f a b c
unless_by f None None c = refl
unless_by f None (Some x) c = refl
unless_by f (Some x) b c = refl

-- a refusal by length is one of the whole
pub length_refuses : (x : FlatFault) (f : Flat) (c : Option Fault) → Refuses (Some x) (length_fault f) → IsRefusal (fault_of x) (flat_unless f (text_fault f) (long_in (flat_map bearers f.devices)) c)
length_refuses x f c p =
    subst (λ (w : Result Flat Fault). IsRefusal (fault_of x) w) (unless_by f (text_fault f) (long_in (flat_map bearers f.devices)) c)
    (through (fault_of x) (or_else (length_fault f) f) (λ g. or_else c g) (given fault_of x (length_fault f) f p))

pub third_refuses : (o : Option Fault) (f : Flat) (a b c : Option Fault) → a ≡ None → b ≡ None → IsFound o c → IsRefusal o (flat_unless f a b c)
third_refuses o f a b c e g h = subst (λ v. IsRefusal o (flat_unless f v b c)) (sym e) (subst (λ v. IsRefusal o (flat_unless f None v c)) (sym g) (refused_by o c f h))

pub none_refuses : (f : Flat) (a b c : Option Fault) → a ≡ None → b ≡ None → c ≡ None → flat_unless f a b c ≡ Ok f
none_refuses f a b c e g h = ap (λ v. flat_unless f v b c) e ∙ ap (λ v. flat_unless f None v c) g ∙ ap (λ v. flat_unless f None None v) h

-- a flat deck that only a clash can refuse
pub clash_decides : {V : Type 0} (M : V → Flat → Type 0) (r : Result V FlatFault) (f : Flat) (a b c : Option Fault) → a ≡ None → b ≡ None → OnOk r (c ≡ None) → IfOk r (λ v. M v f) → IfErr r (λ e. IsFound (fault_of e) c) → GivesOf M r (flat_unless f a b c)
clash_decides M (Ok v) f a b c e g h w k = (f, none_refuses f a b c e g h, w)
clash_decides M (Err x) f a b c e g h w k = third_refuses (fault_of x) f a b c e g k

-- the same answer is given for an equal wish
pub gives_same : {V : Type 0} (M : V → Flat → Type 0) (r : Result V FlatFault) (v w : Result Flat Fault) → v ≡ w → GivesOf M r v → GivesOf M r w
gives_same M r v w e h = subst (λ x. GivesOf M r x) e h

-- ---- all steps

abbrev picked : Option Head → List Body → Option Head × List Body
picked head cards = (head, cards)

pub steps_are : (deck : Deck) (rails : List (List ℕ)) (top : Option (List ℕ)) → stepwise deck rails top ≡ flatten deck rails top
steps_are deck rails top = refl

-- nothing is chosen
pub choice_refuses : (o : Option Fault) (deck : Deck) (rails : List (List ℕ)) (top : Option (List ℕ)) → IsRefusal o (chosen deck top) → IsRefusal o (flatten deck rails top)
choice_refuses o deck rails top h = through o (chosen deck top) (λ c. or_else (excess_in deck.subs c.1) c >>= λ c. flat_or_fault deck rails c.0 (flat_devices rails deck.subs DEPTH top_place c.1)) h

-- what was chosen exceeds
chosen_is : (deck : Deck) (rails : List (List ℕ)) (top : Option (List ℕ)) (head : Option Head) (cards : List Body) → chosen deck top ≡ Ok (head, cards)
    → (or_else (excess_in deck.subs cards) (picked head cards) >>= λ c. flat_or_fault deck rails c.0 (flat_devices rails deck.subs DEPTH top_place c.1)) ≡ flatten deck rails top
chosen_is deck rails top head cards e = sym (ap (λ v. v >>= λ c. or_else (excess_in deck.subs c.1) c >>= λ c. flat_or_fault deck rails c.0 (flat_devices rails deck.subs DEPTH top_place c.1)) e)

pub excess_refuses : (o : Option Fault) (deck : Deck) (rails : List (List ℕ)) (top : Option (List ℕ)) (head : Option Head) (cards : List Body) → chosen deck top ≡ Ok (head, cards) → IsFound o (excess_in deck.subs cards) → IsRefusal o (flatten deck rails top)
excess_refuses o deck rails top head cards e h = subst (λ v. IsRefusal o v) (chosen_is deck rails top head cards e)
    (through o (or_else (excess_in deck.subs cards) (picked head cards)) (λ c. flat_or_fault deck rails c.0 (flat_devices rails deck.subs DEPTH top_place c.1)) (refused_by o (excess_in deck.subs cards) (picked head cards) h))

-- or what is made of it
pub judged_is : (deck : Deck) (rails : List (List ℕ)) (top : Option (List ℕ)) (head : Option Head) (cards : List Body) (devices : List FlatDevice) → chosen deck top ≡ Ok (head, cards) → excess_in deck.subs cards ≡ None
    → devices ≡ flat_devices rails deck.subs DEPTH top_place cards → flat_or_fault deck rails head devices ≡ flatten deck rails top
judged_is deck rails top head cards devices e f g =
    ap (flat_or_fault deck rails head) g ∙ sym (ap (λ v. or_else v (picked head cards) >>= λ c. flat_or_fault deck rails c.0 (flat_devices rails deck.subs DEPTH top_place c.1)) f) ∙ chosen_is deck rails top head cards e

-- the devices of the same cards, by the same subcircuits and rails
pub same_devices : (n : ℕ) (k rails : List (List ℕ)) (s t : List Sub) (cards : List Body) → k ≡ rails → s ≡ t → flat_devices k s n top_place cards ≡ flat_devices rails t n top_place cards
same_devices n k rails s t cards e f = ap (λ x. flat_devices x s n top_place cards) e ∙ ap (λ x. flat_devices rails x n top_place cards) f

-- an answer that passes a refusal on, whatever the rails
pub refused_on : {V : Type 0} (r : Result V FlatFault) (f : FlatFault) (deck : Deck) (top : Option (List ℕ)) → IsErrAnd r (λ e. e ≡ f) → ((rails : List (List ℕ)) → IsRefusal (fault_of f) (flatten deck rails top))
    → IfErr r (λ e. (rails : List (List ℕ)) → IsRefusal (fault_of e) (flatten deck rails top))
refused_on (Ok v) f deck top e h = tt
refused_on (Err g) f deck top e h = λ rails. subst (λ x. IsRefusal (fault_of x) (flatten deck rails top)) (sym e) (h rails)
