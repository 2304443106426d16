-- What opening a seat means for the slot.
use Rattle.std.proofs.Common.{◌≡◌, inl, inr, ℕ, List, [], Bool, true, false, Option, Some, None, drop, is_some, IfSome, IsSomeAnd, cond, Result, Ok, Err, OnOk, IsErr, rules, refl, ap, sym, ◌∙◌, subst, arith}
use denote.Ref.{Bor}
use Rattle.std.proofs.lemmas.Option.{same_Some}
use Rattle.std.specs.Option.{option_copied}
use Rattle.gl_desk.specs.declared.slot.Slot.{Slot}
use Rattle.gl_desk.specs.declared.seat.Seat.{Seat}
use Rattle.gl_desk.specs.Desk.{is_input, Opens, NotOpened, Fails}
use Rattle.gl_desk.specs.Seats.{seat_view, seat_wants, WantsOther, Starts, NotStarted}

-- a seat that was started with what the slot begins with is opened
pub opened : (slot : Slot) (input : Bool) → is_input slot ≡ input → (holds : Option (List ℕ)) (old new : Seat) (bytes : List ℕ) → Some bytes ≡ cond input holds (Some []) → Starts old new bytes → Opens slot holds (seat_view input old) (seat_view input new)
opened slot true same holds old new bytes e s =
    let whole : Some (drop new.mark new.bytes.items) ≡ Some bytes = ap (λ m. Some (drop m new.bytes.items)) s.mark ∙ ap Some s.bytes in
    record {
      used = s.used;
      taken = s.mark;
      left = λ _. subst (λ o. IfSome o (λ bs. Some (drop new.mark new.bytes.items) ≡ Some bs)) e whole;
      given = λ _. tt;
      told = record { left = refl; given = refl };
      faults = omega (arith, s.faults);
    }
opened slot false same holds old new bytes e s =
    record {
      used = s.used;
      taken = s.mark;
      left = λ input. absurd (cc (input, same));
      given = λ _. s.bytes ∙ same_Some bytes [] e;
      told = record { left = refl; given = refl };
      faults = omega (arith, s.faults);
    }

idle_given : (input : Bool) (old : Seat) (given : Option (List ℕ)) → old.used ≡ false → given ≡ (seat_view input old).given → IfSome given (λ bytes. bytes ≡ [])
idle_given true old given idle same = subst (λ o. IfSome o (λ bytes. bytes ≡ [])) (sym same) tt
idle_given false old given idle same = subst (λ o. IfSome o (λ bytes. bytes ≡ [])) (sym same) (old.idle idle)

-- a seat that was not started is not opened
pub not_opened : (slot : Slot) (input : Bool) (name : List ℕ) (wanted : Option (List ℕ)) (old new : Seat) → seat_wants old ≡ wanted → old.used ≡ false → NotStarted name old new → NotOpened slot name wanted (seat_view input old) (seat_view input new)
not_opened slot input name wanted old new wants idle (inl (other, same)) =
    let v : seat_view input new ≡ seat_view input old = same.shows input in
    record {
      used = ap (λ w. w.used) v ∙ idle;
      given = λ _. idle_given input old (seat_view input new).given idle (ap (λ w. w.given) v);
      told = record { left = ap (λ w. is_some w.left) v; given = ap (λ w. is_some w.given) v };
      never_falls = omega (arith, ap (λ w. w.faults) v);
      cause = inr (subst (λ w. WantsOther w name) wants other);
    }
not_opened slot input name wanted old new wants idle (inr fault) =
    let v : Fails (seat_view input old) (seat_view input new) = fault.shows input in
    record {
      used = v.used ∙ idle;
      given = λ _. idle_given input old (seat_view input new).given idle v.given;
      told = record { left = ap is_some v.left; given = ap is_some v.given };
      never_falls = v.never_falls;
      cause = inl v.faults;
    }

-- the bytes of a content that is there
pub content_there : (old new : Seat) (content : Option (Bor (List ℕ))) → IsSomeAnd content (λ bytes. Starts old new bytes.now) → (bytes : List ℕ) × (Some bytes ≡ option_copied content) × Starts old new bytes
content_there old new None s = absurd s
content_there old new (Some bytes) s = (bytes.now, refl, s)

-- with no content nothing is opened
pub no_content : {E : Type 0} (P : Bor (List ℕ) → Type 0) (r : Result (Unit {0}) E) (content : Option (Bor (List ℕ))) → option_copied content ≡ None → OnOk r (IsSomeAnd content P) → IsErr r
no_content P r (Some bytes) none s = absurd (cc none)
no_content P (Ok u) None none s = absurd s
no_content P (Err e) None none s = search rules
