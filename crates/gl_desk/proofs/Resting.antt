-- What a new seat, and a new desk, show, and the text of a slot.
use Rattle.std.proofs.Common.{◌≡◌, ◌<◌, ℕ, List, [], ◌∷◌, Bool, true, false, Option, Some, None, length, drop, get_or, if◌then◌else◌, refl, ap, sym, ◌∙◌, subst}
use Rattle.std.specs.List.{slice_get}
use Rattle.gl_desk.specs.declared.slot.Slot.{Slot}
use Rattle.gl_desk.specs.declared.slot.Slot.TheVariants.{Deck, Library, Map, Lifted, NewMap, Report, Out, Says}
use Rattle.gl_desk.specs.declared.seat.Seat.{Seat}
use Rattle.gl_desk.specs.Desk.{View, is_input}
use Rattle.gl_desk.specs.Places.{place_of}
use Rattle.gl_desk.specs.Seats.{seat_view, IsNew}
use Rattle.gl_desk.specs.MemoryDesk.{view_in, view_or_none, new_view, text_of}
use Rattle.gl_desk.proofs.Seating.{shows_here}

abbrev pub made_view : Bool → ℕ → List ℕ → Bool → ℕ → View
made_view input mark bytes used faults = record {
  left = if input then Some (drop mark bytes) else None;
  given = if input then None else Some bytes;
  taken = mark;
  used = used;
  faults = faults;
}

new_seat : (input : Bool) (seat : Seat) (in_use : Bool) → IsNew seat in_use → seat_view input seat ≡ made_view input 0 [] in_use 0
new_seat input seat in_use n =
    ap (λ m. made_view input m seat.bytes.items seat.used seat.faults) n.mark
    ∙ ap (λ b. made_view input 0 b seat.used seat.faults) n.bytes
    ∙ ap (λ u. made_view input 0 [] u seat.faults) n.used
    ∙ ap (λ f. made_view input 0 [] in_use f) n.faults

-- eight new seats, the last in use, show what a new desk does
pub new_seats : (a b c d e f g h : Seat) → IsNew a false → IsNew b false → IsNew c false → IsNew d false → IsNew e false → IsNew f false → IsNew g false → IsNew h true → (slot : Slot) → view_in (a ∷ b ∷ c ∷ d ∷ e ∷ f ∷ g ∷ h ∷ []) slot ≡ new_view slot
new_seats a b c d e f g h na nb nc nd ne nf ng nh Deck = new_seat true a false na
new_seats a b c d e f g h na nb nc nd ne nf ng nh Library = new_seat true b false nb
new_seats a b c d e f g h na nb nc nd ne nf ng nh Map = new_seat true c false nc
new_seats a b c d e f g h na nb nc nd ne nf ng nh Lifted = new_seat false d false nd
new_seats a b c d e f g h na nb nc nd ne nf ng nh NewMap = new_seat false e false ne
new_seats a b c d e f g h na nb nc nd ne nf ng nh Report = new_seat false f false nf
new_seats a b c d e f g h na nb nc nd ne nf ng nh Out = new_seat false g false ng
new_seats a b c d e f g h na nb nc nd ne nf ng nh Says = new_seat false h true nh

either_way : (b : Bool) (o : Option (List ℕ)) → (if b then o else o) ≡ o
either_way true o = refl
either_way false o = refl

-- an input has no text
input_text : (input : Bool) (seat : Option Seat) → input ≡ true → None ≡ text_of (view_or_none input seat)
input_text true None same = refl
input_text true (Some seat) same = sym (either_way seat.used None)
input_text false seat same = absurd (cc same)

pub no_text : (seats : List Seat) (slot : Slot) → is_input slot ≡ true → None ≡ text_of (view_in seats slot)
no_text seats slot same = input_text (is_input slot) (slice_get seats (place_of slot)) same

-- the text of an output is its seat's bytes where it is in use
pub text_here : (seats : List Seat) (slot : Slot) (i : ℕ) (d : Seat) → i ≡ place_of slot → i < length seats → is_input slot ≡ false → (if (get_or seats i d).used then Some (get_or seats i d).bytes.items else None) ≡ text_of (view_in seats slot)
text_here seats slot i d at within same =
    subst (λ b. text_of (seat_view b (get_or seats i d)) ≡ text_of (view_in seats slot)) same (ap text_of (shows_here seats slot i d at within))
