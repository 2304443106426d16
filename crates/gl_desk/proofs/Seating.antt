-- One seat changes, and the others stay.
use Rattle.std.proofs.Common.{◌≡◌, ◌≢◌, ◌<◌, ℕ, Bool, zero, suc, List, [], ◌∷◌, Some, length, slice_set, refl, ap, sym, ◌∙◌, subst, get_or}
use Rattle.std.specs.List.{slice_get}
use Rattle.std.proofs.lemmas.Option.{slice_get-get_or}
use Rattle.gl_desk.specs.declared.slot.Slot.{Slot}
use Rattle.gl_desk.specs.declared.slot.Slot.TheVariants.{Deck, Library, Map, Lifted, NewMap, Report, Out, Says}
use Rattle.gl_desk.specs.declared.seat.Seat.{Seat}
use Rattle.gl_desk.specs.Desk.{View, is_input}
use Rattle.gl_desk.specs.Places.{place_of}
use Rattle.gl_desk.specs.Seats.{seat_view, seat_wants}
use Rattle.gl_desk.specs.MemoryDesk.{view_in, wanted_in, view_or_none, wants_or_none}

-- the slot at a place
abbrev pub slot_at : ℕ → Slot
slot_at zero = Deck
slot_at (suc zero) = Library
slot_at (suc (suc zero)) = Map
slot_at (suc (suc (suc zero))) = Lifted
slot_at (suc (suc (suc (suc zero)))) = NewMap
slot_at (suc (suc (suc (suc (suc zero))))) = Report
slot_at (suc (suc (suc (suc (suc (suc zero)))))) = Out
slot_at (suc (suc (suc (suc (suc (suc (suc n))))))) = Says

pub slot_at-place_of : (slot : Slot) → slot_at (place_of slot) ≡ slot
slot_at-place_of Deck = refl
slot_at-place_of Library = refl
slot_at-place_of Map = refl
slot_at-place_of Lifted = refl
slot_at-place_of NewMap = refl
slot_at-place_of Report = refl
slot_at-place_of Out = refl
slot_at-place_of Says = refl

pub places_differ : (other slot : Slot) → other ≢ slot → place_of other ≢ place_of slot
places_differ other slot away same = away (sym (slot_at-place_of other) ∙ ap slot_at same ∙ slot_at-place_of slot)

pub slice_get-set_other : {X : Type 0} (xs : List X) (i j : ℕ) (x : X) → j ≢ i → slice_get (slice_set xs i x) j ≡ slice_get xs j
slice_get-set_other [] i j x away = refl
slice_get-set_other (y ∷ xs) zero zero x away = absurd (away refl)
slice_get-set_other (y ∷ xs) zero (suc j) x away = refl
slice_get-set_other (y ∷ xs) (suc i) zero x away = refl
slice_get-set_other (y ∷ xs) (suc i) (suc j) x away = slice_get-set_other xs i j x (λ e. away (ap suc e))

slice_get-set_same : {X : Type 0} (xs : List X) (i : ℕ) (x y : X) → slice_get xs i ≡ Some y → slice_get (slice_set xs i x) i ≡ Some x
slice_get-set_same [] i x y e = absurd (cc e)
slice_get-set_same (z ∷ xs) zero x y e = refl
slice_get-set_same (z ∷ xs) (suc i) x y e = slice_get-set_same xs i x y e

-- the other slots show what they did
pub others_kept : (seats : List Seat) (slot : Slot) (i : ℕ) (seat : Seat) → i ≡ place_of slot → (other : Slot) → other ≢ slot → view_in (slice_set seats i seat) other ≡ view_in seats other
others_kept seats slot i seat at other away =
    ap (view_or_none (is_input other)) (slice_get-set_other seats i (place_of other) seat (λ e. places_differ other slot away (e ∙ at)))

wants_at : (seats : List Seat) (i j : ℕ) (new d : Seat) → seat_wants new ≡ seat_wants (get_or seats i d) → wants_or_none (slice_get (slice_set seats i new) j) ≡ wants_or_none (slice_get seats j)
wants_at [] i j new d wants = refl
wants_at (s ∷ seats) zero zero new d wants = wants
wants_at (s ∷ seats) zero (suc j) new d wants = refl
wants_at (s ∷ seats) (suc i) zero new d wants = refl
wants_at (s ∷ seats) (suc i) (suc j) new d wants = wants_at seats i j new d wants

-- where a seat wants what it did, so do all slots
pub wants_kept : (seats : List Seat) (i : ℕ) (new d : Seat) → seat_wants new ≡ seat_wants (get_or seats i d) → (slot : Slot) → wanted_in (slice_set seats i new) slot ≡ wanted_in seats slot
wants_kept seats i new d wants slot = wants_at seats i (place_of slot) new d wants

-- what a slot's seat shows, the slot shows
pub shows_here : (seats : List Seat) (slot : Slot) (i : ℕ) (d : Seat) → i ≡ place_of slot → i < length seats → seat_view (is_input slot) (get_or seats i d) ≡ view_in seats slot
shows_here seats slot i d at within = ap (view_or_none (is_input slot)) (sym (slice_get-get_or seats i d within) ∙ ap (slice_get seats) at)

-- what a slot's seat does, the slot does
pub seat_does : (R : View → View → Type 0) (seats : List Seat) (slot : Slot) (i : ℕ) (new d : Seat) → i ≡ place_of slot → i < length seats → R (seat_view (is_input slot) (get_or seats i d)) (seat_view (is_input slot) new) → R (view_in seats slot) (view_in (slice_set seats i new) slot)
seat_does R seats slot i new d at within r =
    let there = slice_get-get_or seats i d within in
    let before = shows_here seats slot i d at within in
    let after : seat_view (is_input slot) new ≡ view_in (slice_set seats i new) slot = ap (view_or_none (is_input slot)) (sym (slice_get-set_same seats i new (get_or seats i d) there) ∙ ap (slice_get (slice_set seats i new)) at) in
    subst (λ v. R v (view_in (slice_set seats i new) slot)) before (subst (λ v. R (seat_view (is_input slot) (get_or seats i d)) v) after r)

-- what a slot wants, its seat wants
pub wants_here : (seats : List Seat) (slot : Slot) (i : ℕ) (d : Seat) → i ≡ place_of slot → i < length seats → seat_wants (get_or seats i d) ≡ wanted_in seats slot
wants_here seats slot i d at within = ap wants_or_none (sym (slice_get-get_or seats i d within) ∙ ap (slice_get seats) at)

views_at : (input : Bool) (seats : List Seat) (i j : ℕ) (new d : Seat) → seat_view input new ≡ seat_view input (get_or seats i d) → view_or_none input (slice_get (slice_set seats i new) j) ≡ view_or_none input (slice_get seats j)
views_at input [] i j new d same = refl
views_at input (s ∷ seats) zero zero new d same = same
views_at input (s ∷ seats) zero (suc j) new d same = refl
views_at input (s ∷ seats) (suc i) zero new d same = refl
views_at input (s ∷ seats) (suc i) (suc j) new d same = views_at input seats i j new d same

-- where a seat shows what it did, so do all slots
pub views_kept : (seats : List Seat) (i : ℕ) (new d : Seat) → ((input : Bool) → seat_view input new ≡ seat_view input (get_or seats i d)) → (slot : Slot) → view_in (slice_set seats i new) slot ≡ view_in seats slot
views_kept seats i new d same slot = views_at (is_input slot) seats i (place_of slot) new d (same (is_input slot))

-- what a seat wants, its slot wants, and the other slots want what they did
pub wants_new : (seats : List Seat) (slot : Slot) (i : ℕ) (new d : Seat) → i ≡ place_of slot → i < length seats → wanted_in (slice_set seats i new) slot ≡ seat_wants new
wants_new seats slot i new d at within = ap wants_or_none (ap (slice_get (slice_set seats i new)) (sym at) ∙ slice_get-set_same seats i new (get_or seats i d) (slice_get-get_or seats i d within))

pub wants_others : (seats : List Seat) (slot : Slot) (i : ℕ) (new : Seat) → i ≡ place_of slot → (other : Slot) → other ≢ slot → wanted_in (slice_set seats i new) other ≡ wanted_in seats other
wants_others seats slot i new at other away = ap wants_or_none (slice_get-set_other seats i (place_of other) new (λ e. places_differ other slot away (e ∙ at)))
