-- One handle changes, and the others stay.
use Rattle.std.proofs.Common.{◌≡◌, ◌≢◌, ℕ, List, slice_set, ap, ◌∙◌}
use Rattle.gl_desk.specs.declared.slot.Slot.{Slot}
use Rattle.gl_desk.specs.declared.handle.Handle.{Handle}
use Rattle.gl_desk.specs.Places.{place_of}
use Rattle.gl_desk.specs.Handles.{handle_of, handle_or_none}
use Rattle.gl_desk.proofs.Seating.{places_differ, slice_get-set_other}

pub handles_kept : (handles : List Handle) (slot : Slot) (i : ℕ) (handle : Handle) → i ≡ place_of slot → (other : Slot) → other ≢ slot → handle_of (slice_set handles i handle) other ≡ handle_of handles other
handles_kept handles slot i handle at other away =
    ap handle_or_none (slice_get-set_other handles i (place_of other) handle (λ e. places_differ other slot away (e ∙ at)))
