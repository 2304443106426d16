-- What a desk of files shows (this project's own). It tells no bytes.
use Rattle.std.specs.Prelude.{List, Bool, true, false, Option, Some, None, slice_get}
use Rattle.gl_desk.specs.declared.handle.Handle.{Handle}
use Rattle.gl_desk.specs.declared.handle.Target.{Target}
use Rattle.gl_desk.specs.declared.handle.Target.TheVariants.{Closed, Opened, Standard}
use Rattle.gl_desk.specs.declared.slot.Slot.{Slot}
use Rattle.gl_desk.specs.Desk.{View}
use Rattle.gl_desk.specs.Places.{place_of}

-- whether a target can be read or written
abbrev pub is_used : Target → Bool
is_used Closed = false
is_used (Opened file) = true
is_used Standard = true

-- what a handle shows
abbrev pub handle_view : Handle → View
handle_view handle = record {
  left = None;
  given = None;
  taken = handle.taken;
  used = is_used handle.target;
  faults = handle.faults;
}

-- what a handle shows, where there is one
abbrev pub handle_or_none : Option Handle → View
handle_or_none None = record { left = None; given = None; taken = 0; used = false; faults = 0 }
handle_or_none (Some handle) = handle_view handle

-- what a slot shows, of the handles in the order of the places
abbrev pub handle_of : List Handle → Slot → View
handle_of handles slot = handle_or_none (slice_get handles (place_of slot))
