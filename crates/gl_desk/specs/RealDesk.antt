-- What a desk of files shows (this project's own).
use Rattle.std.specs.Prelude.{None}
use Rattle.gl_desk.specs.declared.real_desk.RealDesk.{RealDesk}
use Rattle.gl_desk.specs.declared.slot.Slot.{Slot}
use Rattle.gl_desk.specs.Desk.{View}
use Rattle.gl_desk.specs.Handles.{handle_of}
use Rattle.gl_desk.specs.Places.{is_says}

-- what a slot shows
abbrev pub real_view : {R : Type 0} → RealDesk R → Slot → View
real_view desk slot = handle_of desk.handles slot

-- what a slot of a new desk shows: only what the program says is in use, and no byte is told
abbrev pub untold_view : Slot → View
untold_view slot = record { left = None; given = None; taken = 0; used = is_says slot; faults = 0 }
