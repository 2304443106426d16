-- How a run ends, and the line that is said of it, after docs/FORMATS.md.
use Rattle.std.specs.Prelude.{◌≡◌, ◌⊎◌, ℕ, List, [], ◌∷◌, ◌++◌, codes}
use Rattle.gl_desk.specs.declared.slot.Slot.{Slot}
use Rattle.gl_desk.specs.declared.slot.Slot.TheVariants.{Deck, Library, Map, Lifted, NewMap, Report, Out, Says}
use Rattle.gl_desk.specs.Desk.{View, Gives, GivesFront}
use Rattle.gl_job.specs.declared.kind.Kind.{Kind}
use Rattle.gl_job.specs.declared.kind.Kind.TheVariants as kinds
use Rattle.gl_job.specs.declared.stop.Stop.{Stop}
use Rattle.gl_job.specs.declared.stop.Stop.TheVariants as stops

-- how a run ends: its job is done, and this is said; or it ended for a reason of a kind, with a text
pub data End : Type 0 where
  done : List ℕ → End
  ended : Kind → List ℕ → End

-- the status of a kind
abbrev pub kind_status : Kind → ℕ
kind_status kinds.Words = 1
kind_status kinds.Deck = 2
kind_status kinds.Library = 3
kind_status kinds.Map = 4
kind_status kinds.Budget = 5
kind_status kinds.Limit = 6
kind_status kinds.Read = 7
kind_status kinds.Write = 8
kind_status kinds.Memory = 9

-- what a line of a kind begins with
abbrev pub front_of : Kind → List ℕ
front_of kinds.Words = codes "gatelift: 1 words"
front_of kinds.Deck = codes "gatelift: 2 deck: "
front_of kinds.Library = codes "gatelift: 3 library: "
front_of kinds.Map = codes "gatelift: 4 map: "
front_of kinds.Budget = codes "gatelift: 5 budget: "
front_of kinds.Limit = codes "gatelift: 6 limit: "
front_of kinds.Read = codes "gatelift: 7 read: "
front_of kinds.Write = codes "gatelift: 8 write: "
front_of kinds.Memory = codes "gatelift: 9 memory"

-- the name of a slot
abbrev pub slot_name : Slot → List ℕ
slot_name Deck = codes "Deck"
slot_name Library = codes "Library"
slot_name Map = codes "Map"
slot_name Lifted = codes "Lifted"
slot_name NewMap = codes "NewMap"
slot_name Report = codes "Report"
slot_name Out = codes "Out"
slot_name Says = codes "Says"

-- the end of a run that found no memory
abbrev pub no_memory : End
no_memory = ended kinds.Memory []

-- of which kind it is that a slot, or want of memory, stops a run
abbrev pub stop_kind : Stop → Kind
stop_kind (stops.Read slot) = kinds.Read
stop_kind (stops.LongFile slot) = kinds.Limit
stop_kind (stops.Write slot) = kinds.Write
stop_kind stops.Memory = kinds.Memory

-- the text of it
abbrev pub stop_text : Stop → List ℕ
stop_text (stops.Read slot) = slot_name slot
stop_text (stops.LongFile slot) = codes "LongFile slot=" ++ (slot_name slot ++ codes " number=67108865")
stop_text (stops.Write slot) = slot_name slot
stop_text stops.Memory = []

-- the end of a run that is so stopped
abbrev pub end_of_stop : Stop → End
end_of_stop stop = ended (stop_kind stop) (stop_text stop)

-- the status of an end
abbrev pub status_of : End → ℕ
status_of (done line) = 0
status_of (ended kind text) = kind_status kind

-- the line that is said of an end, with its newline
abbrev pub line_of : End → List ℕ
line_of (done line) = line
line_of (ended kind text) = front_of kind ++ (text ++ codes "\n")

-- ---- what is said

-- the whole text was given, or a front of it and then a call failed
abbrev pub GivesOrFails : View → View → List ℕ → Type 0
GivesOrFails old new text = Gives old new text ⊎ GivesFront old new text

-- this was said, or a front of it; where it is nothing, nothing
abbrev pub Speaks : List ℕ → View → View → Type 0
Speaks [] old new = new ≡ old
Speaks (byte ∷ bytes) old new = GivesOrFails old new (byte ∷ bytes)
