-- What an ending of the code means.
use Rattle.std.specs.Prelude.{ℕ, List, [], Bool, true, false}
use Rattle.gl_deck.specs.Refusals as decks
use Rattle.gl_cells.specs.Causes.{cause_of}
use Rattle.gl_flat.specs.Refusals as flats
use Rattle.gl_lib.specs.Kept.{unknown_of}
use Rattle.gl_lib.specs.Texts.{keep_text}
use Rattle.gl_limit.specs.Limits.{limit_value}
use Rattle.gl_limit.specs.Texts.{limit_text}
use Rattle.gl_lift.specs.declared.fault.LiftFault.{LiftFault}
use Rattle.gl_lift.specs.declared.fault.LiftFault.TheVariants as lifts
use Rattle.gl_map.specs.Refusals as maps
use Rattle.gl_map.specs.Texts as map_texts
use Rattle.gl_restore.specs.Refusals as names
use Rattle.gl_restore.specs.Texts as name_texts
use Rattle.gl_restore.specs.TooLong.{limit_of}
use Rattle.gl_job.specs.declared.kind.Kind.{Kind}
use Rattle.gl_job.specs.declared.kind.Kind.TheVariants as kinds
use Rattle.gl_job.specs.Texts.{End, done, ended, no_memory, end_of_stop, stop_kind, stop_text}
use Rattle.gl_job.specs.Points.{refusal_end, refusal_kind}
use Rattle.gl_said.specs.Texts.{text_if_any}
use Rattle.gl_deck.specs.Texts.{fault_text}
use Rattle.gl_cells.specs.Texts.{cell_text}
use Rattle.gl_run.specs.declared.ending.Ending.{Ending}
use Rattle.gl_run.specs.declared.ending.Ending.TheVariants as endings

-- the end of a run: a fault is told as what it means, or is want of memory
abbrev pub end_of : Ending → End
end_of endings.Done = done []
end_of endings.Words = ended kinds.Words []
end_of (endings.Deck fault) = refusal_end kinds.Deck fault_text (decks.fault_of fault)
end_of (endings.Library fault) = refusal_end kinds.Library cell_text (cause_of fault)
end_of (endings.Flat fault) = refusal_end kinds.Deck fault_text (flats.fault_of fault)
end_of (endings.Keep fault) = refusal_end kinds.Deck keep_text (unknown_of fault)
end_of (endings.Limit limit) = ended kinds.Limit (limit_text (limit_value limit))
end_of (endings.Map fault) = refusal_end kinds.Map map_texts.fault_text (maps.fault_of fault)
end_of (endings.Names fault) = refusal_end kinds.Map name_texts.fault_text (names.fault_of fault)
end_of (endings.Text fault) = refusal_end kinds.Limit name_texts.limit_text (limit_of fault)
end_of (endings.Stopped stop) = end_of_stop stop

-- of which kind an ending is, unless all is written
abbrev pub kind_of : Ending → Kind
kind_of endings.Done = kinds.Memory
kind_of endings.Words = kinds.Words
kind_of (endings.Deck fault) = refusal_kind kinds.Deck (decks.fault_of fault)
kind_of (endings.Library fault) = refusal_kind kinds.Library (cause_of fault)
kind_of (endings.Flat fault) = refusal_kind kinds.Deck (flats.fault_of fault)
kind_of (endings.Keep fault) = refusal_kind kinds.Deck (unknown_of fault)
kind_of (endings.Limit limit) = kinds.Limit
kind_of (endings.Map fault) = refusal_kind kinds.Map (maps.fault_of fault)
kind_of (endings.Names fault) = refusal_kind kinds.Map (names.fault_of fault)
kind_of (endings.Text fault) = refusal_kind kinds.Limit (limit_of fault)
kind_of (endings.Stopped stop) = stop_kind stop

-- its text
abbrev pub text_of : Ending → List ℕ
text_of endings.Done = []
text_of endings.Words = []
text_of (endings.Deck fault) = text_if_any fault_text (decks.fault_of fault)
text_of (endings.Library fault) = text_if_any cell_text (cause_of fault)
text_of (endings.Flat fault) = text_if_any fault_text (flats.fault_of fault)
text_of (endings.Keep fault) = text_if_any keep_text (unknown_of fault)
text_of (endings.Limit limit) = limit_text (limit_value limit)
text_of (endings.Map fault) = text_if_any map_texts.fault_text (maps.fault_of fault)
text_of (endings.Names fault) = text_if_any name_texts.fault_text (names.fault_of fault)
text_of (endings.Text fault) = text_if_any name_texts.limit_text (limit_of fault)
text_of (endings.Stopped stop) = stop_text stop

-- whether all is written
abbrev pub is_done : Ending → Bool
is_done endings.Done = true
is_done _ = false

-- the end of a run whose deck and library were read, and of which nothing is written
abbrev pub lift_end : LiftFault → End
lift_end (lifts.Flat fault) = refusal_end kinds.Deck fault_text (flats.fault_of fault)
lift_end (lifts.Keep fault) = refusal_end kinds.Deck keep_text (unknown_of fault)
lift_end (lifts.Limit limit) = ended kinds.Limit (limit_text (limit_value limit))
lift_end lifts.Memory = no_memory
