-- What the whole run claims, from how its job ended.
use Rattle.std.proofs.Common.{◌≡◌, ◌≢◌, ◌⊎◌, ℕ, List, [], Option, None, true, false, refl, ap, sym, ◌∙◌, subst, inl, inr}
use Rattle.gl_desk.specs.declared.slot.Slot.{Slot}
use Rattle.gl_desk.specs.declared.slot.Slot.TheVariants.{Says}
use Rattle.gl_desk.specs.Desk.{View, IsInput, IsOutput, OthersSame}
use Rattle.gl_desk.specs.Desk.{is_input}
use Rattle.gl_job.specs.declared.kind.Kind.TheVariants as kinds
use Rattle.gl_job.specs.Texts.{End, kind_status, status_of, line_of, ended, Speaks, GivesOrFails}
use Rattle.gl_job.proofs.Points.{refusal_parts}
use Rattle.gl_deck.specs.Refusals as decks
use Rattle.gl_cells.specs.Causes.{cause_of}
use Rattle.gl_flat.specs.Refusals as flats
use Rattle.gl_lib.specs.Kept.{unknown_of}
use Rattle.gl_lib.specs.Texts.{keep_text}
use Rattle.gl_map.specs.Refusals as maps
use Rattle.gl_map.specs.Texts as map_texts
use Rattle.gl_restore.specs.Refusals as names
use Rattle.gl_restore.specs.Texts as name_texts
use Rattle.gl_restore.specs.TooLong.{limit_of}
use Rattle.gl_deck.specs.Texts.{fault_text}
use Rattle.gl_cells.specs.Texts.{cell_text}
use Rattle.gl_run.specs.declared.ending.Ending.{Ending}
use Rattle.gl_run.specs.declared.ending.Ending.TheVariants as endings
use Rattle.gl_run.specs.Endings.{end_of, kind_of, text_of, is_done}
use Rattle.gl_job.specs.declared.kind.Kind.{Kind}
use Rattle.gl_job.specs.Runs.{Run, run_of, IsUntouched}
use Rattle.gl_job.specs.Courses.{Course, Ends}
use Rattle.gl_job.specs.Claims.{IsDone, IsComplete, IsStatus, IsProper}
use Rattle.gl_job.proofs.Laws.{done_of, complete_of, unused_of, closed_of}
use Rattle.gl_job.proofs.Same.{ends_same}
use Rattle.gl_job.proofs.Signs.{long_of, failed_of}
use Rattle.gl_words.specs.Jobs.{Job}
use Rattle.gl_run.specs.Jobs.{course_of}
use Rattle.gl_run.specs.Claims.{IsEnding, IsLongSaid, IsFailedSaid, AreClosed, AreLeft}
use Rattle.gl_run.proofs.Courses.{course_proper}
use Rattle.gl_run.proofs.Wordless.{one_of_words}

-- how the job ended stays where only what is said changes
pub said_ends : {D : Type 0} (shows : D → Slot → View) (holds : D → Slot → List ℕ → Option (List ℕ)) (wants : D → Slot → Option (List ℕ)) (old mid new : D) (c : Course) (end : End)
    → IsProper c → OthersSame shows mid new Says → Ends [] c end (run_of shows holds wants old mid) → Ends [] c end (run_of shows holds wants old new)
said_ends shows holds wants old mid new c end proper others h = ends_same [] c end (run_of shows holds wants old mid) (run_of shows holds wants old new) (record {
  slots = λ slot quiet. record { before = refl; after = sym (others slot quiet); wanted = refl };
  held = λ slot word. refl;
}) proper h

-- a line is said, which is not empty
pub speaks_line : (kind : Kind) (text : List ℕ) (old new : View) → GivesOrFails old new (line_of (ended kind text)) → Speaks (line_of (ended kind text)) old new
speaks_line kinds.Words text old new h = h
speaks_line kinds.Deck text old new h = h
speaks_line kinds.Library text old new h = h
speaks_line kinds.Map text old new h = h
speaks_line kinds.Budget text old new h = h
speaks_line kinds.Limit text old new h = h
speaks_line kinds.Read text old new h = h
speaks_line kinds.Write text old new h = h
speaks_line kinds.Memory text old new h = h

-- the whole run: its job ended so, and then this was said
pub whole_ending : {D : Type 0} (shows : D → Slot → View) (holds : D → Slot → List ℕ → Option (List ℕ)) (wants : D → Slot → Option (List ℕ)) (old mid new : D) (job : Option Job) (end : End) (status : ℕ)
    → status ≡ status_of end → Ends [] (course_of job) end (run_of shows holds wants old mid) → shows mid Says ≡ shows old Says → OthersSame shows mid new Says → Speaks (line_of end) (shows mid Says) (shows new Says)
    → IsEnding status (course_of job) (run_of shows holds wants old new)
whole_ending shows holds wants old mid new job end status is ends quiet others speaks = record {
  end = end;
  status_is = is;
  ends = said_ends shows holds wants old mid new (course_of job) end (course_proper job) others ends;
  speaks = subst (λ (v : View). Speaks (line_of end) v (shows new Says)) quiet speaks;
}

-- ---- messages

-- an ending that is not done is of its kind and has its text
pub end_parts : (ending : Ending) → is_done ending ≡ false → ended (kind_of ending) (text_of ending) ≡ end_of ending
end_parts endings.Done undone = absurd cc
end_parts endings.Words undone = refl
end_parts (endings.Deck fault) undone = refusal_parts kinds.Deck fault_text (decks.fault_of fault)
end_parts (endings.Library fault) undone = refusal_parts kinds.Library cell_text (cause_of fault)
end_parts (endings.Flat fault) undone = refusal_parts kinds.Deck fault_text (flats.fault_of fault)
end_parts (endings.Keep fault) undone = refusal_parts kinds.Deck keep_text (unknown_of fault)
end_parts (endings.Limit limit) undone = refl
end_parts (endings.Map fault) undone = refusal_parts kinds.Map map_texts.fault_text (maps.fault_of fault)
end_parts (endings.Names fault) undone = refusal_parts kinds.Map name_texts.fault_text (names.fault_of fault)
end_parts (endings.Text fault) undone = refusal_parts kinds.Limit name_texts.limit_text (limit_of fault)
end_parts (endings.Stopped stop) undone = refl

pub open_status : (ending : Ending) → is_done ending ≡ false → kind_status (kind_of ending) ≡ status_of (end_of ending)
open_status ending undone = ap status_of (end_parts ending undone)

pub open_speaks : (ending : Ending) (kind : Kind) (text : List ℕ) (old new : View) → is_done ending ≡ false → kind ≡ kind_of ending → text ≡ text_of ending → GivesOrFails old new (line_of (ended kind text)) → Speaks (line_of (end_of ending)) old new
open_speaks ending kind text old new undone kind_is text_is said =
    subst (λ (e : End). Speaks (line_of e) old new) (ap (λ (k : Kind). ended k text) kind_is ∙ ap (ended (kind_of ending)) text_is ∙ end_parts ending undone) (speaks_line kind text old new said)

-- of a run that is done nothing is said
pub done_speaks : (ending : Ending) (view : View) → is_done ending ≡ true → Speaks (line_of (end_of ending)) view view
done_speaks endings.Done view h = refl
done_speaks endings.Words view h = absurd cc
done_speaks (endings.Deck fault) view h = absurd cc
done_speaks (endings.Library fault) view h = absurd cc
done_speaks (endings.Flat fault) view h = absurd cc
done_speaks (endings.Keep fault) view h = absurd cc
done_speaks (endings.Limit limit) view h = absurd cc
done_speaks (endings.Map fault) view h = absurd cc
done_speaks (endings.Names fault) view h = absurd cc
done_speaks (endings.Text fault) view h = absurd cc
done_speaks (endings.Stopped stop) view h = absurd cc

pub done_status : (ending : Ending) → is_done ending ≡ true → 0 ≡ status_of (end_of ending)
done_status endings.Done h = refl
done_status endings.Words h = absurd cc
done_status (endings.Deck fault) h = absurd cc
done_status (endings.Library fault) h = absurd cc
done_status (endings.Flat fault) h = absurd cc
done_status (endings.Keep fault) h = absurd cc
done_status (endings.Limit limit) h = absurd cc
done_status (endings.Map fault) h = absurd cc
done_status (endings.Names fault) h = absurd cc
done_status (endings.Text fault) h = absurd cc
done_status (endings.Stopped stop) h = absurd cc

-- ---- the claims

pub words_claim : (status : ℕ) (job : Option Job) (r : Run) → IsEnding status (course_of job) r → status ≡ 1 → job ≡ None
words_claim status job r e one = one_of_words job e.end r e.ends (sym e.status_is ∙ one)

pub no_words_claim : (status : ℕ) (job : Option Job) (r : Run) → IsEnding status (course_of job) r → job ≡ None → IsStatus status 1
no_words_claim status job r e none = by (subst (λ (j : Option Job). Ends [] (course_of j) e.end r) none e.ends) where
  by : Ends [] (course_of None) e.end r → IsStatus status 1
  by (inl m) = inr (e.status_is ∙ ap status_of m.0)
  by (inr t) = inl (e.status_is ∙ ap status_of t.0)

pub done_claim : (status : ℕ) (c : Course) (r : Run) → IsEnding status c r → status ≡ 0 → IsDone c r
done_claim status c r e zero = done_of [] c e.end r e.ends (sym e.status_is ∙ zero)

pub complete_claim : (status : ℕ) (c : Course) (r : Run) → IsEnding status c r → IsComplete c status r
complete_claim status c r e = subst (λ (n : ℕ). IsComplete c n r) (sym e.status_is) (complete_of [] c e.end r e.ends)

not_says : (slot : Slot) → IsInput slot → slot ≢ Says
not_says slot input = λ e. let both : true ≡ false = sym input ∙ ap is_input e in absurd (cc both)

pub long_claim : (status : ℕ) (c : Course) (r : Run) → IsProper c → ((slot : Slot) → slot ≢ Says → (r.before slot).used ≡ false) → IsEnding status c r → IsLongSaid status r
long_claim status c r proper free e = λ slot input used taken.
    subst (λ (n : ℕ). (n ≡ 6) ⊎ (n ≡ 9)) (sym e.status_is)
    (long_of [] c e.end r slot e.ends proper tt input (not_says slot input) (record { free = free slot (not_says slot input); used = used; taken = taken }))

pub failed_claim : (status : ℕ) (c : Course) (r : Run) → IsEnding status c r → IsFailedSaid status r
failed_claim status c r e = λ slot quiet unused risen.
    subst (λ (n : ℕ). (n ≡ 7) ⊎ (n ≡ 8)) (sym e.status_is) (failed_of [] c e.end r slot e.ends tt quiet (record { unused = unused; risen = risen }))

pub closed_claim : (status : ℕ) (c : Course) (r : Run) → IsProper c → ((slot : Slot) → slot ≢ Says → (r.before slot).used ≡ false) → IsEnding status c r → AreClosed status r
closed_claim status c r proper free e = by (closed_of [] c e.end r e.ends proper tt) where
  by : (status_of e.end ≡ 0) ⊎ ((status_of e.end ≡ 8) ⊎ ((slot : Slot) → IsOutput slot → slot ≢ Says → IsUntouched r slot)) → AreClosed status r
  by (inl zero) = inl (e.status_is ∙ zero)
  by (inr (inl eight)) = inr (inl (e.status_is ∙ eight))
  by (inr (inr same)) = inr (inr (λ slot output quiet. ap (λ (v : View). v.used) (same slot output quiet) ∙ free slot quiet))

pub left_claim : (status : ℕ) (c : Course) (r : Run) → IsEnding status c r → AreLeft c r
left_claim status c r e = λ slot left quiet. unused_of [] c e.end r slot e.ends tt left quiet
