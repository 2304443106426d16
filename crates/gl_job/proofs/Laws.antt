-- What follows of how a job ends, for every job: by the parts of what it does.
use Rattle.std.proofs.Common.{◌≡◌, ◌≢◌, ◌⊎◌, ◌≤◌, ◌+◌, ◌++◌, ℕ, List, [], ◌∷◌, Option, Some, map, length, ap, subst, inl, inr, arith}
use Rattle.std.specs.Prelude.{IfSome}
use Rattle.std.specs.List.{AllByRecursion}
use Rattle.gl_desk.specs.declared.slot.Slot.{Slot}
use Rattle.gl_desk.specs.declared.slot.Slot.TheVariants.{Says}
use Rattle.gl_desk.specs.Desk.{LONGEST, IsInput, IsOutput}
use Rattle.gl_job.specs.declared.kind.Kind.{Kind}
use Rattle.gl_job.specs.declared.kind.Kind.TheVariants as kinds
use Rattle.gl_job.specs.declared.stop.Stop.{Stop}
use Rattle.gl_job.specs.declared.stop.Stop.TheVariants as stops
use Rattle.gl_job.specs.Texts.{End, ended, no_memory, kind_status, status_of, end_of_stop}
use Rattle.gl_job.specs.Runs.{Run, Opening, HasCause, Unread, IsApart, IsUntouched, AreRest}
use Rattle.gl_job.specs.Courses.{Course, refuse, read, may_stop, write, Writes, Ends}
use Rattle.gl_job.proofs.Same.{no_output}
use Rattle.gl_job.specs.Claims.{AreWritten, IsDone, IsStatus, IsComplete, IsLeft, IsProper}

-- ---- statuses

kind_above : (kind : Kind) → 1 ≤ kind_status kind
kind_above kinds.Words = omega arith
kind_above kinds.Deck = omega arith
kind_above kinds.Library = omega arith
kind_above kinds.Map = omega arith
kind_above kinds.Budget = omega arith
kind_above kinds.Limit = omega arith
kind_above kinds.Read = omega arith
kind_above kinds.Write = omega arith
kind_above kinds.Memory = omega arith

stop_above : (stop : Stop) → 1 ≤ status_of (end_of_stop stop)
stop_above (stops.Read slot) = omega arith
stop_above (stops.LongFile slot) = omega arith
stop_above (stops.Write slot) = omega arith
stop_above stops.Memory = omega arith

-- an end of a status above 0 is not one of status 0
not_done : (end other : End) → end ≡ other → 1 ≤ status_of other → status_of end ≡ 0 → ⊥
not_done end other is above zero = let same : status_of end ≡ status_of other = ap status_of is in omega (arith, same, above, zero)

-- ---- done

written_of : (os : List Opening) (texts : List (List ℕ)) (line : List ℕ) (end : End) (r : Run) → Writes os texts line end r → status_of end ≡ 0 → AreWritten os texts r
written_of [] [] line end r h zero = tt
written_of [] (text ∷ texts) line end r h zero = absurd h
written_of (o ∷ os) [] line end r h zero = absurd h
written_of (o ∷ os) (text ∷ texts) line end r (inl cut) zero = absurd (not_done end (end_of_stop (stops.Write o.slot)) cut.0 (stop_above (stops.Write o.slot)) zero)
written_of (o ∷ os) (text ∷ texts) line end r (inr more) zero = (more.0, written_of os texts line end r more.1 zero)

pub done_of : (opened : List Slot) (c : Course) (end : End) (r : Run) → Ends opened c end r → status_of end ≡ 0 → IsDone c r
done_of opened (refuse kind text) end r (inl m) zero = absurd (not_done end no_memory m.0 (kind_above kinds.Memory) zero)
done_of opened (refuse kind text) end r (inr t) zero = absurd (not_done end (ended kind text) t.0 (kind_above kind) zero)
done_of opened (read o next) end r (inl m) zero = absurd (not_done end no_memory m.0 (kind_above kinds.Memory) zero)
done_of opened (read o next) end r (inr (inl s)) zero = absurd (not_done end (end_of_stop s.0) s.1 (stop_above s.0) zero)
done_of opened (read o next) end r (inr (inr w)) zero = (w.0, w.1, done_of (o.slot ∷ opened) (next w.0) end r w.2 zero)
done_of opened (may_stop Stops next) end r (inl s) zero = absurd (not_done end (ended s.0 s.1) s.3 (kind_above s.0) zero)
done_of opened (may_stop Stops next) end r (inr h) zero = done_of opened next end r h zero
done_of opened (write outs Are) end r (inl m) zero = absurd (not_done end no_memory m.0 (kind_above kinds.Memory) zero)
done_of opened (write outs Are) end r (inr w) zero = (w.0, w.1, w.2, written_of outs w.0 w.1 end r w.3 zero)

-- ---- completeness

held_by : {X : Type 0} (o : Option X) (x : X) (P : X → Type 0) → IfSome o P → o ≡ Some x → P x
held_by {X} o x P h e = subst (λ (p : Option X). IfSome p P) e h

-- want of memory may come in place of any answer
memory_complete : (c : Course) (status : ℕ) (r : Run) → status ≡ 9 → IsComplete c status r
memory_complete (refuse kind text) status r nine = inr nine
memory_complete (read o next) status r nine = λ bytes sound. (λ long. inr nine, λ few. memory_complete (next bytes) status r nine)
memory_complete (may_stop Stops next) status r nine = inr (memory_complete next status r nine)
memory_complete (write outs Are) status r nine = λ none. inr nine

unread_complete : (stop : Stop) (o : Opening) (next : List ℕ → Course) (status : ℕ) (r : Run) → status ≡ status_of (end_of_stop stop) → Unread stop r o → IsComplete (read o next) status r
unread_complete (stops.Read slot) o next status r is u = λ bytes sound. absurd (sound.works u.1)
unread_complete (stops.LongFile slot) o next status r is u = λ bytes sound.
    let many = held_by (r.held o.slot o.word) bytes (λ bs. LONGEST + 1 ≤ length bs) u.1.many sound.told in
    (λ long. inl is, λ few. absurd (omega (arith, many, few)))
unread_complete (stops.Write slot) o next status r is u = absurd u
unread_complete stops.Memory o next status r is u = memory_complete (read o next) status r is

writes_complete : (os : List Opening) (texts : List (List ℕ)) (line : List ℕ) (end : End) (r : Run) → Writes os texts line end r → AllByRecursion (λ o. ¬ HasCause r o) os → IsStatus (status_of end) 0
writes_complete [] [] line end r h none = inl (ap status_of h)
writes_complete [] (text ∷ texts) line end r h none = absurd h
writes_complete (o ∷ os) [] line end r h none = absurd h
writes_complete (o ∷ os) (text ∷ texts) line end r (inl cut) none = absurd (none.0 cut.1.cause)
writes_complete (o ∷ os) (text ∷ texts) line end r (inr more) none = writes_complete os texts line end r more.1 none.1

pub complete_of : (opened : List Slot) (c : Course) (end : End) (r : Run) → Ends opened c end r → IsComplete c (status_of end) r
complete_of opened (refuse kind text) end r (inl m) = inr (ap status_of m.0)
complete_of opened (refuse kind text) end r (inr t) = inl (ap status_of t.0)
complete_of opened (read o next) end r (inl m) = memory_complete (read o next) (status_of end) r (ap status_of m.0)
complete_of opened (read o next) end r (inr (inl s)) = unread_complete s.0 o next (status_of end) r (ap status_of s.1) s.2
complete_of opened (read o next) end r (inr (inr w)) = λ bytes sound.
    let same = held_by (r.held o.slot o.word) bytes (λ held. w.0 ≡ held) w.1.same_bytes sound.told in
    let few = w.1.few in
    let size : length w.0 ≡ length bytes = ap length same in
    (λ long. absurd (omega (arith, few, size, long)), λ fits. subst (λ (b : List ℕ). IsComplete (next b) (status_of end) r) same (complete_of (o.slot ∷ opened) (next w.0) end r w.2))
complete_of opened (may_stop Stops next) end r (inl s) = inl (s.0, s.1, s.2, ap status_of s.3)
complete_of opened (may_stop Stops next) end r (inr h) = inr (complete_of opened next end r h)
complete_of opened (write outs Are) end r (inl m) = λ none. inr (ap status_of m.0)
complete_of opened (write outs Are) end r (inr w) = λ none. writes_complete outs w.0 w.1 end r w.3 none

-- ---- slots

apart_both : (slot : Slot) (outs : List Opening) (opened : List Slot) → AllByRecursion (λ o. slot ≢ o.slot) outs → IsApart slot opened → IsApart slot (map (λ o. o.slot) outs ++ opened)
apart_both slot [] opened left apart = apart
apart_both slot (o ∷ outs) opened left apart = (left.0, apart_both slot outs opened left.1 apart)

-- a slot that the job does not open shows what it showed
pub unused_of : (opened : List Slot) (c : Course) (end : End) (r : Run) (slot : Slot) → Ends opened c end r → IsApart slot opened → IsLeft slot c → slot ≢ Says → IsUntouched r slot
unused_of opened (refuse kind text) end r slot (inl m) apart left quiet = m.1 slot apart quiet
unused_of opened (refuse kind text) end r slot (inr t) apart left quiet = t.1 slot apart quiet
unused_of opened (read o next) end r slot (inl m) apart left quiet = m.1 slot apart quiet
unused_of opened (read o next) end r slot (inr (inl s)) apart left quiet = s.3 slot (left.0, apart) quiet
unused_of opened (read o next) end r slot (inr (inr w)) apart left quiet = unused_of (o.slot ∷ opened) (next w.0) end r slot w.2 (left.0, apart) (left.1 w.0) quiet
unused_of opened (may_stop Stops next) end r slot (inl s) apart left quiet = s.4 slot apart quiet
unused_of opened (may_stop Stops next) end r slot (inr h) apart left quiet = unused_of opened next end r slot h apart left quiet
unused_of opened (write outs Are) end r slot (inl m) apart left quiet = m.1 slot apart quiet
unused_of opened (write outs Are) end r slot (inr w) apart left quiet = w.4 slot (apart_both slot outs opened left apart) quiet

-- after these statuses only, an output may be in use
abbrev pub AreClosed : ℕ → Run → Type 0
AreClosed status r = (status ≡ 0) ⊎ ((status ≡ 8) ⊎ ((slot : Slot) → IsOutput slot → slot ≢ Says → IsUntouched r slot))

closed_rest : (status : ℕ) (opened : List Slot) (r : Run) → AllByRecursion IsInput opened → AreRest opened r → AreClosed status r
closed_rest status opened r ins rest = inr (inr (λ slot out quiet. rest slot (no_output slot opened out ins) quiet))

writes_closed : (os : List Opening) (texts : List (List ℕ)) (line : List ℕ) (end : End) (r : Run) → Writes os texts line end r → AreClosed (status_of end) r
writes_closed [] [] line end r h = inl (ap status_of h)
writes_closed [] (text ∷ texts) line end r h = absurd h
writes_closed (o ∷ os) [] line end r h = absurd h
writes_closed (o ∷ os) (text ∷ texts) line end r (inl cut) = inr (inl (ap status_of cut.0))
writes_closed (o ∷ os) (text ∷ texts) line end r (inr more) = writes_closed os texts line end r more.1

pub closed_of : (opened : List Slot) (c : Course) (end : End) (r : Run) → Ends opened c end r → IsProper c → AllByRecursion IsInput opened → AreClosed (status_of end) r
closed_of opened (refuse kind text) end r (inl m) proper ins = closed_rest (status_of end) opened r ins m.1
closed_of opened (refuse kind text) end r (inr t) proper ins = closed_rest (status_of end) opened r ins t.1
closed_of opened (read o next) end r (inl m) proper ins = closed_rest (status_of end) opened r ins m.1
closed_of opened (read o next) end r (inr (inl s)) proper ins = closed_rest (status_of end) (o.slot ∷ opened) r (proper.0, ins) s.3
closed_of opened (read o next) end r (inr (inr w)) proper ins = closed_of (o.slot ∷ opened) (next w.0) end r w.2 (proper.1 w.0) (proper.0, ins)
closed_of opened (may_stop Stops next) end r (inl s) proper ins = closed_rest (status_of end) opened r ins s.4
closed_of opened (may_stop Stops next) end r (inr h) proper ins = closed_of opened next end r h proper ins
closed_of opened (write outs Are) end r (inl m) proper ins = closed_rest (status_of end) opened r ins m.1
closed_of opened (write outs Are) end r (inr w) proper ins = writes_closed outs w.0 w.1 end r w.3
