-- How the points of a job make up the whole: a point that answers a refusal ends the job, one that gives a value goes on.
use Rattle.std.proofs.Common.{◌≡◌, ℕ, List, ◌∷◌, Option, Some, None, refl, sym, subst, inl, inr}
use Rattle.std.specs.Prelude.{Result, Ok, Err}
use Rattle.gl_fault.specs.Refusals.{IsRefusal}
use Rattle.gl_desk.specs.declared.slot.Slot.{Slot}
use Rattle.gl_job.specs.declared.kind.Kind.{Kind}
use Rattle.gl_job.specs.Texts.{End, ended, no_memory}
use Rattle.gl_job.specs.Runs.{Run, Opening, AreRest}
use Rattle.gl_job.specs.Courses.{Course, refuse, read, may_stop, write, unless, input, Ends, Makes}
use Rattle.gl_job.specs.Points.{refusal_end, refusal_kind, Refuses, IsRead, IsNotRead}
use Rattle.gl_said.specs.Texts.{text_if_any}
use Rattle.gl_job.proofs.Same.{LooksSame, whole_same, unread_same}

-- ---- refusals

-- a refusal of the code is told as what it means
pub end_refuses : {V E : Type 0} (kind : Kind) (text : E → List ℕ) (fault : Option E) (wanted : Result V E) → IsRefusal fault wanted → Refuses kind text wanted (refusal_end kind text fault)
end_refuses kind text None (Ok v) h = refl
end_refuses kind text None (Err f) h = inl refl
end_refuses {V} {E} kind text (Some g) wanted h = subst (λ (w : Result V E). Refuses kind text w (ended kind (text g))) (sym h) (inr refl)

-- what is told is of its kind and has its text
pub refusal_parts : {E : Type 0} (kind : Kind) (text : E → List ℕ) (fault : Option E) → ended (refusal_kind kind fault) (text_if_any text fault) ≡ refusal_end kind text fault
refusal_parts kind text None = refl
refusal_parts kind text (Some f) = refl

-- want of memory may end a job at any point
pub memory_ends : (opened : List Slot) (c : Course) (r : Run) → AreRest opened r → Ends opened c no_memory r
memory_ends opened (refuse kind text) r rest = inl (refl, rest)
memory_ends opened (read o next) r rest = inl (refl, rest)
memory_ends opened (may_stop Stops next) r rest = inr (memory_ends opened next r rest)
memory_ends opened (write outs Are) r rest = inl (refl, rest)

-- a refusal ends the job
pub refused_ends : {V E : Type 0} (opened : List Slot) (kind : Kind) (text : E → List ℕ) (wanted : Result V E) (next : V → Course) (end : End) (r : Run)
    → Refuses kind text wanted end → AreRest opened r → Ends opened (unless kind text wanted next) end r
refused_ends opened kind text (Ok v) next end r h rest = subst (λ (e : End). Ends opened (next v) e r) (sym h) (memory_ends opened (next v) r rest)
refused_ends opened kind text (Err f) next end r (inl m) rest = inl (m, rest)
refused_ends opened kind text (Err f) next end r (inr t) rest = inr (t, rest)

-- nothing was made of an input: that ends the job
pub unread_ends : {V E : Type 0} (opened : List Slot) (kind : Kind) (text : E → List ℕ) (wanted : List ℕ → Result V E) (o : Opening) (next : V → Course) (end : End) (r : Run)
    → IsNotRead kind text wanted o end r → AreRest (o.slot ∷ opened) r → Ends opened (input o kind text wanted next) end r
unread_ends opened kind text wanted o next end r (inl s) rest = inr (inl (s.stop, s.end_is, s.unread, rest))
unread_ends opened kind text wanted o next end r (inr f) rest = inr (inr (f.bytes, f.whole, refused_ends (o.slot ∷ opened) kind text (wanted f.bytes) next end r f.refuses rest))

-- ---- going on

pub accepted_ends : {V E : Type 0} (opened : List Slot) (kind : Kind) (text : E → List ℕ) (wanted : Result V E) (value : V) (next : V → Course) (end : End) (r : Run)
    → wanted ≡ Ok value → Ends opened (next value) end r → Ends opened (unless kind text wanted next) end r
accepted_ends {V} {E} opened kind text wanted value next end r is h = subst (λ (w : Result V E). Ends opened (unless kind text w next) end r) (sym is) h

pub read_ends : {V E : Type 0} (opened : List Slot) (kind : Kind) (text : E → List ℕ) (wanted : List ℕ → Result V E) (o : Opening) (value : V) (next : V → Course) (end : End) (r : Run)
    → IsRead wanted o value r → Ends (o.slot ∷ opened) (next value) end r → Ends opened (input o kind text wanted next) end r
read_ends opened kind text wanted o value next end r i h = inr (inr (i.bytes, i.whole, accepted_ends (o.slot ∷ opened) kind text (wanted i.bytes) value next end r i.value_is h))

pub accepted_makes : {V E : Type 0} (opened : List Slot) (kind : Kind) (text : E → List ℕ) (wanted : Result V E) (value : V) (next : V → Course) (outs : List Opening) (texts : List (List ℕ)) (r : Run)
    → wanted ≡ Ok value → Makes opened (next value) outs texts r → Makes opened (unless kind text wanted next) outs texts r
accepted_makes {V} {E} opened kind text wanted value next outs texts r is h = subst (λ (w : Result V E). Makes opened (unless kind text w next) outs texts r) (sym is) h

pub read_makes : {V E : Type 0} (opened : List Slot) (kind : Kind) (text : E → List ℕ) (wanted : List ℕ → Result V E) (o : Opening) (value : V) (next : V → Course) (outs : List Opening) (texts : List (List ℕ)) (r : Run)
    → IsRead wanted o value r → Makes (o.slot ∷ opened) (next value) outs texts r → Makes opened (input o kind text wanted next) outs texts r
read_makes opened kind text wanted o value next outs texts r i h = (i.bytes, i.whole, accepted_makes (o.slot ∷ opened) kind text (wanted i.bytes) value next outs texts r i.value_is h)

-- ---- other runs

-- what was made stays where the slot looks the same
pub read_same : {V E : Type 0} (wanted : List ℕ → Result V E) (o : Opening) (value : V) (s r : Run) → LooksSame s r o.slot → s.held o.slot o.word ≡ r.held o.slot o.word → IsRead wanted o value s → IsRead wanted o value r
read_same wanted o value s r same held i = record { bytes = i.bytes; whole = whole_same o i.bytes s r same held i.whole; value_is = i.value_is }

pub not_read_same : {V E : Type 0} (kind : Kind) (text : E → List ℕ) (wanted : List ℕ → Result V E) (o : Opening) (end : End) (s r : Run) → LooksSame s r o.slot → s.held o.slot o.word ≡ r.held o.slot o.word → IsNotRead kind text wanted o end s → IsNotRead kind text wanted o end r
not_read_same kind text wanted o end s r same held (inl p) = inl (record { stop = p.stop; end_is = p.end_is; unread = unread_same p.stop o s r same held p.unread })
not_read_same kind text wanted o end s r same held (inr f) = inr (record { bytes = f.bytes; whole = whole_same o f.bytes s r same held f.whole; refuses = f.refuses })
