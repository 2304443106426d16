-- What one run saw, another saw that looks the same at the slots in question.
use Rattle.std.proofs.Common.{◌≡◌, ◌≢◌, ◌++◌, ℕ, List, [], ◌∷◌, Option, true, false, map, take, length, ap, sym, ◌∙◌, subst, inl, inr}
use Rattle.std.specs.Prelude.{IfSome, IsSomeAnd, ◌+◌, ◌≤◌}
use Rattle.std.specs.List.{AllByRecursion}
use Rattle.gl_desk.specs.declared.slot.Slot.{Slot}
use Rattle.gl_desk.specs.declared.slot.Slot.TheVariants.{Says}
use Rattle.gl_desk.specs.Desk.{LONGEST, View, HasRisen, is_input, IsInput, IsOutput}
use Rattle.gl_job.specs.declared.stop.Stop.{Stop}
use Rattle.gl_job.specs.declared.stop.Stop.TheVariants as stops
use Rattle.gl_job.specs.Texts.{End}
use Rattle.gl_job.specs.Runs.{Run, Opening, HasCause, IsNotLong, IsWhole, Unread, IsWritten, IsCutShort, IsUntouched, IsApart, AreRest}
use Rattle.gl_job.specs.Courses.{Course, refuse, read, may_stop, write, Writes, Ends, Makes}
use Rattle.gl_job.specs.Claims.{IsProper}

-- two runs saw the same of a slot
pub record LooksSame (s r : Run) (slot : Slot) : Type 0 where
  pub before : s.before slot ≡ r.before slot
  pub after : s.after slot ≡ r.after slot
  pub wanted : s.wanted slot ≡ r.wanted slot

-- ---- one slot

cause_same : (o : Opening) (s r : Run) → LooksSame s r o.slot → HasCause s o → HasCause r o
cause_same o s r same (inl risen) =
    inl (subst (λ (v : View). HasRisen v.faults (r.after o.slot).faults) same.before (subst (λ (v : View). HasRisen (s.before o.slot).faults v.faults) same.after risen))
cause_same o s r same (inr other) = inr (subst (λ (x : Option (List ℕ)). IsSomeAnd x (λ name. name ≢ o.word)) same.wanted other)

cut_same : (o : Opening) (text : List ℕ) (s r : Run) → LooksSame s r o.slot → IsCutShort s o text → IsCutShort r o text
cut_same o text s r same cut = record {
  cause = cause_same o s r same cut.cause;
  front = subst (λ (v : View). IfSome v.given (λ given. (n : ℕ) × (given ≡ take n text))) same.after cut.front;
}

pub written_same : (o : Opening) (text : List ℕ) (s r : Run) → s.after o.slot ≡ r.after o.slot → IsWritten s o text → IsWritten r o text
written_same o text s r same w = record {
  used = ap (λ (v : View). v.used) (sym same) ∙ w.used;
  given = subst (λ (v : View). IfSome v.given (λ given. given ≡ text)) same w.given;
}

pub whole_same : (o : Opening) (bytes : List ℕ) (s r : Run) → LooksSame s r o.slot → s.held o.slot o.word ≡ r.held o.slot o.word → IsWhole s o bytes → IsWhole r o bytes
whole_same o bytes s r same held w = record {
  used = ap (λ (v : View). v.used) (sym same.after) ∙ w.used;
  same_bytes = subst (λ (h : Option (List ℕ)). IfSome h (λ held. bytes ≡ held)) held w.same_bytes;
  end = subst (λ (v : View). IfSome v.left (λ rest. rest ≡ [])) same.after w.end;
  few = w.few;
  counted = ap (λ (v : View). v.taken) (sym same.after) ∙ w.counted;
}

not_long_same : (slot : Slot) (s r : Run) → LooksSame s r slot → IsNotLong s slot → IsNotLong r slot
not_long_same slot s r same h = λ used taken. h (ap (λ (v : View). v.used) same.after ∙ used) (ap (λ (v : View). v.taken) same.after ∙ taken)

pub unread_same : (stop : Stop) (o : Opening) (s r : Run) → LooksSame s r o.slot → s.held o.slot o.word ≡ r.held o.slot o.word → Unread stop s o → Unread stop r o
unread_same (stops.Read slot) o s r same held u = (u.0, cause_same o s r same u.1, not_long_same o.slot s r same u.2)
unread_same (stops.LongFile slot) o s r same held u = (
  u.0,
  record {
    used = ap (λ (v : View). v.used) (sym same.after) ∙ u.1.used;
    counted = ap (λ (v : View). v.taken) (sym same.after) ∙ u.1.counted;
    many = subst (λ (h : Option (List ℕ)). IfSome h (λ bytes. LONGEST + 1 ≤ length bytes)) held u.1.many;
  },
)
unread_same (stops.Write slot) o s r same held u = absurd u
unread_same stops.Memory o s r same held u = (ap (λ (v : View). v.used) (sym same.after) ∙ u.0, not_long_same o.slot s r same u.1)

-- ---- outputs

untouched_same : (os : List Opening) (s r : Run) → AllByRecursion (λ o. LooksSame s r o.slot) os → AllByRecursion (λ o. IsUntouched s o.slot) os → AllByRecursion (λ o. IsUntouched r o.slot) os
untouched_same [] s r same u = tt
untouched_same (o ∷ os) s r same u = (sym same.0.after ∙ u.0 ∙ same.0.before, untouched_same os s r same.1 u.1)

pub writes_same : (os : List Opening) (texts : List (List ℕ)) (line : List ℕ) (end : End) (s r : Run) → AllByRecursion (λ o. LooksSame s r o.slot) os → Writes os texts line end s → Writes os texts line end r
writes_same [] [] line end s r same h = h
writes_same [] (text ∷ texts) line end s r same h = absurd h
writes_same (o ∷ os) [] line end s r same h = absurd h
writes_same (o ∷ os) (text ∷ texts) line end s r same (inl cut) = inl (cut.0, cut_same o text s r same.0 cut.1, untouched_same os s r same.1 cut.2)
writes_same (o ∷ os) (text ∷ texts) line end s r same (inr more) = inr (written_same o text s r same.0.after more.0, writes_same os texts line end s r same.1 more.1)

-- ---- a whole job, where only what is said changes

-- two runs saw the same, what is said aside
pub record AreAlike (s r : Run) : Type 0 where
  pub slots : (slot : Slot) → slot ≢ Says → LooksSame s r slot
  pub held : (slot : Slot) (word : List ℕ) → s.held slot word ≡ r.held slot word

rest_same : (opened : List Slot) (s r : Run) → AreAlike s r → AreRest opened s → AreRest opened r
rest_same opened s r alike rest = λ slot apart quiet. let same = alike.slots slot quiet in sym same.after ∙ rest slot apart quiet ∙ same.before

not_says : (slot : Slot) → IsInput slot → slot ≢ Says
not_says slot input = λ e. let both : true ≡ false = sym input ∙ ap is_input e in absurd (cc both)

outs_same : (outs : List Opening) (s r : Run) → AreAlike s r → AllByRecursion (λ o. IsOutput o.slot × (o.slot ≢ Says)) outs → AllByRecursion (λ o. LooksSame s r o.slot) outs
outs_same [] s r alike proper = tt
outs_same (o ∷ outs) s r alike proper = (alike.slots o.slot proper.0.1, outs_same outs s r alike proper.1)

pub ends_same : (opened : List Slot) (c : Course) (end : End) (s r : Run) → AreAlike s r → IsProper c → Ends opened c end s → Ends opened c end r
ends_same opened (refuse kind text) end s r alike proper (inl m) = inl (m.0, rest_same opened s r alike m.1)
ends_same opened (refuse kind text) end s r alike proper (inr t) = inr (t.0, rest_same opened s r alike t.1)
ends_same opened (read o next) end s r alike proper (inl m) = inl (m.0, rest_same opened s r alike m.1)
ends_same opened (read o next) end s r alike proper (inr (inl p)) =
    inr (inl (p.0, p.1, unread_same p.0 o s r (alike.slots o.slot (not_says o.slot proper.0)) (alike.held o.slot o.word) p.2, rest_same (o.slot ∷ opened) s r alike p.3))
ends_same opened (read o next) end s r alike proper (inr (inr w)) =
    inr (inr (w.0, whole_same o w.0 s r (alike.slots o.slot (not_says o.slot proper.0)) (alike.held o.slot o.word) w.1, ends_same (o.slot ∷ opened) (next w.0) end s r alike (proper.1 w.0) w.2))
ends_same opened (may_stop Stops next) end s r alike proper (inl p) = inl (p.0, p.1, p.2, p.3, rest_same opened s r alike p.4)
ends_same opened (may_stop Stops next) end s r alike proper (inr h) = inr (ends_same opened next end s r alike proper h)
ends_same opened (write outs Are) end s r alike proper (inl m) = inl (m.0, rest_same opened s r alike m.1)
ends_same opened (write outs Are) end s r alike proper (inr w) =
    inr (w.0, w.1, w.2, writes_same outs w.0 w.1 end s r (outs_same outs s r alike proper) w.3, rest_same (map (λ o. o.slot) outs ++ opened) s r alike w.4)

-- ---- a job whose outputs are written

-- an input is none of the outputs
pub no_input : (slot : Slot) (outs : List Opening) → IsInput slot → AllByRecursion (λ o. IsOutput o.slot × (o.slot ≢ Says)) outs → IsApart slot (map (λ o. o.slot) outs)
no_input slot [] input proper = tt
no_input slot (o ∷ outs) input proper = (λ e. let both : true ≡ false = sym input ∙ ap is_input e ∙ proper.0.0 in absurd (cc both), no_input slot outs input proper.1)

-- an output is none of the inputs
pub no_output : (slot : Slot) (opened : List Slot) → IsOutput slot → AllByRecursion IsInput opened → IsApart slot opened
no_output slot [] output ins = tt
no_output slot (p ∷ opened) output ins = (λ e. let both : true ≡ false = sym ins.0 ∙ ap is_input (sym e) ∙ output in absurd (cc both), no_output slot opened output ins.1)

apart_front : (slot : Slot) (outs : List Opening) (opened : List Slot) → IsApart slot (map (λ o. o.slot) outs ++ opened) → IsApart slot (map (λ o. o.slot) outs) × IsApart slot opened
apart_front slot [] opened apart = (tt, apart)
apart_front slot (o ∷ outs) opened apart = let both = apart_front slot outs opened apart.1 in ((apart.0, both.0), both.1)

-- a run up to some point, one from there on, and the whole
pub record AreParts (m s r : Run) : Type 0 where
  pub begins : (slot : Slot) → m.before slot ≡ r.before slot
  pub meets : (slot : Slot) → m.after slot ≡ s.before slot
  pub ends : (slot : Slot) → s.after slot ≡ r.after slot
  pub held : (slot : Slot) (word : List ℕ) → m.held slot word ≡ r.held slot word
  pub wanted : (slot : Slot) → m.wanted slot ≡ r.wanted slot
  pub wanted_later : (slot : Slot) → s.wanted slot ≡ r.wanted slot

outs_later : (outs : List Opening) (opened : List Slot) (m s r : Run) → AreParts m s r → AllByRecursion IsInput opened → AllByRecursion (λ o. IsOutput o.slot × (o.slot ≢ Says)) outs → AreRest opened m → AllByRecursion (λ o. LooksSame s r o.slot) outs
outs_later [] opened m s r parts ins proper rest = tt
outs_later (o ∷ outs) opened m s r parts ins proper rest = (
  record { before = sym (parts.meets o.slot) ∙ rest o.slot (no_output o.slot opened proper.0.0 ins) proper.0.1 ∙ parts.begins o.slot; after = parts.ends o.slot; wanted = parts.wanted_later o.slot },
  outs_later outs opened m s r parts ins proper.1 rest,
)

-- a job that made its texts, and then wrote them, ends so
pub ends_of_made : (opened : List Slot) (c : Course) (outs : List Opening) (texts : List (List ℕ)) (end : End) (m s r : Run) → AreParts m s r → IsProper c
    → AllByRecursion (λ o. IsOutput o.slot × (o.slot ≢ Says)) outs → AllByRecursion IsInput opened
    → ((slot : Slot) → IsApart slot (map (λ o. o.slot) outs) → s.after slot ≡ s.before slot)
    → Makes opened c outs texts m → Writes outs texts [] end s → Ends opened c end r
ends_of_made opened (refuse kind text) outs texts end m s r parts proper out ins others made writes = absurd made
ends_of_made opened (read o next) outs texts end m s r parts proper out ins others made writes =
    let kept : m.after o.slot ≡ r.after o.slot = parts.meets o.slot ∙ sym (others o.slot (no_input o.slot outs proper.0 out)) ∙ parts.ends o.slot in
    let same : LooksSame m r o.slot = record { before = parts.begins o.slot; after = kept; wanted = parts.wanted o.slot } in
    inr (inr (
      made.0,
      whole_same o made.0 m r same (parts.held o.slot o.word) made.1,
      ends_of_made (o.slot ∷ opened) (next made.0) outs texts end m s r parts (proper.1 made.0) out (proper.0, ins) others made.2 writes,
    ))
ends_of_made opened (may_stop Stops next) outs texts end m s r parts proper out ins others made writes =
    inr (ends_of_made opened next outs texts end m s r parts proper out ins others made writes)
ends_of_made opened (write openings Are) outs texts end m s r parts proper out ins others made writes =
    let written = writes_same outs texts [] end s r (outs_later outs opened m s r parts ins out made.2) writes in
    let here : Writes openings texts [] end r = subst (λ (os : List Opening). Writes os texts [] end r) (sym made.0) written in
    let rest : AreRest (map (λ o. o.slot) outs ++ opened) r = λ slot apart quiet. (let both = apart_front slot outs opened apart in
    sym (parts.ends slot) ∙ others slot both.0 ∙ sym (parts.meets slot) ∙ made.2 slot both.1 quiet ∙ parts.begins slot) in
    inr (texts, [], made.1, here, subst (λ (os : List Opening). AreRest (map (λ o. o.slot) os ++ opened) r) (sym made.0) rest)
