-- What a slot that shows something tells of how a job ended: too many bytes taken, or a fault counted where it is not in use.
use Rattle.std.proofs.Common.{◌≡◌, ◌≢◌, ◌⊎◌, ◌<◌, ◌+◌, ◌++◌, ℕ, zero, suc, List, [], ◌∷◌, true, false, map, refl, ap, sym, ◌∙◌, subst, inl, inr, arith}
use Rattle.std.specs.List.{AllByRecursion}
use Rattle.gl_desk.specs.declared.slot.Slot.{Slot}
use Rattle.gl_desk.specs.declared.slot.Slot.TheVariants.{Says}
use Rattle.gl_desk.specs.Desk.{LONGEST, View, IsInput, IsOutput}
use Rattle.gl_desk.specs.Places.{place_of}
use Rattle.gl_desk.proofs.Seating.{slot_at, slot_at-place_of}
use Rattle.gl_job.specs.declared.stop.Stop.{Stop}
use Rattle.gl_job.specs.declared.stop.Stop.TheVariants as stops
use Rattle.gl_job.specs.Texts.{End, status_of, end_of_stop}
use Rattle.gl_job.specs.Runs.{Run, Opening, IsNotLong, IsWhole, Unread, IsApart, IsUntouched, AreRest}
use Rattle.gl_job.specs.Courses.{Course, refuse, read, may_stop, write, Writes, Ends}
use Rattle.gl_job.specs.Claims.{IsProper}
use Rattle.gl_job.proofs.Same.{no_input}

-- ---- which slots were opened

same_or_not : (a b : ℕ) → (a ≡ b) ⊎ (a ≢ b)
same_or_not zero zero = inl refl
same_or_not zero (suc b) = inr (λ e. absurd cc)
same_or_not (suc a) zero = inr (λ e. absurd cc)
same_or_not (suc a) (suc b) = by (same_or_not a b) where
  by : (a ≡ b) ⊎ (a ≢ b) → (suc a ≡ suc b) ⊎ (suc a ≢ suc b)
  by (inl e) = inl (ap suc e)
  by (inr n) = inr (λ e. n (omega (arith, e)))

same_slot : (a b : Slot) → place_of a ≡ place_of b → a ≡ b
same_slot a b e = sym (slot_at-place_of a) ∙ ap slot_at e ∙ slot_at-place_of b

-- the slot is none of these, or it is one and has what they have
apart_or_has : (P : Slot → Type 0) (slot : Slot) (opened : List Slot) → AllByRecursion P opened → IsApart slot opened ⊎ P slot
apart_or_has P slot [] all = inl tt
apart_or_has P slot (s ∷ opened) all = by (same_or_not (place_of slot) (place_of s)) (apart_or_has P slot opened all.1) where
  by : (place_of slot ≡ place_of s) ⊎ (place_of slot ≢ place_of s) → IsApart slot opened ⊎ P slot → IsApart slot (s ∷ opened) ⊎ P slot
  by (inl e) more = inr (subst P (sym (same_slot slot s e)) all.0)
  by (inr n) (inl apart) = inl (λ e. n (ap place_of e), apart)
  by (inr n) (inr has) = inr has

-- what holds of what was opened holds of a slot, or it shows what it showed
opened_or_untouched : (P : Slot → Type 0) (slot : Slot) (opened : List Slot) (r : Run) → AllByRecursion P opened → AreRest opened r → slot ≢ Says → P slot ⊎ IsUntouched r slot
opened_or_untouched P slot opened r all rest quiet = by (apart_or_has P slot opened all) where
  by : IsApart slot opened ⊎ P slot → P slot ⊎ IsUntouched r slot
  by (inl apart) = inr (rest slot apart quiet)
  by (inr has) = inl has

-- ---- too many bytes taken

-- one byte more than a file may have was taken of a slot that was not in use
pub record IsTooMuch (r : Run) (slot : Slot) : Type 0 where
  pub free : (r.before slot).used ≡ false
  pub used : (r.after slot).used ≡ true
  pub taken : (r.after slot).taken ≡ LONGEST + 1

not_much : (opened : List Slot) (r : Run) (slot : Slot) → AllByRecursion (IsNotLong r) opened → AreRest opened r → slot ≢ Says → IsTooMuch r slot → ⊥
not_much opened r slot all rest quiet much = by (opened_or_untouched (IsNotLong r) slot opened r all rest quiet) where
  by : IsNotLong r slot ⊎ IsUntouched r slot → ⊥
  by (inl few) = few much.used much.taken
  by (inr same) = let both : true ≡ false = sym much.used ∙ ap (λ (v : View). v.used) same ∙ much.free in absurd (cc both)

whole_not_long : (r : Run) (o : Opening) (bytes : List ℕ) → IsWhole r o bytes → IsNotLong r o.slot
whole_not_long r o bytes w = λ used taken. let few = w.few in let count = w.counted in absurd (omega (arith, few, count, taken))

-- the status is that of a file that is too long, or of want of memory
abbrev pub IsSaidLong : ℕ → Type 0
IsSaidLong status = (status ≡ 6) ⊎ (status ≡ 9)

long_unread : (stop : Stop) (o : Opening) (opened : List Slot) (end : End) (r : Run) (slot : Slot) → end ≡ end_of_stop stop → Unread stop r o → AllByRecursion (IsNotLong r) opened → AreRest (o.slot ∷ opened) r → slot ≢ Says → IsTooMuch r slot → IsSaidLong (status_of end)
long_unread (stops.Read s) o opened end r slot is u all rest quiet much = absurd (not_much (o.slot ∷ opened) r slot (u.2, all) rest quiet much)
long_unread (stops.LongFile s) o opened end r slot is u all rest quiet much = inl (ap status_of is)
long_unread (stops.Write s) o opened end r slot is u all rest quiet much = absurd u
long_unread stops.Memory o opened end r slot is u all rest quiet much = inr (ap status_of is)

apart_of_both : (slot : Slot) (outs : List Opening) (opened : List Slot) → IsApart slot (map (λ o. o.slot) outs) → IsApart slot opened → IsApart slot (map (λ o. o.slot) outs ++ opened)
apart_of_both slot [] opened a b = b
apart_of_both slot (o ∷ outs) opened a b = (a.0, apart_of_both slot outs opened a.1 b)

long_written : (outs : List Opening) (opened : List Slot) (r : Run) (slot : Slot) → AllByRecursion (λ o. IsOutput o.slot × (o.slot ≢ Says)) outs → IsInput slot → AllByRecursion (IsNotLong r) opened → AreRest (map (λ o. o.slot) outs ++ opened) r → slot ≢ Says → IsTooMuch r slot → ⊥
long_written outs opened r slot proper input all rest quiet much = by (apart_or_has (IsNotLong r) slot opened all) where
  by : IsApart slot opened ⊎ IsNotLong r slot → ⊥
  by (inr few) = few much.used much.taken
  by (inl apart) =
      let same = rest slot (apart_of_both slot outs opened (no_input slot outs input proper) apart) quiet in
      let both : true ≡ false = sym much.used ∙ ap (λ (v : View). v.used) same ∙ much.free in absurd (cc both)

-- where one byte too many was taken of an input, the file is said to be too long, unless there was no memory
pub long_of : (opened : List Slot) (c : Course) (end : End) (r : Run) (slot : Slot) → Ends opened c end r → IsProper c → AllByRecursion (IsNotLong r) opened → IsInput slot → slot ≢ Says → IsTooMuch r slot → IsSaidLong (status_of end)
long_of opened (refuse kind text) end r slot (inl m) proper all input quiet much = inr (ap status_of m.0)
long_of opened (refuse kind text) end r slot (inr t) proper all input quiet much = absurd (not_much opened r slot all t.1 quiet much)
long_of opened (read o next) end r slot (inl m) proper all input quiet much = inr (ap status_of m.0)
long_of opened (read o next) end r slot (inr (inl s)) proper all input quiet much = long_unread s.0 o opened end r slot s.1 s.2 all s.3 quiet much
long_of opened (read o next) end r slot (inr (inr w)) proper all input quiet much =
    long_of (o.slot ∷ opened) (next w.0) end r slot w.2 (proper.1 w.0) (whole_not_long r o w.0 w.1, all) input quiet much
long_of opened (may_stop Stops next) end r slot (inl s) proper all input quiet much = absurd (not_much opened r slot all s.4 quiet much)
long_of opened (may_stop Stops next) end r slot (inr h) proper all input quiet much = long_of opened next end r slot h proper all input quiet much
long_of opened (write outs Are) end r slot (inl m) proper all input quiet much = inr (ap status_of m.0)
long_of opened (write outs Are) end r slot (inr w) proper all input quiet much = absurd (long_written outs opened r slot proper input all w.4 quiet much)

-- ---- a fault counted where the slot is not in use

-- a fault of the slot was counted, and it is not in use
pub record IsFailed (r : Run) (slot : Slot) : Type 0 where
  pub unused : (r.after slot).used ≡ false
  pub risen : (r.before slot).faults < (r.after slot).faults

-- the slot is in use
abbrev pub IsUsed : Run → Slot → Type 0
IsUsed r slot = (r.after slot).used ≡ true

not_failed : (opened : List Slot) (r : Run) (slot : Slot) → AllByRecursion (IsUsed r) opened → AreRest opened r → slot ≢ Says → IsFailed r slot → ⊥
not_failed opened r slot all rest quiet failed = by (opened_or_untouched (IsUsed r) slot opened r all rest quiet) where
  by : IsUsed r slot ⊎ IsUntouched r slot → ⊥
  by (inl used) = let both : true ≡ false = sym used ∙ failed.unused in absurd (cc both)
  by (inr same) = let stays : (r.after slot).faults ≡ (r.before slot).faults = ap (λ (v : View). v.faults) same in let rose = failed.risen in omega (arith, stays, rose)

-- the status is that of a call that failed
abbrev pub IsSaidFailed : ℕ → Type 0
IsSaidFailed status = (status ≡ 7) ⊎ (status ≡ 8)

failed_unread : (stop : Stop) (o : Opening) (opened : List Slot) (end : End) (r : Run) (slot : Slot) → end ≡ end_of_stop stop → Unread stop r o → AllByRecursion (IsUsed r) opened → AreRest (o.slot ∷ opened) r → slot ≢ Says → IsFailed r slot → IsSaidFailed (status_of end)
failed_unread (stops.Read s) o opened end r slot is u all rest quiet failed = inl (ap status_of is)
failed_unread (stops.LongFile s) o opened end r slot is u all rest quiet failed = absurd (not_failed (o.slot ∷ opened) r slot (u.1.used, all) rest quiet failed)
failed_unread (stops.Write s) o opened end r slot is u all rest quiet failed = absurd u
failed_unread stops.Memory o opened end r slot is u all rest quiet failed = absurd (not_failed (o.slot ∷ opened) r slot (u.0, all) rest quiet failed)

-- either an output was not written whole, or all are in use
written_or_failed : (outs : List Opening) (texts : List (List ℕ)) (line : List ℕ) (end : End) (r : Run) (opened : List Slot) → Writes outs texts line end r → AllByRecursion (IsUsed r) opened
    → (status_of end ≡ 8) ⊎ AllByRecursion (IsUsed r) (map (λ o. o.slot) outs ++ opened)
written_or_failed [] [] line end r opened h all = inr all
written_or_failed [] (text ∷ texts) line end r opened h all = absurd h
written_or_failed (o ∷ os) [] line end r opened h all = absurd h
written_or_failed (o ∷ os) (text ∷ texts) line end r opened (inl cut) all = inl (ap status_of cut.0)
written_or_failed (o ∷ os) (text ∷ texts) line end r opened (inr more) all = by (written_or_failed os texts line end r opened more.1 all) where
  by : (status_of end ≡ 8) ⊎ AllByRecursion (IsUsed r) (map (λ o. o.slot) os ++ opened) → (status_of end ≡ 8) ⊎ AllByRecursion (IsUsed r) (o.slot ∷ map (λ o. o.slot) os ++ opened)
  by (inl eight) = inl eight
  by (inr used) = inr (more.0.used, used)

failed_written : (outs : List Opening) (texts : List (List ℕ)) (line : List ℕ) (end : End) (opened : List Slot) (r : Run) (slot : Slot) → Writes outs texts line end r → AllByRecursion (IsUsed r) opened → AreRest (map (λ o. o.slot) outs ++ opened) r → slot ≢ Says → IsFailed r slot → IsSaidFailed (status_of end)
failed_written outs texts line end opened r slot writes all rest quiet failed = by (written_or_failed outs texts line end r opened writes all) where
  by : (status_of end ≡ 8) ⊎ AllByRecursion (IsUsed r) (map (λ o. o.slot) outs ++ opened) → IsSaidFailed (status_of end)
  by (inl eight) = inr eight
  by (inr used) = absurd (not_failed (map (λ o. o.slot) outs ++ opened) r slot used rest quiet failed)

-- where a fault of a slot was counted that is not in use, a call is said to have failed
pub failed_of : (opened : List Slot) (c : Course) (end : End) (r : Run) (slot : Slot) → Ends opened c end r → AllByRecursion (IsUsed r) opened → slot ≢ Says → IsFailed r slot → IsSaidFailed (status_of end)
failed_of opened (refuse kind text) end r slot (inl m) all quiet failed = absurd (not_failed opened r slot all m.1 quiet failed)
failed_of opened (refuse kind text) end r slot (inr t) all quiet failed = absurd (not_failed opened r slot all t.1 quiet failed)
failed_of opened (read o next) end r slot (inl m) all quiet failed = absurd (not_failed opened r slot all m.1 quiet failed)
failed_of opened (read o next) end r slot (inr (inl s)) all quiet failed = failed_unread s.0 o opened end r slot s.1 s.2 all s.3 quiet failed
failed_of opened (read o next) end r slot (inr (inr w)) all quiet failed = failed_of (o.slot ∷ opened) (next w.0) end r slot w.2 (w.1.used, all) quiet failed
failed_of opened (may_stop Stops next) end r slot (inl s) all quiet failed = absurd (not_failed opened r slot all s.4 quiet failed)
failed_of opened (may_stop Stops next) end r slot (inr h) all quiet failed = failed_of opened next end r slot h all quiet failed
failed_of opened (write outs Are) end r slot (inl m) all quiet failed = absurd (not_failed opened r slot all m.1 quiet failed)
failed_of opened (write outs Are) end r slot (inr w) all quiet failed = failed_written outs w.0 w.1 end opened r slot w.3 all w.4 quiet failed
