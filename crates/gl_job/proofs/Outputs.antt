-- Outputs that are written one after another.
use Rattle.std.proofs.Common.{◌≡◌, ◌≢◌, ◌≤◌, ◌-◌, List, [], ◌∷◌, map, take, drop, length, ap, sym, ◌∙◌, subst, inl, inr, arith}
use Rattle.std.specs.Prelude.{slice_index_or}
use Rattle.std.specs.List.{AllByRecursion}
use Rattle.std.proofs.lemmas.List.{take_rest}
use Rattle.gl_desk.specs.declared.slot.Slot.{Slot}
use Rattle.gl_desk.specs.Desk.{View}
use Rattle.gl_job.specs.declared.stop.Stop.{Stop}
use Rattle.gl_job.specs.declared.stop.Stop.TheVariants as stops
use Rattle.gl_job.specs.declared.writing.Output.{Output}
use Rattle.gl_job.specs.Texts.{End, end_of_stop}
use Rattle.gl_job.specs.Runs.{Run, IsApart, IsCutShort, IsWritten, IsUntouched}
use Rattle.gl_job.specs.Courses.{Writes}
use Rattle.gl_job.proofs.Same.{LooksSame, written_same, writes_same}
use Rattle.gl_job.specs.Outputs.{opening_of, text_of, slots_of, IsWritable, AreApart}

-- ---- what may be written still

stay_writable : (old new : Slot → View) (first : Slot) (os : List Output) → IsApart first (slots_of os) → AllByRecursion (IsWritable old) os → ((slot : Slot) → slot ≢ first → new slot ≡ old slot) → AllByRecursion (IsWritable new) os
stay_writable old new first [] apart w same = tt
stay_writable old new first (o ∷ os) apart w same = (
  record { output_slot = w.0.output_slot; not_says = w.0.not_says; free = ap (λ (v : View). v.used) (same o.slot (λ e. apart.0 (sym e))) ∙ w.0.free },
  stay_writable old new first os apart.1 w.1 same,
)

-- when the first output was written, the others may be
pub writable_behind : (old new : Slot → View) (os : List Output) (d : Output) → 1 ≤ length os → AllByRecursion (IsWritable old) os → AreApart os
    → ((slot : Slot) → slot ≢ (slice_index_or os 0 d).slot → new slot ≡ old slot)
    → AllByRecursion (IsWritable new) (take (length os - 1) (drop 1 os)) × AreApart (take (length os - 1) (drop 1 os))
writable_behind old new [] d some w a same = absurd (omega (arith, some))
writable_behind old new (o ∷ os) d some w a same =
    subst (λ (b : List Output). AllByRecursion (IsWritable new) b × AreApart b) (sym (take_rest (o ∷ os) 1)) (stay_writable old new o.slot os a.0 w.1 same, a.1)

-- ---- the first output is not whole

untouched : (r : Run) (first : Slot) (os : List Output) → IsApart first (slots_of os) → ((slot : Slot) → slot ≢ first → r.after slot ≡ r.before slot) → AllByRecursion (λ o. IsUntouched r o.slot) (map opening_of os)
untouched r first [] apart same = tt
untouched r first (o ∷ os) apart same = (same o.slot (λ e. apart.0 (sym e)), untouched r first os apart.1 same)

pub cut_first : (r : Run) (os : List Output) (d : Output) (stop : Stop) → 1 ≤ length os → AreApart os → stop ≡ stops.Write (slice_index_or os 0 d).slot
    → IsCutShort r (opening_of (slice_index_or os 0 d)) (text_of (slice_index_or os 0 d)) → ((slot : Slot) → slot ≢ (slice_index_or os 0 d).slot → r.after slot ≡ r.before slot)
    → Writes (map opening_of os) (map text_of os) [] (end_of_stop stop) r
cut_first r [] d stop some apart is cut same = absurd (omega (arith, some))
cut_first r (o ∷ os) d stop some apart is cut same = inl (ap end_of_stop is, cut, untouched r o.slot os apart.0 same)

-- ---- the first output is whole

same_later : (os : List Output) (first : Slot) (m s r : Run) → IsApart first (slots_of os) → ((slot : Slot) → m.after slot ≡ s.before slot) → ((slot : Slot) → m.before slot ≡ r.before slot)
    → ((slot : Slot) → s.after slot ≡ r.after slot) → ((slot : Slot) → s.wanted slot ≡ r.wanted slot)
    → ((slot : Slot) → slot ≢ first → m.after slot ≡ m.before slot) → AllByRecursion (λ o. LooksSame s r o.slot) (map opening_of os)
same_later [] first m s r apart mid old new wants same = tt
same_later (o ∷ os) first m s r apart mid old new wants same = (
  record { before = sym (mid o.slot) ∙ same o.slot (λ e. apart.0 (sym e)) ∙ old o.slot; after = new o.slot; wanted = wants o.slot },
  same_later os first m s r apart.1 mid old new wants same,
)

pub written_first : (m s r : Run) (os : List Output) (d : Output) (end : End) → 1 ≤ length os → AreApart os
    → ((slot : Slot) → m.after slot ≡ s.before slot) → ((slot : Slot) → m.before slot ≡ r.before slot) → ((slot : Slot) → s.after slot ≡ r.after slot) → ((slot : Slot) → s.wanted slot ≡ r.wanted slot)
    → IsWritten m (opening_of (slice_index_or os 0 d)) (text_of (slice_index_or os 0 d))
    → ((slot : Slot) → slot ≢ (slice_index_or os 0 d).slot → m.after slot ≡ m.before slot)
    → ((slot : Slot) → IsApart slot (slots_of (take (length os - 1) (drop 1 os))) → s.after slot ≡ s.before slot)
    → Writes (map opening_of (take (length os - 1) (drop 1 os))) (map text_of (take (length os - 1) (drop 1 os))) [] end s
    → Writes (map opening_of os) (map text_of os) [] end r
written_first m s r [] d end some apart mid old new wants written same later writes = absurd (omega (arith, some))
written_first m s r (o ∷ os) d end some apart mid old new wants written same later writes =
    let rest : take (length (o ∷ os) - 1) (drop 1 (o ∷ os)) ≡ os = take_rest (o ∷ os) 1 in
    let later-is = subst (λ (b : List Output). (slot : Slot) → IsApart slot (slots_of b) → s.after slot ≡ s.before slot) rest later in
    let writes-is = subst (λ (b : List Output). Writes (map opening_of b) (map text_of b) [] end s) rest writes in
    let view : m.after o.slot ≡ r.after o.slot = mid o.slot ∙ sym (later-is o.slot apart.0) ∙ new o.slot in
    inr (
      written_same (opening_of o) (text_of o) m r view written,
      writes_same (map opening_of os) (map text_of os) [] end s r (same_later os o.slot m s r apart.0 mid old new wants same) writes-is,
    )
