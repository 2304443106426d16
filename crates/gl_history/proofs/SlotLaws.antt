-- Devices with their origins, together and apart.
use Rattle.std.proofs.Common.{◌≡◌, ◌+◌, ◌<◌, ℕ, zero, suc, List, [], ◌∷◌, ◌++◌, length, map, drop, get_or, refl, sym, ap, ◌∙◌, arith, append_assoc}
use Rattle.std.proofs.lemmas.List.{append-nil}
use Rattle.std.proofs.lemmas.List.{length-map, get_or-map}
use Rattle.gl_match.specs.Graph.{Device, device_at}
use Rattle.gl_lifting.specs.Replacement.{Slot, Origin}
use Rattle.gl_history.specs.declared.fate.Fate.{Fate}
use Rattle.gl_history.specs.declared.origin.Origin as declared
use Rattle.gl_history.specs.Plain.{origin_value}
use Rattle.gl_history.specs.Replacing.{slots_of}
use Rattle.gl_history.specs.Marks.{slots_by, all_slots_by}
use Rattle.gl_history.proofs.ListLaws.{none_behind}

-- a device with its origin
abbrev pub slot : Device → Origin → Slot
slot device origin = record { device = device; origin = origin }

-- as many as there are devices
pub slots_long : (ds : List Device) (os : List Origin) → length os ≡ length ds → length (slots_of ds os) ≡ length ds
slots_long [] os e = refl
slots_long (d ∷ ds) [] e = absurd (omega (arith, e))
slots_long (d ∷ ds) (o ∷ os) e = ap suc (slots_long ds os (omega (arith, e)))

-- slots that were taken apart are put together
pub together : (slots : List Slot) → slots_of (map (λ (s : Slot). s.device) slots) (map (λ (s : Slot). s.origin) slots) ≡ slots
together [] = refl
together (s ∷ slots) = ap (λ ss. s ∷ ss) (together slots)

-- from a place on
from_place : (ds : List Device) (os : List Origin) (i : ℕ) (d : Device) (o : Origin) → length os ≡ length ds → i < length ds → drop i (slots_of ds os) ≡ slot (get_or ds i d) (get_or os i o) ∷ drop (suc i) (slots_of ds os)
from_place [] os i d o e lt = absurd (omega (arith, lt))
from_place (x ∷ ds) [] i d o e lt = absurd (omega (arith, e))
from_place (x ∷ ds) (y ∷ os) zero d o e lt = refl
from_place (x ∷ ds) (y ∷ os) (suc i) d o e lt = from_place ds os i d o (omega (arith, e)) (omega (arith, lt))

-- the device and the origin at a place, and those behind
pub slot_here : (ds : List Device) (origins : List declared.Origin) (i n : ℕ) (d : Device) (o : declared.Origin) → length origins ≡ length ds → i < length ds → n ≡ i + 1 → d ≡ device_at ds i → o ≡ get_or origins i o
    → drop i (slots_of ds (map origin_value origins)) ≡ slot d (origin_value o) ∷ drop n (slots_of ds (map origin_value origins))
slot_here ds origins i n d o long lt next is_d is_o =
    let all = slots_of ds (map origin_value origins) in
    let after : suc i ≡ n = omega (arith, next) in
    let own : get_or (map origin_value origins) i (origin_value o) ≡ origin_value o = get_or-map origin_value origins i o (origin_value o) (omega (arith, long, lt)) ∙ ap origin_value (sym is_o) in
    from_place ds (map origin_value origins) i (record { kind = 0; nets = [] }) (origin_value o) (length-map origins origin_value ∙ long) lt
    ∙ (λ k. slot (sym is_d k) (own k) ∷ drop (after k) all)

-- what fates tell of the first slot and of the others
slots_first : (made : List Slot) (slots more : List Slot) (fates others : List Fate) (s : Slot) (f : Fate) → slots ≡ s ∷ more → fates ≡ f ∷ others → all_slots_by made slots fates ≡ slots_by made s f ++ all_slots_by made more others
slots_first made slots more fates others s f e g = (λ i. all_slots_by made (e i) (g i))

-- the slots so far, and then those of what is left
pub slots_next : (made slots : List Slot) (fates : List Fate) (i n : ℕ) (s : Slot) (f : Fate) (before after whole : List Slot) → drop i slots ≡ s ∷ drop n slots → drop i fates ≡ f ∷ drop n fates → after ≡ before ++ slots_by made s f
    → before ++ all_slots_by made (drop i slots) (drop i fates) ≡ whole → after ++ all_slots_by made (drop n slots) (drop n fates) ≡ whole
slots_next made slots fates i n s f before after whole e g now was =
    ap (λ ss. ss ++ all_slots_by made (drop n slots) (drop n fates)) now ∙ append_assoc before (slots_by made s f) (all_slots_by made (drop n slots) (drop n fates))
    ∙ ap (λ ss. before ++ ss) (sym (slots_first made (drop i slots) (drop n slots) (drop i fates) (drop n fates) s f e g)) ∙ was

-- at the end nothing is left
pub slots_end : (made slots : List Slot) (fates : List Fate) (n : ℕ) (all whole : List Slot) → n ≡ length slots → all ++ all_slots_by made (drop n slots) (drop n fates) ≡ whole → all ≡ whole
slots_end made slots fates n all whole e was = sym (append-nil all) ∙ sym (ap (λ ss. all ++ all_slots_by made ss (drop n fates)) (none_behind slots n e)) ∙ was
