-- Slots that a call leaves as they were.
use Rattle.std.proofs.Common.{◌≡◌, ◌≢◌, Bool, false, refl, ap, ◌∙◌}
use Rattle.gl_desk.specs.declared.slot.Slot.{Slot}
use Rattle.gl_desk.specs.declared.slot.Slot.TheVariants.{Deck, Library, Map, Lifted, NewMap, Report, Out, Says}
use Rattle.gl_desk.specs.Desk.{View, OthersSame, IsFresh}
use Rattle.gl_desk.specs.Places.{is_says}

-- where a call is of another slot, a slot stays in use, or free
pub stays_used : {D : Type 0} (shows : D → Slot → View) (old new : D) (slot other : Slot) (used : Bool) → OthersSame shows old new slot → other ≢ slot → (shows old other).used ≡ used → (shows new other).used ≡ used
stays_used shows old new slot other used others away was = ap (λ v. v.used) (others other away) ∙ was

-- where all slots show what they did, a fresh desk stays fresh
pub stays_fresh : {D : Type 0} (shows : D → Slot → View) (old new : D) → ((slot : Slot) → shows new slot ≡ shows old slot) → IsFresh shows old → IsFresh shows new
stays_fresh shows old new same fresh = record {
  free = λ slot away. ap (λ v. v.used) (same slot) ∙ fresh.free slot away;
  says = ap (λ v. v.used) (same Says) ∙ fresh.says;
}

not_says : (slot : Slot) → slot ≢ Says → is_says slot ≡ false
not_says Deck away = refl
not_says Library away = refl
not_says Map away = refl
not_says Lifted away = refl
not_says NewMap away = refl
not_says Report away = refl
not_says Out away = refl
not_says Says away = absurd (away refl)

-- a desk is fresh where just what the program says shows that it is in use
pub is_fresh : {D : Type 0} (shows : D → Slot → View) (desk : D) → ((slot : Slot) → (shows desk slot).used ≡ is_says slot) → IsFresh shows desk
is_fresh shows desk used = record { free = λ slot away. used slot ∙ not_says slot away; says = used Says }
