-- A job whose outputs are written, when they were made.
use Rattle.std.proofs.Common.{◌≡◌, ◌≢◌, ℕ, List, [], ◌∷◌, map, Option, refl}
use Rattle.std.specs.List.{AllByRecursion}
use Rattle.gl_desk.specs.declared.slot.Slot.{Slot}
use Rattle.gl_desk.specs.declared.slot.Slot.TheVariants.{Says}
use Rattle.gl_desk.specs.Desk.{View, IsOutput, NamesSame}
use Rattle.gl_job.specs.Texts.{End}
use Rattle.gl_job.specs.Runs.{Run, Opening, run_of, IsApart}
use Rattle.gl_job.specs.Courses.{Course, Writes, Ends, Makes}
use Rattle.gl_job.specs.Claims.{IsProper}
use Rattle.gl_job.proofs.Same.{ends_of_made}

pub finished_all : {D : Type 0} (shows : D → Slot → View) (holds : D → Slot → List ℕ → Option (List ℕ)) (wants : D → Slot → Option (List ℕ)) (old mid new : D)
    (c : Course) (outs : List Opening) (texts : List (List ℕ)) (end : End) → IsProper c → AllByRecursion (λ (o : Opening). IsOutput o.slot × (o.slot ≢ Says)) outs → NamesSame holds wants old mid
    → ((slot : Slot) → IsApart slot (map (λ (o : Opening). o.slot) outs) → shows new slot ≡ shows mid slot)
    → Makes [] c outs texts (run_of shows holds wants old mid)
    → Writes outs texts [] end (run_of shows holds wants mid new)
    → Ends [] c end (run_of shows holds wants old new)
finished_all shows holds wants old mid new c outs texts end proper outputs names others made writes =
    ends_of_made [] c outs texts end (run_of shows holds wants old mid) (run_of shows holds wants mid new) (run_of shows holds wants old new) (record {
      begins = λ slot. refl;
      meets = λ slot. refl;
      ends = λ slot. refl;
      held = λ slot word. refl;
      wanted = λ slot. refl;
      wanted_later = λ slot. names.same_wants slot;
    }) proper outputs tt others made writes

pub finished : {D : Type 0} (shows : D → Slot → View) (holds : D → Slot → List ℕ → Option (List ℕ)) (wants : D → Slot → Option (List ℕ)) (old mid new : D)
    (c : Course) (o : Opening) (text : List ℕ) (end : End) → IsProper c → IsOutput o.slot → o.slot ≢ Says → NamesSame holds wants old mid
    → ((slot : Slot) → IsApart slot (o.slot ∷ []) → shows new slot ≡ shows mid slot)
    → Makes [] c (o ∷ []) (text ∷ []) (run_of shows holds wants old mid)
    → Writes (o ∷ []) (text ∷ []) [] end (run_of shows holds wants mid new)
    → Ends [] c end (run_of shows holds wants old new)
finished shows holds wants old mid new c o text end proper output quiet names others made writes =
    finished_all shows holds wants old mid new c (o ∷ []) (text ∷ []) end proper ((output, quiet), tt) names others made writes
