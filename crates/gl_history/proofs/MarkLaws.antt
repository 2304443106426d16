-- What chosen instances make of each device, mark by mark.
use Rattle.std.proofs.Common.{◌≡◌, ◌+◌, ◌<◌, ℕ, suc, List, [], ◌∷◌, ◌++◌, length, map, get_or, cond, Bool, true, false, Some, refl, sym, ap, ◌∙◌, subst, arith, inl, inr}
use Rattle.std.specs.Prelude.{◌||◌, flat_map, find}
use Rattle.std.specs.List.{list_any, enumerate_from}
use Rattle.std.proofs.lemmas.Bool.{cases_Bool}
use Rattle.std.proofs.lemmas.List.{length-map, map-append, length-append}
use Rattle.gl_match.specs.Graph.{is_in}
use Rattle.gl_lifting.specs.Replacement.{Slot, is_lowest}
use Rattle.gl_history.specs.declared.fate.Fate.{Fate}
use Rattle.gl_history.specs.declared.fate.Fate.TheVariants.{Stays, Goes, Becomes}
use Rattle.gl_history.specs.Replacing.{Chosen, slot_by, slots_at, slots_after}
use Rattle.gl_history.specs.Marks.{fate_at, gone, becomes, fate_by, fate_from, IsMarked, IsWithin, slots_by, all_slots_by}

-- the devices, and the slots, of chosen instances
abbrev pub sets_of : List Chosen → List (List ℕ)
sets_of chosen = map (λ (c : Chosen). c.set) chosen

abbrev pub made_of : List Chosen → List Slot
made_of chosen = map (λ (c : Chosen). c.slot) chosen

-- ---- one more

-- one set more
fate_more : (dev index : ℕ) (sets : List (List ℕ)) (set : List ℕ) (f : Fate) → fate_from dev index (sets ++ set ∷ []) f ≡ fate_by dev set (index + length sets) (fate_from dev index sets f)
fate_more dev index [] set f = ap (λ i. fate_by dev set i f) (omega arith)
fate_more dev index (s ∷ sets) set f =
    fate_more dev (index + 1) sets set (fate_by dev s index f) ∙ ap (λ i. fate_by dev set i (fate_from dev (index + 1) sets (fate_by dev s index f))) (omega arith)

-- one chosen instance more
pub marked_more : (before : List Chosen) (c : Chosen) (fates marked : List Fate) (slots slots_next : List Slot) (index : ℕ) → IsMarked before fates slots → index ≡ length slots
    → ((dev : ℕ) → fate_at marked dev ≡ fate_by dev c.set index (fate_at fates dev)) → slots_next ≡ slots ++ c.slot ∷ [] → IsMarked (before ++ c ∷ []) marked slots_next
marked_more before c fates marked slots slots_next index m at given s = record {
  fates_are = λ dev.
      let count : index ≡ 0 + length (sets_of before) = omega (arith, at, ap length m.slots_are, length-map before (λ (x : Chosen). x.slot), length-map before (λ (x : Chosen). x.set)) in
      given dev ∙ ap (λ f. fate_by dev c.set index f) (m.fates_are dev) ∙ ap (λ i. fate_by dev c.set i (fate_from dev 0 (sets_of before) Stays)) count ∙ sym (fate_more dev 0 (sets_of before) c.set Stays) ∙ ap (λ ss. fate_from dev 0 ss Stays) (sym (map-append (λ (x : Chosen). x.set) before (c ∷ [])));
  slots_are = s ∙ ap (λ xs. xs ++ c.slot ∷ []) m.slots_are ∙ sym (map-append (λ (x : Chosen). x.slot) before (c ∷ []));
}

-- ---- what becomes of a device

same_either : {X : Type 0} (b : Bool) (x : X) → cond b x x ≡ x
same_either true x = refl
same_either false x = refl

-- one that became a chosen instance stays it
stays_it : (dev index : ℕ) (sets : List (List ℕ)) (k : ℕ) → fate_from dev index sets (Becomes k) ≡ Becomes k
stays_it dev index [] k = refl
stays_it dev index (set ∷ sets) k =
    ap (fate_from dev (index + 1) sets) (ap (λ f. cond (is_lowest dev set) (Becomes k) f) (same_either (is_in set dev) (Becomes k)) ∙ same_either (is_lowest dev set) (Becomes k)) ∙ stays_it dev (index + 1) sets k

-- the slot of a chosen instance that stands behind others
there : (front behind : List Chosen) (c : Chosen) (s : Slot) → get_or (made_of (front ++ c ∷ behind)) (length front) s ≡ c.slot
there [] behind c s = refl
there (x ∷ front) behind c s = there front behind c s

-- the device becomes a chosen instance that stands behind others
becomes_it : (all front behind : List Chosen) (c : Chosen) (dev : ℕ) (s : Slot) → all ≡ front ++ c ∷ behind → slots_by (made_of all) s (fate_from dev (length front + 1) (sets_of behind) (Becomes (length front))) ≡ c.slot ∷ []
becomes_it all front behind c dev s e =
    ap (slots_by (made_of all) s) (stays_it dev (length front + 1) (sets_of behind) (length front)) ∙ ap (λ cs. get_or (made_of cs) (length front) s ∷ []) e ∙ ap (λ t. t ∷ []) (there front behind c s)

append_one : (front behind : List Chosen) (c : Chosen) → front ++ c ∷ behind ≡ (front ++ c ∷ []) ++ behind
append_one [] behind c = refl
append_one (x ∷ front) behind c = ap (λ cs. x ∷ cs) (append_one front behind c)

one_longer : (front : List Chosen) (c : Chosen) → length front + 1 ≡ length (front ++ c ∷ [])
one_longer front c = omega (arith, length-append front (c ∷ []))

abbrev lowest : ℕ → Chosen → Bool
lowest dev c = is_lowest dev c.set

abbrev had : ℕ → Chosen → Bool
had dev c = is_in c.set dev

-- what is so of both answers of a test
by_test : (test b : Bool) (left right : Bool → List Slot) → test ≡ b → left b ≡ right b → left test ≡ right test
by_test test b left right is done = subst (λ x. left x ≡ right x) (sym is) done

-- a device that goes: another chosen instance may yet take its place
goes_on : (all front behind : List Chosen) (dev : ℕ) (s : Slot) → all ≡ front ++ behind → slots_by (made_of all) s (fate_from dev (length front) (sets_of behind) Goes) ≡ slot_by (find (lowest dev) behind) true s
goes_on all front [] dev s e = refl
goes_on all front (c ∷ behind) dev s e =
    let told : Fate → List Slot = λ f. slots_by (made_of all) s (fate_from dev (length front + 1) (sets_of behind) f) in
    let later : told (cond (is_in c.set dev) Goes Goes) ≡ slot_by (find (lowest dev) behind) true s =
    ap told (same_either (is_in c.set dev) Goes)
    ∙ ap (λ n. slots_by (made_of all) s (fate_from dev n (sets_of behind) Goes)) (one_longer front c)
    ∙ goes_on all (front ++ c ∷ []) behind dev s (e ∙ append_one front behind c) in
    let left : Bool → List Slot = λ b. told (cond b (Becomes (length front)) (cond (is_in c.set dev) Goes Goes)) in
    let right : Bool → List Slot = λ b. slot_by (cond b (Some c) (find (lowest dev) behind)) true s in
    elim (cases_Bool (is_lowest dev c.set)) [
      | inl on ↦ by_test (is_lowest dev c.set) true left right on (becomes_it all front behind c dev s e)
      | inr off ↦ by_test (is_lowest dev c.set) false left right off later
    ]

-- a device that stays
stays_on : (all front behind : List Chosen) (dev : ℕ) (s : Slot) → all ≡ front ++ behind → slots_by (made_of all) s (fate_from dev (length front) (sets_of behind) Stays) ≡ slot_by (find (lowest dev) behind) (list_any (had dev) behind) s
stays_on all front [] dev s e = refl
stays_on all front (c ∷ behind) dev s e =
    let told : Fate → List Slot = λ f. slots_by (made_of all) s (fate_from dev (length front + 1) (sets_of behind) f) in
    let next : (f : Fate) → told f ≡ slots_by (made_of all) s (fate_from dev (length (front ++ c ∷ [])) (sets_of behind) f) = λ f. ap (λ n. slots_by (made_of all) s (fate_from dev n (sets_of behind) f)) (one_longer front c) in
    let longer = e ∙ append_one front behind c in
    let gone_now : told Goes ≡ slot_by (find (lowest dev) behind) true s = next Goes ∙ goes_on all (front ++ c ∷ []) behind dev s longer in
    let kept : told Stays ≡ slot_by (find (lowest dev) behind) (list_any (had dev) behind) s = next Stays ∙ stays_on all (front ++ c ∷ []) behind dev s longer in
    let low : Bool → List Slot = λ b. told (cond b Goes Stays) in
    let low_right : Bool → List Slot = λ b. slot_by (find (lowest dev) behind) (b || list_any (had dev) behind) s in
    let inner : low (is_in c.set dev) ≡ low_right (is_in c.set dev) = elim (cases_Bool (is_in c.set dev)) [
      | inl stood ↦ by_test (is_in c.set dev) true low low_right stood gone_now
      | inr free ↦ by_test (is_in c.set dev) false low low_right free kept
    ] in
    let left : Bool → List Slot = λ b. told (cond b (Becomes (length front)) (cond (is_in c.set dev) Goes Stays)) in
    let right : Bool → List Slot = λ b. slot_by (cond b (Some c) (find (lowest dev) behind)) (list_any (had dev) (c ∷ behind)) s in
    elim (cases_Bool (is_lowest dev c.set)) [
      | inl on ↦ by_test (is_lowest dev c.set) true left right on (becomes_it all front behind c dev s e)
      | inr off ↦ by_test (is_lowest dev c.set) false left right off inner
    ]

-- what stands at a place is told by what becomes of the device there
pub place_is : (chosen : List Chosen) (dev : ℕ) (s : Slot) → slots_by (made_of chosen) s (fate_from dev 0 (sets_of chosen) Stays) ≡ slots_at chosen (dev, s)
place_is chosen dev s = stays_on chosen [] chosen dev s refl

-- ---- all devices

-- a device becomes none but one of the chosen instances
within_by : (index : ℕ) (a b : Bool) (f : Fate) → IsWithin index f → IsWithin (index + 1) (cond a (becomes index f) (cond b (gone f) f))
within_by index true b Stays h = omega arith
within_by index true b Goes h = omega arith
within_by index true b (Becomes k) h = omega (arith, h)
within_by index false true Stays h = tt
within_by index false true Goes h = tt
within_by index false true (Becomes k) h = omega (arith, h)
within_by index false false Stays h = tt
within_by index false false Goes h = tt
within_by index false false (Becomes k) h = omega (arith, h)

within_from : (dev index : ℕ) (sets : List (List ℕ)) (f : Fate) → IsWithin index f → IsWithin (index + length sets) (fate_from dev index sets f)
within_from dev index [] f h = subst (λ n. IsWithin n f) (omega arith) h
within_from dev index (set ∷ sets) f h =
    subst (λ n. IsWithin n (fate_from dev (index + 1) sets (fate_by dev set index f))) (omega arith) (within_from dev (index + 1) sets (fate_by dev set index f) (within_by index (is_lowest dev set) (is_in set dev) f h))

-- all that is marked leads to a chosen instance
pub marked_within : (chosen : List Chosen) (fates : List Fate) (slots : List Slot) → IsMarked chosen fates slots → (dev : ℕ) → IsWithin (length slots) (fate_at fates dev)
marked_within chosen fates slots m dev =
    let count : 0 + length (sets_of chosen) ≡ length slots = omega (arith, ap length m.slots_are, length-map chosen (λ (x : Chosen). x.slot), length-map chosen (λ (x : Chosen). x.set)) in
    subst (λ f. IsWithin (length slots) f) (sym (m.fates_are dev)) (subst (λ n. IsWithin n (fate_from dev 0 (sets_of chosen) Stays)) count (within_from dev 0 (sets_of chosen) Stays tt))

places_from : (chosen : List Chosen) (k : ℕ) (slots : List Slot) (fates : List Fate) → length fates ≡ length slots → ((dev : ℕ) → dev < length fates → fate_at fates dev ≡ fate_from (k + dev) 0 (sets_of chosen) Stays)
    → all_slots_by (made_of chosen) slots fates ≡ flat_map (slots_at chosen) (enumerate_from k slots)
places_from chosen k [] fates long h = refl
places_from chosen k (s ∷ slots) [] long h = absurd (omega (arith, long))
places_from chosen k (s ∷ slots) (f ∷ fates) long h =
    let first : f ≡ fate_from k 0 (sets_of chosen) Stays = h 0 (omega arith) ∙ ap (λ n. fate_from n 0 (sets_of chosen) Stays) (omega arith) in
    let here : slots_by (made_of chosen) s f ≡ slots_at chosen (k, s) = ap (slots_by (made_of chosen) s) first ∙ place_is chosen k s in
    let later = places_from chosen (k + 1) slots fates (omega (arith, long)) (λ dev lt. h (suc dev) (omega (arith, lt)) ∙ ap (λ n. fate_from n 0 (sets_of chosen) Stays) (omega arith)) in
    (λ i. here i ++ later i)

-- the slots that fates tell are those behind the round
pub slots_are_after : (chosen : List Chosen) (slots made : List Slot) (fates : List Fate) → length fates ≡ length slots → IsMarked chosen fates made → all_slots_by made slots fates ≡ slots_after chosen slots
slots_are_after chosen slots made fates long m =
    ap (λ ms. all_slots_by ms slots fates) m.slots_are
    ∙ places_from chosen 0 slots fates long (λ dev lt. m.fates_are dev ∙ ap (λ n. fate_from n 0 (sets_of chosen) Stays) (omega arith))
