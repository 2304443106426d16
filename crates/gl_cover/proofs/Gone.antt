-- The picks of the instances that were gone through are the choice for them.
use Rattle.std.proofs.Common.{◌≡◌, ◌∙◌, ◌+◌, ◌<◌, ◌≤◌, ◌++◌, ◌∷◌, [], ℕ, List, Option, None, Some, true, cond, length, get_or, refl, sym, ap, subst, arith, append_assoc, inl, inr}
use Rattle.std.specs.Prelude.{fold, slice_get}
use Rattle.std.specs.List.{count_by}
use Rattle.std.proofs.lemmas.Bool.{both_ways, cases_lt}
use Rattle.std.proofs.lemmas.List.{append-nil, get_or_append_left, get_or_push, length_push, take-append-le, take_at}
use Rattle.std.proofs.lemmas.List.Sums.{sum_by_push}
use Rattle.std.proofs.lemmas.Option.{slice_get_within}
use Rattle.gl_match.specs.declared.role.Pick.{Pick}
use Rattle.gl_match.specs.declared.role.Pick.TheVariants.{Taken, Over}
use Rattle.gl_match.specs.Choice.{IsChosen, IsNext, IsOver, IsPicked, is_taken, joined, set_at}
use Rattle.gl_match.specs.Picks.{chosen_after, chosen_after_all, first_that, meets, over_or, pick_after, picks_after, picks_by_list}
use Rattle.gl_cover.proofs.OneMore.{pick_cases, pick_new, pick_old, set_new, set_old}
use Rattle.gl_cover.proofs.Shared.{Share, first_passes, meets_if, meets_says, none_passes}

-- the picks of some sets are the choice, and the chosen ones are those that are taken
pub record IsGone (first : ℕ) (sets : List (List ℕ)) (picks : List Pick) (chosen : List (List ℕ)) : Type 0 where
  pub as_many : length picks ≡ length sets
  pub each : (i : ℕ) (pick : Pick) → slice_get picks i ≡ Some pick → IsPicked first sets picks i pick
  pub count : count_by is_taken picks ≡ length chosen
  pub placed : (j k : ℕ) → IsChosen picks j k → (m : ℕ) × (k ≡ first + m) × (m < length chosen) × (get_or chosen m [] ≡ set_at sets j)
  pub found : (m : ℕ) → m < length chosen → (j : ℕ) × IsChosen picks j (first + m) × (set_at sets j ≡ get_or chosen m [])

-- an earlier pick stays right, where one more that is chosen has a greater number
old_kept : (first : ℕ) (sets : List (List ℕ)) (picks : List Pick) (chosen : List (List ℕ)) (set : List ℕ) (p : Pick) → IsGone first sets picks chosen → ((k : ℕ) → p ≡ Taken k → first + length chosen ≤ k) → (i : ℕ) (q : Pick) → i < length picks → IsPicked first sets picks i q → IsPicked first (sets ++ set ∷ []) (picks ++ p ∷ []) i q
old_kept first sets picks chosen set p h up i (Taken number) lt old =
    let len = h.as_many in
    let mine : set_at (sets ++ set ∷ []) i ≡ set_at sets i = set_old sets set i (omega (arith, lt, len)) in
    record {
      number_is = old.number_is ∙ ap (λ (ps : List Pick). first + count_by is_taken ps) (sym (take-append-le i picks (p ∷ []) (omega (arith, lt))));
      is_free = λ j k before is meet.
          let there : set_at (sets ++ set ∷ []) j ≡ set_at sets j = set_old sets set j (omega (arith, lt, len, before)) in
          old.is_free j k before (sym (pick_old picks p j (omega (arith, lt, before))) ∙ is)
          (subst (λ (xs : List ℕ). Share xs (set_at sets j)) mine (subst (λ (ys : List ℕ). Share (set_at (sets ++ set ∷ []) i) ys) there meet));
    }
old_kept first sets picks chosen set p h up i (Over number) lt old =
    let len = h.as_many in
    let mine : set_at (sets ++ set ∷ []) i ≡ set_at sets i = set_old sets set i (omega (arith, lt, len)) in
    let one = old.meets_one in
    let there : set_at (sets ++ set ∷ []) one.0 ≡ set_at sets one.0 = set_old sets set one.0 (omega (arith, lt, len, one.1)) in
    record {
      meets_one = (
        one.0,
        one.1,
        pick_old picks p one.0 (omega (arith, lt, one.1)) ∙ one.2,
        subst (λ (xs : List ℕ). Share xs (set_at (sets ++ set ∷ []) one.0)) (sym mine) (subst (λ (ys : List ℕ). Share (set_at sets i) ys) (sym there) one.3),
      );
      is_lowest = λ j k is meet. elim (pick_cases picks p j (Taken k) is) [
        | inl before ↦
            let same : set_at (sets ++ set ∷ []) j ≡ set_at sets j = set_old sets set j (omega (arith, len, before.0)) in
            old.is_lowest j k before.1 (subst (λ (xs : List ℕ). Share xs (set_at sets j)) mine (subst (λ (ys : List ℕ). Share (set_at (sets ++ set ∷ []) i) ys) same meet))
        | inr new ↦
            let low = h.placed one.0 number one.2 in
            omega (arith, up k new.1, low.1, low.2)
      ];
    }

-- a set that meets none of the chosen ones
next_gone : (first : ℕ) (sets : List (List ℕ)) (picks : List Pick) (chosen : List (List ℕ)) (set : List ℕ) → IsGone first sets picks chosen → first_that (meets set) first chosen ≡ None → IsGone first (sets ++ set ∷ []) (picks ++ Taken (first + length chosen) ∷ []) (chosen ++ set ∷ [])
next_gone first sets picks chosen set h none =
    let n = first + length chosen in
    let p : Pick = Taken n in
    let len = h.as_many in
    let taken_is : (a b : ℕ) → Taken a ≡ Taken b → a ≡ b = λ a b e. cc in
    record {
      as_many = omega (arith, length_push picks p, length_push sets set, len);
      each = λ i q is. elim (pick_cases picks p i q is) [
        | inl old ↦ old_kept first sets picks chosen set p h (λ k e. omega (arith, taken_is n k e)) i q old.0 (h.each i q old.1)
        | inr new ↦
            let mine : set_at (sets ++ set ∷ []) i ≡ set = set_new sets set i (omega (arith, new.0, len)) in
            let right : IsNext first (sets ++ set ∷ []) (picks ++ p ∷ []) i n = record {
              number_is = ap (λ k. first + k) (sym h.count) ∙ ap (λ (ps : List Pick). first + count_by is_taken ps) (sym (take_at picks (p ∷ []) i (sym new.0)));
              is_free = λ j k before chosen_is meet.
                  let low = h.placed j k (sym (pick_old picks p j (omega (arith, before, new.0))) ∙ chosen_is) in
                  let there : set_at (sets ++ set ∷ []) j ≡ get_or chosen low.0 [] = set_old sets set j (omega (arith, before, new.0, len)) ∙ sym low.3 in
                  both_ways (meets set (get_or chosen low.0 [])) (none_passes (meets set) first chosen low.0 none low.2)
                  (meets_if set (get_or chosen low.0 []) (subst (λ (xs : List ℕ). Share xs (get_or chosen low.0 [])) mine (subst (λ (ys : List ℕ). Share (set_at (sets ++ set ∷ []) i) ys) there meet)));
            } in
            subst (λ (r : Pick). IsPicked first (sets ++ set ∷ []) (picks ++ p ∷ []) i r) new.1 right
      ];
      count = omega (arith, sum_by_push (λ (r : Pick). cond (is_taken r) 1 0) picks p, h.count, length_push chosen set);
      placed = λ j k is. elim (pick_cases picks p j (Taken k) is) [
        | inl old ↦
            let low = h.placed j k old.1 in
            (low.0, low.1, omega (arith, low.2, length_push chosen set), get_or_append_left chosen (set ∷ []) [] low.0 low.2 ∙ low.3 ∙ sym (set_old sets set j (omega (arith, old.0, len))))
        | inr new ↦ (length chosen, sym (taken_is n k new.1), omega (arith, length_push chosen set), get_or_push chosen set [] (length chosen) refl ∙ sym (set_new sets set j (omega (arith, new.0, len))))
      ];
      found = λ m lt. elim (cases_lt m (length chosen)) [
        | inl old ↦
            let there = h.found m old in
            let within : there.0 < length picks = slice_get_within picks there.0 (Taken (first + m)) there.1 in
            (there.0, pick_old picks p there.0 within ∙ there.1, set_old sets set there.0 (omega (arith, within, len)) ∙ there.2 ∙ sym (get_or_append_left chosen (set ∷ []) [] m old))
        | inr new ↦
            let last : m ≡ length chosen = omega (arith, new, lt, length_push chosen set) in (
              length picks,
              pick_new picks p ∙ ap (λ k. Some (Taken (first + k))) (sym last),
              set_new sets set (length picks) len ∙ sym (get_or_push chosen set [] m (sym last)),
            )
      ];
    }

-- a set that meets a chosen one
over_gone : (first : ℕ) (sets : List (List ℕ)) (picks : List Pick) (chosen : List (List ℕ)) (set : List ℕ) (number : ℕ) → IsGone first sets picks chosen → first_that (meets set) first chosen ≡ Some number → IsGone first (sets ++ set ∷ []) (picks ++ Over number ∷ []) chosen
over_gone first sets picks chosen set number h some =
    let p : Pick = Over number in
    let len = h.as_many in
    let low = first_passes (meets set) first chosen number some in
    let there = h.found low.0 low.2.within in
    let within : there.0 < length picks = slice_get_within picks there.0 (Taken (first + low.0)) there.1 in
    let not_taken : (k : ℕ) → p ≡ Taken k → ⊥ = λ k e. over_taken number k e in
    record {
      as_many = omega (arith, length_push picks p, length_push sets set, len);
      each = λ i q is. elim (pick_cases picks p i q is) [
        | inl old ↦ old_kept first sets picks chosen set p h (λ k e. absurd (not_taken k e)) i q old.0 (h.each i q old.1)
        | inr new ↦
            let mine : set_at (sets ++ set ∷ []) i ≡ set = set_new sets set i (omega (arith, new.0, len)) in
            let right : IsOver (sets ++ set ∷ []) (picks ++ p ∷ []) i number = record {
              meets_one = (
                there.0,
                omega (arith, within, new.0),
                pick_old picks p there.0 within ∙ there.1 ∙ ap (λ k. Some (Taken k)) (sym low.1),
                subst (λ (xs : List ℕ). Share xs (set_at (sets ++ set ∷ []) there.0)) (sym mine)
                    (subst (λ (ys : List ℕ). Share set ys) (sym (set_old sets set there.0 (omega (arith, within, len)) ∙ there.2)) (meets_says set (get_or chosen low.0 []) low.2.passes)),
              );
              is_lowest = λ j k chosen_is meet. elim (pick_cases picks p j (Taken k) chosen_is) [
                | inl old ↦
                    let other = h.placed j k old.1 in
                    let same : set_at (sets ++ set ∷ []) j ≡ get_or chosen other.0 [] = set_old sets set j (omega (arith, old.0, len)) ∙ sym other.3 in
                    let on : meets set (get_or chosen other.0 []) ≡ true = meets_if set (get_or chosen other.0 []) (subst (λ (xs : List ℕ). Share xs (get_or chosen other.0 [])) mine (subst (λ (ys : List ℕ). Share (set_at (sets ++ set ∷ []) i) ys) same meet)) in
                    elim (cases_lt other.0 low.0) [
                      | inl lt ↦ absurd (both_ways (meets set (get_or chosen other.0 [])) (low.2.before other.0 lt) on)
                      | inr le ↦ omega (arith, low.1, other.1, le)
                    ]
                | inr last ↦ absurd (not_taken k last.1)
              ];
            } in
            subst (λ (r : Pick). IsPicked first (sets ++ set ∷ []) (picks ++ p ∷ []) i r) new.1 right
      ];
      count = omega (arith, sum_by_push (λ (r : Pick). cond (is_taken r) 1 0) picks p, h.count);
      placed = λ j k is. elim (pick_cases picks p j (Taken k) is) [
        | inl old ↦
            let other = h.placed j k old.1 in
            (other.0, other.1, other.2, other.3 ∙ sym (set_old sets set j (omega (arith, old.0, len))))
        | inr last ↦ absurd (not_taken k last.1)
      ];
      found = λ m lt.
          let at = h.found m lt in
          let inside : at.0 < length picks = slice_get_within picks at.0 (Taken (first + m)) at.1 in
          (at.0, pick_old picks p at.0 inside ∙ at.1, set_old sets set at.0 (omega (arith, inside, len)) ∙ at.2);
    }
  where
    over_taken : (a b : ℕ) → Over a ≡ Taken b → ⊥
    over_taken a b e = absurd cc

-- one more set
one_gone : (first : ℕ) (sets : List (List ℕ)) (picks : List Pick) (chosen : List (List ℕ)) (set : List ℕ) → IsGone first sets picks chosen → IsGone first (sets ++ set ∷ []) (picks ++ pick_after first chosen set ∷ []) (chosen_after first chosen set)
one_gone first sets picks chosen set h = of (first_that (meets set) first chosen) refl where
  of : (o : Option ℕ) → first_that (meets set) first chosen ≡ o → IsGone first (sets ++ set ∷ []) (picks ++ over_or o (first + length chosen) ∷ []) (cond (is_taken (over_or o (first + length chosen))) (chosen ++ set ∷ []) chosen)
  of None e = next_gone first sets picks chosen set h e
  of (Some number) e = over_gone first sets picks chosen set number h e

-- more sets
all_gone : (first : ℕ) (sets : List (List ℕ)) (picks : List Pick) (chosen more : List (List ℕ)) → IsGone first sets picks chosen → IsGone first (sets ++ more) (picks ++ picks_after first chosen more) (chosen_after_all first chosen more)
all_gone first sets picks chosen [] h = subst (λ (ss : List (List ℕ)). IsGone first ss (picks ++ []) chosen) (sym (append-nil sets)) (subst (λ (ps : List Pick). IsGone first sets ps chosen) (sym (append-nil picks)) h)
all_gone first sets picks chosen (set ∷ more) h =
    let p = pick_after first chosen set in
    let next = chosen_after first chosen set in
    let rest = all_gone first (sets ++ set ∷ []) (picks ++ p ∷ []) next more (one_gone first sets picks chosen set h) in
    subst (λ (ss : List (List ℕ)). IsGone first ss (picks ++ p ∷ picks_after first next more) (chosen_after_all first next more)) (append_assoc sets (set ∷ []) more)
    (subst (λ (ps : List Pick). IsGone first ((sets ++ set ∷ []) ++ more) ps (chosen_after_all first next more)) (append_assoc picks (p ∷ []) (picks_after first next more)) rest)

-- more lists
lists_gone : (first : ℕ) (sets : List (List ℕ)) (picks : List Pick) (chosen : List (List ℕ)) (lists : List (List (List ℕ))) → IsGone first sets picks chosen → IsGone first (sets ++ joined lists) (picks ++ joined (picks_by_list first chosen lists)) (fold (chosen_after_all first) chosen lists)
lists_gone first sets picks chosen [] h = subst (λ (ss : List (List ℕ)). IsGone first ss (picks ++ []) chosen) (sym (append-nil sets)) (subst (λ (ps : List Pick). IsGone first sets ps chosen) (sym (append-nil picks)) h)
lists_gone first sets picks chosen (more ∷ lists) h =
    let now = picks_after first chosen more in
    let next = chosen_after_all first chosen more in
    let end = fold (chosen_after_all first) next lists in
    let rest = lists_gone first (sets ++ more) (picks ++ now) next lists (all_gone first sets picks chosen more h) in
    subst (λ (ss : List (List ℕ)). IsGone first ss (picks ++ (now ++ joined (picks_by_list first next lists))) end) (append_assoc sets more (joined lists))
    (subst (λ (ps : List Pick). IsGone first ((sets ++ more) ++ joined lists) ps end) (append_assoc picks now (joined (picks_by_list first next lists))) rest)

none_gone : (first : ℕ) → IsGone first [] [] []
none_gone first = record {
  as_many = refl;
  each = λ i pick e. absurd cc;
  count = refl;
  placed = λ j k e. absurd cc;
  found = λ m lt. absurd (omega (arith, lt));
}

pub picks_gone : (first : ℕ) (lists : List (List (List ℕ))) → IsGone first (joined lists) (joined (picks_by_list first [] lists)) (fold (chosen_after_all first) [] lists)
picks_gone first lists = lists_gone first [] [] [] lists (none_gone first)
