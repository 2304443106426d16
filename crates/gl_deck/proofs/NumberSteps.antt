-- One number more.
use Rattle.std.proofs.Common.{◌≡◌, ◌≢◌, ◌+◌, ◌-◌, ◌<◌, ◌≤◌, ℕ, List, [], ◌∷◌, ◌++◌, length, Some, set, get_or, ap, ◌∙◌, arith, inl, inr}
use Rattle.std.specs.Prelude.{Contains, ◌⊎◌, slice_get}
use Rattle.std.proofs.lemmas.List.{get_or-set_same, get_or-set_other, length-set}
use Rattle.std.proofs.lemmas.Option.{slice_get_within}
use Rattle.gl_text.specs.Decks.{Sub, callees}
use Rattle.gl_deck.specs.Places.{place_in}
use Rattle.gl_deck.specs.CallCounts.{calls_on, cards_at, times, uncalled_at}
use Rattle.gl_deck.proofs.CountLaws.{Once, once, open_some, times_last, zeros_less}
use Rattle.gl_deck.proofs.NumberLaws.{IsNumbering, IsReady, calls_go, is_ready, more_left, numbered, some_or}

-- a number is the new one or an old one
abbrev Then : List ℕ → ℕ → ℕ → ℕ → Type 0
Then ranks place next p = ((p ≡ place) × (get_or (set ranks place next) p 0 ≡ next)) ⊎ ((p ≢ place) × (get_or (set ranks place next) p 0 ≡ get_or ranks p 0))

rank_then : (ranks : List ℕ) (place next p : ℕ) → place < length ranks → Then ranks place next p
rank_then ranks place next p low = by (once p place) where
  by : Once p place → Then ranks place next p
  by (inl h) = inl (h.0, ap (λ k. get_or (set ranks place next) k 0) h.0 ∙ get_or-set_same ranks place next 0 low)
  by (inr h) = inr (h.0, get_or-set_other ranks place p next 0 h.0)

numbered_then : (ranks : List ℕ) (place next p : ℕ) → place < length ranks → get_or ranks place 0 ≡ 0 → 1 ≤ next → numbered (set ranks place next) p ≡ numbered ranks p + times p (place ∷ [])
numbered_then ranks place next p low none some = by (once p place) where
  by : Once p place → numbered (set ranks place next) p ≡ numbered ranks p + times p (place ∷ [])
  by (inl h) =
      let new : get_or (set ranks place next) p 0 ≡ next = ap (λ k. get_or (set ranks place next) k 0) h.0 ∙ get_or-set_same ranks place next 0 low in
      let old : get_or ranks p 0 ≡ 0 = ap (λ k. get_or ranks k 0) h.0 ∙ none in
      let one = h.1 in
      omega (arith, new, old, one, some)
  by (inr h) =
      let same = get_or-set_other ranks place p next 0 h.0 in
      let no = h.1 in
      omega (arith, same, no)

greater_then : (ranks : List ℕ) (place next p : ℕ) → ((k : ℕ) → 0 < get_or ranks k 0 → next < get_or ranks k 0) → 1 ≤ next → Then ranks place next p
    → 0 < get_or (set ranks place next) p 0 → next - 1 < get_or (set ranks place next) p 0
greater_then ranks place next p greater some (inl h) has = let e = h.1 in omega (arith, e, some)
greater_then ranks place next p greater some (inr h) has = let e = h.1 in let g = greater p (omega (arith, e, has)) in omega (arith, e, g)

-- a caller of what is ready has a number
caller_numbered : (subs : List Sub) (calls ready ranks : List ℕ) (next place q : ℕ) (s : Sub) (n : List ℕ) → IsNumbering subs calls ready ranks next → IsReady subs calls ranks place
    → slice_get subs q ≡ Some s → Contains (callees s.cards) n → place_in subs n ≡ Some place → next < get_or ranks q 0
caller_numbered subs calls ready ranks next place q s n is at here called place_is = by (some_or (get_or ranks q 0)) where
  by : (get_or ranks q 0 ≡ 0) ⊎ (0 < get_or ranks q 0) → next < get_or ranks q 0
  by (inl e) =
      let low = slice_get_within subs q s here in
      let sized = is.sized in
      let some = open_some subs subs ranks q place s n here (omega (arith, low, sized)) e called place_is in
      let c = is.counted place in
      let free = at.uncalled in
      absurd (omega (arith, some, c, free))
  by (inr some) = is.greater q some

ordered_then : (subs : List Sub) (calls ready ranks : List ℕ) (next place q p : ℕ) (s : Sub) (n : List ℕ) → IsNumbering subs calls ready ranks next → IsReady subs calls ranks place
    → slice_get subs q ≡ Some s → Contains (callees s.cards) n → place_in subs n ≡ Some p → Then ranks place next p → Then ranks place next q
    → 0 < get_or (set ranks place next) p 0 → get_or (set ranks place next) p 0 < get_or (set ranks place next) q 0
ordered_then subs calls ready ranks next place q p s n is at here called place_is (inl h) (inl g) has =
    let k = caller_numbered subs calls ready ranks next place q s n is at here called (place_is ∙ ap (λ m. Some m) h.0) in
    let own : get_or ranks q 0 ≡ 0 = ap (λ m. get_or ranks m 0) g.0 ∙ at.none in
    absurd (omega (arith, k, own))
ordered_then subs calls ready ranks next place q p s n is at here called place_is (inl h) (inr g) has =
    let k = caller_numbered subs calls ready ranks next place q s n is at here called (place_is ∙ ap (λ m. Some m) h.0) in
    let e = h.1 in
    let f = g.1 in
    omega (arith, k, e, f)
ordered_then subs calls ready ranks next place q p s n is at here called place_is (inr h) (inl g) has =
    let e = h.1 in
    let k = is.ordered q p s n here called place_is (omega (arith, e, has)) in
    let own : get_or ranks q 0 ≡ 0 = ap (λ m. get_or ranks m 0) g.0 ∙ at.none in
    absurd (omega (arith, k, own))
ordered_then subs calls ready ranks next place q p s n is at here called place_is (inr h) (inr g) has =
    let e = h.1 in
    let f = g.1 in
    let k = is.ordered q p s n here called place_is (omega (arith, e, has)) in
    omega (arith, k, e, f)

pub advances : (subs : List Sub) (calls ready all ranks fewer more : List ℕ) (next place : ℕ) → IsNumbering subs calls all ranks next → all ≡ ready ++ place ∷ []
    → length fewer ≡ length calls
    → ((p : ℕ) → get_or calls p 0 ≡ get_or fewer p 0 + calls_on subs (cards_at (slice_get subs place)) p)
    → ((p : ℕ) → times p more + uncalled_at calls p ≡ times p ready + uncalled_at fewer p)
    → IsNumbering subs fewer more (set ranks place next) (next - 1)
advances subs calls ready all ranks fewer more next place is e kept less freed =
    let at = is_ready subs calls ready all ranks next place is e in
    let some = more_left subs calls all ranks next place is at in
    let sized = is.sized in
    let within = at.within in
    let low : place < length ranks = omega (arith, sized, within) in
    record {
      calls_sized = kept ∙ is.calls_sized;
      sized = length-set ranks place next ∙ is.sized;
      left = let z = zeros_less ranks place next low at.none (omega (arith, some)) in let l = is.left in omega (arith, z, l);
      counted = λ p. let a = less p in let b = calls_go subs calls all ranks next place p is at in omega (arith, a, b);
      waiting = λ p.
          let a = freed p in
          let b = is.waiting p in
          let c = ap (times p) e ∙ times_last p place ready in
          let d = numbered_then ranks place next p low at.none some in
          omega (arith, a, b, c, d);
      greater = λ p has. greater_then ranks place next p is.greater some (rank_then ranks place next p low) has;
      ordered = λ q p s n here called place_is has. ordered_then subs calls all ranks next place q p s n is at here called place_is (rank_then ranks place next p low) (rank_then ranks place next q low) has;
    }
