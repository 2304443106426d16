-- Numbers when nothing is ready any more: no call goes up, and each goes down where no subcircuit leads back to itself.
use Rattle.std.proofs.Common.{◌≡◌, ◌+◌, ◌<◌, ◌≤◌, ℕ, zero, suc, List, [], length, Option, Some, None, get_or, refl, sym, ap, ◌∙◌, arith, inl, inr}
use Rattle.std.specs.Prelude.{Contains, ◌⊎◌, slice_get}
use Rattle.std.specs.List.{AllByRecursion, IsDistinct}
use Rattle.std.proofs.lemmas.Option.{slice_get_within}
use Rattle.gl_text.specs.LogicalLines.{same_text}
use Rattle.gl_text.specs.Decks.{Sub, callees}
use Rattle.gl_text.specs.Levels.{Down}
use Rattle.gl_deck.specs.Bodies.{names_of}
use Rattle.gl_deck.specs.Places.{place_in}
use Rattle.gl_deck.specs.Ranks.{AreRanks, AtMost, HasRank, NoneBack, rank_at, rank_in}
use Rattle.gl_deck.specs.CallCounts.{times}
use Rattle.gl_deck.proofs.Members.{in_at, at_in}
use Rattle.gl_lists.proofs.Each.{each_in, each_from}
use Rattle.gl_deck.proofs.PlaceLaws.{own_place, at_its_place}
use Rattle.gl_deck.proofs.RankLaws.{ranked}
use Rattle.gl_deck.proofs.ReadyLaws.{same_default}
use Rattle.gl_deck.proofs.CountLaws.{OpenCall, open_found}
use Rattle.gl_deck.proofs.NumberLaws.{IsNumbering, Ordered, some_or}

caller_at : (subs : List Sub) (ranks : List ℕ) (s : Sub) → IsDistinct same_text (names_of subs) → Contains subs s → (q : ℕ) × (slice_get subs q ≡ Some s) × (rank_in subs ranks s.head.name ≡ get_or ranks q 0)
caller_at subs ranks s distinct i =
    let at = in_at s subs i in
    (at.0, at.1, ap (rank_at ranks) (own_place subs at.0 s distinct at.1))

not_up_by : (subs : List Sub) (ranks : List ℕ) (q : ℕ) (s : Sub) (n : List ℕ) (o : Option ℕ) → Ordered subs ranks → slice_get subs q ≡ Some s → Contains (callees s.cards) n → place_in subs n ≡ o → rank_at ranks o ≤ get_or ranks q 0
not_up_by subs ranks q s n None ordered at called e = omega arith
not_up_by subs ranks q s n (Some p) ordered at called e = by (some_or (get_or ranks p 0)) where
  by : (get_or ranks p 0 ≡ 0) ⊎ (0 < get_or ranks p 0) → get_or ranks p 0 ≤ get_or ranks q 0
  by (inl f) = omega (arith, f)
  by (inr some) = let h = ordered q p s n at called e some in omega (arith, h)

-- no call goes up
pub none_up : (subs : List Sub) (ranks : List ℕ) → IsDistinct same_text (names_of subs) → Ordered subs ranks → AreRanks subs ranks
none_up subs ranks distinct ordered =
    let rank = rank_in subs ranks in
    each_from (λ (s : Sub). AtMost rank (rank s.head.name) s.cards) subs (λ s i. each_from (λ n. rank n ≤ rank s.head.name) (callees s.cards) (λ n called.
    let at = caller_at subs ranks s distinct i in
    let h = not_up_by subs ranks at.0 s n (place_in subs n) ordered at.1 called refl in
    let e = at.2 in
    omega (arith, h, e)))

-- with nothing ready each that has no number has a caller that has none
open_caller : (subs : List Sub) (calls ready ranks : List ℕ) (next p : ℕ) → IsNumbering subs calls ready ranks next → ready ≡ [] → p < length subs → get_or ranks p 0 ≡ 0 → OpenCall subs subs ranks p
open_caller subs calls ready ranks next p is empty low none =
    let w = is.waiting p in
    let t : times p ready ≡ 0 = ap (times p) empty in
    let c = is.counted p in
    let sized = is.calls_sized in
    let some = same_default calls p (omega (arith, low, sized)) in
    open_found subs subs ranks p (omega (arith, w, t, c, none, some))

-- and its caller has a greater rank, without end
climbs : (subs : List Sub) (calls ready ranks : List ℕ) (next : ℕ) (h : HasRank subs (length subs + 1)) → IsNumbering subs calls ready ranks next → ready ≡ []
    → (k p : ℕ) (s : Sub) → slice_get subs p ≡ Some s → get_or ranks p 0 ≡ 0 → length subs < h.rank s.head.name + k → ⊥
climbs subs calls ready ranks next h is empty zero p s at none big =
    let low = each_in (λ (t : Sub). h.rank t.head.name < length subs + 1) subs s h.below (at_in s subs p at) in omega (arith, low, big)
climbs subs calls ready ranks next h is empty (suc k) p s at none big =
    let o = open_caller subs calls ready ranks next p is empty (slice_get_within subs p s at) none in
    let own = each_in (λ (t : Sub). AllByRecursion (λ n. h.rank n < h.rank t.head.name) (callees t.cards)) subs o.caller h.down (at_in o.caller subs o.place o.at) in
    let less = each_in (λ n. h.rank n < h.rank o.caller.head.name) (callees o.caller.cards) o.calls.0 own o.calls.1 in
    let there = at_its_place subs o.calls.0 p o.calls.2 in
    let same : there.0 ≡ s = cc in
    let name : h.rank s.head.name ≡ h.rank o.calls.0 = ap (λ (t : Sub). h.rank t.head.name) (sym same) ∙ ap h.rank there.2 in
    climbs subs calls ready ranks next h is empty k o.place o.caller o.at o.none (omega (arith, less, name, big))

-- so where no subcircuit leads back to itself, each has a number
all_numbered : (subs : List Sub) (calls ready ranks : List ℕ) (next : ℕ) → IsNumbering subs calls ready ranks next → ready ≡ [] → NoneBack subs → (p : ℕ) (s : Sub) → slice_get subs p ≡ Some s → 0 < get_or ranks p 0
all_numbered subs calls ready ranks next is empty none p s at = by (some_or (get_or ranks p 0)) where
  by : (get_or ranks p 0 ≡ 0) ⊎ (0 < get_or ranks p 0) → 0 < get_or ranks p 0
  by (inl e) = absurd (climbs subs calls ready ranks next (ranked subs none) is empty (length subs + 1) p s at e (omega arith))
  by (inr some) = some

down_by : (subs : List Sub) (ranks : List ℕ) (q : ℕ) (s : Sub) (n : List ℕ) (o : Option ℕ) → Ordered subs ranks → ((p : ℕ) (t : Sub) → slice_get subs p ≡ Some t → 0 < get_or ranks p 0)
    → slice_get subs q ≡ Some s → Contains (callees s.cards) n → place_in subs n ≡ o → rank_at ranks o < get_or ranks q 0
down_by subs ranks q s n None ordered all at called e = all q s at
down_by subs ranks q s n (Some p) ordered all at called e =
    let there = at_its_place subs n p e in
    ordered q p s n at called e (all p there.0 there.1)

-- and each call goes down
pub all_down : (subs : List Sub) (calls ready ranks : List ℕ) (next : ℕ) → IsDistinct same_text (names_of subs) → IsNumbering subs calls ready ranks next → ready ≡ [] → NoneBack subs → Down (rank_in subs ranks) subs
all_down subs calls ready ranks next distinct is empty none =
    let rank = rank_in subs ranks in
    each_from (λ (s : Sub). AllByRecursion (λ n. rank n < rank s.head.name) (callees s.cards)) subs (λ s i. each_from (λ n. rank n < rank s.head.name) (callees s.cards) (λ n called.
    let at = caller_at subs ranks s distinct i in
    let h = down_by subs ranks at.0 s n (place_in subs n) is.ordered (all_numbered subs calls ready ranks next is empty none) at.1 called refl in
    let e = at.2 in
    omega (arith, h, e)))
