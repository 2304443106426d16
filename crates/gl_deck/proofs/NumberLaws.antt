-- Numbers given to subcircuits that nothing calls any more, from the number of subcircuits down.
use Rattle.std.proofs.Common.{◌≡◌, ◌+◌, ◌<◌, ◌≤◌, min, ℕ, zero, suc, List, [], ◌∷◌, ◌++◌, length, Option, Some, set, get_or, replicate, refl, sym, ap, subst, ◌∙◌, arith, inl, inr}
use Rattle.std.specs.Prelude.{Contains, ◌⊎◌, slice_get}
use Rattle.gl_text.specs.Decks.{Sub, callees}
use Rattle.gl_deck.specs.Places.{place_in}
use Rattle.gl_deck.specs.CallCounts.{calls_on, calls_from, cards_at, times, uncalled_at}
use Rattle.gl_deck.proofs.CountLaws.{Once, all_open, once, open_calls, open_less, times_last, zeros, zeros_all, zeros_less}

-- one where a subcircuit has a number
abbrev pub numbered : List ℕ → ℕ → ℕ
numbered ranks p = min 1 (get_or ranks p 0)

-- a caller has a greater number than what it calls, where that has one
abbrev pub Ordered : List Sub → List ℕ → Type 0
Ordered subs ranks = (q p : ℕ) (s : Sub) (n : List ℕ) → slice_get subs q ≡ Some s → Contains (callees s.cards) n → place_in subs n ≡ Some p → 0 < get_or ranks p 0 → get_or ranks p 0 < get_or ranks q 0

-- so many have no number yet; calls are counted for these; where nothing calls, one is ready or has a number
pub record IsNumbering (subs : List Sub) (calls ready ranks : List ℕ) (next : ℕ) : Type 0 where
  pub calls_sized : length calls ≡ length subs
  pub sized : length ranks ≡ length subs
  pub left : zeros ranks ≡ next
  pub counted : (p : ℕ) → get_or calls p 0 ≡ open_calls subs subs ranks p
  pub waiting : (p : ℕ) → times p ready + numbered ranks p ≡ uncalled_at calls p
  pub greater : (p : ℕ) → 0 < get_or ranks p 0 → next < get_or ranks p 0
  pub ordered : Ordered subs ranks

pub some_or : (n : ℕ) → (n ≡ 0) ⊎ (0 < n)
some_or zero = inl refl
some_or (suc n) = inr (omega arith)

-- ---- at first

none_yet : (n p : ℕ) → get_or (replicate {A = ℕ} n 0) p 0 ≡ 0
none_yet zero p = refl
none_yet (suc n) zero = refl
none_yet (suc n) (suc p) = none_yet n p

length_of : (n : ℕ) → length (replicate {A = ℕ} n 0) ≡ n
length_of zero = refl
length_of (suc n) = ap suc (length_of n)

begins : (subs : List Sub) (calls ready : List ℕ) → length calls ≡ length subs → ((p : ℕ) → get_or calls p 0 ≡ calls_from subs subs p)
    → ((p : ℕ) → times p ready ≡ uncalled_at calls p) → IsNumbering subs calls ready (replicate (length subs) 0) (length subs)
begins subs calls ready sized counted waiting = record {
  calls_sized = sized;
  sized = length_of (length subs);
  left = zeros_all (length subs);
  counted = λ p. counted p ∙ sym (all_open subs subs (length subs) p refl);
  waiting = λ p. let e = none_yet (length subs) p in let h = waiting p in omega (arith, e, h);
  greater = λ p some. let e = none_yet (length subs) p in absurd (omega (arith, e, some));
  ordered = λ q p s n at called place some. let e = none_yet (length subs) p in absurd (omega (arith, e, some));
}

pub begins_with : (subs : List Sub) (calls ready ranks : List ℕ) (n next : ℕ) → n ≡ length subs → ranks ≡ replicate {A = ℕ} n 0 → next ≡ length subs → length calls ≡ length subs
    → ((p : ℕ) → get_or calls p 0 ≡ calls_from subs subs p) → ((p : ℕ) → times p ready ≡ uncalled_at calls p) → IsNumbering subs calls ready ranks next
begins_with subs calls ready ranks n next size is top sized counted waiting =
    let e : ranks ≡ replicate {A = ℕ} (length subs) 0 = is ∙ ap (λ k. replicate {A = ℕ} k 0) size in
    subst (λ k. IsNumbering subs calls ready ranks k) (sym top) (subst (λ ls. IsNumbering subs calls ready ls (length subs)) (sym e) (begins subs calls ready sized counted waiting))

-- ---- one more number

-- a place that is ready has no number, and nothing calls it
pub record IsReady (subs : List Sub) (calls ranks : List ℕ) (place : ℕ) : Type 0 where
  pub within : place < length subs
  pub uncalled : get_or calls place 0 ≡ 0
  pub none : get_or ranks place 0 ≡ 0

one_within : (xs : List ℕ) (p : ℕ) → get_or xs p 1 ≡ 0 → (p < length xs) × (get_or xs p 0 ≡ 0)
one_within [] p e = absurd (omega (arith, e))
one_within (x ∷ xs) zero e = (omega arith, e)
one_within (x ∷ xs) (suc p) e = let h = one_within xs p e in (let g = h.0 in omega (arith, g), h.1)

pub is_ready : (subs : List Sub) (calls ready all ranks : List ℕ) (next place : ℕ) → IsNumbering subs calls all ranks next → all ≡ ready ++ place ∷ [] → IsReady subs calls ranks place
is_ready subs calls ready all ranks next place is e = by (once place place) where
  by : Once place place → IsReady subs calls ranks place
  by (inl h) =
      let w = is.waiting place in
      let a = ap (times place) e in
      let l = times_last place place ready in
      let one = h.1 in
      let free : get_or calls place 1 ≡ 0 = omega (arith, w, a, l, one) in
      let at = one_within calls place free in
      let low = at.0 in
      let sized = is.calls_sized in
      record { within = omega (arith, low, sized); uncalled = at.1; none = omega (arith, w, a, l, one) }
  by (inr h) = absurd (h.0 refl)

some_left : (ranks : List ℕ) (i : ℕ) → i < length ranks → get_or ranks i 0 ≡ 0 → 1 ≤ zeros ranks
some_left ranks i low none = let h = zeros_less ranks i 1 low none (omega arith) in omega (arith, h)

-- so there is one number more
pub more_left : (subs : List Sub) (calls ready ranks : List ℕ) (next place : ℕ) → IsNumbering subs calls ready ranks next → IsReady subs calls ranks place → 1 ≤ next
more_left subs calls ready ranks next place is at =
    let sized = is.sized in
    let within = at.within in
    let left = is.left in
    let h = some_left ranks place (omega (arith, sized, within)) at.none in
    omega (arith, h, left)

there : {A : Type 0} (xs : List A) (k : ℕ) → k < length xs → (x : A) × (slice_get xs k ≡ Some x)
there [] k h = absurd (omega (arith, h))
there (x ∷ xs) zero h = (x, refl)
there (x ∷ xs) (suc k) h = there xs k (omega (arith, h))

-- its calls go
pub calls_go : (subs : List Sub) (calls ready ranks : List ℕ) (next place p : ℕ) → IsNumbering subs calls ready ranks next → IsReady subs calls ranks place
    → get_or calls p 0 ≡ open_calls subs subs (set ranks place next) p + calls_on subs (cards_at (slice_get subs place)) p
calls_go subs calls ready ranks next place p is at =
    let s = there subs place at.within in
    let sized = is.sized in
    let within = at.within in
    let some = more_left subs calls ready ranks next place is at in
    let less = open_less subs subs ranks place next p s.0 s.1 (omega (arith, sized, within)) at.none (omega (arith, some)) in
    let e : calls_on subs (cards_at (slice_get subs place)) p ≡ calls_on subs s.0.cards p = ap (λ (o : Option Sub). calls_on subs (cards_at o) p) s.1 in
    let c = is.counted p in
    omega (arith, less, e, c)

-- the same of the last of those that are ready
pub last_within : {subs : List Sub} {calls all ranks : List ℕ} {next : ℕ} (ready : List ℕ) (place : ℕ) → IsNumbering subs calls all ranks next → all ≡ ready ++ place ∷ [] → place < length ranks
last_within {subs} {calls} {all} {ranks} {next} ready place is e =
    let at = is_ready subs calls ready all ranks next place is e in
    let within = at.within in
    let sized = is.sized in
    omega (arith, within, sized)

pub last_left : {subs : List Sub} {calls all ranks : List ℕ} {next : ℕ} (ready : List ℕ) (place : ℕ) → IsNumbering subs calls all ranks next → all ≡ ready ++ place ∷ [] → 1 ≤ next
last_left {subs} {calls} {all} {ranks} {next} ready place is e = more_left subs calls all ranks next place is (is_ready subs calls ready all ranks next place is e)

pub last_enough : {subs : List Sub} {calls all ranks : List ℕ} {next : ℕ} (ready : List ℕ) (place p : ℕ) → IsNumbering subs calls all ranks next → all ≡ ready ++ place ∷ []
    → calls_on subs (cards_at (slice_get subs place)) p ≤ get_or calls p 0
last_enough {subs} {calls} {all} {ranks} {next} ready place p is e =
    let h = calls_go subs calls all ranks next place p is (is_ready subs calls ready all ranks next place is e) in omega (arith, h)
