-- How often subcircuits are called: by some cards, by all subcircuits, and by those that have no number yet.
use Rattle.std.proofs.Common.{◌≡◌, ◌≢◌, ◌+◌, ◌<◌, ◌≤◌, ℕ, zero, suc, List, [], ◌∷◌, ◌++◌, length, cond, eqb, Bool, true, false, Option, Some, None, set, get_or, replicate, refl, sym, ap, subst, ◌∙◌, arith, inl, inr}
use Rattle.std.specs.Prelude.{Contains, ◌⊎◌, slice_get}
use Rattle.std.proofs.lemmas.Bool.{cases_Bool, eqb-true, eq-eqb}
use Rattle.std.proofs.lemmas.List.Sums.{sum_by-append, sum_by-cons}
use Rattle.gl_text.specs.Decks.{Sub, Body, dev_at, call_at, callees}
use Rattle.gl_text.specs.Cards.{Device}
use Rattle.gl_deck.specs.Places.{place_in, place_called}
use Rattle.gl_deck.specs.CallCounts.{is_place, calls_on, calls_from, times}
use Rattle.gl_lists.proofs.Membership.{in_head, in_tail, in_none}

-- ---- places

single : (p q : ℕ) → times p (q ∷ []) ≡ cond (eqb p q) 1 0 + 0
single p q = sum_by-cons (λ r. cond (eqb p r) 1 0) q []

single_by : (p q : ℕ) (b : Bool) → eqb p q ≡ b → times p (q ∷ []) ≡ cond b 1 0
single_by p q true e = let h = single p q in let f : cond (eqb p q) 1 0 ≡ suc zero = ap (λ b. cond b 1 0) e in omega (arith, h, f)
single_by p q false e = let h = single p q in let f : cond (eqb p q) 1 0 ≡ zero = ap (λ b. cond b 1 0) e in omega (arith, h, f)

-- a place stands once where it is, and nowhere else
abbrev pub Once : ℕ → ℕ → Type 0
Once p q = ((p ≡ q) × (times p (q ∷ []) ≡ 1)) ⊎ ((p ≢ q) × (times p (q ∷ []) ≡ 0))

pub once : (p q : ℕ) → Once p q
once p q = elim (cases_Bool (eqb p q)) [
  | inl e ↦ inl (eqb-true p q e, single_by p q true e)
  | inr e ↦ inr ((λ f. absurd (let g : eqb p q ≡ true = eq-eqb p q f in cc)), single_by p q false e)
]

-- behind other places
pub times_last : (p q : ℕ) (ps : List ℕ) → times p (ps ++ q ∷ []) ≡ times p ps + times p (q ∷ [])
times_last p q ps = sum_by-append (λ r. cond (eqb p r) 1 0) ps (q ∷ [])

-- ---- some cards

card_more : (subs : List Sub) (card : Body) (cards : List Body) (p : ℕ) → calls_on subs (card ∷ cards) p ≡ cond (is_place p (place_called subs card)) 1 0 + calls_on subs cards p
card_more subs card cards p = sum_by-cons (λ b. cond (is_place p (place_called subs b)) 1 0) card cards

dev_more : (subs : List Sub) (line : ℕ) (d : Device) (cards : List Body) (p : ℕ) → calls_on subs (dev_at line d ∷ cards) p ≡ calls_on subs cards p
dev_more subs line d cards p = let h = card_more subs (dev_at line d) cards p in omega (arith, h)

pub called_some : (subs : List Sub) (cards : List Body) (n : List ℕ) (p : ℕ) → Contains (callees cards) n → place_in subs n ≡ Some p → 1 ≤ calls_on subs cards p
called_some subs [] n p i e = absurd (in_none n i)
called_some subs (dev_at line d ∷ cards) n p i e = let h = called_some subs cards n p i e in let m = dev_more subs line d cards p in omega (arith, h, m)
called_some subs (call_at line c ∷ cards) n p (zero, lt, f) e =
    let here : place_in subs c.sub ≡ Some p = ap (place_in subs) f ∙ e in
    let one : cond (is_place p (place_in subs c.sub)) 1 0 ≡ suc zero = ap (λ (o : Option ℕ). cond (is_place p o) 1 0) here ∙ ap (λ b. cond b 1 0) (eq-eqb p p refl) in
    let m = card_more subs (call_at line c) cards p in
    omega (arith, one, m)
called_some subs (call_at line c ∷ cards) n p (suc k, lt, f) e = let h = called_some subs cards n p (k, omega (arith, lt), f) e in let m = card_more subs (call_at line c) cards p in omega (arith, h, m)

-- a name that these cards call, and that stands at a place
abbrev pub Calls : List Sub → List Body → ℕ → Type 0
Calls subs cards p = (n : List ℕ) × (Contains (callees cards) n) × (place_in subs n ≡ Some p)

some_by : (subs : List Sub) (n : List ℕ) (cards : List Body) (p : ℕ) (o : Option ℕ) (b : Bool) → place_in subs n ≡ o → is_place p o ≡ b → (1 ≤ calls_on subs cards p → Calls subs cards p)
    → 1 ≤ cond b 1 0 + calls_on subs cards p → (m : List ℕ) × (Contains (n ∷ callees cards) m) × (place_in subs m ≡ Some p)
some_by subs n cards p None true e f later h = absurd cc
some_by subs n cards p (Some q) true e f later h = let g = eqb-true p q f in (n, in_head n (callees cards), e ∙ ap (λ k. Some k) (sym g))
some_by subs n cards p o false e f later h = let g = later (omega (arith, h)) in (g.0, in_tail n (callees cards) g.0 g.1, g.2)

pub some_called : (subs : List Sub) (cards : List Body) (p : ℕ) → 1 ≤ calls_on subs cards p → Calls subs cards p
some_called subs [] p h = absurd (omega (arith, h))
some_called subs (dev_at line d ∷ cards) p h = some_called subs cards p (let m = dev_more subs line d cards p in omega (arith, h, m))
some_called subs (call_at line c ∷ cards) p h =
    some_by subs c.sub cards p (place_in subs c.sub) (is_place p (place_in subs c.sub)) refl refl (some_called subs cards p) (let m = card_more subs (call_at line c) cards p in omega (arith, h, m))

-- ---- subcircuits that have no number yet

pub open_calls : List Sub → List Sub → List ℕ → ℕ → ℕ
open_calls subs [] ranks p = 0
open_calls subs (s ∷ ss) [] p = 0
open_calls subs (s ∷ ss) (zero ∷ ranks) p = calls_on subs s.cards p + open_calls subs ss ranks p
open_calls subs (s ∷ ss) (suc l ∷ ranks) p = open_calls subs ss ranks p

-- at first none has one
pub all_open : (subs ss : List Sub) (n p : ℕ) → length ss ≡ n → open_calls subs ss (replicate n 0) p ≡ calls_from subs ss p
unfolding open_calls
all_open subs [] n p e = refl
all_open subs (s ∷ ss) zero p e = absurd (omega arith)
all_open subs (s ∷ ss) (suc n) p e =
    ap (λ k. calls_on subs s.cards p + k) (all_open subs ss n p (omega arith)) ∙ sym (sum_by-cons (λ (u : Sub). calls_on subs u.cards p) s ss)

-- one more that gets a number takes its calls away
pub open_less : (subs ss : List Sub) (ranks : List ℕ) (i l p : ℕ) (s : Sub) → slice_get ss i ≡ Some s → i < length ranks → get_or ranks i 0 ≡ 0 → 0 < l
    → open_calls subs ss ranks p ≡ open_calls subs ss (set ranks i l) p + calls_on subs s.cards p
unfolding open_calls
open_less subs [] ranks i l p s at low none some = absurd cc
open_less subs (u ∷ ss) [] i l p s at low none some = absurd (omega (arith, low))
open_less subs (u ∷ ss) (zero ∷ ranks) zero zero p s at low none some = absurd (omega (arith, some))
open_less subs (u ∷ ss) (zero ∷ ranks) zero (suc l) p s at low none some =
    let same : u ≡ s = cc in
    let e : calls_on subs u.cards p ≡ calls_on subs s.cards p = ap (λ (v : Sub). calls_on subs v.cards p) same in
    omega (arith, e)
open_less subs (u ∷ ss) (suc m ∷ ranks) zero l p s at low none some = absurd (omega (arith, none))
open_less subs (u ∷ ss) (zero ∷ ranks) (suc i) l p s at low none some =
    let h = open_less subs ss ranks i l p s at (omega (arith, low)) none some in omega (arith, h)
open_less subs (u ∷ ss) (suc m ∷ ranks) (suc i) l p s at low none some = open_less subs ss ranks i l p s at (omega (arith, low)) none some

-- one that has none counts
pub open_some : (subs ss : List Sub) (ranks : List ℕ) (q p : ℕ) (s : Sub) (n : List ℕ) → slice_get ss q ≡ Some s → q < length ranks → get_or ranks q 0 ≡ 0
    → Contains (callees s.cards) n → place_in subs n ≡ Some p → 1 ≤ open_calls subs ss ranks p
unfolding open_calls
open_some subs [] ranks q p s n at low none called place = absurd cc
open_some subs (u ∷ ss) [] q p s n at low none called place = absurd (omega (arith, low))
open_some subs (u ∷ ss) (zero ∷ ranks) zero p s n at low none called place =
    let same : s ≡ u = cc in
    let h = called_some subs u.cards n p (subst (λ (v : Sub). Contains (callees v.cards) n) same called) place in
    omega (arith, h)
open_some subs (u ∷ ss) (suc m ∷ ranks) zero p s n at low none called place = absurd (omega (arith, none))
open_some subs (u ∷ ss) (zero ∷ ranks) (suc q) p s n at low none called place =
    let h = open_some subs ss ranks q p s n at (omega (arith, low)) none called place in omega (arith, h)
open_some subs (u ∷ ss) (suc m ∷ ranks) (suc q) p s n at low none called place = open_some subs ss ranks q p s n at (omega (arith, low)) none called place

-- a caller that has none
pub record OpenCall (subs ss : List Sub) (ranks : List ℕ) (p : ℕ) : Type 0 where
  pub place : ℕ
  pub caller : Sub
  pub at : slice_get ss place ≡ Some caller
  pub none : get_or ranks place 0 ≡ 0
  pub calls : Calls subs caller.cards p

behind : (subs ss : List Sub) (u : Sub) (l : ℕ) (ranks : List ℕ) (p : ℕ) → OpenCall subs ss ranks p → OpenCall subs (u ∷ ss) (l ∷ ranks) p
behind subs ss u l ranks p h = record { place = suc h.place; caller = h.caller; at = h.at; none = h.none; calls = h.calls }

first_or : (a b : ℕ) → 1 ≤ a + b → (1 ≤ a) ⊎ (1 ≤ b)
first_or zero b h = inr (omega (arith, h))
first_or (suc a) b h = inl (omega arith)

found_by : (subs ss : List Sub) (u : Sub) (ranks : List ℕ) (p : ℕ) → (1 ≤ open_calls subs ss ranks p → OpenCall subs ss ranks p) → (1 ≤ calls_on subs u.cards p) ⊎ (1 ≤ open_calls subs ss ranks p) → OpenCall subs (u ∷ ss) (zero ∷ ranks) p
found_by subs ss u ranks p later (inl h) = record { place = 0; caller = u; at = refl; none = refl; calls = some_called subs u.cards p h }
found_by subs ss u ranks p later (inr h) = behind subs ss u zero ranks p (later h)

-- where one counts, there is one
pub open_found : (subs ss : List Sub) (ranks : List ℕ) (p : ℕ) → 1 ≤ open_calls subs ss ranks p → OpenCall subs ss ranks p
unfolding open_calls
open_found subs [] ranks p h = absurd (omega (arith, h))
open_found subs (u ∷ ss) [] p h = absurd (omega (arith, h))
open_found subs (u ∷ ss) (zero ∷ ranks) p h = found_by subs ss u ranks p (open_found subs ss ranks p) (first_or (calls_on subs u.cards p) (open_calls subs ss ranks p) h)
open_found subs (u ∷ ss) (suc m ∷ ranks) p h = behind subs ss u (suc m) ranks p (open_found subs ss ranks p h)

-- ---- how many have none

pub zeros : List ℕ → ℕ
zeros [] = 0
zeros (zero ∷ ranks) = suc (zeros ranks)
zeros (suc l ∷ ranks) = zeros ranks

pub zeros_all : (n : ℕ) → zeros (replicate n 0) ≡ n
unfolding zeros
zeros_all zero = refl
zeros_all (suc n) = ap suc (zeros_all n)

pub zeros_less : (ranks : List ℕ) (i l : ℕ) → i < length ranks → get_or ranks i 0 ≡ 0 → 0 < l → zeros ranks ≡ suc (zeros (set ranks i l))
unfolding zeros
zeros_less [] i l low none some = absurd (omega (arith, low))
zeros_less (zero ∷ ranks) zero zero low none some = absurd (omega (arith, some))
zeros_less (zero ∷ ranks) zero (suc l) low none some = refl
zeros_less (suc m ∷ ranks) zero l low none some = absurd (omega (arith, none))
zeros_less (zero ∷ ranks) (suc i) l low none some = ap suc (zeros_less ranks i l (omega (arith, low)) none some)
zeros_less (suc m ∷ ranks) (suc i) l low none some = zeros_less ranks i l (omega (arith, low)) none some
