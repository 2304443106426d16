-- Where no subcircuit leads back to itself, the numbers of subcircuits that each leads to are a rank.
use Rattle.std.proofs.Common.{◌≡◌, ◌<◌, ◌≤◌, ◌+◌, ◌-◌, ℕ, zero, suc, List, [], ◌∷◌, length, cond, Bool, true, false, Option, Some, None, refl, sym, ap, subst, ◌∙◌, arith, inl, inr}
use Rattle.std.specs.Prelude.{Contains, ◌⊎◌, map, filter, flat_map, IfSome, IsSome}
use Rattle.std.proofs.lemmas.List.Elements.{Contains-append_left}
use Rattle.std.specs.List.{AllByRecursion}
use Rattle.gl_text.specs.LogicalLines.{same_text}
use Rattle.gl_text.specs.Decks.{Sub, callees, find_sub, step, steps, reaches}
use Rattle.gl_deck.specs.Ranks.{NoneBack, AllThere, HasRank}
use Rattle.gl_text.proofs.Names.{exact, itself}
use Rattle.gl_deck.proofs.Members.{in_one, is_in_from}
use Rattle.gl_lists.proofs.Each.{each_in, each_from}
use Rattle.gl_lists.proofs.Membership.{in_head, in_tail, in_none, in_map, in_filter, from_filter, in_any}
use Rattle.gl_deck.proofs.ReachLaws.{names_on, on, filter_short, grow, some_of, Settled, settled, keeps, called_found, all_found}

-- ---- what a name finds

found_by : (b : Bool) (s : Sub) (subs : List Sub) (name : List ℕ) (t : Sub) (o : Option Sub) → same_text s.head.name name ≡ b
    → (o ≡ Some t → (Contains subs t) × (t.head.name ≡ name)) → cond b (Some s) o ≡ Some t → (Contains (s ∷ subs) t) × (t.head.name ≡ name)
found_by true s subs name t o test later e =
    let same : t ≡ s = cc in
    ((0, omega arith, sym same), ap (λ (u : Sub). u.head.name) same ∙ exact s.head.name name test)
found_by false s subs name t o test later e = let g = later e in (in_tail s subs t g.0, g.1)

-- it is among the subcircuits, and has the name
pub found_in : (subs : List Sub) (name : List ℕ) (t : Sub) → find_sub subs name ≡ Some t → (Contains subs t) × (t.head.name ≡ name)
found_in [] name t e = absurd cc
found_in (s ∷ subs) name t e = found_by (same_text s.head.name name) s subs name t (find_sub subs name) refl (found_in subs name t) e

there_by : (b : Bool) (s : Sub) (o : Option Sub) → (b ≡ false → (t : Sub) × (o ≡ Some t)) → (t : Sub) × (cond b (Some s) o ≡ Some t)
there_by true s o h = (s, refl)
there_by false s o h = h refl

-- the name of a subcircuit finds one
pub found_there : (subs : List Sub) (s : Sub) → Contains subs s → (t : Sub) × (find_sub subs s.head.name ≡ Some t)
found_there [] s h = absurd (in_none s h)
found_there (u ∷ subs) s (zero, lt, e) =
    let same : same_text u.head.name s.head.name ≡ true = ap (λ (v : Sub). same_text u.head.name v.head.name) (sym e) ∙ itself u.head.name in
    there_by (same_text u.head.name s.head.name) u (find_sub subs s.head.name) (λ f. absurd cc)
found_there (u ∷ subs) s (suc k, lt, e) = there_by (same_text u.head.name s.head.name) u (find_sub subs s.head.name) (λ f. found_there subs s (k, omega (arith, lt), e))

-- ---- what a subcircuit leads to

abbrev led : List Sub → Sub → List Sub
led subs t = steps subs (length subs) (t ∷ [])

picked : (subs : List Sub) (n : ℕ) (found : List Sub) → (p : Sub → Bool) × (steps subs (suc n) found ≡ filter p subs)
picked subs zero found = (on found, refl)
picked subs (suc n) found = picked subs n (step subs found)

-- it is some of the subcircuits, in their order
led_picked : (subs : List Sub) (t : Sub) → Contains subs t → (p : Sub → Bool) × (led subs t ≡ filter p subs)
led_picked subs t i = by (length subs) refl where
  by : (n : ℕ) → length subs ≡ n → (p : Sub → Bool) × (steps subs n (t ∷ []) ≡ filter p subs)
  by zero e = absurd (let s = some_of t subs i in omega arith)
  by (suc n) e = picked subs n (t ∷ [])

named_on : (found : List Sub) (s u : Sub) → Contains found u → s.head.name ≡ u.head.name → on found s ≡ true
named_on found s u h e =
    is_in_from s.head.name (names_on found) (Contains-append_left (map (λ (t : Sub). t.head.name) found) (flat_map (λ (t : Sub). callees t.cards) found) s.head.name
    (subst (λ (n : List ℕ). Contains (map (λ (t : Sub). t.head.name) found) n) (sym e) (in_map (λ (t : Sub). t.head.name) found u h)))

-- and all that has its name
led_named : (subs : List Sub) (s t : Sub) → Contains subs s → s.head.name ≡ t.head.name → Contains (led subs t) s
led_named subs s t i e = by (length subs) refl where
  by : (n : ℕ) → length subs ≡ n → Contains (steps subs n (t ∷ [])) s
  by zero f = absurd (let m = some_of s subs i in omega arith)
  by (suc n) f = keeps subs s n (step subs (t ∷ [])) i (in_filter (on (t ∷ [])) subs s i (named_on (t ∷ []) s t (in_head t []) e))

-- what is called leads to no more
led_within : (subs found : List Sub) (t : Sub) → Settled subs found → Contains found t → (u : Sub) → Contains (led subs t) u → Contains found u
led_within subs found t settles i = all_found subs (λ u. Contains found u) (length subs) (t ∷ [])
    (λ u s m j e. subst (λ (f : List Sub). Contains f s) settles (in_filter (on found) subs s j (named_on found s u m e)))
    (λ u s m j called. called_found subs found u s settles m j called)
    (λ u h. subst (λ (v : Sub). Contains found v) (sym (in_one u t h)) i)

fewer_by : (subs ps qs : List Sub) (s t : Sub) → led subs t ≡ ps → Contains qs s → reaches subs t s.head.name ≡ false → (qs ≡ ps) ⊎ (length ps < length qs) → length ps < length qs
fewer_by subs ps qs s t e i not (inl f) =
    let here : Contains (led subs t) s = subst (λ (ss : List Sub). Contains ss s) (f ∙ sym e) i in
    let back : reaches subs t s.head.name ≡ true = in_any (λ (u : Sub). same_text u.head.name s.head.name) (led subs t) s here (itself s.head.name) in
    absurd cc
fewer_by subs ps qs s t e i not (inr lt) = lt

-- a subcircuit that does not lead back to its caller leads to fewer
fewer : (subs : List Sub) (s u t : Sub) → Contains subs s → Contains subs u → s.head.name ≡ u.head.name → Contains subs t → Contains (callees s.cards) t.head.name → reaches subs t s.head.name ≡ false → length (led subs t) < length (led subs u)
fewer subs s u t is iu same it called not =
    let found = led subs u in
    let settles = settled subs u iu in
    let own : Contains found s = led_named subs s u is same in
    let here : Contains found t = called_found subs found s t settles own it called in
    let p = led_picked subs t it in
    let q = led_picked subs u iu in
    let more = grow p.0 q.0 subs (λ v i e.
    let low : Contains (led subs t) v = subst (λ (ss : List Sub). Contains ss v) (sym p.1) (in_filter p.0 subs v i e) in
    let up : Contains (filter q.0 subs) v = subst (λ (ss : List Sub). Contains ss v) q.1 (led_within subs found t settles here v low) in
    let is = from_filter q.0 subs v up in
    is.1) in
    let lt = fewer_by subs (filter p.0 subs) (filter q.0 subs) s t p.1 (subst (λ (ss : List Sub). Contains ss s) q.1 own) not more in
    let a = ap length p.1 in
    let b = ap length q.1 in
    omega (arith, lt, a, b)

-- ---- ranks

abbrev led_at : List Sub → Option Sub → ℕ
led_at subs None = 0
led_at subs (Some t) = length (led subs t)

-- how many subcircuits that of a name leads to, itself counted
abbrev reached : List Sub → List ℕ → ℕ
reached subs name = led_at subs (find_sub subs name)

-- that of a subcircuit's own name
own_reached : (subs : List Sub) (s : Sub) → Contains subs s → (u : Sub) × (Contains subs u) × (s.head.name ≡ u.head.name) × (reached subs s.head.name ≡ length (led subs u))
own_reached subs s i =
    let u = found_there subs s i in
    let at = found_in subs s.head.name u.0 u.1 in
    (u.0, at.0, sym at.1, ap (led_at subs) u.1)

some_reached : (subs : List Sub) (t : Sub) → Contains subs t → 1 ≤ length (led subs t)
some_reached subs t i = some_of t (led subs t) (led_named subs t t i refl)

few_reached : (subs : List Sub) (t : Sub) → Contains subs t → length (led subs t) ≤ length subs
few_reached subs t i = let p = led_picked subs t i in let a = ap length p.1 in let b = filter_short p.0 subs in omega (arith, a, b)

-- what is called reaches fewer than its caller, whether it is there or not
called_by : (subs : List Sub) (s u : Sub) (n : List ℕ) (o : Option Sub) → find_sub subs n ≡ o → Contains subs s → Contains subs u → s.head.name ≡ u.head.name → Contains (callees s.cards) n
    → IfSome o (λ t. reaches subs t s.head.name ≡ false) → led_at subs o < length (led subs u)
called_by subs s u n None e is iu same called not = some_reached subs u iu
called_by subs s u n (Some t) e is iu same called not =
    let at = found_in subs n t e in
    fewer subs s u t is iu same at.0 (subst (λ (m : List ℕ). Contains (callees s.cards) m) (sym at.1) called) not

called_fewer : (subs : List Sub) → NoneBack subs → (s : Sub) → Contains subs s → (n : List ℕ) → Contains (callees s.cards) n → reached subs n < reached subs s.head.name
called_fewer subs none s i n called =
    let u = own_reached subs s i in
    let own = each_in (λ (v : Sub). AllByRecursion (λ m. IfSome (find_sub subs m) (λ t. reaches subs t v.head.name ≡ false)) (callees v.cards)) subs s none i in
    let not = each_in (λ m. IfSome (find_sub subs m) (λ t. reaches subs t s.head.name ≡ false)) (callees s.cards) n own called in
    let lt = called_by subs s u.0 n (find_sub subs n) refl i u.1 u.2 called not in
    let e : reached subs s.head.name ≡ length (led subs u.0) = u.3 in
    omega (arith, lt, e)

reached_low : (subs : List Sub) (s : Sub) → Contains subs s → reached subs s.head.name ≤ length subs
reached_low subs s i = let u = own_reached subs s i in let a = few_reached subs u.0 u.1 in let e : reached subs s.head.name ≡ length (led subs u.0) = u.3 in omega (arith, a, e)

pub ranked : (subs : List Sub) → NoneBack subs → HasRank subs (length subs + 1)
ranked subs none = record {
  rank = reached subs;
  down = each_from (λ (s : Sub). AllByRecursion (λ n. reached subs n < reached subs s.head.name) (callees s.cards)) subs (λ s i. each_from (λ n. reached subs n < reached subs s.head.name) (callees s.cards) (λ n called. called_fewer subs none s i n called));
  below = each_from (λ (s : Sub). reached subs s.head.name < length subs + 1) subs (λ s i. let h = reached_low subs s i in omega (arith, h));
}

-- ---- where each call is of a subcircuit that is there

abbrev others : List Sub → List ℕ → ℕ
others subs name = reached subs name - 1

there_reached : (subs : List Sub) (n : List ℕ) (o : Option Sub) → find_sub subs n ≡ o → IsSome o → 1 ≤ led_at subs o
there_reached subs n None e h = absurd cc
there_reached subs n (Some t) e h = some_reached subs t ((found_in subs n t e).0)

others_fewer : (subs : List Sub) → NoneBack subs → AllThere subs → (s : Sub) → Contains subs s → (n : List ℕ) → Contains (callees s.cards) n → others subs n < others subs s.head.name
others_fewer subs none there s i n called =
    let own = each_in (λ (v : Sub). AllByRecursion (λ m. IsSome (find_sub subs m)) (callees v.cards)) subs s there i in
    let is = each_in (λ m. IsSome (find_sub subs m)) (callees s.cards) n own called in
    let lt = called_fewer subs none s i n called in
    let some = there_reached subs n (find_sub subs n) refl is in
    omega (arith, lt, some)

pub ranked_below : (subs : List Sub) → NoneBack subs → AllThere subs → HasRank subs (length subs)
ranked_below subs none there = record {
  rank = others subs;
  down = each_from (λ (s : Sub). AllByRecursion (λ n. others subs n < others subs s.head.name) (callees s.cards)) subs (λ s i. each_from (λ n. others subs n < others subs s.head.name) (callees s.cards) (λ n called. others_fewer subs none there s i n called));
  below = each_from (λ (s : Sub). others subs s.head.name < length subs) subs (λ s i. let h = reached_low subs s i in let m = some_of s subs i in omega (arith, h, m));
}
