-- Counts by places are those by names, and a sum that is cut at a limit says what the limit decides.
use Rattle.std.proofs.Common.{◌≡◌, ◌+◌, ℕ, zero, suc, List, [], ◌∷◌, length, map, cond, ltb, Bool, true, false, Option, Some, None, get_or, refl, sym, ap, ◌∙◌, arith, ltb-false}
use Rattle.std.specs.Prelude.{min, not, sum_by, slice_index, find, unwrap_or, option_map, option_to_list}
use Rattle.std.proofs.Math.Nat.{zero-min}
use Rattle.std.specs.List.{position_or_len}
use Rattle.std.proofs.lemmas.List.{get_or_past, length-map}
use Rattle.std.proofs.lemmas.List.Sums.{sum_by-cons, sum_by-append}
use Rattle.gl_text.specs.LogicalLines.{same_text}
use Rattle.gl_text.specs.Decks.{Body, dev_at, call_at, Sub, callees}
use Rattle.gl_text.specs.Flattening.{size_of, sizes}
use Rattle.gl_deck.specs.Bodies.{names_of}
use Rattle.gl_deck.specs.Places.{place_in, places_of}
use Rattle.gl_text.proofs.Names.{flipped}
use Rattle.gl_size.specs.declared.counted.Counted.{Counted}
use Rattle.gl_size.specs.declared.counted.Counted.TheVariants as counted
use Rattle.gl_size.specs.Counts.{own_of, most_of, counts_of}
use Rattle.gl_size.specs.Tallies.{own_count, tally_of, tallies_of, own_in, count_through}

-- ---- cut sums

-- terms that are cut, and their sum, cut again
pub capped_sum : (f g : ℕ → ℕ) (m : ℕ) (xs : List ℕ) → ((k : ℕ) → g k ≡ min (f k) m) → min (sum_by g xs) m ≡ min (sum_by f xs) m
capped_sum f g m [] h = refl
capped_sum f g m (x ∷ xs) h =
    let rest = capped_sum f g m xs h in
    let here = h x in
    let a = sum_by-cons f x xs in
    let b = sum_by-cons g x xs in
    omega arith

abbrev Table : Type 0
Table = List (List ℕ × ℕ)

abbrev values : Table → List ℕ
values es = map (λ e. e.1) es

cut_at : (m : ℕ) (es : Table) (k : ℕ) → slice_index (map (λ e. min e.1 m) es) k ≡ min (slice_index (values es) k) m
cut_at m [] k = sym (zero-min m)
cut_at m (e ∷ es) zero = refl
cut_at m (e ∷ es) (suc k) = cut_at m es k

-- ---- names and places

-- what stands under a name
abbrev named : Table → List ℕ → ℕ
named es n = unwrap_or (option_map (λ s. s.1) (find (λ s. same_text s.0 n) es)) 0

abbrev placed : Table → Option ℕ → ℕ
placed es place = sum_by (slice_index (values es)) (option_to_list place)

pub up : (k : ℕ) → suc k ≡ 1 + k
up k = omega arith

pub plus : (n : ℕ) → n ≡ 0 + n
plus n = omega arith

named_by : (b : Bool) (e : List ℕ × ℕ) (o : Option (List ℕ × ℕ)) (xs : List ℕ) (k : ℕ) → unwrap_or (option_map (λ s. s.1) o) 0 ≡ get_or xs k 0 → unwrap_or (option_map (λ s. s.1) (cond b (Some e) o)) 0 ≡ get_or (e.1 ∷ xs) (cond (not b) (1 + k) 0) 0
named_by true e o xs k h = refl
named_by false e o xs k h = h ∙ ap (λ j. get_or (e.1 ∷ xs) j 0) (up k)

named_is : (es : Table) (n : List ℕ) → named es n ≡ get_or (values es) (position_or_len (same_text n) (map (λ e. e.0) es)) 0
named_is [] n = refl
named_is (e ∷ es) n =
    let k = position_or_len (same_text n) (map (λ e. e.0) es) in
    named_by (same_text e.0 n) e (find (λ s. same_text s.0 n) es) (values es) k (named_is es n)
    ∙ ap (λ b. get_or (values (e ∷ es)) (cond (not b) (1 + k) 0) 0) (flipped e.0 n)

placed_by : (b : Bool) (xs : List ℕ) (k : ℕ) → (b ≡ false → get_or xs k 0 ≡ 0) → get_or xs k 0 ≡ sum_by (slice_index xs) (option_to_list (cond b (Some k) None))
placed_by true xs k h = plus (get_or xs k 0)
placed_by false xs k h = h refl

-- what stands under a name stands at its place
named_placed : (subs : List Sub) (es : Table) (n : List ℕ) → map (λ e. e.0) es ≡ names_of subs → named es n ≡ placed es (place_in subs n)
named_placed subs es n h =
    let names = names_of subs in
    let k = position_or_len (same_text n) names in
    let a = length-map es (λ e. e.0) in
    let b = length-map es (λ e. e.1) in
    let c = ap length h in
    named_is es n ∙ ap (λ (ns : List (List ℕ)). get_or (values es) (position_or_len (same_text n) ns) 0) h
    ∙ placed_by (ltb k (length names)) (values es) k (λ off. get_or_past (values es) k 0 (let d = ltb-false k (length names) off in omega arith))

nothing_placed : (place : Option ℕ) → 0 ≡ placed [] place
nothing_placed None = refl
nothing_placed (Some k) = refl

first_names : (g : Sub → ℕ) (ss : List Sub) → map (λ (e : List ℕ × ℕ). e.0) (map (λ (s : Sub). (s.head.name, g s)) ss) ≡ names_of ss
first_names g [] = refl
first_names g (s ∷ ss) = ap (λ ns. s.head.name ∷ ns) (first_names g ss)

size_placed : (own : Body → ℕ) (subs : List Sub) (depth : ℕ) (n : List ℕ) → named (sizes own subs depth) n ≡ placed (sizes own subs depth) (place_in subs n)
size_placed own subs zero n = nothing_placed (place_in subs n)
size_placed own subs (suc depth) n = named_placed subs (sizes own subs (suc depth)) n (first_names (λ (s : Sub). sum_by (size_of own (sizes own subs depth)) s.cards) subs)

-- ---- what cards count

-- for themselves, and at the places of what they call
split : (own : Body → ℕ) (subs : List Sub) (es : Table) → ((n : List ℕ) → named es n ≡ placed es (place_in subs n)) → (cards : List Body) → sum_by (size_of own es) cards ≡ sum_by own cards + sum_by (slice_index (values es)) (places_of subs (callees cards))
split own subs es h [] = refl
split own subs es h (dev_at line d ∷ cards) =
    let rest = split own subs es h cards in
    let a = sum_by-cons (size_of own es) (dev_at line d) cards in
    let b = sum_by-cons own (dev_at line d) cards in
    omega arith
split own subs es h (call_at line c ∷ cards) =
    let rest = split own subs es h cards in
    let a = sum_by-cons (size_of own es) (call_at line c) cards in
    let b = sum_by-cons own (call_at line c) cards in
    let e = h c.sub in
    let f = sum_by-append (slice_index (values es)) (option_to_list (place_in subs c.sub)) (places_of subs (callees cards)) in
    omega arith

both : (a b c d m : ℕ) → d ≡ a + b → min c m ≡ min b m → min (min a m + min c m) m ≡ min d m
both a b c d m e f = omega arith

-- the counts of all subcircuits, cut at the limit, give the count of cards, cut at the limit
pub counted_at : (kind : Counted) (subs : List Sub) (depth : ℕ) (cards : List Body) → min (own_count kind cards + min (sum_by (slice_index (counts_of kind subs depth)) (places_of subs (callees cards))) (most_of kind)) (most_of kind) ≡ min (sum_by (size_of (own_of kind) (sizes (own_of kind) subs depth)) cards) (most_of kind)
counted_at kind subs depth cards =
    let es = sizes (own_of kind) subs depth in
    let places = places_of subs (callees cards) in
    let m = most_of kind in
    both (sum_by (own_of kind) cards) (sum_by (slice_index (values es)) places) (sum_by (slice_index (counts_of kind subs depth)) places) (sum_by (size_of (own_of kind) es) cards) m
    (split (own_of kind) subs es (size_placed (own_of kind) subs depth) cards)
    (capped_sum (slice_index (values es)) (slice_index (counts_of kind subs depth)) m places (cut_at m es))

own_is : (kind : Counted) (subs : List Sub) (cards : List Body) → own_in kind (tally_of subs cards) ≡ own_count kind cards
own_is counted.Cards subs cards = refl
own_is counted.Devices subs cards = refl

next_by : (kind : Counted) (subs : List Sub) (depth : ℕ) (ss : List Sub) → map (count_through kind (counts_of kind subs depth)) (map (λ (s : Sub). tally_of subs s.cards) ss) ≡ map (λ (e : List ℕ × ℕ). min e.1 (most_of kind)) (map (λ (s : Sub). (s.head.name, sum_by (size_of (own_of kind) (sizes (own_of kind) subs depth)) s.cards)) ss)
next_by kind subs depth [] = refl
next_by kind subs depth (s ∷ ss) =
    let m = most_of kind in
    let called = min (sum_by (slice_index (counts_of kind subs depth)) (places_of subs (callees s.cards))) m in
    let here = ap (λ own. min (own + called) m) (own_is kind subs s.cards) ∙ counted_at kind subs depth s.cards in
    let rest = next_by kind subs depth ss in
    ap (λ c. c ∷ map (count_through kind (counts_of kind subs depth)) (map (λ (s : Sub). tally_of subs s.cards) ss)) here
    ∙ ap (λ cs. min (sum_by (size_of (own_of kind) (sizes (own_of kind) subs depth)) s.cards) m ∷ cs) rest

-- one X card more
pub next_counts : (kind : Counted) (subs : List Sub) (depth : ℕ) → map (count_through kind (counts_of kind subs depth)) (tallies_of subs) ≡ counts_of kind subs (suc depth)
next_counts kind subs depth = next_by kind subs depth subs
