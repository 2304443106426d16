-- Names of variants, one after another.
use Rattle.std.proofs.Common.{◌≡◌, ◌+◌, ◌<◌, ◌≤◌, ◌^◌, ℕ, zero, suc, List, [], ◌∷◌, ◌++◌, length, map, get_or, cond, true, false, Bool, Option, None, Some, refl, sym, ap, ◌∙◌, subst, eqb, arith, inl, inr, append_assoc}
use Rattle.std.specs.Prelude.{◌||◌, not, unwrap_or, decimal, filter, Contains}
use Rattle.std.specs.List.{count_by, range_with_len, list_any}
use Rattle.std.specs.Str.Parse.{AllDigits}
use Rattle.std.specs.Char.{digit_value}
use Rattle.std.proofs.lemmas.Fmt.{decimal_injective, decimal_is_IsNumeral}
use Rattle.std.specs.Map.{lookup}
use Rattle.std.proofs.lemmas.Bool.{eqb-true, eq-eqb, cases_Bool, false_from_ne_true, or_right}
use Rattle.std.proofs.lemmas.List.{append-nil, get_or_append_left, length-append}
use Rattle.std.proofs.lemmas.List.Sums.{sum_by-append}
use Rattle.std.proofs.lemmas.List.FromFn.{length-map-range_with_len, filter_of_map_range_with_len_more}
use Rattle.gl_match.proofs.Lists.{Once, in_cons, in_none, once_filter, once_map, once_range}
use Rattle.gl_text.specs.LogicalLines.{same_text}
use Rattle.gl_base.proofs.OnceLaws.{filter_all, once_apart}
use Rattle.gl_base.proofs.TextLaws.{exact, itself}
use Rattle.gl_lifting.specs.Variants.{Variant, variant_name, is_not_top, name_behind, names_behind, same_cell}
use Rattle.gl_lists.proofs.Cons.{head_is as cons_head, tail_is as cons_tail}
use Rattle.gl_lists.proofs.Bools.{not_both}
use Rattle.gl_variant.specs.Names.{named_to, count_of, last_of, AreGiven}

-- ---- the last mark splits a text in one way

-- a mark stands in a text
abbrev has : ℕ → List ℕ → Bool
has m xs = list_any (λ x. eqb x m) xs

-- a mark stands in a text that has it
has_within : (m : ℕ) (b y : List ℕ) → has m (b ++ m ∷ y) ≡ true
has_within m [] y = ap (λ b. b || has m y) (eq-eqb m m refl)
has_within m (c ∷ b) y = or_right (eqb c m) (has m (b ++ m ∷ y)) (has_within m b y)

-- where the rest has no mark, the last mark splits a text in one way
split_last : (m : ℕ) (a b x y : List ℕ) → has m x ≡ false → has m y ≡ false → a ++ m ∷ x ≡ b ++ m ∷ y → (a ≡ b) × (x ≡ y)
split_last m [] [] x y fx fy e = (refl, cons_tail m m x y e)
split_last m [] (c ∷ b) x y fx fy e = absurd (not_both (has m x) (ap (has m) (cons_tail m c x (b ++ m ∷ y) e) ∙ has_within m b y) fx)
split_last m (c ∷ a) [] x y fx fy e = absurd (not_both (has m y) (ap (has m) (sym (cons_tail c m (a ++ m ∷ x) y e)) ∙ has_within m a x) fy)
split_last m (c ∷ a) (d ∷ b) x y fx fy e =
    let later = split_last m a b x y fx fy (cons_tail c d (a ++ m ∷ x) (b ++ m ∷ y) e) in
    (ap (λ h. h ∷ a) (cons_head c d (a ++ m ∷ x) (b ++ m ∷ y) e) ∙ ap (λ t. d ∷ t) later.0, later.1)

-- a mark that is no digit stands in no digits
no_digit_mark : (m : ℕ) → (digit_value m < 10 → ⊥) → (ds : List ℕ) → AllDigits 10 ds → has m ds ≡ false
no_digit_mark m other [] h = refl
no_digit_mark m other (d ∷ ds) h = elim (cases_Bool (eqb d m)) [
  | inl on ↦ absurd (other (subst (λ x. digit_value x < 10) (eqb-true d m on) h.0))
  | inr off ↦ ap (λ b. b || has m ds) off ∙ no_digit_mark m other ds h.1
]

-- no number has a `v`
no_v : (k : ℕ) → k < 2 ^ 64 → has 118 (decimal k) ≡ false
no_v k lt = no_digit_mark 118 (λ h. absurd (omega (arith, h))) (decimal k) (decimal_is_IsNumeral k lt).0.1

-- the name of a variant with its mark apart
marked_is : (cell : List ℕ) (i : ℕ) → variant_name cell i ≡ (cell ++ 95 ∷ []) ++ 118 ∷ decimal i
marked_is [] i = refl
marked_is (c ∷ cell) i = ap (λ xs. c ∷ xs) (marked_is cell i)

-- `CELL_vN` tells the cell and N
variant_is : (cell other : List ℕ) (i j : ℕ) → i < 2 ^ 64 → j < 2 ^ 64 → variant_name cell i ≡ variant_name other j → (cell ≡ other) × (i ≡ j)
variant_is cell other i j i-low j-low e =
    let marked : (cell ++ 95 ∷ []) ++ 118 ∷ decimal i ≡ (other ++ 95 ∷ []) ++ 118 ∷ decimal j = sym (marked_is cell i) ∙ e ∙ marked_is other j in
    let parts = split_last 118 (cell ++ 95 ∷ []) (other ++ 95 ∷ []) (decimal i) (decimal j) (no_v i i-low) (no_v j j-low) marked in
    ((split_last 95 cell other [] [] refl refl parts.0).0, decimal_injective i j i-low j-low parts.1)

-- ---- names, one after another

-- one number more: its name is there, unless it is the top's
more : (top : Option (List ℕ)) (cell : List ℕ) (n : ℕ) → named_to top cell (suc n) ≡ named_to top cell n ++ cond (is_not_top top (variant_name cell (suc n))) (variant_name cell (suc n) ∷ []) []
more top cell n = let next : suc n ≡ n + 1 = omega arith in ap (named_to top cell) next ∙ filter_of_map_range_with_len_more (is_not_top top) (variant_name cell) 1 n (suc n) (omega arith)

-- a longer list of names begins with a shorter one
grows : (top : Option (List ℕ)) (cell : List ℕ) (n d m : ℕ) → n + d ≡ m → (rest : List (List ℕ)) × (named_to top cell m ≡ named_to top cell n ++ rest)
grows top cell n zero m e = let same : m ≡ n = omega (arith, e) in ([], ap (named_to top cell) same ∙ sym (append-nil (named_to top cell n)))
grows top cell n (suc d) m e =
    let r = grows top cell n d (n + d) refl in
    let last = cond (is_not_top top (variant_name cell (suc (n + d)))) (variant_name cell (suc (n + d)) ∷ []) [] in
    let same : m ≡ suc (n + d) = omega (arith, e) in
    (r.0 ++ last, ap (named_to top cell) same ∙ more top cell (n + d) ∙ ap (λ xs. xs ++ last) r.1 ∙ append_assoc (named_to top cell n) r.0 last)

-- what stands behind a list
at_end : (xs : List (List ℕ)) (x : List ℕ) (rest : List (List ℕ)) → get_or ((xs ++ x ∷ []) ++ rest) (length xs) [] ≡ x
at_end [] x rest = refl
at_end (y ∷ xs) x rest = at_end xs x rest

-- a name that is not the top's, behind all that were given
pub named : (top : Option (List ℕ)) (cell : List ℕ) (n others : ℕ) → is_not_top top (variant_name cell (suc n)) ≡ true → length (named_to top cell n) ≡ others → suc n ≤ others + 2
    → (variant_name cell (suc n) ≡ name_behind top cell others) × (length (named_to top cell (suc n)) ≡ suc others)
named top cell n others on given low =
    let name = variant_name cell (suc n) in
    let now : named_to top cell (suc n) ≡ named_to top cell n ++ name ∷ [] = more top cell n ∙ ap (λ b. named_to top cell n ++ cond b (name ∷ []) []) on in
    let r = room (suc n) low in (
      sym (ap (λ (xs : List (List ℕ)). get_or xs others []) (r.1 ∙ ap (λ xs. xs ++ r.0) now) ∙ ap (λ k. get_or ((named_to top cell n ++ name ∷ []) ++ r.0) k []) (sym given) ∙ at_end (named_to top cell n) name r.0),
      ap length now ∙ omega (arith, length-append (named_to top cell n) (name ∷ []), given),
    )
  where
    apart : (a b : ℕ) → a ≤ b → (d : ℕ) × (a + d ≡ b)
    apart zero b h = (b, omega arith)
    apart (suc a) zero h = absurd (omega (arith, h))
    apart (suc a) (suc b) h = let r = apart a b (omega (arith, h)) in (r.0, omega (arith, r.1))

    room : (m : ℕ) → m ≤ others + 2 → (rest : List (List ℕ)) × (named_to top cell (others + 2) ≡ named_to top cell m ++ rest)
    room m h = let r = apart m (others + 2) h in grows top cell m r.0 (others + 2) r.1

-- the top's name is passed over
pub passed : (top : Option (List ℕ)) (cell : List ℕ) (n : ℕ) → is_not_top top (variant_name cell (suc n)) ≡ false → named_to top cell (suc n) ≡ named_to top cell n
passed top cell n off = more top cell n ∙ ap (λ b. named_to top cell n ++ cond b (variant_name cell (suc n) ∷ []) []) off ∙ append-nil (named_to top cell n)

-- ---- at most one name is the top's

below_range : (a n k : ℕ) → Contains (range_with_len a n) k → k < a + n
below_range a zero k h = absurd (in_none k h)
below_range a (suc n) k h = elim (in_cons a (range_with_len (a + 1) n) k h) [ inl same ↦ omega (arith, same) | inr later ↦ omega (arith, below_range (a + 1) n k later) ]

all_once : (cell : List ℕ) (n : ℕ) → n < 2 ^ 64 → Once (map (variant_name cell) (range_with_len 1 n))
all_once cell n low = once_map (variant_name cell) (range_with_len 1 n) (once_range 1 n) (λ a b ha hb e.
    (variant_is cell cell a b (omega (arith, low, below_range 1 n a ha)) (omega (arith, low, below_range 1 n b hb)) e).1)

most_kept : (top : Option (List ℕ)) (xs : List (List ℕ)) → Once xs → length xs ≤ length (filter (is_not_top top) xs) + 1
most_kept top [] once = omega arith
most_kept None (x ∷ xs) once = omega (arith, most_kept None xs once.1)
most_kept (Some t) (x ∷ xs) once = elim (cases_Bool (same_text t x)) [
  | inl on ↦
      let others = filter_all (λ name. not (same_text t name)) xs (λ y h. ap not (false_from_ne_true (same_text t y) (λ e. once.0 (subst (λ z. Contains xs z) (sym (exact t y e) ∙ exact t x on) h)))) in
      let here = ap (λ b. length (cond (not b) (x ∷ filter (λ name. not (same_text t name)) xs) (filter (λ name. not (same_text t name)) xs))) on in
      omega (arith, here, ap length others)
  | inr off ↦
      let here = ap (λ b. length (cond (not b) (x ∷ filter (λ name. not (same_text t name)) xs) (filter (λ name. not (same_text t name)) xs))) off in
      omega (arith, here, most_kept (Some t) xs once.1)
]

-- the list of names lacks at most one
pub most : (top : Option (List ℕ)) (cell : List ℕ) (n : ℕ) → n < 2 ^ 64 → n ≤ length (named_to top cell n) + 1
most top cell n low = omega (arith, most_kept top (map (variant_name cell) (range_with_len 1 n)) (all_once cell n low), length-map-range_with_len (variant_name cell) 1 n)

-- the name behind the top's is not the top's
pub passed_once : (top : Option (List ℕ)) (cell : List ℕ) (n : ℕ) → suc (suc n) < 2 ^ 64 → is_not_top top (variant_name cell (suc n)) ≡ false → is_not_top top (variant_name cell (suc (suc n))) ≡ true
passed_once None cell n low off = absurd cc
passed_once (Some t) cell n low off =
    let here : same_text t (variant_name cell (suc n)) ≡ true = by (same_text t (variant_name cell (suc n))) refl off in
    ap not (false_from_ne_true (same_text t (variant_name cell (suc (suc n)))) (λ e.
    let same = (variant_is cell cell (suc n) (suc (suc n)) (omega (arith, low)) low (sym (exact t (variant_name cell (suc n)) here) ∙ exact t (variant_name cell (suc (suc n))) e)).1 in
    absurd (omega (arith, same))))
  where
    by : (b : Bool) → same_text t (variant_name cell (suc n)) ≡ b → not (same_text t (variant_name cell (suc n))) ≡ false → same_text t (variant_name cell (suc n)) ≡ true
    by true e h = e
    by false e h = let on : not (same_text t (variant_name cell (suc n))) ≡ true = ap not e in absurd cc

-- ---- one variant more

counted_more : {X : Type 0} (p : X → Bool) (xs : List X) (y : X) → count_by p (xs ++ y ∷ []) ≡ count_by p xs + cond (p y) 1 0
counted_more p xs y = omega (arith, sum_by-append (λ x. cond (p x) 1 0) xs (y ∷ []))

pub count_more : (cell : List ℕ) (before : List Variant) (v : Variant) → count_of cell (before ++ v ∷ []) ≡ count_of cell before + cond (same_text cell v.cell.head.name) 1 0
count_more cell before v = counted_more (λ (w : Variant). same_text cell w.cell.head.name) before v

-- the last number of a cell, once one is given
last_given : (lasts after : List (List ℕ × ℕ)) (cell : List ℕ) (n : ℕ) → ((other : List ℕ) → lookup (same_text other) after ≡ cond (same_text other cell) (Some n) (lookup (same_text other) lasts))
    → (other : List ℕ) → last_of after other ≡ cond (same_text other cell) n (last_of lasts other)
last_given lasts after cell n h other = ap (λ o. unwrap_or o 0) (h other) ∙ by (same_text other cell)
  where
    by : (b : Bool) → unwrap_or (cond b (Some n) (lookup (same_text other) lasts)) 0 ≡ cond b n (unwrap_or (lookup (same_text other) lasts) 0)
    by true = refl
    by false = refl

-- the names of one variant more
pub names_more : (top : Option (List ℕ)) (before vs : List Variant) (v : Variant) → names_behind top before (vs ++ v ∷ []) ≡ names_behind top before vs ++ name_behind top v.cell.head.name (count_of v.cell.head.name (before ++ vs)) ∷ []
names_more top before [] v = ap (λ (ws : List Variant). name_behind top v.cell.head.name (count_of v.cell.head.name ws) ∷ []) (sym (append-nil before))
names_more top before (w ∷ vs) v =
    ap (λ ns. name_behind top w.cell.head.name (count_by (same_cell w) before) ∷ ns)
    (names_more top (before ++ w ∷ []) vs v ∙ ap (λ (ws : List Variant). names_behind top (before ++ w ∷ []) vs ++ name_behind top v.cell.head.name (count_of v.cell.head.name ws) ∷ []) (append_assoc before (w ∷ []) vs))
