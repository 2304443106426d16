-- The name of a variant tells its cell and its number.
use Rattle.std.proofs.Common.{◌≡◌, ◌+◌, ◌<◌, ◌≤◌, ◌^◌, ℕ, zero, suc, List, [], ◌∷◌, ◌++◌, length, map, get_or, cond, eqb, true, false, Bool, Option, None, Some, refl, sym, ap, ◌∙◌, subst, arith, inl, inr, append_assoc}
use Rattle.std.specs.Prelude.{◌||◌, not, decimal, filter, Contains}
use Rattle.std.specs.List.{range_with_len, list_any}
use Rattle.std.specs.Str.Parse.{AllDigits}
use Rattle.std.specs.Char.{digit_value}
use Rattle.std.proofs.lemmas.Bool.{eqb-true, eq-eqb, cases_Bool, false_from_ne_true, or_right}
use Rattle.std.proofs.lemmas.Fmt.{decimal_injective, decimal_is_IsNumeral}
use Rattle.std.proofs.lemmas.List.{append-nil, get_or_append_left}
use Rattle.std.proofs.lemmas.List.FromFn.{length-map-range_with_len, filter_of_map_range_with_len_more}
use Rattle.std.proofs.lemmas.List.Elements.{Contains-get_or}
use Rattle.gl_match.proofs.Lists.{Once, in_cons, in_none, from_map, from_filter, once_filter, once_map, once_range}
use Rattle.gl_text.specs.LogicalLines.{same_text}
use Rattle.gl_base.proofs.OnceLaws.{filter_all, once_apart}
use Rattle.gl_base.proofs.TextLaws.{exact}
use Rattle.gl_lifting.specs.Variants.{variant_name, is_not_top, name_behind}
pub use Rattle.gl_lists.proofs.Cons.{head_is as cons_head, tail_is as cons_tail}
pub use Rattle.gl_lists.proofs.Bools.{not_both}

-- ---- the last mark splits a text in one way

-- a mark stands in a text
abbrev pub has : ℕ → List ℕ → Bool
has m xs = list_any (λ x. eqb x m) xs

-- a mark stands in a text that has it
has_within : (m : ℕ) (b y : List ℕ) → has m (b ++ m ∷ y) ≡ true
has_within m [] y = ap (λ b. b || has m y) (eq-eqb m m refl)
has_within m (c ∷ b) y = or_right (eqb c m) (has m (b ++ m ∷ y)) (has_within m b y)

-- where the rest has no mark, the last mark splits a text in one way
split_last : (m : ℕ) (a b x y : List ℕ) → has m x ≡ false → has m y ≡ false → a ++ m ∷ x ≡ b ++ m ∷ y → (a ≡ b) × (x ≡ y)
split_last m [] [] x y fx fy e = (refl, cons_tail m m x y e)
split_last m [] (c ∷ b) x y fx fy e = absurd (not_both (has m x) (ap (has m) (cons_tail m c x (b ++ m ∷ y) e) ∙ has_within m b y) fx)
split_last m (c ∷ a) [] x y fx fy e = absurd (not_both (has m y) (ap (has m) (sym (cons_tail c m (a ++ m ∷ x) y e)) ∙ has_within m a x) fy)
split_last m (c ∷ a) (d ∷ b) x y fx fy e =
    let later = split_last m a b x y fx fy (cons_tail c d (a ++ m ∷ x) (b ++ m ∷ y) e) in
    (ap (λ h. h ∷ a) (cons_head c d (a ++ m ∷ x) (b ++ m ∷ y) e) ∙ ap (λ t. d ∷ t) later.0, later.1)

-- a mark that is no digit stands in no digits
pub no_digit_mark : (m : ℕ) → (digit_value m < 10 → ⊥) → (ds : List ℕ) → AllDigits 10 ds → has m ds ≡ false
no_digit_mark m other [] h = refl
no_digit_mark m other (d ∷ ds) h = elim (cases_Bool (eqb d m)) [
  | inl on ↦ absurd (other (subst (λ x. digit_value x < 10) (eqb-true d m on) h.0))
  | inr off ↦ ap (λ b. b || has m ds) off ∙ no_digit_mark m other ds h.1
]

-- no number has a `v`
no_v : (k : ℕ) → k < 2 ^ 64 → has 118 (decimal k) ≡ false
no_v k lt = no_digit_mark 118 (λ h. absurd (omega (arith, h))) (decimal k) (decimal_is_IsNumeral k lt).0.1

-- the name of a variant with its mark apart
marked_is : (cell : List ℕ) (i : ℕ) → variant_name cell i ≡ (cell ++ 95 ∷ []) ++ 118 ∷ decimal i
marked_is [] i = refl
marked_is (c ∷ cell) i = ap (λ xs. c ∷ xs) (marked_is cell i)

-- `CELL_vN` tells the cell and N
pub variant_is : (cell other : List ℕ) (i j : ℕ) → i < 2 ^ 64 → j < 2 ^ 64 → variant_name cell i ≡ variant_name other j → (cell ≡ other) × (i ≡ j)
variant_is cell other i j i-low j-low e =
    let marked : (cell ++ 95 ∷ []) ++ 118 ∷ decimal i ≡ (other ++ 95 ∷ []) ++ 118 ∷ decimal j = sym (marked_is cell i) ∙ e ∙ marked_is other j in
    let parts = split_last 118 (cell ++ 95 ∷ []) (other ++ 95 ∷ []) (decimal i) (decimal j) (no_v i i-low) (no_v j j-low) marked in
    ((split_last 95 cell other [] [] refl refl parts.0).0, decimal_injective i j i-low j-low parts.1)

-- ---- the names that a cell's variants can have

-- of `CELL_v1` to `CELL_vN`, those that are not the top's
abbrev pool : Option (List ℕ) → List ℕ → ℕ → List (List ℕ)
pool top cell n = filter (is_not_top top) (map (variant_name cell) (range_with_len 1 n))

-- what stands in a range is below its end
below_range : (a n k : ℕ) → Contains (range_with_len a n) k → k < a + n
below_range a zero k h = absurd (in_none k h)
below_range a (suc n) k h = elim (in_cons a (range_with_len (a + 1) n) k h) [ inl same ↦ omega (arith, same) | inr later ↦ omega (arith, below_range (a + 1) n k later) ]

-- the numbered names of a cell differ
all_once : (cell : List ℕ) (n : ℕ) → n < 2 ^ 64 → Once (map (variant_name cell) (range_with_len 1 n))
all_once cell n low = once_map (variant_name cell) (range_with_len 1 n) (once_range 1 n) (λ a b ha hb e.
    (variant_is cell cell a b (omega (arith, low, below_range 1 n a ha)) (omega (arith, low, below_range 1 n b hb)) e).1)

-- and so do those that are not the top's
pool_once : (top : Option (List ℕ)) (cell : List ℕ) (n : ℕ) → n < 2 ^ 64 → Once (pool top cell n)
pool_once top cell n low = once_filter (is_not_top top) (map (variant_name cell) (range_with_len 1 n)) (all_once cell n low)

-- where each stands once, at most one is the top's
most_kept : (top : Option (List ℕ)) (xs : List (List ℕ)) → Once xs → length xs ≤ length (filter (is_not_top top) xs) + 1
most_kept top [] once = omega arith
most_kept None (x ∷ xs) once = omega (arith, most_kept None xs once.1)
most_kept (Some t) (x ∷ xs) once = elim (cases_Bool (same_text t x)) [
  | inl on ↦
      let others = filter_all (λ name. not (same_text t name)) xs (λ y h. ap not (false_from_ne_true (same_text t y) (λ e. once.0 (subst (λ z. Contains xs z) (sym (exact t y e) ∙ exact t x on) h)))) in
      let here = ap (λ b. length (cond (not b) (x ∷ filter (λ name. not (same_text t name)) xs) (filter (λ name. not (same_text t name)) xs))) on in
      omega (arith, here, ap length others)
  | inr off ↦
      let here = ap (λ b. length (cond (not b) (x ∷ filter (λ name. not (same_text t name)) xs) (filter (λ name. not (same_text t name)) xs))) off in
      omega (arith, here, most_kept (Some t) xs once.1)
]

-- a pool lacks at most one name
pool_long : (top : Option (List ℕ)) (cell : List ℕ) (n : ℕ) → n < 2 ^ 64 → n ≤ length (pool top cell n) + 1
pool_long top cell n low = omega (arith, most_kept top (map (variant_name cell) (range_with_len 1 n)) (all_once cell n low), length-map-range_with_len (variant_name cell) 1 n)

-- a longer pool begins with a shorter one
pool_grows : (top : Option (List ℕ)) (cell : List ℕ) (n d m : ℕ) → n + d ≡ m → (more : List (List ℕ)) × (pool top cell m ≡ pool top cell n ++ more)
pool_grows top cell n zero m e = ([], ap (pool top cell) (omega (arith, e)) ∙ sym (append-nil (pool top cell n)))
pool_grows top cell n (suc d) m e =
    let r = pool_grows top cell n d (n + d) refl in
    let j = 1 + (n + d) in
    let last = cond (is_not_top top (variant_name cell j)) (variant_name cell j ∷ []) [] in
    (r.0 ++ last, ap (pool top cell) (omega (arith, e)) ∙ filter_of_map_range_with_len_more (is_not_top top) (variant_name cell) 1 (n + d) j refl ∙ ap (λ xs. xs ++ last) r.1 ∙ append_assoc (pool top cell n) r.0 last)

-- a name behind so many others is the one of that number in any pool that is long enough
in_pool : (top : Option (List ℕ)) (cell : List ℕ) (k d n : ℕ) → k + 2 + d ≡ n → n < 2 ^ 64 → name_behind top cell k ≡ get_or (pool top cell n) k []
in_pool top cell k d n e low =
    let r = pool_grows top cell (k + 2) d n e in
    let long = pool_long top cell (k + 2) (omega (arith, e, low)) in
    sym (get_or_append_left (pool top cell (k + 2)) r.0 [] k (omega (arith, long))) ∙ ap (λ (xs : List (List ℕ)). get_or xs k []) (sym r.1)

-- names behind fewer and more others of one cell differ
pub behind_apart : (top : Option (List ℕ)) (cell : List ℕ) (k l d : ℕ) → k + 1 + d ≡ l → l + 2 < 2 ^ 64 → name_behind top cell k ≡ name_behind top cell l → ⊥
behind_apart top cell k l d e low same =
    let long = pool_long top cell (l + 2) low in
    once_apart (pool top cell (l + 2)) [] k l (pool_once top cell (l + 2) low) (omega (arith, e)) (omega (arith, long))
    (sym (in_pool top cell k (d + 1) (l + 2) (omega (arith, e)) low) ∙ same)

-- a name behind others is a numbered one of the cell, and not the top's
pub behind_is : (top : Option (List ℕ)) (cell : List ℕ) (k : ℕ) → k + 2 < 2 ^ 64 → (n : ℕ) × (n < 2 ^ 64) × (n ≤ k + 2) × (variant_name cell n ≡ name_behind top cell k) × (is_not_top top (name_behind top cell k) ≡ true)
behind_is top cell k low =
    let long = pool_long top cell (k + 2) low in
    let there = from_filter (is_not_top top) (map (variant_name cell) (range_with_len 1 (k + 2))) (name_behind top cell k) (Contains-get_or (pool top cell (k + 2)) k [] (omega (arith, long))) in
    let r = from_map (variant_name cell) (range_with_len 1 (k + 2)) (name_behind top cell k) there.0 in
    let below = below_range 1 (k + 2) r.0 r.1 in
    (r.0, omega (arith, below, low), omega (arith, below), r.2, there.1)
