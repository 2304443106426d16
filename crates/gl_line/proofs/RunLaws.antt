-- The first field of a text, by the first separators.
use Rattle.std.proofs.Common.{◌≡◌, ◌+◌, ◌-◌, ◌<◌, ◌≤◌, ℕ, suc, List, [], ◌∷◌, length, take, drop, cond, ltb, true, false, Bool, Some, None, refl, sym, ap, ◌∙◌, arith, subst}
use Rattle.std.specs.Prelude.{not, filter}
use Rattle.std.specs.List.{position, position_or_len}
use Rattle.std.proofs.lemmas.Bool.{ltb-false, ltb-true, lt-ltb}
use Rattle.std.proofs.lemmas.List.{drop-drop, drop_all, length-drop, length-take, take_rest}
use Rattle.std.proofs.lemmas.List.Folds.{length-prefix_len}
use Rattle.std.proofs.lemmas.List.Sums.{prefix_len-le-length}
use Rattle.gl_line.specs.Runs.{piece_at}
use Rattle.gl_text.specs.LogicalLines.{Piece, is_separator, onto, pieces_of, is_field, fields_of}

abbrev piece : List ℕ → List ℕ → Piece
piece bytes behind = record { bytes = bytes; behind = behind }

-- what follows the first piece, where a separator or nothing is behind it
abbrev later : List ℕ → List Piece
later [] = []
later (y ∷ ys) = pieces_of ys

abbrev stop : List ℕ → ℕ
stop xs = position_or_len is_separator xs

cut_by : (b : Bool) (x : ℕ) (xs : List ℕ) → pieces_of xs ≡ piece (take (stop xs) xs) (drop (stop xs) xs) ∷ later (drop (stop xs) xs)
    → cond b (piece [] (x ∷ xs) ∷ pieces_of xs) (onto x (pieces_of xs))
    ≡ piece (take (cond (not b) (1 + stop xs) 0) (x ∷ xs)) (drop (cond (not b) (1 + stop xs) 0) (x ∷ xs)) ∷ later (drop (cond (not b) (1 + stop xs) 0) (x ∷ xs))
cut_by true x xs h = refl
cut_by false x xs h =
    let e : suc (stop xs) ≡ 1 + stop xs = omega arith in
    ap (onto x) h ∙ ap (λ n. piece (take n (x ∷ xs)) (drop n (x ∷ xs)) ∷ later (drop n (x ∷ xs))) e

-- a text is its first piece and what follows it
cut : (xs : List ℕ) → pieces_of xs ≡ piece (take (stop xs) xs) (drop (stop xs) xs) ∷ later (drop (stop xs) xs)
cut [] = refl
cut (x ∷ xs) = cut_by (is_separator x) x xs (cut xs)

-- a separator at the front is passed over
skip : (x : ℕ) (xs : List ℕ) → is_separator x ≡ true → fields_of (x ∷ xs) ≡ fields_of xs
skip x xs h = ap (λ t. filter is_field (cond t (piece [] (x ∷ xs) ∷ pieces_of xs) (onto x (pieces_of xs)))) h

later_by : (b : Bool) (x : ℕ) (xs : List ℕ) → is_separator x ≡ b → filter is_field (later (drop (stop xs) xs)) ≡ fields_of (drop (stop xs) xs)
    → filter is_field (later (drop (cond (not b) (1 + stop xs) 0) (x ∷ xs))) ≡ fields_of (drop (cond (not b) (1 + stop xs) 0) (x ∷ xs))
later_by true x xs e h = sym (skip x xs e)
later_by false x xs e h =
    let f : suc (stop xs) ≡ 1 + stop xs = omega arith in
    ap (λ n. filter is_field (later (drop n (x ∷ xs)))) (sym f) ∙ h ∙ ap (λ n. fields_of (drop n (x ∷ xs))) f

later_fields : (xs : List ℕ) → filter is_field (later (drop (stop xs) xs)) ≡ fields_of (drop (stop xs) xs)
later_fields [] = refl
later_fields (x ∷ xs) = later_by (is_separator x) x xs refl (later_fields xs)

-- a text that begins with no separator begins with a field
pub field_first : (xs : List ℕ) → 0 < stop xs → fields_of xs ≡ piece (take (stop xs) xs) (drop (stop xs) xs) ∷ fields_of (drop (stop xs) xs)
field_first [] h = absurd (omega arith)
field_first (x ∷ xs) h =
    let n = stop (x ∷ xs) in
    let some : ltb 0 (length (take n (x ∷ xs))) ≡ true = lt-ltb 0 (length (take n (x ∷ xs))) (omega (arith, length-prefix_len (λ b. not (is_separator b)) (x ∷ xs))) in
    ap (filter is_field) (cut (x ∷ xs)) ∙ ap (λ t. cond t (piece (take n (x ∷ xs)) (drop n (x ∷ xs)) ∷ filter is_field (later (drop n (x ∷ xs)))) (filter is_field (later (drop n (x ∷ xs))))) some
    ∙ ap (λ ps. piece (take n (x ∷ xs)) (drop n (x ∷ xs)) ∷ ps) (later_fields (x ∷ xs))

-- separators at the front are passed over
abbrev front : List ℕ → ℕ
front xs = position_or_len (λ b. not (is_separator b)) xs

skip_by : (b : Bool) (x : ℕ) (xs : List ℕ) → is_separator x ≡ b → fields_of xs ≡ fields_of (drop (front xs) xs)
    → fields_of (x ∷ xs) ≡ fields_of (drop (cond (not (not b)) (1 + front xs) 0) (x ∷ xs))
skip_by true x xs e h =
    let f : suc (front xs) ≡ 1 + front xs = omega arith in
    skip x xs e ∙ h ∙ ap (λ n. fields_of (drop n (x ∷ xs))) f
skip_by false x xs e h = refl

pub skip_all : (xs : List ℕ) → fields_of xs ≡ fields_of (drop (front xs) xs)
skip_all [] = refl
skip_all (x ∷ xs) = skip_by (is_separator x) x xs refl (skip_all xs)

-- ---- what the two searches say

pub stop_at : (p : ℕ → Bool) (xs : List ℕ) (k : ℕ) → position p xs ≡ Some k → (position_or_len p xs ≡ k) × (k < length xs)
stop_at p xs k e = by (ltb (position_or_len p xs) (length xs)) (position_or_len p xs) (length xs) k refl e where
  by : (b : Bool) (m n k : ℕ) → ltb m n ≡ b → cond b (Some m) None ≡ Some k → (m ≡ k) × (k < n)
  by true m n k t e = let f : m ≡ k = cc in let l = ltb-true m n t in (f, omega arith)
  by false m n k t e = absurd cc

pub stop_none : (p : ℕ → Bool) (xs : List ℕ) → position p xs ≡ None → position_or_len p xs ≡ length xs
stop_none p xs e = by (ltb (position_or_len p xs) (length xs)) (position_or_len p xs) (length xs) (prefix_len-le-length (λ b. not (p b)) xs) refl e where
  by : (b : Bool) (m n : ℕ) → m ≤ n → ltb m n ≡ b → cond b (Some m) None ≡ None → m ≡ n
  by true m n l t e = absurd cc
  by false m n l t e = let f = ltb-false m n t in omega arith

-- ---- the first field's run

plain_by : (b : Bool) (x : ℕ) (xs : List ℕ) → is_separator x ≡ b → (front xs < length xs → 0 < stop (drop (front xs) xs))
    → cond (not (not b)) (1 + front xs) 0 < length (x ∷ xs) → 0 < stop (drop (cond (not (not b)) (1 + front xs) 0) (x ∷ xs))
plain_by true x xs e h l =
    let f : suc (front xs) ≡ 1 + front xs = omega arith in
    let g : 0 < stop (drop (suc (front xs)) (x ∷ xs)) = h (omega arith) in
    let P : ℕ → Type 0 = λ n. 0 < stop (drop n (x ∷ xs)) in subst P f g
plain_by false x xs e h l =
    let f : stop (x ∷ xs) ≡ 1 + stop xs = ap (λ b. cond (not b) (1 + stop xs) 0) e in omega arith

plain_first : (xs : List ℕ) → front xs < length xs → 0 < stop (drop (front xs) xs)
plain_first [] h = absurd (omega arith)
plain_first (x ∷ xs) h = plain_by (is_separator x) x xs refl (plain_first xs) h

-- behind the separators at the front stands the first field
run_first : (xs : List ℕ) → front xs < length xs → fields_of xs ≡ piece_at xs (front xs) (front xs + stop (drop (front xs) xs)) ∷ fields_of (drop (front xs + stop (drop (front xs) xs)) xs)
run_first xs h =
    let i = front xs in
    let n = stop (drop i xs) in
    let e : n ≡ i + n - i = omega arith in
    let f : piece (take n (drop i xs)) (drop n (drop i xs)) ∷ fields_of (drop n (drop i xs)) ≡ piece (take n (drop i xs)) (drop (i + n) xs) ∷ fields_of (drop (i + n) xs) =
    ap (λ ys. piece (take n (drop i xs)) ys ∷ fields_of ys) (drop-drop n i xs) in
    skip_all xs ∙ field_first (drop i xs) (plain_first xs h) ∙ f ∙ ap (λ m. piece (take m (drop i xs)) (drop (i + n) xs) ∷ fields_of (drop (i + n) xs)) e

abbrev pub IsRun : List ℕ → ℕ → ℕ → Type 0
IsRun xs i end = (fields_of xs ≡ piece_at xs i end ∷ fields_of (drop end xs)) × (i < end) × (end ≤ length xs)

-- by what the two searches say
pub run_is : (xs : List ℕ) (i n : ℕ) → position (λ b. not (is_separator b)) xs ≡ Some i → stop (take (length xs - i) (drop i xs)) ≡ n → IsRun xs i (i + n)
run_is xs i n e h =
    let at = stop_at (λ b. not (is_separator b)) xs i e in
    let lt : front xs < length xs = omega (arith, at.0, at.1) in
    let i_e : front xs ≡ i = at.0 in
    let m_e : stop (drop (front xs) xs) ≡ n = ap (λ k. stop (drop k xs)) i_e ∙ ap stop (sym (take_rest xs i)) ∙ h in
    let some = plain_first xs lt in
    let most = prefix_len-le-length (λ b. not (is_separator b)) (drop (front xs) xs) in
    let less = length-drop (front xs) xs in
    let whole : IsRun xs (front xs) (front xs + stop (drop (front xs) xs)) = (run_first xs lt, omega arith, omega arith) in
    let P : ℕ × ℕ → Type 0 = λ p. IsRun xs p.0 (p.0 + p.1) in
    let pair : (front xs, stop (drop (front xs) xs)) ≡ (i, n) = cc in
    subst P pair whole

pub no_run : (xs : List ℕ) → position (λ b. not (is_separator b)) xs ≡ None → fields_of xs ≡ []
no_run xs e =
    let all = stop_none (λ b. not (is_separator b)) xs e in
    skip_all xs ∙ ap (λ k. fields_of (drop k xs)) all ∙ ap fields_of (drop_all (length xs) xs (omega arith))

pub last_run : (xs : List ℕ) (i : ℕ) → position (λ b. not (is_separator b)) xs ≡ Some i → position is_separator (take (length xs - i) (drop i xs)) ≡ None → IsRun xs i (length xs)
last_run xs i e h =
    let n = length (take (length xs - i) (drop i xs)) in
    let lt = (stop_at (λ b. not (is_separator b)) xs i e).1 in
    let less = length-drop i xs in
    let cut = length-take (length xs - i) (drop i xs) in
    let all : i + n ≡ length xs = omega arith in
    let P : ℕ → Type 0 = λ k. IsRun xs i k in
    subst P all (run_is xs i n e (stop_none is_separator (take (length xs - i) (drop i xs)) h))
