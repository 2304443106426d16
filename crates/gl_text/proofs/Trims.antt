-- What is trimmed or squeezed is no longer than it was.
use Rattle.std.proofs.Common.{◌≤◌, ℕ, suc, List, [], ◌∷◌, length, cond, eqb, true, false, Bool, arith}
use Rattle.gl_text.specs.LogicalLines.{is_blank, is_loose, put_back, trim_end, trim_front, squeeze, squeezed, tail_of}

pub front_shorter : (p : ℕ → Bool) (xs : List ℕ) → length (trim_front p xs) ≤ length xs
front_shorter p [] = omega arith
front_shorter p (x ∷ xs) = by (p x) (front_shorter p xs) where
  by : (b : Bool) → length (trim_front p xs) ≤ length xs → length (cond b (trim_front p xs) (x ∷ xs)) ≤ length (x ∷ xs)
  by true h = omega arith
  by false h = omega arith

pub put_back_shorter : (p : ℕ → Bool) (x : ℕ) (xs : List ℕ) → length (put_back p x xs) ≤ suc (length xs)
put_back_shorter p x [] = by (p x) where
  by : (b : Bool) → length (cond b [] (x ∷ [])) ≤ 1
  by true = omega arith
  by false = omega arith
put_back_shorter p x (y ∷ ys) = omega arith

pub end_shorter : (p : ℕ → Bool) (xs : List ℕ) → length (trim_end p xs) ≤ length xs
end_shorter p [] = omega arith
end_shorter p (x ∷ xs) = let h = put_back_shorter p x (trim_end p xs) in let g = end_shorter p xs in omega arith

squeeze_by : (x c : ℕ) (cs : List ℕ) (b e : Bool) → length (cond b (cond e (c ∷ cs) (32 ∷ c ∷ cs)) (x ∷ c ∷ cs)) ≤ length (x ∷ c ∷ cs)
squeeze_by x c cs true true = omega arith
squeeze_by x c cs true false = omega arith
squeeze_by x c cs false e = omega arith

squeeze_shorter : (x : ℕ) (s : List ℕ) → length (squeeze x s) ≤ length (x ∷ s)
squeeze_shorter x [] = omega arith
squeeze_shorter x (c ∷ cs) = squeeze_by x c cs (is_blank x) (eqb c 32)

pub squeezed_shorter : (xs : List ℕ) → length (squeezed xs) ≤ length xs
squeezed_shorter [] = omega arith
squeezed_shorter (x ∷ xs) = let h = squeeze_shorter x (squeezed xs) in let g = squeezed_shorter xs in omega arith

pub tail_shorter : (xs : List ℕ) → length (tail_of xs) ≤ length xs
tail_shorter xs =
    let front = trim_front is_loose xs in
    let a = front_shorter is_loose xs in
    let b = end_shorter is_blank front in
    let c = squeezed_shorter (trim_end is_blank front) in
    omega arith
