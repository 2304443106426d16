-- Trimming from the end, a byte at a time.
use Rattle.std.proofs.Common.{◌≡◌, ◌≤◌, ◌+◌, ◌-◌, ℕ, List, [], ◌∷◌, ◌++◌, length, take, get_or, cond, true, false, Bool, refl, sym, ap, ◌∙◌, arith}
use Rattle.std.proofs.Math.Seq.{take-length}
use Rattle.std.proofs.lemmas.List.{take_more}
use Rattle.gl_text.specs.LogicalLines.{put_back, trim_end}

abbrev last_kept : (ℕ → Bool) → List ℕ → ℕ → List ℕ
last_kept p xs x = cond (p x) (trim_end p xs) (xs ++ x ∷ [])

put_back_last : (p : ℕ → Bool) (y : ℕ) (xs : List ℕ) (x : ℕ) (b : Bool) → put_back p y (cond b (trim_end p xs) (xs ++ x ∷ [])) ≡ cond b (put_back p y (trim_end p xs)) (y ∷ xs ++ x ∷ [])
put_back_last p y xs x true = refl
put_back_last p y [] x false = refl
put_back_last p y (z ∷ xs) x false = refl

pub trim_last : (p : ℕ → Bool) (xs : List ℕ) (x : ℕ) → trim_end p (xs ++ x ∷ []) ≡ cond (p x) (trim_end p xs) (xs ++ x ∷ [])
trim_last p [] x = refl
trim_last p (y ∷ xs) x = ap (put_back p y) (trim_last p xs x) ∙ put_back_last p y xs x (p x)

-- by the last byte of a text
pub by_last : (p : ℕ → Bool) (xs : List ℕ) → 1 ≤ length xs → trim_end p xs ≡ cond (p (get_or xs (length xs - 1) 0)) (trim_end p (take (length xs - 1) xs)) xs
by_last p xs h =
    let n = length xs - 1 in
    let x = get_or xs n 0 in
    let len : n + 1 ≡ length xs = omega arith in
    let e : xs ≡ take n xs ++ x ∷ [] = sym (take-length xs) ∙ ap (λ k. take k xs) (sym len) ∙ take_more xs n 0 (omega arith) in
    ap (trim_end p) e ∙ trim_last p (take n xs) x ∙ ap (λ t. cond (p x) (trim_end p (take n xs)) t) (sym e)
