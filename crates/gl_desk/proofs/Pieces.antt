-- A piece of a list that is copied to the front of a buffer.
use Rattle.std.proofs.Common.{◌≡◌, ◌+◌, ◌-◌, ◌≤◌, ◌++◌, ℕ, List, refl, ap, sym, ◌∙◌, arith, take, drop, length}
use Rattle.std.proofs.lemmas.List.{take_rest, take_at, take-append-drop, drop-drop, length-take-le, length-drop}

pub piece_moves : (bytes view buf w : List ℕ) (mark n : ℕ) → view ≡ bytes → mark + n ≤ length bytes → w ≡ take n (take (length view - mark) (drop mark view)) → (drop mark bytes ≡ take n (w ++ drop n buf) ++ drop (mark + n) bytes) × (n ≡ length (take n (w ++ drop n buf)))
piece_moves bytes view buf w mark n same in_range copied =
    let w-is : w ≡ take n (drop mark bytes) = copied ∙ (rw (same, take_rest bytes mark) refl) in
    let long : n ≤ length (drop mark bytes) = omega (arith, length-drop mark bytes) in
    let w-long : length w ≡ n = ap length w-is ∙ length-take-le n (drop mark bytes) long in
    let front : take n (w ++ drop n buf) ≡ w = take_at w (drop n buf) n w-long in
    (rw (front, w-is, ← drop-drop n mark bytes) (sym (take-append-drop n (drop mark bytes))), sym (ap length front ∙ w-long))
