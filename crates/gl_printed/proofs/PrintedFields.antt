-- Printed fields: one line, and how long it is.
use Rattle.std.proofs.Common.{◌≡◌, ◌≤◌, ◌+◌, ◌*◌, ℕ, suc, List, [], ◌∷◌, length, eqb, false, refl, arith, length-append}
use Rattle.std.specs.List.{AllByRecursion, join_with_byte}
use Rattle.gl_text.specs.LogicalLines.{NAME}
use Rattle.gl_text.specs.Cards.{with_tail, spaced}
use Rattle.gl_text.specs.WayBack.{IsOneLine}
use Rattle.gl_lists.proofs.Each.{each_append}

abbrev Stays : ℕ → Type 0
Stays b = eqb b 10 ≡ false

pub joined_line : (ns : List (List ℕ)) → AllByRecursion IsOneLine ns → IsOneLine (join_with_byte 32 ns)
joined_line [] h = tt
joined_line (n ∷ []) h = h.0
joined_line (n ∷ m ∷ ms) h = each_append Stays n (32 ∷ join_with_byte 32 (m ∷ ms)) h.0 (refl, joined_line (m ∷ ms) h.1)

spaced_line : (tail : List ℕ) → IsOneLine tail → IsOneLine (spaced tail)
spaced_line [] h = tt
spaced_line (b ∷ tail) h = (refl, h)

pub with_tail_line : (ns : List (List ℕ)) (tail : List ℕ) → AllByRecursion IsOneLine ns → IsOneLine tail → IsOneLine (with_tail ns tail)
with_tail_line ns tail h t = each_append Stays (join_with_byte 32 ns) (spaced tail) (joined_line ns h) (spaced_line tail t)

abbrev pub Short : List ℕ → Type 0
Short n = length n ≤ NAME

joined_length : (ns : List (List ℕ)) → AllByRecursion Short ns → length (join_with_byte 32 ns) ≤ 1025 * length ns
joined_length [] h = omega arith
joined_length (n ∷ []) h = let a = h.0 in omega arith
joined_length (n ∷ m ∷ ms) h = let a = h.0 in let ih = joined_length (m ∷ ms) h.1 in let e = length-append n (32 ∷ join_with_byte 32 (m ∷ ms)) in omega arith

spaced_length : (tail : List ℕ) → length (spaced tail) ≤ suc (length tail)
spaced_length [] = omega arith
spaced_length (b ∷ tail) = omega arith

pub with_tail_length : (ns : List (List ℕ)) (tail : List ℕ) → AllByRecursion Short ns → length (with_tail ns tail) ≤ 1025 * length ns + suc (length tail)
with_tail_length ns tail h = let a = joined_length ns h in let b = spaced_length tail in let e = length-append (join_with_byte 32 ns) (spaced tail) in omega arith
