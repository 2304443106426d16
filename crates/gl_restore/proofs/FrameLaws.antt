-- A flat deck's text is as long as that of the deck without devices and the lines of its devices.
use Rattle.std.proofs.Common.{◌≡◌, ℕ, ◌+◌, ◌-◌, ◌^◌, List, [], ◌++◌, Option, None, Some, refl, sym, ap, ◌∙◌, map, nat_lt, length, length-append, arith}
use Rattle.std.specs.Prelude.{flat_map}
use Rattle.gl_text.specs.Cards.{Head, ended}
use Rattle.gl_text.specs.Decks.{line_of, head_line, ends_line, global_line, model_line, passed_line}
use Rattle.gl_text.specs.Flattening.{Flat, around, flat_text, flat_line}
use Rattle.gl_text.specs.PlainFlats.{plain_device}
use Rattle.gl_flat.specs.Kept.{KeptDevice, kept_cards, device_lines}
use Rattle.gl_flat.specs.Lengths.{after}
use Rattle.gl_restore.specs.Backs.{flat_with}
use Rattle.gl_restore.proofs.TextLaws.{lines_kept}

between : (a t e : List ℕ) → length ((a ++ t) ++ e) ≡ length ((a ++ []) ++ e) + length t
between a t e =
    let x = length-append (a ++ t) e in
    let y = length-append a t in
    let u = length-append (a ++ []) e in
    let v = length-append a [] in
    omega (arith, x, y, u, v)

around_length : (top : Option Head) (t : List ℕ) → length (around top t) ≡ length (around top []) + length t
around_length None t = omega arith
around_length (Some h) t = between (head_line h) t (ends_line h.name)

framed : (x p e : List ℕ) (top : Option Head) (t : List ℕ) → length (((x ++ around top t) ++ p) ++ e) ≡ length (((x ++ around top []) ++ p) ++ e) + length t
framed x p e top t =
    let a = length-append ((x ++ around top t) ++ p) e in
    let b = length-append (x ++ around top t) p in
    let d = length-append x (around top t) in
    let f = length-append ((x ++ around top []) ++ p) e in
    let g = length-append (x ++ around top []) p in
    let h = length-append x (around top []) in
    let i = around_length top t in
    omega (arith, a, b, d, f, g, h, i)

pub text_length : (f : Flat) (nets : List (List ℕ)) (backs : List KeptDevice)
    → length (flat_text (flat_with f nets backs)) ≡ length (flat_text (flat_with f nets [])) + length (device_lines nets backs)
text_length f nets backs =
    framed _ (flat_map passed_line f.passed) (line_of ended) f.top (flat_map flat_line (map plain_device (kept_cards nets backs)))
    ∙ ap (λ (t : List ℕ). length (flat_text (flat_with f nets [])) + length t) (sym (lines_kept nets backs))

-- a count that stays at the largest is above the limit exactly where the length is
counted : (l n : ℕ) (t : List ℕ) → n ≡ l + length t → nat_lt 67108864 (after l t) ≡ nat_lt 67108864 n
counted l n t e = grind (arith, e)

pub long_by_count : (f : Flat) (nets : List (List ℕ)) (backs : List KeptDevice) (n r : ℕ) → n ≡ length (flat_text (flat_with f nets [])) → r ≡ after n (device_lines nets backs)
    → nat_lt 67108864 r ≡ nat_lt 67108864 (length (flat_text (flat_with f nets backs)))
long_by_count f nets backs n r n_is r_is =
    ap (nat_lt 67108864) r_is ∙ counted n _ (device_lines nets backs) (text_length f nets backs ∙ ap (λ (k : ℕ). k + length (device_lines nets backs)) (sym n_is))
