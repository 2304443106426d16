-- Texts whose bytes can stand in names.
use Rattle.std.proofs.Common.{◌≡◌, ◌≤◌, ℕ, List, [], ◌∷◌, length, eqb, ltb, true, false, refl}
use Rattle.std.specs.List.{AllByRecursion}
use Rattle.gl_text.specs.LogicalLines.{NAME, is_separator, fold_byte, folded}
use Rattle.gl_text.specs.WayBack.{IsName, IsOneLine}
use Rattle.gl_lists.proofs.Each.{each_to}

pub record IsNameByte (b : ℕ) : Type 0 where
  pub plain : is_separator b ≡ false
  pub small : fold_byte b ≡ b
  pub line : eqb b 10 ≡ false

abbrev pub OfName : List ℕ → Type 0
OfName text = AllByRecursion IsNameByte text

of_name : (n : List ℕ) → AllByRecursion (λ b. is_separator b ≡ false) n → folded n ≡ n → IsOneLine n → OfName n
of_name [] p s l = tt
of_name (b ∷ n) p s l = let e : fold_byte b ≡ b = cc in let f : folded n ≡ n = cc in (record { plain = p.0; small = e; line = l.0 }, of_name n p.1 f l.1)

pub name_bytes : (n : List ℕ) → IsName n → OfName n
name_bytes n h = of_name n h.plain h.small h.one_line

bytes_plain : (n : List ℕ) → OfName n → AllByRecursion (λ b. is_separator b ≡ false) n
bytes_plain = each_to IsNameByte (λ b. is_separator b ≡ false) (λ b h. h.plain)

pub bytes_line : (n : List ℕ) → OfName n → IsOneLine n
bytes_line = each_to IsNameByte (λ b. eqb b 10 ≡ false) (λ b h. h.line)

bytes_small : (n : List ℕ) → OfName n → folded n ≡ n
bytes_small [] h = refl
bytes_small (b ∷ n) h = let e = h.0.small in let f = bytes_small n h.1 in cc

-- such a text that is neither empty nor too long is a name
pub bytes_name : (n : List ℕ) → OfName n → ltb 0 (length n) ≡ true → length n ≤ NAME → IsName n
bytes_name n h s l = record { some = s; one_line = bytes_line n h; plain = bytes_plain n h; small = bytes_small n h; short = l }
