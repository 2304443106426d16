-- Bytes: separators, folding, trimming.
use Rattle.std.proofs.Common.{◌≡◌, ◌≤◌, ◌+◌, ℕ, List, [], ◌∷◌, ◌++◌, length, cond, eqb, leb, false, Bool, refl, ap, arith, ne_eqb, leb-true}
use Rattle.std.specs.Prelude.{◌||◌, ◌&&◌}
use Rattle.std.specs.List.{AllByRecursion}
use Rattle.std.proofs.lemmas.Bool.{or_parts, lt-leb, and_parts}
use Rattle.gl_text.specs.LogicalLines.{is_blank, is_separator, is_loose, fold_byte, folded, put_back, trim_end, trim_front, squeeze, squeezed, tail_of}
use Rattle.gl_text.specs.WayBack.{IsOneLine}
use Rattle.gl_lists.proofs.Each.{by_cond}
use Rattle.gl_text.proofs.Trims.{end_shorter, front_shorter, squeezed_shorter}
use Rattle.std.proofs.Math.Bool.{and-false as and_no}

abbrev pub Plain : List ℕ → Type 0
Plain bytes = AllByRecursion (λ b. is_separator b ≡ false) bytes

-- a byte from which a line can begin
pub record IsStart (b : ℕ) : Type 0 where
  pub plain : is_separator b ≡ false
  pub no_star : eqb b 42 ≡ false
  pub no_plus : eqb b 43 ≡ false

-- folding leaves a byte, or it is a letter and gets 32 more
pub fold_elim : (P : ℕ → Type 0) (b : ℕ) → (65 ≤ b → b ≤ 90 → P (b + 32)) → (fold_byte b ≡ b → P b) → P (fold_byte b)
fold_elim P b up same = by_cond P (leb 65 b && leb b 90) (b + 32) b (λ e. let f = and_parts (leb 65 b) (leb b 90) e in up (leb-true 65 b f.0) (leb-true b 90 f.1)) (λ e. same (ap (λ t. cond t (b + 32) b) e))

pub high_plain : (b : ℕ) → 62 ≤ b → is_separator b ≡ false
high_plain b h = rw (ne_eqb b 32 (omega arith), ne_eqb b 9 (omega arith), ne_eqb b 13 (omega arith), ne_eqb b 44 (omega arith), ne_eqb b 61 (omega arith), ne_eqb b 40 (omega arith), ne_eqb b 41 (omega arith)) refl

high_start : (b : ℕ) → 62 ≤ b → IsStart b
high_start b h = record { plain = high_plain b h; no_star = ne_eqb b 42 (omega arith); no_plus = ne_eqb b 43 (omega arith) }

pub start_of_folded : (b : ℕ) → IsStart (fold_byte b) → IsStart b
start_of_folded b = fold_elim (λ x. IsStart x → IsStart b) b (λ l r h. high_start b (omega arith)) (λ e h. h)

pub fold_plain : (b : ℕ) → is_separator b ≡ false → is_separator (fold_byte b) ≡ false
fold_plain b h = fold_elim (λ x. is_separator x ≡ false) b (λ l r. high_plain (b + 32) (omega arith)) (λ e. h)

pub fold_line : (b : ℕ) → eqb b 10 ≡ false → eqb (fold_byte b) 10 ≡ false
fold_line b h = fold_elim (λ x. eqb x 10 ≡ false) b (λ l r. ne_eqb (b + 32) 10 (omega arith)) (λ e. h)

low_again : (b : ℕ) → 65 ≤ b → fold_byte (b + 32) ≡ b + 32
low_again b h = rw (lt-leb (b + 32) 90 (omega arith), and_no (leb 65 (b + 32))) refl

pub fold_twice : (b : ℕ) → fold_byte (fold_byte b) ≡ fold_byte b
fold_twice b = fold_elim (λ x. fold_byte x ≡ x) b (λ l r. low_again b l) (λ e. e)

pub folded_plain : (n : List ℕ) → Plain n → Plain (folded n)
folded_plain [] h = tt
folded_plain (b ∷ n) h = (fold_plain b h.0, folded_plain n h.1)

pub folded_line : (n : List ℕ) → IsOneLine n → IsOneLine (folded n)
folded_line [] h = tt
folded_line (b ∷ n) h = (fold_line b h.0, folded_line n h.1)

pub folded_twice : (n : List ℕ) → folded (folded n) ≡ folded n
folded_twice [] = refl
folded_twice (b ∷ n) = let e = fold_twice b in let f = folded_twice n in cc

-- ---- trimming keeps what holds of each byte

pub each_front : (Q : ℕ → Type 0) (p : ℕ → Bool) (xs : List ℕ) → AllByRecursion Q xs → AllByRecursion Q (trim_front p xs)
each_front Q p [] h = tt
each_front Q p (x ∷ xs) h = by_cond (AllByRecursion Q) (p x) (trim_front p xs) (x ∷ xs) (λ e. each_front Q p xs h.1) (λ e. h)

each_put : (Q : ℕ → Type 0) (p : ℕ → Bool) (x : ℕ) (xs : List ℕ) → Q x → AllByRecursion Q xs → AllByRecursion Q (put_back p x xs)
each_put Q p x [] q h = by_cond (AllByRecursion Q) (p x) [] (x ∷ []) (λ e. tt) (λ e. (q, tt))
each_put Q p x (y ∷ ys) q h = (q, h)

pub each_end : (Q : ℕ → Type 0) (p : ℕ → Bool) (xs : List ℕ) → AllByRecursion Q xs → AllByRecursion Q (trim_end p xs)
each_end Q p [] h = tt
each_end Q p (x ∷ xs) h = each_put Q p x (trim_end p xs) h.0 (each_end Q p xs h.1)

each_squeeze : (Q : ℕ → Type 0) → Q 32 → (x : ℕ) (xs : List ℕ) → Q x → AllByRecursion Q xs → AllByRecursion Q (squeeze x xs)
each_squeeze Q s x [] q h = (by_cond Q (is_blank x) 32 x (λ e. s) (λ e. q), tt)
each_squeeze Q s x (c ∷ cs) q h = by_cond (AllByRecursion Q) (is_blank x) (cond (eqb c 32) (c ∷ cs) (32 ∷ c ∷ cs)) (x ∷ c ∷ cs)
    (λ e. by_cond (AllByRecursion Q) (eqb c 32) (c ∷ cs) (32 ∷ c ∷ cs) (λ f. h) (λ f. (s, h))) (λ e. (q, h))

each_squeezed : (Q : ℕ → Type 0) → Q 32 → (xs : List ℕ) → AllByRecursion Q xs → AllByRecursion Q (squeezed xs)
each_squeezed Q s [] h = tt
each_squeezed Q s (x ∷ xs) h = each_squeeze Q s x (squeezed xs) h.0 (each_squeezed Q s xs h.1)

pub each_tail : (Q : ℕ → Type 0) → Q 32 → (text : List ℕ) → AllByRecursion Q text → AllByRecursion Q (tail_of text)
each_tail Q s text h = each_squeezed Q s (trim_end is_blank (trim_front is_loose text)) (each_end Q is_blank (trim_front is_loose text) (each_front Q is_loose text h))

-- ---- lengths

-- a text that trimming does not shorten stays as it is
front_same : (p : ℕ → Bool) (xs : List ℕ) → length xs ≤ length (trim_front p xs) → trim_front p xs ≡ xs
front_same p [] l = refl
front_same p (x ∷ xs) l = by_cond (λ ys. length (x ∷ xs) ≤ length ys → ys ≡ x ∷ xs) (p x) (trim_front p xs) (x ∷ xs) (λ e m. absurd (let n = front_shorter p xs in omega arith)) (λ e m. refl) l

end_same : (p : ℕ → Bool) (xs : List ℕ) → length xs ≤ length (trim_end p xs) → trim_end p xs ≡ xs
end_same p [] l = refl
end_same p (x ∷ xs) l = by (trim_end p xs) (end_same p xs) l where
  one : (zs ys : List ℕ) → ys ≡ [] → (length zs ≤ length ys → ys ≡ zs) → length (x ∷ zs) ≤ length (x ∷ []) → x ∷ [] ≡ x ∷ zs
  one [] ys e f m = refl
  one (z ∷ zs) ys e f m = absurd (omega arith)

  by : (ys : List ℕ) → (length xs ≤ length ys → ys ≡ xs) → length (x ∷ xs) ≤ length (put_back p x ys) → put_back p x ys ≡ x ∷ xs
  by [] f l = by_cond (λ zs. length (x ∷ xs) ≤ length zs → zs ≡ x ∷ xs) (p x) [] (x ∷ []) (λ h m. absurd (omega arith)) (λ h m. one xs [] refl f m) l
  by (y ∷ ys) f l = ap (λ zs. x ∷ zs) (f (omega arith))

-- a normal tail has no blank at its end
pub normal_end : (tail : List ℕ) → tail_of tail ≡ tail → trim_end is_blank tail ≡ tail
normal_end tail h =
    let front = trim_front is_loose tail in
    let a = front_shorter is_loose tail in
    let b = end_shorter is_blank front in
    let c = squeezed_shorter (trim_end is_blank front) in
    let d = ap length h in
    let e : front ≡ tail = front_same is_loose tail (omega arith) in
    end_same is_blank tail (let f = ap (λ xs. length (trim_end is_blank xs)) e in omega arith)

-- ---- the end of a text

pub plain_no_blank : (b : ℕ) → is_separator b ≡ false → is_blank b ≡ false
plain_no_blank b h =
    let one = (or_parts (is_blank b || eqb b 44 || eqb b 61 || eqb b 40) (eqb b 41) h).0 in
    let two = (or_parts (is_blank b || eqb b 44 || eqb b 61) (eqb b 40) one).0 in
    let three = (or_parts (is_blank b || eqb b 44) (eqb b 61) two).0 in
    (or_parts (is_blank b) (eqb b 44) three).0

abbrev pub Ends : List ℕ → Type 0
Ends text = trim_end is_blank text ≡ text

pub end_plain : (n : List ℕ) → Plain n → Ends n
end_plain [] h = refl
end_plain (b ∷ n) h = by n (end_plain n h.1) where
  by : (m : List ℕ) → Ends m → put_back is_blank b (trim_end is_blank m) ≡ b ∷ m
  by [] e = ap (λ t. cond t [] (b ∷ [])) (plain_no_blank b h.0)
  by (c ∷ m) e = ap (put_back is_blank b) e

-- what ends well, and does not stand alone
pub end_append : (xs : List ℕ) (y : ℕ) (ys : List ℕ) → Ends (y ∷ ys) → Ends (xs ++ y ∷ ys)
end_append [] y ys h = h
end_append (x ∷ xs) y ys h = by xs (end_append xs y ys h) where
  by : (zs : List ℕ) → Ends (zs ++ y ∷ ys) → put_back is_blank x (trim_end is_blank (zs ++ y ∷ ys)) ≡ x ∷ zs ++ y ∷ ys
  by [] e = ap (put_back is_blank x) e
  by (z ∷ zs) e = ap (put_back is_blank x) e

pub twice_by : (p : ℕ → Bool) (xs : List ℕ) → trim_end p (trim_end p xs) ≡ trim_end p xs
twice_by p [] = refl
twice_by p (x ∷ xs) = by (trim_end p xs) (twice_by p xs) where
  by : (ys : List ℕ) → trim_end p ys ≡ ys → trim_end p (put_back p x ys) ≡ put_back p x ys
  by [] e = by_cond (λ zs. trim_end p zs ≡ zs) (p x) [] (x ∷ []) (λ f. refl) (λ f. ap (λ t. cond t [] (x ∷ [])) f)
  by (y ∷ ys) e = ap (put_back p x) e

pub end_twice : (xs : List ℕ) → Ends (trim_end is_blank xs)
end_twice = twice_by is_blank
