-- The first word of a line.
use Rattle.std.proofs.Common.{◌≡◌, ◌+◌, ◌-◌, ◌<◌, ◌≤◌, ℕ, zero, suc, List, [], ◌∷◌, length, get_or, take, drop, cond, eqb, ltb, true, false, Bool, Some, None, refl, sym, ap, ◌∙◌, arith, inl, inr}
use Rattle.std.specs.Prelude.{not}
use Rattle.std.specs.List.{position, position_or_len, onto_first}
use Rattle.std.proofs.lemmas.Bool.{cases_Bool, ltb-false}
use Rattle.std.proofs.lemmas.List.{take_rest}
use Rattle.std.proofs.lemmas.List.Quantifiers.{position-Some}
use Rattle.gl_lifting.specs.MapReading.{other, row_of, words_of}

-- what the words of a text are by its first byte
abbrev words_by : Bool → ℕ → List ℕ → List (List ℕ)
words_by b x xs = cond b ([] ∷ words_of xs) (onto_first x (words_of xs))

front_word : (xs : List ℕ) (k : ℕ) → k < length xs → eqb (get_or xs k 0) 32 ≡ true → ((i : ℕ) → i < k → eqb (get_or xs i 0) 32 ≡ false) → words_of xs ≡ take k xs ∷ words_of (drop (suc k) xs)
front_word [] k lt e none = absurd (omega arith)
front_word (x ∷ xs) zero lt e none = ap (λ b. words_by b x xs) e
front_word (x ∷ xs) (suc k) lt e none =
    let later = front_word xs k (omega arith) e (λ i h. none (suc i) (omega arith)) in
    ap (λ b. words_by b x xs) (none 0 (omega arith)) ∙ ap (onto_first x) later

-- the word up to the first space
pub first_word : (xs : List ℕ) (k : ℕ) → position (λ b. eqb b 32) xs ≡ Some k → words_of xs ≡ take k xs ∷ words_of (take (length xs - (k + 1)) (drop (k + 1) xs))
first_word xs k e =
    let at = position-Some (λ b. eqb b 32) xs k 0 e in
    let next : k + 1 ≡ suc k = omega arith in
    let tail : take (length xs - (k + 1)) (drop (k + 1) xs) ≡ drop (suc k) xs = take_rest xs (k + 1) ∙ ap (λ n. drop n xs) next in
    front_word xs k at.0 at.1 at.2 ∙ ap (λ ys. take k xs ∷ words_of ys) (sym tail)

by_case : (b : Bool) (n m : ℕ) → suc n ≤ cond (not b) (1 + m) 0 → (b ≡ false) × (n ≤ m)
by_case true n m h = absurd (omega arith)
by_case false n m h = (refl, omega arith)

passes_none : (x : ℕ) (xs : List ℕ) → length (x ∷ xs) ≤ position_or_len (λ b. eqb b 32) (x ∷ xs) → (eqb x 32 ≡ false) × (length xs ≤ position_or_len (λ b. eqb b 32) xs)
passes_none x xs h = by_case (eqb x 32) (length xs) (position_or_len (λ b. eqb b 32) xs) h

all_one : (xs : List ℕ) → length xs ≤ position_or_len (λ b. eqb b 32) xs → words_of xs ≡ xs ∷ []
all_one [] h = refl
all_one (x ∷ xs) h = let t = passes_none x xs h in ap (λ b. words_by b x xs) t.0 ∙ ap (onto_first x) (all_one xs t.1)

-- a text with no space is one word
pub one_word : (xs : List ℕ) → position (λ b. eqb b 32) xs ≡ None → words_of xs ≡ xs ∷ []
one_word xs e = all_one xs (long (length xs) (position_or_len (λ b. eqb b 32) xs) e) where
  long : (n m : ℕ) → cond (ltb m n) (Some m) None ≡ None → n ≤ m
  long n m e = elim (cases_Bool (ltb m n)) [
    | inl t ↦ absurd (let e' : Some m ≡ None = rw t at e in cc)
    | inr f ↦ ltb-false m n f
  ]

-- a text has a word
some_word : (xs : List ℕ) → (w : List ℕ) × (ws : List (List ℕ)) × (words_of xs ≡ w ∷ ws)
some_word [] = ([], [], refl)
some_word (x ∷ xs) =
    elim (cases_Bool (eqb x 32)) [
      | inl on ↦ ([], words_of xs, ap (λ b. words_by b x xs) on)
      | inr off ↦ let later = some_word xs in (x ∷ later.0, later.1, ap (λ b. words_by b x xs) off ∙ ap (onto_first x) later.2)
    ]

-- more than three words are no row
pub many_words : (word new old behind first second : List ℕ) → words_of behind ≡ new ∷ words_of old → words_of old ≡ first ∷ words_of second → other ≡ row_of (word ∷ words_of behind)
many_words word new old behind first second e f =
    let last = some_word second in
    let all : words_of behind ≡ new ∷ first ∷ last.0 ∷ last.1 = e ∙ ap (λ ws. new ∷ ws) (f ∙ ap (λ ws. first ∷ ws) last.2) in
    sym (ap (λ ws. row_of (word ∷ ws)) all)
