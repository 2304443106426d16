-- A tail is its own tail.
use Rattle.std.proofs.Common.{◌≡◌, ℕ, List, [], ◌∷◌, cond, eqb, true, false, Bool, refl, ap, ◌∙◌}
use Rattle.std.specs.Prelude.{◌||◌}
use Rattle.std.proofs.lemmas.Bool.{or_parts}
use Rattle.gl_text.specs.LogicalLines.{is_blank, is_loose, put_back, trim_end, trim_front, squeeze, squeezed, tail_of}

-- ---- squeezing again

after_blank : (c : ℕ) (cs : List ℕ) (e : Bool) → eqb c 32 ≡ e → squeezed (c ∷ cs) ≡ c ∷ cs → squeezed (cond e (c ∷ cs) (32 ∷ c ∷ cs)) ≡ cond e (c ∷ cs) (32 ∷ c ∷ cs)
after_blank c cs true h same = same
after_blank c cs false h same = ap (squeeze 32) same ∙ ap (λ t. cond t (c ∷ cs) (32 ∷ c ∷ cs)) h

again : (x : ℕ) (s : List ℕ) (b : Bool) → is_blank x ≡ b → squeezed s ≡ s → squeezed (squeeze x s) ≡ squeeze x s
again x [] true h same = rw h refl
again x [] false h same = rw h (rw h refl)
again x (c ∷ cs) true h same = rw h (after_blank c cs (eqb c 32) refl same)
again x (c ∷ cs) false h same =
    rw h (ap (squeeze x) same ∙ ap (λ t. cond t (cond (eqb c 32) (c ∷ cs) (32 ∷ c ∷ cs)) (x ∷ c ∷ cs)) h)

squeezed-squeezed : (xs : List ℕ) → squeezed (squeezed xs) ≡ squeezed xs
squeezed-squeezed [] = refl
squeezed-squeezed (x ∷ xs) = again x (squeezed xs) (is_blank x) refl (squeezed-squeezed xs)

-- ---- the end stays

inner_end : (x : ℕ) (t xs : List ℕ) (b : Bool) → is_blank x ≡ b → put_back is_blank x t ≡ x ∷ xs → t ≡ xs
inner_end x [] xs true b h = absurd (let e : [] ≡ x ∷ xs = rw b at h in cc)
inner_end x [] xs false b h = let e : x ∷ [] ≡ x ∷ xs = rw b at h in cc
inner_end x (y ∷ ys) xs b e h = cc

last_end : (x : ℕ) (b : Bool) → is_blank x ≡ b → put_back is_blank x [] ≡ x ∷ [] → is_blank x ≡ false
last_end x true b h = absurd (let e : [] ≡ x ∷ [] = rw b at h in cc)
last_end x false b h = b

blank_end : (c : ℕ) (cs : List ℕ) (e : Bool) → trim_end is_blank (c ∷ cs) ≡ c ∷ cs → trim_end is_blank (cond e (c ∷ cs) (32 ∷ c ∷ cs)) ≡ cond e (c ∷ cs) (32 ∷ c ∷ cs)
blank_end c cs true same = same
blank_end c cs false same = ap (put_back is_blank 32) same

more_end : (x : ℕ) (c : ℕ) (cs : List ℕ) (b : Bool) → is_blank x ≡ b → trim_end is_blank (c ∷ cs) ≡ c ∷ cs → trim_end is_blank (squeeze x (c ∷ cs)) ≡ squeeze x (c ∷ cs)
more_end x c cs true h same = rw h (blank_end c cs (eqb c 32) same)
more_end x c cs false h same = rw h (ap (put_back is_blank x) same)

some_of : (y c : ℕ) (cs : List ℕ) (b e : Bool) → cond b (cond e (c ∷ cs) (32 ∷ c ∷ cs)) (y ∷ c ∷ cs) ≡ [] → ⊥
some_of y c cs true true h = cc
some_of y c cs true false h = cc
some_of y c cs false e h = cc

squeeze-some : (y : ℕ) (t : List ℕ) → squeeze y t ≡ [] → ⊥
squeeze-some y [] h = cc
squeeze-some y (c ∷ cs) h = some_of y c cs (is_blank y) (eqb c 32) h

go_end : (x : ℕ) (s : List ℕ) → (s ≡ [] → ⊥) → trim_end is_blank s ≡ s → trim_end is_blank (squeeze x s) ≡ squeeze x s
go_end x [] some same = absurd (some refl)
go_end x (c ∷ cs) some same = more_end x c cs (is_blank x) refl same

trim_end-squeezed : (xs : List ℕ) → trim_end is_blank xs ≡ xs → trim_end is_blank (squeezed xs) ≡ squeezed xs
trim_end-squeezed [] h = refl
trim_end-squeezed (x ∷ []) h = let f = last_end x (is_blank x) refl h in rw f (rw f refl)
trim_end-squeezed (x ∷ y ∷ ys) h =
    go_end x (squeezed (y ∷ ys)) (squeeze-some y (squeezed ys)) (trim_end-squeezed (y ∷ ys) (inner_end x (trim_end is_blank (y ∷ ys)) (y ∷ ys) (is_blank x) refl h))

end_again : (x : ℕ) (t : List ℕ) (b : Bool) → is_blank x ≡ b → trim_end is_blank t ≡ t → trim_end is_blank (put_back is_blank x t) ≡ put_back is_blank x t
end_again x [] true h same = rw h refl
end_again x [] false h same = rw h (rw h refl)
end_again x (y ∷ ys) b h same = ap (put_back is_blank x) same

trim_end-trim_end : (xs : List ℕ) → trim_end is_blank (trim_end is_blank xs) ≡ trim_end is_blank xs
trim_end-trim_end [] = refl
trim_end-trim_end (x ∷ xs) = end_again x (trim_end is_blank xs) (is_blank x) refl (trim_end-trim_end xs)

-- ---- the front stays

abbrev Starts : List ℕ → Type 0
Starts [] = Unit {0}
Starts (c ∷ cs) = is_loose c ≡ false

no_blank : (c : ℕ) → is_loose c ≡ false → is_blank c ≡ false
no_blank c h = (or_parts (is_blank c) (eqb c 44) (or_parts (is_blank c || eqb c 44) (eqb c 41) h).0).0

front_kept : (x : ℕ) (xs : List ℕ) (b : Bool) → is_loose x ≡ b → Starts (trim_front is_loose xs) → Starts (cond b (trim_front is_loose xs) (x ∷ xs))
front_kept x xs true h s = s
front_kept x xs false h s = h

starts-front : (xs : List ℕ) → Starts (trim_front is_loose xs)
starts-front [] = tt
starts-front (x ∷ xs) = front_kept x xs (is_loose x) refl (starts-front xs)

starts-put_back : (c : ℕ) (t : List ℕ) → is_loose c ≡ false → Starts (put_back is_blank c t)
starts-put_back c [] h = rw (no_blank c h) h
starts-put_back c (y ∷ ys) h = h

starts-end : (xs : List ℕ) → Starts xs → Starts (trim_end is_blank xs)
starts-end [] h = tt
starts-end (c ∷ cs) h = starts-put_back c (trim_end is_blank cs) h

starts-squeeze : (c : ℕ) (s : List ℕ) → is_loose c ≡ false → Starts (squeeze c s)
starts-squeeze c [] h = rw (no_blank c h) h
starts-squeeze c (y ∷ ys) h = rw (no_blank c h) h

starts-squeezed : (xs : List ℕ) → Starts xs → Starts (squeezed xs)
starts-squeezed [] h = tt
starts-squeezed (c ∷ cs) h = starts-squeeze c (squeezed cs) h

front_same : (xs : List ℕ) → Starts xs → trim_front is_loose xs ≡ xs
front_same [] h = refl
front_same (c ∷ cs) h = rw h refl

-- a tail is normal: reading it again changes nothing
pub tail_again : (text : List ℕ) → tail_of (tail_of text) ≡ tail_of text
tail_again text =
    let front = trim_front is_loose text in
    let both = trim_end is_blank front in
    let s : trim_front is_loose (squeezed both) ≡ squeezed both = front_same (squeezed both) (starts-squeezed both (starts-end front (starts-front text))) in
    let e : trim_end is_blank (squeezed both) ≡ squeezed both = trim_end-squeezed both (trim_end-trim_end front) in
    ap (λ t. squeezed (trim_end is_blank t)) s ∙ ap squeezed e ∙ squeezed-squeezed both
