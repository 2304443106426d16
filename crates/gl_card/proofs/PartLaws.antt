-- Fields by their places, and the names that they give.
use Rattle.std.proofs.Common.{◌≡◌, ◌+◌, ◌-◌, ◌<◌, ℕ, zero, suc, List, [], ◌∷◌, length, take, drop, get_or, map, Option, refl, sym, ap, ◌∙◌, arith}
use Rattle.std.specs.List.{take-map}
use Rattle.gl_text.specs.LogicalLines.{folded}
use Rattle.gl_text.specs.Cards as cards
use Rattle.gl_line.specs.declared.field.Field.{Field}
use Rattle.gl_line.specs.Fields.{piece_of}
use Rattle.gl_card.specs.Kinds.{shown}

pub but_last_is : {A : Type 0} (xs : List A) → take (length xs - 1) xs ≡ cards.but_last xs
but_last_is [] = refl
but_last_is (x ∷ []) = refl
but_last_is (x ∷ y ∷ ys) =
    let e : length (x ∷ y ∷ ys) - 1 ≡ suc (length (y ∷ ys) - 1) = omega arith in
    ap (λ n. take n (x ∷ y ∷ ys)) e ∙ ap (λ ns. x ∷ ns) (but_last_is (y ∷ ys))

pub last_at : (xs : List (List ℕ)) (d : List ℕ) → 0 < length xs → get_or xs (length xs - 1) d ≡ cards.last_name xs
last_at [] d h = absurd (omega arith)
last_at (x ∷ []) d h = refl
last_at (x ∷ y ∷ ys) d h =
    let e : length (x ∷ y ∷ ys) - 1 ≡ suc (length (y ∷ ys) - 1) = omega arith in
    ap (λ n. get_or (x ∷ y ∷ ys) n d) e ∙ last_at (y ∷ ys) d (omega arith)

pub last_is : (xs : List Field) (d : Field) → 0 < length xs → folded (get_or xs (length xs - 1) d).bytes.now ≡ cards.last_name (shown xs)
last_is [] d h = absurd (omega arith)
last_is (x ∷ []) d h = refl
last_is (x ∷ y ∷ ys) d h =
    let e : length (x ∷ y ∷ ys) - 1 ≡ suc (length (y ∷ ys) - 1) = omega arith in
    ap (λ n. folded (get_or (x ∷ y ∷ ys) n d).bytes.now) e ∙ last_is (y ∷ ys) d (omega arith)

abbrev pub behind_field : List ℕ → Field → List ℕ
behind_field text f = drop (f.start + length f.bytes.now) text

behind_at : (text : List ℕ) (xs : List Field) (k : ℕ) (d : Field) → k < length xs → behind_field text (get_or xs k d) ≡ cards.behind (suc k) (map (piece_of text) xs)
behind_at text [] k d h = absurd (omega arith)
behind_at text (x ∷ xs) zero d h = refl
behind_at text (x ∷ xs) (suc k) d h = behind_at text xs k d (omega arith)

pub behind_is : (text : List ℕ) (xs : List Field) (n : ℕ) (d : Field) → 0 < n → n - 1 < length xs → behind_field text (get_or xs (n - 1) d) ≡ cards.behind n (map (piece_of text) xs)
behind_is text xs n d some h =
    let e : suc (n - 1) ≡ n = omega arith in
    behind_at text xs (n - 1) d h ∙ ap (λ m. cards.behind m (map (piece_of text) xs)) e

pub shown_take : (n : ℕ) (xs : List Field) → shown (take n xs) ≡ take n (shown xs)
shown_take n xs = sym (take-map (λ (f : Field). folded f.bytes.now) n xs)

pub shown_drop : (n : ℕ) (xs : List Field) → shown (drop n xs) ≡ drop n (shown xs)
shown_drop zero xs = refl
shown_drop (suc n) [] = refl
shown_drop (suc n) (x ∷ xs) = shown_drop n xs

pub device_is : (name name' : List ℕ) (nodes nodes' : List (List ℕ)) (model model' : Option (List ℕ)) (tail tail' : List ℕ) → name ≡ name' → nodes ≡ nodes' → model ≡ model' → tail ≡ tail'
    → cards.dev (record { name = name; nodes = nodes; model = model; tail = tail }) ≡ cards.dev (record { name = name'; nodes = nodes'; model = model'; tail = tail' })
device_is name name' nodes nodes' model model' tail tail' a b c d = rw (a, b, c, d) refl
