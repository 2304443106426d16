-- There is one choice, and the picks are it.
use Rattle.std.proofs.Common.{◌≡◌, ◌∙◌, ◌+◌, ◌<◌, ◌≤◌, ◌∷◌, [], ℕ, zero, suc, List, Some, length, map, take, drop, get_or, refl, sym, ap, subst, arith}
use Rattle.std.specs.Prelude.{slice_get}
use Rattle.std.specs.List.{count_by}
use Rattle.std.proofs.lemmas.List.{drop_at, length-append, take_all, take_at, take_more_same}
use Rattle.std.proofs.lemmas.Option.{slice_get-get_or}
use Rattle.gl_match.specs.declared.role.Pick.{Pick}
use Rattle.gl_match.specs.declared.role.Pick.TheVariants.{Taken, Over}
use Rattle.gl_match.specs.Choice.{IsChoice, IsChosen, IsPicked, is_taken, joined}
use Rattle.gl_match.specs.Picks.{chosen_after, chosen_after_all, picks_after, picks_by_list, picks_of}
use Rattle.gl_cover.proofs.Gone.{picks_gone}

-- ---- the picks are a choice

length_picks : (first : ℕ) (chosen sets : List (List ℕ)) → length (picks_after first chosen sets) ≡ length sets
length_picks first chosen [] = refl
length_picks first chosen (set ∷ sets) = ap suc (length_picks first (chosen_after first chosen set) sets)

lengths_of_picks : (first : ℕ) (chosen : List (List ℕ)) (lists : List (List (List ℕ))) → map length (picks_by_list first chosen lists) ≡ map length lists
lengths_of_picks first chosen [] = refl
lengths_of_picks first chosen (sets ∷ lists) =
    ap (λ k. k ∷ map length (picks_by_list first (chosen_after_all first chosen sets) lists)) (length_picks first chosen sets)
    ∙ ap (λ ks. length sets ∷ ks) (lengths_of_picks first (chosen_after_all first chosen sets) lists)

pub picks_are_choice : (first : ℕ) (lists : List (List (List ℕ))) → IsChoice first lists (picks_of first lists)
picks_are_choice first lists = record { as_many = lengths_of_picks first [] lists; each = (picks_gone first lists).each }

-- ---- two choices are one

chosen_front : (xs ys : List Pick) (n j k : ℕ) → take n xs ≡ take n ys → j < n → IsChosen xs j k → IsChosen ys j k
chosen_front xs ys n j k e lt is = sym (front ys n j lt) ∙ (ap (λ ps. slice_get ps j) (sym e) ∙ (front xs n j lt ∙ is)) where
  front : (zs : List Pick) (a b : ℕ) → b < a → slice_get (take a zs) b ≡ slice_get zs b
  front zs zero b g = absurd (omega (arith, g))
  front [] (suc a) b g = refl
  front (z ∷ zs) (suc a) zero g = refl
  front (z ∷ zs) (suc a) (suc b) g = front zs a b (omega (arith, g))

same_pick : (first : ℕ) (sets : List (List ℕ)) (xs ys : List Pick) (n : ℕ) (p q : Pick) → take n xs ≡ take n ys → IsPicked first sets xs n p → IsPicked first sets ys n q → p ≡ q
same_pick first sets xs ys n (Taken k) (Taken l) e f g = ap Taken (f.number_is ∙ (ap (λ (ps : List Pick). first + count_by is_taken ps) e ∙ sym g.number_is))
same_pick first sets xs ys n (Taken k) (Over l) e f g =
    let one = g.meets_one in
    absurd (f.is_free one.0 l one.1 (chosen_front ys xs n one.0 l (sym e) one.1 one.2) one.3)
same_pick first sets xs ys n (Over k) (Taken l) e f g =
    let one = f.meets_one in
    absurd (g.is_free one.0 k one.1 (chosen_front xs ys n one.0 k e one.1 one.2) one.3)
same_pick first sets xs ys n (Over k) (Over l) e f g =
    let mine = f.meets_one in
    let other = g.meets_one in
    let low : k ≤ l = f.is_lowest other.0 l (chosen_front ys xs n other.0 l (sym e) other.1 other.2) other.3 in
    let high : l ≤ k = g.is_lowest mine.0 k (chosen_front xs ys n mine.0 k e mine.1 mine.2) mine.3 in
    ap Over (omega (arith, low, high))

same_front : (first : ℕ) (sets : List (List ℕ)) (xs ys : List Pick) → length xs ≡ length ys → ((i : ℕ) (p : Pick) → slice_get xs i ≡ Some p → IsPicked first sets xs i p) → ((i : ℕ) (p : Pick) → slice_get ys i ≡ Some p → IsPicked first sets ys i p) → (n : ℕ) → n ≤ length xs → take n xs ≡ take n ys
same_front first sets xs ys len f g zero le = refl
same_front first sets xs ys len f g (suc n) le =
    let none : Pick = Taken 0 in
    let before = same_front first sets xs ys len f g n (omega (arith, le)) in
    let lx : n < length xs = omega (arith, le) in
    let ly : n < length ys = omega (arith, le, len) in
    let same : get_or xs n none ≡ get_or ys n none = same_pick first sets xs ys n (get_or xs n none) (get_or ys n none) before (f n (get_or xs n none) (slice_get-get_or xs n none lx)) (g n (get_or ys n none) (slice_get-get_or ys n none ly)) in
    let next : n + 1 ≡ suc n = omega arith in
    subst (λ k. take k xs ≡ take k ys) next (take_more_same xs ys n none lx ly before same)

-- lists of equal lengths are told by what they are joined
split_same : (xs ys : List (List Pick)) → map length xs ≡ map length ys → joined xs ≡ joined ys → xs ≡ ys
split_same [] [] e f = refl
split_same [] (y ∷ ys) e f = absurd cc
split_same (x ∷ xs) [] e f = absurd cc
split_same (x ∷ xs) (y ∷ ys) e f =
    let one : length x ≡ length y = cc in
    let rest : map length xs ≡ map length ys = cc in
    let first : x ≡ y = sym (take_at x (joined xs) (length x) refl) ∙ (ap (take (length x)) f ∙ take_at y (joined ys) (length x) (sym one)) in
    let later : joined xs ≡ joined ys = sym (drop_at x (joined xs) (length x) refl) ∙ (ap (drop (length x)) f ∙ drop_at y (joined ys) (length x) (sym one)) in
    ap (λ (z : List Pick). z ∷ xs) first ∙ ap (λ (zs : List (List Pick)). y ∷ zs) (split_same xs ys rest later)

length_joined : (xs ys : List (List Pick)) → map length xs ≡ map length ys → length (joined xs) ≡ length (joined ys)
length_joined [] [] e = refl
length_joined [] (y ∷ ys) e = absurd cc
length_joined (x ∷ xs) [] e = absurd cc
length_joined (x ∷ xs) (y ∷ ys) e =
    let one : length x ≡ length y = cc in
    let rest : map length xs ≡ map length ys = cc in
    omega (arith, length-append x (joined xs), length-append y (joined ys), one, length_joined xs ys rest)

pub one_choice : (first : ℕ) (lists : List (List (List ℕ))) (xs ys : List (List Pick)) → IsChoice first lists xs → IsChoice first lists ys → xs ≡ ys
one_choice first lists xs ys f g =
    let as_many : map length xs ≡ map length ys = f.as_many ∙ sym g.as_many in
    let len = length_joined xs ys as_many in
    let n = length (joined xs) in
    let same = same_front first (joined lists) (joined xs) (joined ys) len f.each g.each n (omega arith) in
    split_same xs ys as_many (sym (take_all n (joined xs) (omega arith)) ∙ (same ∙ take_all n (joined ys) (omega (arith, len))))
