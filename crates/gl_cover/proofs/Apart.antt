-- The chosen instances of a choice: their devices, and their numbers.
use Rattle.std.proofs.Common.{◌≡◌, ◌∙◌, ◌+◌, ◌<◌, ◌∷◌, [], ℕ, suc, List, cond, length, take, refl, sym, ap, arith, inl, inr}
use Rattle.std.specs.List.{count_by, range_with_len}
use Rattle.std.proofs.lemmas.Bool.{cases_eq, cases_lt}
use Rattle.std.proofs.lemmas.List.FromFn.{length-range_with_len}
use Rattle.std.proofs.lemmas.List.Sums.{sum_by-cons}
use Rattle.gl_match.specs.declared.role.Pick.{Pick}
use Rattle.gl_match.specs.declared.role.Pick.TheVariants.{Taken, Over}
use Rattle.gl_match.specs.Choice.{IsChoice, IsChosen, Meet, is_taken, joined, numbers_of}

pub apart : (first : ℕ) (lists : List (List (List ℕ))) (picks : List (List Pick)) → IsChoice first lists picks → (i j k l : ℕ) → IsChosen (joined picks) i k → IsChosen (joined picks) j l → Meet (joined lists) i j → i ≡ j
apart first lists picks h i j k l f g meet = elim (cases_eq i j) [
  | inl same ↦ same
  | inr other ↦ elim (cases_lt i j) [
    | inl lt ↦ absurd ((h.each j (Taken l) g).is_free i k lt f (meet.0, meet.2, meet.1))
    | inr le ↦ let lt : j < i = omega arith in absurd ((h.each i (Taken k) f).is_free j l lt g meet)
  ]
]

-- ---- the numbers run on

numbers_run : (n : ℕ) (picks : List Pick) → ((i k : ℕ) → IsChosen picks i k → k ≡ n + count_by is_taken (take i picks)) → numbers_of picks ≡ range_with_len n (count_by is_taken picks)
numbers_run n [] h = refl
numbers_run n (Taken k ∷ ps) h =
    let one : k ≡ n = h 0 k refl ∙ omega arith in
    let rest = numbers_run (n + 1) ps (λ i l is. h (suc i) l is ∙ omega (arith, sum_by-cons (λ (r : Pick). cond (is_taken r) 1 0) (Taken k) (take i ps))) in
    let count : count_by is_taken (Taken k ∷ ps) ≡ suc (count_by is_taken ps) = omega (arith, sum_by-cons (λ (r : Pick). cond (is_taken r) 1 0) (Taken k) ps) in
    ap (λ m. m ∷ numbers_of ps) one ∙ ap (λ ms. n ∷ ms) rest ∙ sym (ap (λ m. range_with_len n m) count)
numbers_run n (Over k ∷ ps) h =
    let rest = numbers_run n ps (λ i l is. h (suc i) l is ∙ omega (arith, sum_by-cons (λ (r : Pick). cond (is_taken r) 1 0) (Over k) (take i ps))) in
    let count : count_by is_taken (Over k ∷ ps) ≡ count_by is_taken ps = omega (arith, sum_by-cons (λ (r : Pick). cond (is_taken r) 1 0) (Over k) ps) in
    rest ∙ sym (ap (λ m. range_with_len n m) count)

pub numbers_are : (first : ℕ) (lists : List (List (List ℕ))) (picks : List (List Pick)) → IsChoice first lists picks → numbers_of (joined picks) ≡ range_with_len first (length (numbers_of (joined picks)))
numbers_are first lists picks h =
    let all = joined picks in
    let runs = numbers_run first all (λ i k is. (h.each i (Taken k) is).number_is) in
    let count : length (numbers_of all) ≡ count_by is_taken all = ap length runs ∙ length-range_with_len first (count_by is_taken all) in
    runs ∙ ap (λ m. range_with_len first m) (sym count)
