-- What stands in a table under a number that stands there once.
use Rattle.std.proofs.Common.{◌≡◌, ◌≤◌, ◌∙◌, ◌+◌, ℕ, List, [], ◌∷◌, ◌++◌, cond, eqb, Some, None, refl, ap, arith, inl, inr}
use Rattle.std.specs.Prelude.{Contains, find}
use Rattle.std.specs.Option.{option_map}
use Rattle.std.proofs.lemmas.Bool.{cases_Bool, eq-eqb}
use Rattle.gl_match.proofs.Lists.{in_none, in_cons}
use Rattle.gl_lifting.specs.NameMaps.{under}

-- how often a number stands in a table
abbrev pub times : {A : Type 0} → ℕ → List (ℕ × A) → ℕ
times k [] = 0
times k (row ∷ rows) = cond (eqb row.0 k) 1 0 + times k rows

pub times-append : {A : Type 0} (k : ℕ) (xs ys : List (ℕ × A)) → times k (xs ++ ys) ≡ times k xs + times k ys
times-append k [] ys = omega arith
times-append k (x ∷ xs) ys = omega (arith, times-append k xs ys)

-- a number that a row has stands there
pub times_there : {A : Type 0} (k : ℕ) (v : A) (rows : List (ℕ × A)) → Contains rows (k, v) → 1 ≤ times k rows
times_there k v [] h = absurd (in_none (k, v) h)
times_there {A} k v (row ∷ rows) h = elim (in_cons row rows (k, v) h) [
  | inl same ↦
      let on : cond {A = ℕ} (eqb row.0 k) 1 0 ≡ 1 = ap (λ b. cond {A = ℕ} b 1 0) (eq-eqb row.0 k (ap (λ (r : ℕ × A). r.0) same)) in
      omega (arith, on)
  | inr later ↦ omega (arith, times_there k v rows later)
]

-- where it stands there at most once, its row is found
pub under_one : {A : Type 0} (k : ℕ) (v : A) (rows : List (ℕ × A)) → times k rows ≤ 1 → Contains rows (k, v) → under rows k ≡ Some v
under_one k v [] le h = absurd (in_none (k, v) h)
under_one {A} k v (row ∷ rows) le h = elim (cases_Bool (eqb row.0 k)) [
  | inl on ↦ elim (in_cons row rows (k, v) h) [
    | inl same ↦ ap (λ b. option_map (λ (r : ℕ × A). r.1) (cond b (Some row) (find (λ (r : ℕ × A). eqb r.0 k) rows))) on ∙ ap (λ (r : ℕ × A). Some r.1) same
    | inr later ↦
        let one : cond {A = ℕ} (eqb row.0 k) 1 0 ≡ 1 = ap (λ b. cond {A = ℕ} b 1 0) on in
        absurd (omega (arith, one, le, times_there k v rows later))
  ]
  | inr off ↦ elim (in_cons row rows (k, v) h) [
    | inl same ↦ let on = eq-eqb row.0 k (ap (λ (r : ℕ × A). r.0) same) in absurd cc
    | inr later ↦ ap (λ b. option_map (λ (r : ℕ × A). r.1) (cond b (Some row) (find (λ (r : ℕ × A). eqb r.0 k) rows))) off ∙ under_one k v rows (omega (arith, le)) later
  ]
]

-- where it does not, nothing is
pub under_none : {A : Type 0} (k : ℕ) (rows : List (ℕ × A)) → times k rows ≤ 0 → under rows k ≡ None
under_none k [] le = refl
under_none {A} k (row ∷ rows) le = elim (cases_Bool (eqb row.0 k)) [
  | inl on ↦
      let one : cond {A = ℕ} (eqb row.0 k) 1 0 ≡ 1 = ap (λ b. cond {A = ℕ} b 1 0) on in
      absurd (omega (arith, one, le))
  | inr off ↦ ap (λ b. option_map (λ (r : ℕ × A). r.1) (cond b (Some row) (find (λ (r : ℕ × A). eqb r.0 k) rows))) off ∙ under_none k rows (omega (arith, le))
]
