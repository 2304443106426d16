-- The stem that is computed is the stem, where it stands in no name.
use Rattle.std.proofs.Common.{◌≡◌, ◌+◌, ◌<◌, ℕ, zero, suc, List, [], ◌∷◌, ◌++◌, cond, true, false, Bool, refl, sym, ap, ◌∙◌, subst, arith, inl, inr, eq-eqb}
use Rattle.std.specs.Prelude.{◌==◌, ◌&&◌}
use Rattle.std.specs.List.{list_any}
use Rattle.std.proofs.lemmas.Bool.{eqb-true, cases_lt, cases_eq, cases_order, and_parts, or_parts, or_cases, or_left, or_right, cases_Bool}
use Rattle.std.proofs.lemmas.List.Elements.{All-nil, All-cons, All-head, All-tail}
use Rattle.gl_base.specs.Stems.{StandsIn, IsUnused, IsStem, stem_with, is_front, stands_in, stem_from, stem_of}

front : (part behind : List ℕ) → is_front part (part ++ behind) ≡ true
front [] behind = refl
front (a ∷ rest) behind = ap (λ (b : Bool). b && is_front rest (rest ++ behind)) (eq-eqb a a refl) ∙ front rest behind

at_front : (part behind : List ℕ) → stands_in part (part ++ behind) ≡ true
at_front [] [] = refl
at_front [] (b ∷ bs) = refl
at_front (a ∷ rest) behind = or_left (is_front (a ∷ rest) (a ∷ rest ++ behind)) (stands_in (a ∷ rest) (rest ++ behind)) (front (a ∷ rest) behind)

stands : (part before behind : List ℕ) → stands_in part (before ++ part ++ behind) ≡ true
stands part [] behind = at_front part behind
stands part (b ∷ bs) behind = or_right (is_front part (b ∷ bs ++ part ++ behind)) (stands_in part (bs ++ part ++ behind)) (stands part bs behind)

pub seen : (part whole : List ℕ) → StandsIn part whole → stands_in part whole ≡ true
seen part whole s = ap (stands_in part) s.2 ∙ stands part s.0 s.1

behind_of : (part whole : List ℕ) → is_front part whole ≡ true → (behind : List ℕ) × (whole ≡ part ++ behind)
behind_of [] whole e = (whole, refl)
behind_of (a ∷ rest) [] e = absurd cc
behind_of (a ∷ rest) (b ∷ bs) e =
    let parts = and_parts (a == b) (is_front rest bs) e in
    let below = behind_of rest bs parts.1 in
    (below.0, ap (λ x. x ∷ bs) (sym (eqb-true a b parts.0)) ∙ ap (λ xs. a ∷ xs) below.1)

pub there : (part whole : List ℕ) → stands_in part whole ≡ true → StandsIn part whole
there part [] e = let f = behind_of part [] e in ([], f.0, f.1)
there part (b ∷ bs) e =
    elim (or_cases (is_front part (b ∷ bs)) (stands_in part bs) e) [
      | inl on ↦ let f = behind_of part (b ∷ bs) on in ([], f.0, f.1)
      | inr on ↦ let f = there part bs on in (b ∷ f.0, f.1, ap (λ xs. b ∷ xs) f.2)
    ]

unused : (names : List (List ℕ)) (text : List ℕ) → list_any (stands_in text) names ≡ false → IsUnused names text
unused [] text e = All-nil (λ name. ¬ StandsIn text name)
unused (n ∷ ns) text e =
    let parts = or_parts (stands_in text n) (list_any (stands_in text) ns) e in
    All-cons (λ name. ¬ StandsIn text name) n ns (λ s. let on : stands_in text n ≡ true = seen text n s in let off : stands_in text n ≡ false = parts.0 in absurd cc) (unused ns text parts.1)

used : (names : List (List ℕ)) (text : List ℕ) → list_any (stands_in text) names ≡ true → IsUnused names text → ⊥
used [] text e all = absurd cc
used (n ∷ ns) text e all =
    elim (or_cases (stands_in text n) (list_any (stands_in text) ns) e) [
      | inl on ↦ All-head (λ name. ¬ StandsIn text name) n ns all (there text n on)
      | inr on ↦ used ns text on (All-tail (λ name. ¬ StandsIn text name) n ns all)
    ]

-- all fewer underscores stand in a name
abbrev pub Fewer : List (List ℕ) → ℕ → Type 0
Fewer names underscores = (n : ℕ) → n < underscores → IsUnused names (stem_with n) → ⊥

one_more : (names : List (List ℕ)) (underscores : ℕ) → Fewer names underscores → list_any (stands_in (stem_with underscores)) names ≡ true → Fewer names (underscores + 1)
one_more names underscores fewer on n lt all =
    elim (cases_eq n underscores) [
      | inl e ↦ used names (stem_with underscores) on (subst (λ m. IsUnused names (stem_with m)) e all)
      | inr ne ↦ fewer n (lt_from n underscores ne lt) all
    ]
  where
    lt_from : (n u : ℕ) → (n ≡ u → ⊥) → n < u + 1 → n < u
    lt_from n u ne lt = elim (cases_order n u) [
      | inl e ↦ absurd (ne e)
      | inr order ↦ elim order [ inl below ↦ below | inr above ↦ absurd (omega (arith, lt, above)) ]
    ]

found_at : (names : List (List ℕ)) (underscores : ℕ) → Fewer names underscores → list_any (stands_in (stem_with underscores)) names ≡ false → IsStem names (stem_with underscores)
found_at names underscores fewer off = record {
  underscores = underscores;
  stem_is = refl;
  unused = unused names (stem_with underscores) off;
  fewest = λ n all. elim (cases_lt n underscores) [ inl below ↦ absurd (fewer n below all) | inr above ↦ above ];
}

pub stem_from_is : (names : List (List ℕ)) (more underscores : ℕ) → Fewer names underscores → list_any (stands_in (stem_from names more underscores)) names ≡ false → IsStem names (stem_from names more underscores)
stem_from_is names zero underscores fewer off = found_at names underscores fewer off
stem_from_is names (suc more) underscores fewer off =
    elim (cases_Bool (list_any (stands_in (stem_with underscores)) names)) [
      | inl on ↦
          let same : stem_from names (suc more) underscores ≡ stem_from names more (underscores + 1) = ap (λ (b : Bool). cond b (stem_from names more (underscores + 1)) (stem_with underscores)) on in
          subst (IsStem names) (sym same) (stem_from_is names more (underscores + 1) (one_more names underscores fewer on) (subst (λ s. list_any (stands_in s) names ≡ false) same off))
      | inr not ↦
          let same : stem_from names (suc more) underscores ≡ stem_with underscores = ap (λ (b : Bool). cond b (stem_from names more (underscores + 1)) (stem_with underscores)) not in
          subst (IsStem names) (sym same) (found_at names underscores fewer not)
    ]

pub stem_of_is : (names : List (List ℕ)) → list_any (stands_in (stem_of names)) names ≡ false → IsStem names (stem_of names)
stem_of_is names = stem_from_is names 9 0 (λ n lt all. absurd (omega (arith, lt)))
