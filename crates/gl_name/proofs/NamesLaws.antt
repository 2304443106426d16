-- What names need makes their stem.
use Rattle.std.proofs.Common.{◌≡◌, ℕ, ◌≤◌, List, [], ◌∷◌, ◌++◌, map, refl, sym, ap, ◌∙◌, subst, arith, inl, inr, ltb-true, ltb-false, le_antisymm}
use Rattle.std.specs.Prelude.{max, nat_lt}
use Rattle.std.proofs.lemmas.Bool.{cases_Bool}
use Rattle.std.proofs.lemmas.List.Elements.{All-nil, All-cons, All-head, All-tail}
use Rattle.gl_text.specs.Cards.{Device as Card}
use Rattle.gl_text.specs.Flattening.{FlatDevice, device_name, flat_card}
use Rattle.gl_base.specs.Stems.{StandsIn, stem_with, IsUnused, IsStem}
use Rattle.gl_base.specs.Rails.{all_rails}
use Rattle.gl_name.specs.Needs.{need, need_of_names}
use Rattle.gl_name.proofs.StandingLaws.{needs_more, stands_below}

-- with as many underscores as are needed it stands in none
unused : (n : ℕ) (names : List (List ℕ)) → need_of_names names ≤ n → IsUnused names (stem_with n)
unused n [] h = All-nil (λ name. ¬ StandsIn (stem_with n) name)
unused n (x ∷ xs) h =
    All-cons (λ name. ¬ StandsIn (stem_with n) name) x xs
    (λ stands. omega (arith, h, needs_more n x stands)) (unused n xs (omega (arith, h)))

-- where it stands in none, it has as many
enough : (n : ℕ) (names : List (List ℕ)) → IsUnused names (stem_with n) → need_of_names names ≤ n
enough n [] h = omega arith
enough n (x ∷ xs) h =
    elim (cases_Bool (nat_lt n (need x))) [
      | inl on ↦ absurd (All-head (λ name. ¬ StandsIn (stem_with n) name) x xs h (stands_below n x (ltb-true n (need x) on)))
      | inr off ↦ omega (arith, ltb-false n (need x) off, enough n xs (All-tail (λ name. ¬ StandsIn (stem_with n) name) x xs h))
    ]

-- the stem of names
pub stem_of_need : (names : List (List ℕ)) → IsStem names (stem_with (need_of_names names))
stem_of_need names = record {
  underscores = need_of_names names;
  stem_is = refl;
  unused = unused (need_of_names names) names (omega arith);
  fewest = λ n absent. enough n names absent;
}

pub one_stem : (names : List (List ℕ)) (s t : List ℕ) → IsStem names s → IsStem names t → s ≡ t
one_stem names s t a b =
    let up : a.underscores ≤ b.underscores = a.fewest b.underscores (subst (IsUnused names) b.stem_is b.unused) in
    let down : b.underscores ≤ a.underscores = b.fewest a.underscores (subst (IsUnused names) a.stem_is a.unused) in
    a.stem_is ∙ (ap stem_with (le_antisymm up down) ∙ sym b.stem_is)

-- names and more names
pub need_append : (xs ys : List (List ℕ)) → need_of_names (xs ++ ys) ≡ max (need_of_names xs) (need_of_names ys)
need_append [] ys = omega arith
need_append (x ∷ xs) ys = omega (arith, need_append xs ys)

-- the greatest of four; `0` needs none
regroup : (d n r p : ℕ) → max (max (max (max 0 d) n) r) p ≡ max (max (max d n) (max 0 r)) p
regroup d n r p = omega arith

-- the parts of a deck
pub need_parts : (devices nets rails ports : List (List ℕ)) → max (max (max (max 0 (need_of_names devices)) (need_of_names nets)) (need_of_names rails)) (need_of_names ports) ≡ need_of_names (devices ++ nets ++ all_rails rails ++ ports)
need_parts devices nets rails ports =
    let two : need_of_names (devices ++ nets) ≡ max (need_of_names devices) (need_of_names nets) = need_append devices nets in
    let three : need_of_names (devices ++ nets ++ all_rails rails) ≡ max (max (need_of_names devices) (need_of_names nets)) (need_of_names (all_rails rails)) = need_append (devices ++ nets) (all_rails rails) ∙ ap (λ n. max n (need_of_names (all_rails rails))) two in
    let whole : need_of_names (devices ++ nets ++ all_rails rails ++ ports) ≡ max (max (max (need_of_names devices) (need_of_names nets)) (need_of_names (all_rails rails))) (need_of_names ports) = need_append (devices ++ nets ++ all_rails rails) ports ∙ ap (λ n. max n (need_of_names ports)) three in
    regroup (need_of_names devices) (need_of_names nets) (need_of_names rails) (need_of_names ports) ∙ sym whole

-- the names of the cards of flat devices
abbrev pub card_names : List FlatDevice → List (List ℕ)
card_names devices = map (λ (c : Card). c.name) (map flat_card devices)

pub names_of_cards : (devices : List FlatDevice) → map device_name devices ≡ card_names devices
names_of_cards [] = refl
names_of_cards (d ∷ ds) = ap (λ (ns : List (List ℕ)). device_name d ∷ ns) (names_of_cards ds)
