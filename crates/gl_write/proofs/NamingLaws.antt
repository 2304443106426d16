-- Names of variants as they are given, one after another.
use Rattle.std.proofs.Common.{◌≡◌, ◌+◌, ◌<◌, ◌^◌, ℕ, suc, List, [], ◌∷◌, ◌++◌, length, Bool, true, false, cond, Option, Some, refl, sym, ap, ◌∙◌, subst, arith, inl, inr}
use Rattle.std.specs.Prelude.{not, unwrap_or}
use Rattle.std.specs.Map.{lookup}
use Rattle.std.proofs.lemmas.Bool.{cases_Bool}
use Rattle.gl_lists.proofs.EachOnce.{same_if, differ_if}
use Rattle.gl_text.specs.LogicalLines.{same_text}
use Rattle.gl_base.proofs.TextLaws.{exact, itself}
use Rattle.gl_lifting.specs.Variants.{Variant, variant_name, is_not_top, name_behind, variant_names}
use Rattle.gl_variant.specs.Names.{named_to, count_of, last_of, AreGiven}
use Rattle.gl_variant.proofs.NameLaws.{named, passed, passed_once, most, count_more, names_more}

-- a test that is shown the other way round
on_if : (b : Bool) → false ≡ not b → b ≡ true
on_if true e = refl
on_if false e = absurd cc

off_if : (b : Bool) → true ≡ not b → b ≡ false
off_if true e = absurd cc
off_if false e = refl

-- the next name, where it is not the top's
pub first : (top : Option (List ℕ)) (cell : List ℕ) (last number : ℕ) (text shown : List ℕ) → last + 2 < 2 ^ 64 → number ≡ suc last → text ≡ variant_name cell number → shown ≡ text → false ≡ not (is_not_top top shown)
    → (others : ℕ) → length (named_to top cell last) ≡ others → (text ≡ name_behind top cell others) × (length (named_to top cell number) ≡ suc others)
first top cell last number text shown low next is show other others given =
    let same : text ≡ variant_name cell (suc last) = is ∙ ap (variant_name cell) next in
    let on : is_not_top top (variant_name cell (suc last)) ≡ true = sym (ap (is_not_top top) (show ∙ same)) ∙ on_if (is_not_top top shown) other in
    let below : last < 2 ^ 64 = omega (arith, low) in
    let r = named top cell last others on given (omega (arith, given, most top cell last below)) in
    (same ∙ r.0, ap (λ n. length (named_to top cell n)) next ∙ r.1)

-- the one behind the top's
pub second : (top : Option (List ℕ)) (cell : List ℕ) (last number : ℕ) (text shown : List ℕ) (behind : ℕ) (name : List ℕ) → last + 2 < 2 ^ 64 → number ≡ suc last → text ≡ variant_name cell number → shown ≡ text → true ≡ not (is_not_top top shown)
    → behind ≡ suc number → name ≡ variant_name cell behind → (others : ℕ) → length (named_to top cell last) ≡ others → (name ≡ name_behind top cell others) × (length (named_to top cell behind) ≡ suc others)
second top cell last number text shown behind name low next is show tops after named_so others given =
    let off : is_not_top top (variant_name cell (suc last)) ≡ false = sym (ap (is_not_top top) (show ∙ is ∙ ap (variant_name cell) next)) ∙ off_if (is_not_top top shown) tops in
    let two : behind ≡ suc (suc last) = after ∙ ap suc next in
    let here : length (named_to top cell (suc last)) ≡ others = ap length (passed top cell last off) ∙ given in
    let below : suc last < 2 ^ 64 = omega (arith, low) in
    let below_two : suc (suc last) < 2 ^ 64 = omega (arith, low) in
    let on : is_not_top top (variant_name cell (suc (suc last))) ≡ true = passed_once top cell last below_two off in
    let r = named top cell (suc last) others on here (omega (arith, here, most top cell (suc last) below)) in
    (named_so ∙ ap (variant_name cell) two ∙ r.0, ap (λ n. length (named_to top cell n)) two ∙ r.1)

-- with one variant more, each cell has as many names as variants
pub one_more : (top : Option (List ℕ)) (before : List Variant) (v : Variant) (lasts after : List (List ℕ × ℕ)) (number : ℕ) → AreGiven top before lasts
    → ((other : List ℕ) → lookup (same_text other) after ≡ cond (same_text v.cell.head.name other) (Some number) (lookup (same_text other) lasts))
    → length (named_to top v.cell.head.name number) ≡ suc (count_of v.cell.head.name before) → AreGiven top (before ++ v ∷ []) after
one_more top before v lasts after number given updates more cell = elim (cases_Bool (same_text v.cell.head.name cell)) [
  | inl on ↦ subst (λ x. length (named_to top x (last_of after x)) ≡ count_of x (before ++ v ∷ [])) (exact v.cell.head.name cell on) own
  | inr off ↦
      let name = v.cell.head.name in
      let other : same_text cell name ≡ false = differ_if same_text exact itself cell name (λ e. let on : same_text name cell ≡ true = same_if same_text exact itself name cell (sym e) in absurd cc) in
      let last : last_of after cell ≡ last_of lasts cell = ap (λ o. unwrap_or o 0) (updates cell ∙ ap (λ b. cond b (Some number) (lookup (same_text cell) lasts)) off) in
      let count : count_of cell (before ++ v ∷ []) ≡ count_of cell before + cond false 1 0 = count_more cell before v ∙ ap (λ b. count_of cell before + cond b 1 0) other in
      let none : count_of cell before + cond false 1 0 ≡ count_of cell before = omega arith in
      ap (λ n. length (named_to top cell n)) last ∙ given cell ∙ sym (count ∙ none)
]
  where
    own : length (named_to top v.cell.head.name (last_of after v.cell.head.name)) ≡ count_of v.cell.head.name (before ++ v ∷ [])
    own =
        let name = v.cell.head.name in
        let on : same_text name name ≡ true = itself name in
        let last : last_of after name ≡ number = ap (λ o. unwrap_or o 0) (updates name ∙ ap (λ b. cond b (Some number) (lookup (same_text name) lasts)) on) in
        let count : count_of name (before ++ v ∷ []) ≡ count_of name before + cond true 1 0 = count_more name before v ∙ ap (λ b. count_of name before + cond b 1 0) on in
        let next : count_of name before + cond true 1 0 ≡ suc (count_of name before) = omega arith in
        ap (λ n. length (named_to top name n)) last ∙ more ∙ sym (count ∙ next)

-- the names with that of one variant more
pub named_more : (top : Option (List ℕ)) (before : List Variant) (v : Variant) (names : List (List ℕ)) (cell name : List ℕ) → names ≡ variant_names top before → cell ≡ v.cell.head.name → name ≡ name_behind top cell (count_of cell before)
    → names ++ name ∷ [] ≡ variant_names top (before ++ v ∷ [])
named_more top before v names cell name were of is =
    ap (λ ns. ns ++ name ∷ []) were
    ∙ ap (λ (n : List ℕ). variant_names top before ++ n ∷ []) (is ∙ ap (λ c. name_behind top c (count_of c before)) of)
    ∙ sym (names_more top [] before v)
