-- What names below a composite tell: the composite, and the name in its cell.
use Rattle.std.proofs.Common.{◌≡◌, ◌<◌, ◌≤◌, ◌^◌, ◌∙◌, ℕ, List, [], ◌∷◌, ◌++◌, length, length-append, eqb, false, refl, sym, ap, arith, append_assoc}
use Rattle.std.specs.Prelude.{decimal}
use Rattle.std.proofs.lemmas.Bool.{eq-eqb, or_parts}
use Rattle.std.proofs.lemmas.Fmt.{decimal_injective, decimal_is_IsNumeral}
use Rattle.std.proofs.lemmas.List.{append_cancel_left}
use Rattle.gl_text.specs.Cards.{first_byte}
use Rattle.gl_text.specs.Flattening.{Net, FlatDevice, path_text, net_name, device_name}
use Rattle.gl_base.specs.RoundReports.{instance_name}
use Rattle.gl_base.specs.Stems.{StandsIn}
use Rattle.gl_lifting.proofs.VariantNameLaws.{has, cons_head, cons_tail, not_both, no_digit_mark}

-- the first mark splits a text in one way, where what stands before has none
split_first : (m : ℕ) (a b x y : List ℕ) → has m a ≡ false → has m b ≡ false → a ++ m ∷ x ≡ b ++ m ∷ y → (a ≡ b) × (x ≡ y)
split_first m [] [] x y fa fb e = (refl, cons_tail m m x y e)
split_first m [] (c ∷ b) x y fa fb e = absurd (not_both (eqb c m) (eq-eqb c m (sym (cons_head m c x (b ++ m ∷ y) e))) (or_parts (eqb c m) (has m b) fb).0)
split_first m (c ∷ a) [] x y fa fb e = absurd (not_both (eqb c m) (eq-eqb c m (cons_head c m (a ++ m ∷ x) y e)) (or_parts (eqb c m) (has m a) fa).0)
split_first m (c ∷ a) (d ∷ b) x y fa fb e =
    let later = split_first m a b x y (or_parts (eqb c m) (has m a) fa).1 (or_parts (eqb d m) (has m b) fb).1 (cons_tail c d (a ++ m ∷ x) (b ++ m ∷ y) e) in
    (ap (λ h. h ∷ a) (cons_head c d (a ++ m ∷ x) (b ++ m ∷ y) e) ∙ ap (λ t. d ∷ t) later.0, later.1)

-- no number has a dot
no_dot : (k : ℕ) → k < 2 ^ 64 → has 46 (decimal k) ≡ false
no_dot k lt = no_digit_mark 46 (λ h. absurd (omega (arith, h))) (decimal k) (decimal_is_IsNumeral k lt).0.1

-- what stands behind a composite's name and a dot tells the composite and the rest
pub below_is : (stem x y : List ℕ) (k l : ℕ) → k < 2 ^ 64 → l < 2 ^ 64 → instance_name stem k ++ 46 ∷ x ≡ instance_name stem l ++ 46 ∷ y → (k ≡ l) × (x ≡ y)
below_is stem x y k l k-low l-low e =
    let inside : decimal k ++ 46 ∷ x ≡ decimal l ++ 46 ∷ y = append_cancel_left stem (decimal k ++ 46 ∷ x) (decimal l ++ 46 ∷ y) (sym (append_assoc stem (decimal k) (46 ∷ x)) ∙ e ∙ append_assoc stem (decimal l) (46 ∷ y)) in
    let parts = split_first 46 (decimal k) (decimal l) x y (no_dot k k-low) (no_dot l l-low) inside in
    (decimal_injective k l k-low l-low parts.0, parts.1)

-- the stem stands in it
pub stem_stands : (stem x : List ℕ) (k : ℕ) → StandsIn stem (instance_name stem k ++ 46 ∷ x)
stem_stands stem x k = ([], decimal k ++ 46 ∷ x, append_assoc stem (decimal k) (46 ∷ x))

-- and in it behind a letter and a dot
pub stem_behind : (stem x : List ℕ) (k b : ℕ) → StandsIn stem (b ∷ 46 ∷ (instance_name stem k ++ 46 ∷ x))
stem_behind stem x k b = (b ∷ 46 ∷ [], decimal k ++ 46 ∷ x, ap (λ t. b ∷ 46 ∷ t) (append_assoc stem (decimal k) (46 ∷ x)))

-- a way below another, as text
way_text : (x : List ℕ) (way : List (List ℕ)) (name : List ℕ) → path_text (x ∷ way) ++ name ≡ x ++ 46 ∷ (path_text way ++ name)
way_text x way name = append_assoc (x ++ 46 ∷ []) (path_text way) name ∙ append_assoc x (46 ∷ []) (path_text way ++ name)

-- the flat name of a net below a composite
pub net_below : (x : List ℕ) (m n : Net) → m ≡ record { path = x ∷ n.path; name = n.name } → net_name m ≡ x ++ 46 ∷ net_name n
net_below x m n e = ap net_name e ∙ way_text x n.path n.name

-- the flat name of a device by the way and the card's name
abbrev pub named_by : List (List ℕ) → List ℕ → List ℕ
named_by [] name = name
named_by (x ∷ way) name = first_byte name ∷ 46 ∷ (path_text (x ∷ way) ++ name)

pub name_is : (d : FlatDevice) → device_name d ≡ named_by d.path d.card.name
name_is d = go d.path where
  go : (way : List (List ℕ)) → device_name (record { path = way; card = d.card; nets = d.nets }) ≡ named_by way d.card.name
  go [] = refl
  go (x ∷ way) = refl

-- the flat name of a device below a composite
pub device_below : (x : List ℕ) (d : FlatDevice) (way : List (List ℕ)) (name : List ℕ) → d.path ≡ x ∷ way → d.card.name ≡ name → device_name d ≡ first_byte name ∷ 46 ∷ (x ++ 46 ∷ (path_text way ++ name))
device_below x d way name path card = name_is d ∙ ap (λ w. named_by w d.card.name) path ∙ ap (named_by (x ∷ way)) card ∙ ap (λ t. first_byte name ∷ 46 ∷ t) (way_text x way name)

-- so it is no shorter than the composite's
pub front_short : (n : ℕ) (x : List ℕ) (d : FlatDevice) (way : List (List ℕ)) → d.path ≡ x ∷ way → length (device_name d) ≤ n → length x ≤ n
front_short n x d way path le = let whole = ap length (device_below x d way d.card.name path refl) in omega (arith, le, whole, length-append x (46 ∷ (path_text way ++ d.card.name)))

-- a name in a cell that is flattened as a top, from what stands behind its composite: a device card's name and the way's first name begin with other bytes
pub inside_is : (v w : List (List ℕ)) (m n : List ℕ) → ((x : List ℕ) (xs : List (List ℕ)) → v ≡ x ∷ xs → first_byte x ≡ 120) → ((x : List ℕ) (xs : List (List ℕ)) → w ≡ x ∷ xs → first_byte x ≡ 120)
    → (first_byte m ≡ 120 → ⊥) → (first_byte n ≡ 120 → ⊥) → first_byte m ≡ first_byte n → path_text v ++ m ≡ path_text w ++ n → named_by v m ≡ named_by w n
inside_is [] [] m n fv fw bm bn b e = e
inside_is [] (x ∷ w) m n fv fw bm bn b e = absurd (bm (ap first_byte (e ∙ way_text x w n) ∙ first_stays x (path_text w ++ n) (fw x w refl)))
  where
    first_stays : (x rest : List ℕ) → first_byte x ≡ 120 → first_byte (x ++ 46 ∷ rest) ≡ 120
    first_stays [] rest h = absurd (omega (arith, h))
    first_stays (c ∷ cs) rest h = h
inside_is (x ∷ v) [] m n fv fw bm bn b e = absurd (bn (ap first_byte (sym e ∙ way_text x v m) ∙ first_stays x (path_text v ++ m) (fv x v refl)))
  where
    first_stays : (x rest : List ℕ) → first_byte x ≡ 120 → first_byte (x ++ 46 ∷ rest) ≡ 120
    first_stays [] rest h = absurd (omega (arith, h))
    first_stays (c ∷ cs) rest h = h
inside_is (x ∷ v) (y ∷ w) m n fv fw bm bn b e = ap (λ c. c ∷ 46 ∷ (path_text (x ∷ v) ++ m)) b ∙ ap (λ t. first_byte n ∷ 46 ∷ t) e
