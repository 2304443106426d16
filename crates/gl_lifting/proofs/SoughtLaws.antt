-- Devices and lines that are looked up, and tests that no line meets.
use Rattle.std.proofs.Common.{◌≡◌, ◌∙◌, ◌+◌, ℕ, Bool, true, false, List, [], ◌∷◌, ◌++◌, map, cond, Option, None, Some, refl, sym, ap, subst, arith, inl, inr}
use Rattle.std.specs.Prelude.{Contains, find, zip}
use Rattle.std.specs.Option.{unwrap_or, option_map}
use Rattle.std.proofs.lemmas.Bool.{cases_Bool}
use Rattle.gl_match.proofs.Lists.{Once, in_head, in_tail, in_cons, in_none, in_map}
use Rattle.gl_text.specs.LogicalLines.{same_text}
use Rattle.gl_text.specs.Cards.{Device as Card}
use Rattle.gl_base.proofs.TextLaws.{exact, itself}
use Rattle.gl_lifting.specs.Renaming.{old_name, first_line}
use Rattle.std.proofs.lemmas.Option.{same_Some as some_is}

-- a name of a device
abbrev pub name_of : Card → List ℕ
name_of c = c.name

-- where names differ, a device is found by its name
pub found_by_name : (devices : List Card) (card : Card) (name : List ℕ) → Once (map name_of devices) → Contains devices card → card.name ≡ name → find (λ (d : Card). same_text d.name name) devices ≡ Some card
found_by_name [] card name o h e = absurd (in_none card h)
found_by_name (d ∷ ds) card name o h e = elim (cases_Bool (same_text d.name name)) [
  | inl on ↦ elim (in_cons d ds card h) [
    | inl same ↦ ap (λ b. cond b (Some d) (find (λ (d : Card). same_text d.name name) ds)) on ∙ ap Some same
    | inr later ↦ absurd (o.0 (subst (λ z. Contains (map name_of ds) z) (e ∙ sym (exact d.name name on)) (in_map name_of ds card later)))
  ]
  | inr off ↦ elim (in_cons d ds card h) [
    | inl same ↦ let on : same_text d.name name ≡ true = ap (λ z. same_text z name) (ap name_of same ∙ e) ∙ itself name in absurd cc
    | inr later ↦ ap (λ b. cond b (Some d) (find (λ (d : Card). same_text d.name name) ds)) off ∙ found_by_name ds card name o.1 later e
  ]
]

-- devices of one name are one, where names differ
pub one_of_name : (devices : List Card) (a b : Card) → Once (map name_of devices) → Contains devices a → Contains devices b → a.name ≡ b.name → a ≡ b
one_of_name devices a b o ha hb e =
    let same : Some a ≡ Some b = sym (found_by_name devices a b.name o ha e) ∙ found_by_name devices b b.name o hb refl in
    some_is a b same

-- what no element meets is not found
pub none_found : {X : Type 0} (p : X → Bool) (xs : List X) → ((x : X) → Contains xs x → p x ≡ false) → find p xs ≡ None
none_found p [] h = refl
none_found {X} p (x ∷ xs) h = ap (λ b. cond b (Some x) (find p xs)) (h x (in_head x xs)) ∙ none_found p xs (λ y k. h y (in_tail x xs y k))

-- a test that no line meets has no first line
pub no_line : (test : List (List ℕ × List ℕ) → List ℕ × List ℕ → Bool) (k : ℕ) (before lines : List (List ℕ × List ℕ)) → ((b : List (List ℕ × List ℕ)) (n : List ℕ × List ℕ) → Contains lines n → test b n ≡ false) → first_line test k before lines ≡ None
no_line test k before [] h = refl
no_line test k before (n ∷ ns) h =
    ap (λ b. cond b (Some k) (first_line test (k + 1) (before ++ n ∷ []) ns)) (h before n (in_head n ns))
    ∙ no_line test (k + 1) (before ++ n ∷ []) ns (λ b l g. h b l (in_tail n ns l g))

-- an old name that is not empty comes from a line of the new name
pub line_of_old : (lines : List (List ℕ × List ℕ)) (new : List ℕ) → (old_name lines new ≡ [] → ⊥) → (n : List ℕ × List ℕ) × Contains lines n × (n.0 ≡ new) × (n.1 ≡ old_name lines new)
line_of_old [] new full = absurd (full refl)
line_of_old (l ∷ ls) new full = elim (cases_Bool (same_text l.0 new)) [
  | inl on ↦ (l, in_head l ls, exact l.0 new on, sym (ap (λ b. by (cond b (Some l) (find (tried new) ls))) on))
  | inr off ↦
      let skip : old_name (l ∷ ls) new ≡ old_name ls new = ap (λ b. by (cond b (Some l) (find (tried new) ls))) off in
      let r = line_of_old ls new (λ e. full (skip ∙ e)) in (r.0, in_tail l ls r.0 r.1, r.2, r.3 ∙ sym skip)
]
  where
    tried : List ℕ → List ℕ × List ℕ → Bool
    tried x n = same_text n.0 x

    by : Option (List ℕ × List ℕ) → List ℕ
    by o = unwrap_or (option_map (λ (n : List ℕ × List ℕ). n.1) o) []

-- a line has a device beside it, where old names are those of the devices
pub beside_line : (ns : List (List ℕ × List ℕ)) (cs : List Card) → map (λ (m : List ℕ × List ℕ). m.1) ns ≡ map name_of cs → (n : List ℕ × List ℕ) → Contains ns n → (c : Card) × Contains (zip ns cs) (n, c)
beside_line [] cs e n h = absurd (in_none n h)
beside_line (m ∷ ns) [] e n h = absurd cc
beside_line (m ∷ ns) (c ∷ cs) e n h = elim (in_cons m ns n h) [
  | inl same ↦ (c, subst (λ (z : List ℕ × List ℕ). Contains ((m, c) ∷ zip ns cs) (z, c)) same (in_head (m, c) (zip ns cs)))
  | inr later ↦ let r = beside_line ns cs (rest m.1 c.name (map (λ (m : List ℕ × List ℕ). m.1) ns) (map name_of cs) e) n later in (r.0, in_tail (m, c) (zip ns cs) (n, r.0) r.1)
]
  where
    rest : (a b : List ℕ) (xs ys : List (List ℕ)) → a ∷ xs ≡ b ∷ ys → xs ≡ ys
    rest a b xs ys f = cc

-- and a device a line
pub beside_device : (ns : List (List ℕ × List ℕ)) (cs : List Card) → map (λ (m : List ℕ × List ℕ). m.1) ns ≡ map name_of cs → (c : Card) → Contains cs c → (n : List ℕ × List ℕ) × Contains (zip ns cs) (n, c)
beside_device ns [] e c h = absurd (in_none c h)
beside_device [] (d ∷ cs) e c h = absurd cc
beside_device (m ∷ ns) (d ∷ cs) e c h = elim (in_cons d cs c h) [
  | inl same ↦ (m, subst (λ (z : Card). Contains ((m, d) ∷ zip ns cs) (m, z)) same (in_head (m, d) (zip ns cs)))
  | inr later ↦ let r = beside_device ns cs (rest m.1 d.name (map (λ (m : List ℕ × List ℕ). m.1) ns) (map name_of cs) e) c later in (r.0, in_tail (m, d) (zip ns cs) (r.0, c) r.1)
]
  where
    rest : (a b : List ℕ) (xs ys : List (List ℕ)) → a ∷ xs ≡ b ∷ ys → xs ≡ ys
    rest a b xs ys f = cc

-- what stands beside something stands in its own list
pub beside_right : (ns : List (List ℕ × List ℕ)) (cs : List Card) (n : List ℕ × List ℕ) (c : Card) → Contains (zip ns cs) (n, c) → Contains cs c
beside_right [] cs n c h = absurd (in_none (n, c) h)
beside_right (m ∷ ns) [] n c h = absurd (in_none (n, c) h)
beside_right (m ∷ ns) (d ∷ cs) n c h = elim (in_cons (m, d) (zip ns cs) (n, c) h) [
  | inl same ↦ (0, omega arith, ap (λ (p : (List ℕ × List ℕ) × Card). p.1) same)
  | inr later ↦ in_tail d cs c (beside_right ns cs n c later)
]
