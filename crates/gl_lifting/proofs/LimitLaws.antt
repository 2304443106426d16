-- Within the limits names of subcircuits are short; names of variants are names; calls that go down lead back nowhere.
use Rattle.std.proofs.Common.{◌≡◌, ◌≤◌, ◌<◌, ◌+◌, ◌^◌, ℕ, suc, List, [], ◌∷◌, ◌++◌, length, map, flat_map, cond, true, false, Bool, Option, None, Some, refl, sym, ap, ◌∙◌, subst, arith, length-append}
use Rattle.std.specs.Prelude.{slice_get, zip, find, nat_lt}
use Rattle.std.specs.List.{AllByRecursion, list_any, count_by}
use Rattle.std.proofs.lemmas.Bool.{or_parts, ltb-false}
use Rattle.std.proofs.lemmas.List.Sums.{count_by-le-length}
use Rattle.gl_text.specs.LogicalLines.{NAME, same_text}
use Rattle.gl_text.specs.Cards.{Head}
use Rattle.gl_text.specs.Decks.{Body, dev_at, call_at, Sub, Deck, callees}
use Rattle.gl_text.specs.Flattening.{bearers, bearer_name}
use Rattle.gl_text.specs.Levels.{Down}
use Rattle.gl_text.proofs.LevelLaws.{not_reached}
use Rattle.gl_printed.specs.ReadDecks.{FindsSub, FindsSubWithin}
use Rattle.gl_printed.proofs.Each.{each_left, each_to}
use Rattle.gl_printed.proofs.PrintedFields.{Short}
use Rattle.gl_base.specs.BaseCircuit.{Source}
use Rattle.gl_base.proofs.TextLaws.{exact}
use Rattle.gl_lifting.specs.Variants.{Variant, same_cell, names_behind}
use Rattle.gl_lifting.specs.LiftedDecks.{variant_sub}
use Rattle.gl_lifting.specs.OutLimits.{OutLimit, of_name, limits, passed_if, first_passed, out_limit, written_names, lifted_flat}
use Rattle.gl_lifting.proofs.VariantNameLaws.{behind_is}
use Rattle.gl_lifting.proofs.FineLiftedLaws.{variant_part}
use Rattle.gl_text.specs.WayBack.{IsName}
pub use Rattle.gl_lists.proofs.Each.{each_unmap}
use Rattle.std.proofs.lemmas.Option.{same_Some as some_is}

-- ---- limits

-- where no limit is passed, the first is not
none_passed : (b : Bool) (l : OutLimit) (rest : List (Option OutLimit)) → first_passed (passed_if b l ∷ rest) ≡ None → b ≡ false
none_passed false l rest e = refl
none_passed true l rest e = absurd cc

-- a test that none passes
none_any : {X : Type 0} (test : X → Bool) (xs : List X) → list_any test xs ≡ false → AllByRecursion (λ x. test x ≡ false) xs
none_any test [] e = tt
none_any test (x ∷ xs) e = let p = or_parts (test x) (list_any test xs) e in (p.0, none_any test xs p.1)

-- no name of a subcircuit is too long, where no limit is passed
pub names_written : (top : Option Head) (deck : Deck) (map_bytes report : List ℕ) → out_limit limits top deck map_bytes report ≡ None → AllByRecursion (λ (t : Sub). length t.head.name ≤ NAME) deck.subs
names_written top deck map_bytes report e =
    let test : List ℕ → Bool = λ name. nat_lt NAME (length name) in
    let off : list_any test (written_names (lifted_flat top deck) deck) ≡ false = none_passed (list_any test (written_names (lifted_flat top deck) deck)) of_name _ e in
    let each = none_any test (written_names (lifted_flat top deck) deck) off in
    let heads : AllByRecursion (λ name. test name ≡ false) (map (λ (t : Sub). t.head.name) deck.subs) = each_left (λ name. test name ≡ false) (map (λ (t : Sub). t.head.name) deck.subs) (map bearer_name (flat_map bearers (lifted_flat top deck).devices)) each in
    each_to (λ (t : Sub). test t.head.name ≡ false) (λ (t : Sub). length t.head.name ≤ NAME) (λ t f. ltb-false NAME (length t.head.name) f) deck.subs (each_unmap (λ name. test name ≡ false) (λ (t : Sub). t.head.name) deck.subs heads)

-- ---- names of variants

-- names of variants that are short are names
pub parts_behind : (top : Option (List ℕ)) (before vs : List Variant) → length before + length vs + 2 < 2 ^ 64 → AllByRecursion (λ (v : Variant). IsName v.cell.head.name) vs → AllByRecursion Short (names_behind top before vs) → AllByRecursion IsName (names_behind top before vs)
parts_behind top before [] low h short = tt
parts_behind top before (v ∷ vs) low h short =
    let r = behind_is top v.cell.head.name (count_by (same_cell v) before) (omega (arith, low, count_by-le-length (same_cell v) before)) in (
      subst IsName r.3 (variant_part v.cell.head.name r.0 r.1 h.0 (subst Short (sym r.3) short.0)),
      parts_behind top (before ++ v ∷ []) vs (omega (arith, low, length-append before (v ∷ []))) h.1 short.1,
    )

-- what holds of the names of variants' subcircuits holds of their names
pub of_heads : (P : List ℕ → Type 0) (s : Source) (all ns : List (List ℕ)) (vs : List Variant) → length ns ≡ length vs → AllByRecursion (λ (t : Sub). P t.head.name) (map (variant_sub s all) (zip ns vs)) → AllByRecursion P ns
of_heads P s all [] vs e h = tt
of_heads P s all (n ∷ ns) [] e h = absurd (omega (arith, e))
of_heads P s all (n ∷ ns) (v ∷ vs) e h = (h.0, of_heads P s all ns vs (omega (arith, e)) h.1)

-- the names of the subcircuits of a lifted deck
pub heads_are : (s : Source) (all ns : List (List ℕ)) (vs : List Variant) (more : List Sub) → length ns ≡ length vs → map (λ (t : Sub). t.head.name) (map (variant_sub s all) (zip ns vs) ++ more) ≡ ns ++ map (λ (t : Sub). t.head.name) more
heads_are s all [] [] more e = refl
heads_are s all [] (v ∷ vs) more e = absurd (omega (arith, e))
heads_are s all (n ∷ ns) [] more e = absurd (omega (arith, e))
heads_are s all (n ∷ ns) (v ∷ vs) more e = ap (λ xs. n ∷ xs) (heads_are s all ns vs more (omega (arith, e)))

-- what holds at each place holds of each
pub each_by_place : {X : Type 0} (P : X → Type 0) (xs : List X) → ((i : ℕ) (x : X) → slice_get xs i ≡ Some x → P x) → AllByRecursion P xs
each_by_place P [] f = tt
each_by_place P (x ∷ xs) f = (f 0 x refl, each_by_place P xs (λ i y e. f (suc i) y e))

-- ---- calls that go down

-- what is found passes the test, and is one of the items
found : (P : Sub → Type 0) (p : Sub → Bool) (xs : List Sub) (x : Sub) → AllByRecursion P xs → find p xs ≡ Some x → (p x ≡ true) × P x
found P p [] x h e = absurd cc
found P p (y ∷ ys) x h e = go (p y) refl e (found P p ys x h.1) where
  go : (b : Bool) → p y ≡ b → cond b (Some y) (find p ys) ≡ Some x → (find p ys ≡ Some x → (p x ≡ true) × P x) → (p x ≡ true) × P x
  go true on g ih = let same = some_is y x g in (ap p (sym same) ∙ on, subst P same h.0)
  go false off g ih = ih g

-- cards that find their subcircuits, below a name, find them within it
pub finds_within : (level : List ℕ → ℕ) (subs : List Sub) (name : List ℕ) → Down level subs → (bs : List Body) → AllByRecursion (FindsSub subs) bs → AllByRecursion (λ n. level n < level name) (callees bs) → AllByRecursion (FindsSubWithin subs name) bs
finds_within level subs name down [] h low = tt
finds_within level subs name down (dev_at line d ∷ bs) h low = (tt, finds_within level subs name down bs h.1 low)
finds_within level subs name down (call_at line c ∷ bs) h low =
    let t = h.0.0 in
    let f = found (λ (s : Sub). AllByRecursion (λ n. level n < level s.head.name) (callees s.cards)) (λ (s : Sub). same_text s.head.name c.sub) subs t down h.0.1.found in
    let same = ap level (exact t.head.name c.sub f.0) in
    ((t, h.0.1, not_reached level subs t name down (f.1, tt) (omega (arith, same, low.0))), finds_within level subs name down bs h.1 low.1)
