-- The shapes of a run's types are shapes: a cell's has one turn.
use Rattle.std.proofs.Common.{◌≡◌, ◌+◌, ◌<◌, ◌≤◌, ℕ, zero, suc, List, [], ◌∷◌, ◌++◌, None, false, ltb, length, map, flat_map, get_or, refl, sym, ap, ◌∙◌, subst, arith}
use Rattle.std.specs.Prelude.{Contains, IsPermutation, All}
use Rattle.std.specs.Ordering.{nat_cmp, ordering_then}
use Rattle.std.specs.Cmp.{nat_cmp_is}
use Rattle.std.specs.declared.cmp.Ordering.{Ordering}
use Rattle.std.specs.declared.cmp.Ordering.TheVariants.{Less, Equal}
use Rattle.std.specs.Cmp.Lexicographic.{slice_cmp}
use Rattle.std.specs.List.{AllByRecursion, AllZip, range_with_len}
use Rattle.std.proofs.lemmas.Bool.{or_from, or_parts, ltb-false, le-ltb}
use Rattle.std.proofs.lemmas.List.FromFn.{length-range_with_len, get_or-range_with_len}
use Rattle.std.proofs.lemmas.List.Sorted.{IsPermutation-sym, Contains-permutation}
use Rattle.std.proofs.lemmas.List.Elements.{All-from_recursion}
use Rattle.gl_lists.proofs.Each.{each_from, each_append, each_map, each_to}
use Rattle.gl_lists.proofs.EachOnce.{from_once}
use Rattle.gl_lists.proofs.Membership.{from_map, from_range}
use Rattle.gl_match.specs.Turns.{turns_of, turn_at}
use Rattle.gl_match.proofs.TurnLaws.{turn_is}
use Rattle.gl_match.proofs.TurnOrder.{ordered}
use Rattle.gl_graph.specs.Faults.{is_bad_shape, shape_fault, first_in}
use Rattle.gl_graph.specs.declared.fault.BuildFault.TheVariants.{BadShape}
use Rattle.gl_text.specs.Decks.{Sub}
use Rattle.gl_base.specs.TypeNames.{same_type, word_of, classes_of, port_classes}
use Rattle.gl_base.specs.BaseCircuit.{Source, type_in, types_of}
use Rattle.gl_base.specs.Libraries.{PORTS}
use Rattle.gl_base.proofs.TypeLaws as types_are
use Rattle.gl_lifting.specs.Runs.{Run, cell_type, run_types}
use Rattle.gl_lib.proofs.CardLaws.{type_sound}
use Rattle.gl_lib.proofs.FaultLaws.{no_fault, neither_fault}

-- ---- turns of a cell's type

-- places of classes that all differ are these
same_places : (n : ℕ) (cs ps : List ℕ) → AllZip (λ c place. get_or (range_with_len 0 n) place 0 ≡ c) cs ps → AllByRecursion (λ place. place < n) ps → ps ≡ cs
same_places n [] [] h g = refl
same_places n [] (p ∷ ps) h g = absurd h
same_places n (c ∷ cs) [] h g = absurd h
same_places n (c ∷ cs) (p ∷ ps) h g =
    let there : get_or (range_with_len 0 n) p 0 ≡ 0 + p = get_or-range_with_len 0 n p 0 g.0 in
    let one : p ≡ c = omega (arith, there, h.0) in
    λ i. one i ∷ same_places n cs ps h.1 g.1 i

-- a turn of a cell's type leaves each port in its place
one_turn : (ports turn : ℕ) → turn < length (turns_of (port_classes ports)) → turn_at (port_classes ports) turn ≡ range_with_len 0 ports
one_turn ports turn below =
    let classes = range_with_len 0 ports in
    let places = turn_at classes turn in
    let r = turn_is classes turn below in
    let perm : IsPermutation (range_with_len 0 ports) places = subst (λ m. IsPermutation (range_with_len 0 m) places) (length-range_with_len 0 ports) r.0 in
    same_places ports classes places r.1 (each_from (λ place. place < ports) places (λ place at. from_range ports place (Contains-permutation places (range_with_len 0 ports) place (IsPermutation-sym (range_with_len 0 ports) places perm) at)))

same_cmp : (n : ℕ) → nat_cmp n n ≡ Equal
same_cmp n = sym (nat_cmp_is n n Equal refl)

-- no list is before itself
not_before : (xs : List ℕ) → slice_cmp nat_cmp xs xs ≡ Less → ⊥
not_before [] e = cc
not_before (x ∷ xs) e = not_before xs (ap (λ (o : Ordering). ordering_then o (slice_cmp nat_cmp xs xs)) (sym (same_cmp x)) ∙ e)

-- a cell's type has at most one turn: each is that of the places as they are
few_turns : (ports : ℕ) → length (turns_of (port_classes ports)) ≤ 1
few_turns ports = by (turns_of (port_classes ports)) (ordered (port_classes ports)) (λ turn lt. one_turn ports turn lt) where
  by : (ts : List (List ℕ)) → ((i j : ℕ) (d : List ℕ) → i < j → j < length ts → slice_cmp nat_cmp (get_or ts i d) (get_or ts j d) ≡ Less) → ((turn : ℕ) → turn < length ts → get_or ts turn [] ≡ range_with_len 0 ports) → length ts ≤ 1
  by [] up same = omega arith
  by (a ∷ []) up same = omega arith
  by (a ∷ b ∷ ts) up same =
      let less : slice_cmp nat_cmp a b ≡ Less = up 0 1 [] (omega arith) (omega arith) in
      let one : a ≡ range_with_len 0 ports = same 0 (omega arith) in
      let two : b ≡ range_with_len 0 ports = same 1 (omega arith) in
      absurd (not_before a (subst (λ x. slice_cmp nat_cmp a x ≡ Less) (two ∙ sym one) less))

-- so it is a shape
cell_shape : (ports : ℕ) → ports ≤ 64 → is_bad_shape (port_classes ports) ≡ false
cell_shape ports few =
    let places = length-range_with_len 0 ports in
    or_from (ltb 64 (length (port_classes ports))) (ltb 720 (length (turns_of (port_classes ports))))
    (le-ltb 64 (length (port_classes ports)) (omega (arith, places, few)))
    (le-ltb 720 (length (turns_of (port_classes ports))) (omega (arith, few_turns ports)))

-- one port more
from_more : (n a : ℕ) → range_with_len a (suc n) ≡ range_with_len a n ++ (a + n) ∷ []
from_more zero a = ap (λ x. x ∷ []) (omega arith)
from_more (suc n) a =
    let same : a + 1 + n ≡ a + suc n = omega arith in
    ap (λ xs. a ∷ xs) (from_more n (a + 1) ∙ ap (λ x. range_with_len (a + 1) n ++ x ∷ []) same)

pub range_more : (n : ℕ) → range_with_len 0 n ++ n ∷ [] ≡ range_with_len 0 (n + 1)
range_more n =
    let next : suc n ≡ n + 1 = omega arith in
    sym (sym (ap (range_with_len 0) next) ∙ from_more n 0 ∙ ap (λ x. range_with_len 0 n ++ x ∷ []) (omega arith))

-- ---- all shapes

abbrev IsGood : List ℕ → Type 0
IsGood classes = is_bad_shape classes ≡ false

types_good : (s : Source) → AllByRecursion (λ t. IsGood (classes_of t)) (types_of s)
types_good s =
    let cards = s.devices ++ flat_map (λ cards. cards) s.cells in
    each_from (λ t. IsGood (classes_of t)) (types_of s) (λ t at.
    let was = from_once same_type (map (type_in s) cards) t (subst (λ ts. Contains ts t) (types_are.once_is (map (type_in s) cards)) at) in
    let r = from_map (type_in s) cards t was in
    subst (λ u. IsGood (classes_of u)) r.2 (type_sound (word_of (s.deck_models ++ s.library_models)) r.0))

pub shapes_good : (run : Run) → AllByRecursion (λ (t : Sub). length t.head.ports ≤ PORTS) run.library.deck.subs → AllByRecursion IsGood (map classes_of (run_types run))
shapes_good run few =
    let subs = run.library.deck.subs in
    each_map IsGood classes_of (run_types run)
    (each_append (λ t. IsGood (classes_of t)) (types_of run.source) (map cell_type subs) (types_good run.source)
    (each_map (λ t. IsGood (classes_of t)) cell_type subs
    (each_to (λ (t : Sub). length t.head.ports ≤ PORTS) (λ (t : Sub). IsGood (classes_of (cell_type t))) (λ t h. cell_shape (length t.head.ports) h) subs few)))

none_bad : (n : ℕ) (shapes : List (List ℕ)) → AllByRecursion IsGood shapes → first_in shape_fault n shapes ≡ None
none_bad n [] h = refl
none_bad n (classes ∷ shapes) h = neither_fault _ _ (no_fault (is_bad_shape classes) (BadShape n) h.0) (none_bad (n + 1) shapes h.1)

-- they have no fault
pub shapes_sound : (run : Run) → AllByRecursion (λ (t : Sub). length t.head.ports ≤ PORTS) run.library.deck.subs → first_in shape_fault 0 (map classes_of (run_types run)) ≡ None
shapes_sound run few = none_bad 0 (map classes_of (run_types run)) (shapes_good run few)

-- and few places
pub shapes_short : (run : Run) → AllByRecursion (λ (t : Sub). length t.head.ports ≤ PORTS) run.library.deck.subs → All (λ classes. length classes < 4294967296) (map classes_of (run_types run))
shapes_short run few = All-from_recursion (λ classes. length classes < 4294967296) (map classes_of (run_types run))
    (each_to IsGood (λ classes. length classes < 4294967296) (λ classes good.
    let parts = or_parts (ltb 64 (length classes)) (ltb 720 (length (turns_of classes))) good in
    omega (arith, ltb-false 64 (length classes) parts.0)) (map classes_of (run_types run)) (shapes_good run few))
