-- The numbers of a run's types: those of devices come first, and then those of the cells.
use Rattle.std.proofs.Common.{◌≡◌, ◌+◌, ℕ, List, [], ◌∷◌, ◌++◌, Bool, true, false, cond, length, map, flat_map, Option, None, Some, refl, sym, ap, ◌∙◌, subst, arith, inl, inr}
use Rattle.std.specs.Prelude.{Contains, ◌||◌}
use Rattle.std.specs.List.{list_any}
use Rattle.std.proofs.lemmas.Bool.{cases_Bool, or_parts, false_from_ne_true}
use Rattle.std.proofs.lemmas.Option.{same_Some}
use Rattle.gl_lists.proofs.Membership.{in_tail, in_head, in_cons, in_none, in_map, from_map}
use Rattle.gl_lists.proofs.Once.{Once}
use Rattle.gl_lists.proofs.EachOnce.{first_place, later_place, from_once, there, differ_if}
use Rattle.gl_text.specs.LogicalLines.{same_text}
use Rattle.gl_text.specs.Cards.{Call, first_byte}
use Rattle.gl_text.specs.Decks.{Sub, is_in, find_sub}
use Rattle.gl_text.proofs.Names as text
use Rattle.gl_printed.specs.ReadDecks.{IsCallOf}
use Rattle.gl_deck.specs.Bodies.{names_of}
use Rattle.gl_base.specs.TypeNames.{TypeName, of_cell, of_word, of_model, of_letter, same_type, type_by_model, type_by_word, port_classes}
use Rattle.gl_base.specs.BaseCircuit.{Source, type_in, types_of, type_number, net_number}
use Rattle.gl_base.proofs.TypeLaws as types_are
use Rattle.gl_lifting.specs.Runs.{Run, cell_type, run_types}

-- ---- numbers in two lists, one behind the other

-- what is found in the first has its number there
pub front_number : (types more : List TypeName) (t : TypeName) → list_any (same_type t) types ≡ true → type_number (types ++ more) t ≡ type_number types t
front_number [] more t h = absurd cc
front_number (u ∷ types) more t h = elim (cases_Bool (same_type t u)) [
  | inl on ↦ first_place same_type t u (types ++ more) on ∙ sym (first_place same_type t u types on)
  | inr off ↦
      let later : list_any (same_type t) types ≡ true = sym (ap (λ b. b || list_any (same_type t) types) off) ∙ h in
      later_place same_type t u (types ++ more) off ∙ ap (λ n. 1 + n) (front_number types more t later) ∙ sym (later_place same_type t u types off)
]

-- what is not has its number in the second, behind the first
pub behind_number : (types more : List TypeName) (t : TypeName) → list_any (same_type t) types ≡ false → type_number (types ++ more) t ≡ length types + type_number more t
behind_number [] more t h = omega arith
behind_number (u ∷ types) more t h =
    let off = or_parts (same_type t u) (list_any (same_type t) types) h in
    let here = later_place same_type t u (types ++ more) off.0 in
    let rest = behind_number types more t off.1 in
    omega (arith, here, rest)

-- ---- the types of cells

-- no device is of a cell's type
no_cell : (words : List ℕ → Option (List ℕ)) (letter : ℕ) (m : Option (List ℕ)) (name classes : List ℕ) → type_by_model words letter m ≡ of_cell name classes → ⊥
no_cell words letter None name classes e = cc
no_cell words letter (Some m) name classes e = by (words m) e where
  by : (w : Option (List ℕ)) → type_by_word letter m w ≡ of_cell name classes → ⊥
  by None e = cc
  by (Some w) e = cc

-- so no cell's type is among those of devices
pub no_cell_among : (s : Source) (name classes : List ℕ) → list_any (same_type (of_cell name classes)) (types_of s) ≡ false
no_cell_among s name classes = false_from_ne_true (list_any (same_type (of_cell name classes)) (types_of s)) (λ e.
    let cards = s.devices ++ flat_map (λ cards. cards) s.cells in
    let t = of_cell name classes in
    let at = there same_type types_are.exact types_are.itself (types_of s) t e in
    let was = from_once same_type (map (type_in s) cards) t (subst (λ ts. Contains ts t) (types_are.once_is (map (type_in s) cards)) at) in
    let r = from_map (type_in s) cards t was in
    no_cell _ (first_byte r.0.name) r.0.model name classes r.2)

-- what is found has the name that was looked for
found_name : (subs : List Sub) (name : List ℕ) (t : Sub) → find_sub subs name ≡ Some t → same_text t.head.name name ≡ true
found_name [] name t e = absurd cc
found_name (s ∷ subs) name t e = go (same_text s.head.name name) refl e (found_name subs name t) where
  go : (b : Bool) → same_text s.head.name name ≡ b → cond b (Some s) (find_sub subs name) ≡ Some t → (find_sub subs name ≡ Some t → same_text t.head.name name ≡ true) → same_text t.head.name name ≡ true
  go true on f rest = ap (λ (x : Sub). same_text x.head.name name) (sym (same_Some s t f)) ∙ on
  go false off f rest = rest f

-- and is there
pub find_there : (subs : List Sub) (name : List ℕ) (t : Sub) → find_sub subs name ≡ Some t → Contains subs t
find_there [] name t e = absurd cc
find_there (s ∷ subs) name t e = go (same_text s.head.name name) e (find_there subs name t) where
  go : (b : Bool) → cond b (Some s) (find_sub subs name) ≡ Some t → (find_sub subs name ≡ Some t → Contains subs t) → Contains (s ∷ subs) t
  go true f rest = subst (λ x. Contains (s ∷ subs) x) (same_Some s t f) (in_head s subs)
  go false f rest = in_tail s subs t (rest f)

-- as its name is
pub name_there : (subs : List Sub) (name : List ℕ) (t : Sub) → find_sub subs name ≡ Some t → is_in name (names_of subs) ≡ true
name_there subs name t e =
    text.is_there name (names_of subs) (subst (λ n. Contains (names_of subs) n) (text.exact t.head.name name (found_name subs name t e)) (in_map (λ (s : Sub). s.head.name) subs t (find_there subs name t e)))

-- where names differ, each is found by its own
pub find_own : (subs : List Sub) (t : Sub) → Once (names_of subs) → Contains subs t → find_sub subs t.head.name ≡ Some t
find_own [] t once at = absurd (in_none t at)
find_own (s ∷ subs) t once at = elim (in_cons s subs t at) [
  | inl same ↦ ap (λ (x : Sub). find_sub (s ∷ subs) x.head.name) (sym same) ∙ ap (λ b. cond b (Some s) (find_sub subs s.head.name)) (text.itself s.head.name) ∙ ap Some same
  | inr later ↦
      let off : same_text s.head.name t.head.name ≡ false = false_from_ne_true (same_text s.head.name t.head.name) (λ e.
      once.0 (subst (λ n. Contains (names_of subs) n) (sym (text.exact s.head.name t.head.name e)) (in_map (λ (x : Sub). x.head.name) subs t later))) in
      ap (λ b. cond b (Some s) (find_sub subs t.head.name)) off ∙ find_own subs t once.1 later
]

name_in : TypeName → List ℕ
name_in (of_cell name classes) = name
name_in (of_word a w) = []
name_in (of_model a m) = []
name_in (of_letter a) = []

-- the cell that is found by a name is the first of its type
cell_place : (subs : List Sub) (name : List ℕ) (t : Sub) → find_sub subs name ≡ Some t → type_number (map cell_type subs) (cell_type t) ≡ net_number (names_of subs) name
unfolding name_in
cell_place [] name t e = absurd cc
cell_place (s ∷ subs) name t e = go (same_text s.head.name name) refl e (cell_place subs name t) where
  go : (b : Bool) → same_text s.head.name name ≡ b → cond b (Some s) (find_sub subs name) ≡ Some t → (find_sub subs name ≡ Some t → type_number (map cell_type subs) (cell_type t) ≡ net_number (names_of subs) name)
      → type_number (map cell_type (s ∷ subs)) (cell_type t) ≡ net_number (names_of (s ∷ subs)) name
  go true on f rest =
      let same : s ≡ t = same_Some s t f in
      first_place same_type (cell_type t) (cell_type s) (map cell_type subs) (subst (λ (x : Sub). same_type (cell_type x) (cell_type s) ≡ true) same (types_are.itself (cell_type s)))
      ∙ sym (first_place same_text name s.head.name (names_of subs) (text.flipped name s.head.name ∙ on))
  go false off f rest =
      let named = text.exact t.head.name name (found_name subs name t f) in
      let differ : same_type (cell_type t) (cell_type s) ≡ false = differ_if same_type types_are.exact types_are.itself (cell_type t) (cell_type s) (λ same.
      let one : s.head.name ≡ name = sym (ap name_in same) ∙ named in
      let on : same_text s.head.name name ≡ true = subst (λ n. same_text s.head.name n ≡ true) one (text.itself s.head.name) in
      absurd cc) in
      later_place same_type (cell_type t) (cell_type s) (map cell_type subs) differ
      ∙ ap (λ n. 1 + n) (rest f)
      ∙ sym (later_place same_text name s.head.name (names_of subs) (text.flipped name s.head.name ∙ off))

-- its number among all types
pub cell_number : (run : Run) (name : List ℕ) (t : Sub) → find_sub run.library.deck.subs name ≡ Some t → length (types_of run.source) + net_number (names_of run.library.deck.subs) name ≡ type_number (run_types run) (cell_type t)
cell_number run name t h =
    let subs = run.library.deck.subs in
    ap (λ n. length (types_of run.source) + n) (sym (cell_place subs name t h))
    ∙ sym (behind_number (types_of run.source) (map cell_type subs) (cell_type t) (no_cell_among run.source t.head.name (port_classes (length t.head.ports))))

-- an X card is of the type of the cell that it finds
pub call_type : (subs : List Sub) (c : Call) (t : Sub) → IsCallOf subs c t → cell_type t ≡ of_cell c.sub (port_classes (length c.nodes))
call_type subs c t h = λ i. of_cell (text.exact t.head.name c.sub (found_name subs c.sub t h.found) i) (port_classes (sym h.as_many i))
