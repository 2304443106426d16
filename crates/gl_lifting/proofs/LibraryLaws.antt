-- What is known of a library that was read: no cell's names clash, levels are few, and the names of X cards and devices begin with other letters.
use Rattle.std.proofs.Common.{◌≡◌, ◌≤◌, ◌∙◌, ℕ, zero, suc, List, [], ◌∷◌, map, max, false, Option, Some, None, Ok, refl, sym, ap, subst, arith}
use Rattle.std.specs.Prelude.{nat_lt, option_map}
use Rattle.std.specs.List.{AllByRecursion}
use Rattle.std.proofs.lemmas.Bool.{ltb-false}
use Rattle.gl_text.specs.LogicalLines.{Fault}
use Rattle.gl_text.specs.Cards.{Device as Card, dev, device, caller, other, unknown, kinds, by_byte, first_byte}
use Rattle.gl_text.specs.Decks.{Body, dev_at, call_at, Sub, find_sub, read_deck}
use Rattle.gl_text.specs.Flattening.{FlatDevice, Place, inside, devices_of, flat_devices}
use Rattle.gl_printed.specs.ReadCards.{IsFine}
use Rattle.gl_printed.specs.ReadDecks.{body_card, IsReadSub}
use Rattle.gl_printed.proofs.Each.{each_append, each_to}
use Rattle.gl_printed.proofs.PickedCards.{each_flat}
use Rattle.gl_printed.proofs.FlatDevices.{FineBodies, found_sub}
use Rattle.gl_base.specs.Libraries.{Library, Cell, Cause, LEVEL, level, cell_limit, top_cause, cells_cause, devices_cause, ports_cause, level_cause, limit_cause, level_of, clash_of_cell, clash_of, clash_cause, cell_of, greatest, read_library}
use Rattle.gl_lifting.specs.Histories.{levels_of}
use Rattle.gl_lifting.proofs.TurnedNameLaws.{by_letter}
use Rattle.gl_lifting.proofs.ReadBytesLaws.{no_first, no_cause, library_known}
use Rattle.gl_fault.specs.Refusals.{first_some}

-- ---- causes

-- where no cause comes first, there is none
each_none : (f : Sub → Option Cause) (xs : List Sub) → first_some (map f xs) ≡ None → AllByRecursion (λ (x : Sub). f x ≡ None) xs
each_none f [] e = tt
each_none f (x ∷ xs) e = let p = no_first (f x) (map f xs) e in (p.0, each_none f xs p.1)

-- no clash is told of where there is none
clash_none : (name : List ℕ) (o : Option Fault) → option_map (clash_of name) o ≡ None → o ≡ None
clash_none name None e = refl
clash_none name (Some f) e = absurd cc

-- the level of a cell is within its limit
level_low : (subs : List Sub) (t : Sub) → limit_cause subs t ≡ None → level_of subs t ≤ LEVEL
level_low subs t e =
    let b = no_first (devices_cause t) _ e in
    let c = no_first (ports_cause t) _ b.1 in
    let d = no_first (level_cause t.head.name (level_of subs t)) _ c.1 in
    ltb-false LEVEL (level_of subs t) (no_cause (nat_lt LEVEL (level_of subs t)) (cell_limit t.head.name level (level_of subs t)) d.0)

-- and so is the greatest
greatest_low : (subs xs : List Sub) → AllByRecursion (λ (t : Sub). limit_cause subs t ≡ None) xs → greatest (map (λ (c : Cell). c.level) (map (cell_of subs) xs)) ≤ LEVEL
greatest_low subs [] h = omega arith
greatest_low subs (t ∷ ts) h = both (level_of subs t) (greatest (map (λ (c : Cell). c.level) (map (cell_of subs) ts))) (level_low subs t h.0) (greatest_low subs ts h.1) where
  both : (m n : ℕ) → m ≤ 15 → n ≤ 15 → max m n ≤ 15
  both m n a b = omega (arith, a, b)

-- so there are few levels
levels_low : (subs xs : List Sub) → AllByRecursion (λ (t : Sub). limit_cause subs t ≡ None) xs → levels_of (map (cell_of subs) xs) ≤ 16
levels_low subs [] h = omega arith
levels_low subs (t ∷ ts) h = omega (arith, greatest_low subs (t ∷ ts) h)

-- no cell's names clash, and there are few levels
pub record IsClear (l : Library) : Type 0 where
  pub clashes : AllByRecursion (λ (t : Sub). clash_of_cell l.deck.globals l.deck.subs t ≡ None) l.deck.subs
  pub levels : levels_of l.cells ≤ 16

pub library_clear : (bytes : List ℕ) (l : Library) → read_library bytes ≡ Ok l → IsClear l
library_clear bytes l e =
    let r = library_known (read_deck false bytes) l e in
    let d = r.0 in
    let a = no_first (top_cause d.top) _ r.2 in
    let b = no_first (cells_cause d.subs) _ a.1 in
    let c = no_first (first_some (map (limit_cause d.subs) d.subs)) _ b.1 in
    let f = no_first (first_some (map (clash_cause d.globals d.subs) d.subs)) [] c.1 in
    subst (λ (x : Library). IsClear x) r.3 (record {
      clashes = each_to (λ (t : Sub). clash_cause d.globals d.subs t ≡ None) (λ (t : Sub). clash_of_cell d.globals d.subs t ≡ None) (λ t g. clash_none t.head.name (clash_of_cell d.globals d.subs t) g) d.subs (each_none (clash_cause d.globals d.subs) d.subs f.0);
      levels = levels_low d.subs d.subs (each_none (limit_cause d.subs) d.subs c.0);
    })

-- ---- letters

-- an X card's name begins with an x
call_letter : (b : ℕ) → by_byte (kinds other) b ≡ caller → b ≡ 120
call_letter b =
    let P : ℕ → Type 0 = λ x. by_byte (kinds other) x ≡ caller → x ≡ 120 in
    by_letter 109 b P (λ e. absurd cc) (λ m. by_letter 100 b P (λ e. absurd cc) (λ d. by_letter 114 b P (λ e. absurd cc) (λ r. by_letter 99 b P (λ e. absurd cc) (λ c. by_letter 108 b P (λ e. absurd cc) (λ l.
    by_letter 118 b P (λ e. absurd cc) (λ v. by_letter 105 b P (λ e. absurd cc) (λ i. by_letter 120 b P (λ e. refl) (λ x. by_letter 46 b P (λ e. absurd cc) (λ o. λ e. absurd (none (rw (m, d, r, c, l, v, i, x, o) at e)))))))))))
  where
    none : unknown ≡ caller → ⊥
    none e = cc

-- a device's does not
device_letter : (d : Card) → IsFine (dev d) → first_byte d.name ≡ 120 → ⊥
device_letter d h e = other_kind (sym (ap (by_byte (kinds other)) e) ∙ h.is_read.kind.letter other) where
  other_kind : {m n : ℕ} → caller ≡ device m n → ⊥
  other_kind e = cc

-- the X cards on a device's way begin with an x, and its card does not
pub record Begins (d : FlatDevice) : Type 0 where
  pub way : AllByRecursion (λ x. first_byte x ≡ 120) d.path
  pub card : first_byte d.card.name ≡ 120 → ⊥

card_begins : (rails : List (List ℕ)) (all subs : List Sub) → AllByRecursion (IsReadSub all) subs → (inner : Place → List Body → List FlatDevice)
    → ((p : Place) (bs : List Body) → AllByRecursion (λ x. first_byte x ≡ 120) p.path → FineBodies bs → AllByRecursion Begins (inner p bs))
    → (p : Place) (b : Body) → AllByRecursion (λ x. first_byte x ≡ 120) p.path → IsFine (body_card b) → AllByRecursion Begins (devices_of rails subs inner p b)
card_begins rails all subs r inner g p (dev_at line d) h f = (record { way = h; card = device_letter d f }, tt)
card_begins rails all subs r inner g p (call_at line c) h f = by (find_sub subs c.sub) refl where
  by : (o : Option Sub) → find_sub subs c.sub ≡ o → AllByRecursion Begins (devices_of rails subs inner p (call_at line c))
  by None e = rw e tt
  by (Some t) e = rw e (g (inside rails p c t) t.cards (each_append (λ x. first_byte x ≡ 120) p.path (c.name ∷ []) h (call_letter (first_byte c.name) (f.is_read.letter other), tt)) (found_sub all subs r c.sub t e).cards)

pub devices_begin : (rails : List (List ℕ)) (all subs : List Sub) → AllByRecursion (IsReadSub all) subs → (depth : ℕ) (p : Place) (bs : List Body) → AllByRecursion (λ x. first_byte x ≡ 120) p.path → FineBodies bs → AllByRecursion Begins (flat_devices rails subs depth p bs)
devices_begin rails all subs r zero p bs h f = each_flat Begins (devices_of rails subs (λ q c. []) p) bs (each_to (λ b. IsFine (body_card b)) (λ b. AllByRecursion Begins (devices_of rails subs (λ q c. []) p b)) (λ b i. card_begins rails all subs r (λ q c. []) (λ q c j k. tt) p b h i) bs f)
devices_begin rails all subs r (suc depth) p bs h f = each_flat Begins (devices_of rails subs (flat_devices rails subs depth) p) bs (each_to (λ b. IsFine (body_card b)) (λ b. AllByRecursion Begins (devices_of rails subs (flat_devices rails subs depth) p b))
    (λ b i. card_begins rails all subs r (flat_devices rails subs depth) (devices_begin rails all subs r depth) p b h i) bs f)
