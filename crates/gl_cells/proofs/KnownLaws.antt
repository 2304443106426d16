-- What is known of a library that was read.
use Rattle.gl_fault.proofs.FirstLaws.{none_first, none_each, or_else_ok}
use Rattle.gl_fault.specs.Refusals.{when, or_else}
use Rattle.std.proofs.Common.{◌≡◌, ◌<◌, ◌≤◌, ◌∙◌, ℕ, zero, suc, List, [], ◌∷◌, ◌++◌, length, map, cond, Bool, true, false, Option, Some, None, Result, Ok, Err, All, refl, sym, ap, subst, arith}
use Rattle.std.specs.Prelude.{◌&&◌, find, flat_map, nat_lt, not, option_map, slice_get}
use Rattle.std.specs.List.{list_all}
use Rattle.std.proofs.lemmas.Bool.Decides.{nat_tests}
use Rattle.std.proofs.lemmas.List.Elements.{All-head, All-tail}
use Rattle.gl_text.specs.LogicalLines.{FILE, Fault}
use Rattle.gl_text.specs.Decks.{Body, dev_at, call_at, Sub, Deck, callees, is_in, read_deck}
use Rattle.gl_text.specs.CellCards.{devices_in, IsCellOf}
use Rattle.gl_known.specs.Known.{IsKnownDeck, IsKnownSub}
use Rattle.gl_known.proofs.DecksRead.{file_read}
use Rattle.gl_base.specs.Libraries.{CELLS, CELL_CARDS, PORTS, LEVEL, CELL_EXPANDED, Cause, Cell, Library, Skip, cells_cause, cell_of, checked, clash_cause, clash_of_cell, empty_else, library_cause, library_of, limit_cause, loose, loose_port, nodes_of, own_skip, read_library, skip_of, top_cause, uses_else}
use Rattle.gl_cells.specs.Limited.{clashes_cause, limits_cause}
use Rattle.gl_cells.specs.KnownLibraries.{AreSearched, IsKnownLibrary, IsSearchedCell, IsWithinLimits}

-- ---- no cause

not_past : (b : Bool) (most number : ℕ) (cause : Cause) → nat_lt most number ≡ b → when b cause ≡ None → number ≤ most
not_past true most number cause t e = absurd cc
not_past false most number cause t e = grind (arith, nat_tests)

no_top_card : (top : List Body) → top_cause top ≡ None → top ≡ []
no_top_card [] e = refl
no_top_card (card ∷ cards) e = absurd cc

short : {A B : Type 0} (f : A → B) (xs : List A) (n : ℕ) → option_map f (slice_get xs n) ≡ None → length xs ≤ n
short f [] n e = omega arith
short f (x ∷ xs) zero e = absurd cc
short f (x ∷ xs) (suc n) e = let h = short f xs n e in omega arith

no_option : {A B : Type 0} (f : A → B) (o : Option A) → option_map f o ≡ None → o ≡ None
no_option f None e = refl
no_option f (Some x) e = absurd cc

-- ---- a cell that is searched

not_used : (own : Option Skip) (called : Option (List ℕ)) → uses_else own called ≡ None → own ≡ None
not_used None called e = refl
not_used (Some skip) called e = absurd cc

has_cards : (cards : List Body) (skip : Option Skip) → empty_else cards skip ≡ None → (0 < length cards) × (skip ≡ None)
has_cards [] skip e = absurd cc
has_cards (card ∷ cards) skip e = (omega arith, e)

found_none : (b : Bool) (n : List ℕ) (o : Option (List ℕ)) → cond (not b) (Some n) o ≡ None → (b ≡ true) × (o ≡ None)
found_none true n o e = (refl, e)
found_none false n o e = absurd cc

all_stand : (p : List ℕ → Bool) (names : List (List ℕ)) → find (λ n. not (p n)) names ≡ None → list_all p names ≡ true
all_stand p [] e = refl
all_stand p (n ∷ names) e =
    let h = found_none (p n) n (find (λ m. not (p m)) names) e in
    ap (λ b. b && list_all p names) h.0 ∙ all_stand p names h.1

searched_cell : (subs : List Sub) (s : Sub) → IsKnownSub s → skip_of subs s ≡ None → IsSearchedCell s
searched_cell subs s known e =
    let own : own_skip s ≡ None = not_used (own_skip s) _ e in
    let h = has_cards s.cards (option_map loose (loose_port s)) own in
    record {
      devices = known.cards;
      some = h.0;
      ports_differ = known.ports_differ;
      no_zero = known.no_zero;
      ports_stand = all_stand (λ port. is_in port (flat_map nodes_of s.cards)) s.head.ports (no_option loose (loose_port s) h.1);
    }

all_at : {A : Type 0} (P : A → Type 0) (xs : List A) (k : ℕ) (x : A) → All P xs → slice_get xs k ≡ Some x → P x
all_at P [] k x h e = absurd cc
all_at P (y ∷ ys) zero x h e = let same : y ≡ x = cc in subst P same (All-head P y ys h)
all_at P (y ∷ ys) (suc k) x h e = all_at P ys k x (All-tail P y ys h) e

same_at : {A B : Type 0} (f : A → B) (xs : List A) (k : ℕ) (x : A) (y : B) → slice_get xs k ≡ Some x → slice_get (map f xs) k ≡ Some y → f x ≡ y
same_at f [] k x y e g = absurd cc
same_at f (z ∷ zs) zero x y e g = let same : z ≡ x = cc in ap f (sym same) ∙ cc
same_at f (z ∷ zs) (suc k) x y e g = same_at f zs k x y e g

searched : (deck : Deck) → All IsKnownSub deck.subs → AreSearched (library_of deck)
searched deck known place s c e g none =
    let same : cell_of deck.subs s ≡ c = same_at (cell_of deck.subs) deck.subs place s c e g in
    searched_cell deck.subs s (all_at IsKnownSub deck.subs place s known e) (ap (λ (x : Cell). x.skip) same ∙ none)

-- ---- a library

within_limits : (subs : List Sub) (s : Sub) → limit_cause subs s ≡ None → IsWithinLimits subs s
within_limits subs s e =
    let a = none_first _ _ e in
    let b = none_first _ _ a.1 in
    let c = none_first _ _ b.1 in
    let d = none_first _ _ c.1 in
    record {
      cards = not_past _ CELL_CARDS _ _ refl a.0;
      ports = not_past _ PORTS _ _ refl b.0;
      level = not_past _ LEVEL _ _ refl c.0;
      expanded = not_past _ CELL_EXPANDED _ _ refl d.0;
    }

known_by : (deck : Deck) → IsKnownDeck FILE deck → library_cause deck ≡ None → IsKnownLibrary (library_of deck)
known_by deck known e =
    let a = none_first (top_cause deck.top) _ e in
    let b = none_first (cells_cause deck.subs) _ a.1 in
    let c = none_first (limits_cause deck.subs deck.subs) _ b.1 in
    let d = none_first (clashes_cause deck.globals deck.subs deck.subs) _ c.1 in
    record {
      is_known = known;
      no_top = no_top_card deck.top a.0;
      cells_few = short _ deck.subs CELLS b.0;
      cells = refl;
      limits = none_each (limit_cause deck.subs) (IsWithinLimits deck.subs) (within_limits deck.subs) deck.subs c.0;
      no_clash = none_each (clash_cause deck.globals deck.subs) (λ (s : Sub). clash_of_cell deck.globals deck.subs s ≡ None) (λ s h. no_option _ (clash_of_cell deck.globals deck.subs s) h) deck.subs d.0;
      searched = searched deck known.subs_known;
    }

-- what was read is of an accepted deck
abbrev pub IsLibraryOf : Library → Deck → Type 0
IsLibraryOf l deck = (library_cause deck ≡ None) × (library_of deck ≡ l)

pub from_checked : (r : Result Deck Fault) (l : Library) → checked r ≡ Ok l → (deck : Deck) × (r ≡ Ok deck) × IsLibraryOf l deck
from_checked (Ok deck) l e = (deck, refl, or_else_ok (library_cause deck) (library_of deck) l e)
from_checked (Err fault) l e = absurd cc

pub known_library : (bytes : List ℕ) (l : Library) → length bytes ≤ FILE → read_library bytes ≡ Ok l → IsKnownLibrary l
known_library bytes l le e =
    let h = from_checked (read_deck false bytes) l e in
    let deck = h.0 in
    subst IsKnownLibrary h.2.1 (known_by deck (file_read false bytes deck le h.1) h.2.0)

-- ---- a cell of devices

devices_alone : (cards : List Body) → callees cards ≡ [] → length (devices_in cards) ≡ length cards
devices_alone [] e = refl
devices_alone (dev_at line d ∷ cards) e = ap suc (devices_alone cards e)
devices_alone (call_at line c ∷ cards) e = absurd cc

nodes_alone : (cards : List Body) → callees cards ≡ [] → flat_map nodes_of cards ≡ flat_map (λ d. d.nodes) (devices_in cards)
nodes_alone [] e = refl
nodes_alone (dev_at line d ∷ cards) e = ap (λ ns. d.nodes ++ ns) (nodes_alone cards e)
nodes_alone (call_at line c ∷ cards) e = absurd cc

pub cell_of_devices : (s : Sub) → IsSearchedCell s → callees s.cards ≡ [] → IsCellOf s.head (devices_in s.cards)
cell_of_devices s is e =
    let a = devices_alone s.cards e in
    let b = is.some in
    record {
      cards = is.devices;
      some = omega arith;
      ports_differ = is.ports_differ;
      no_zero = is.no_zero;
      ports_stand = subst (λ (ns : List (List ℕ)). list_all (λ port. is_in port ns) s.head.ports ≡ true) (nodes_alone s.cards e) is.ports_stand;
    }

abbrev library_with : Deck → List Cell → Library
library_with deck cells = record { deck = deck; cells = cells }

-- what is said of the cells of an accepted deck makes the library
pub library_is : (bytes : List ℕ) (deck : Deck) (cells : List Cell) → read_deck false bytes ≡ Ok deck → library_cause deck ≡ None → cells ≡ map (cell_of deck.subs) deck.subs
    → read_library bytes ≡ Ok (library_with deck cells)
library_is bytes deck cells e none is =
    ap checked e ∙ ap (λ (o : Option Cause). or_else o (library_of deck)) none ∙ ap (λ (cs : List Cell). Ok (library_with deck cs)) (sym is)
