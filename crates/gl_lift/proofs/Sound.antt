-- Circuit and patterns are made of the flat deck.
use Rattle.std.proofs.Common.{◌≡◌, ◌≤◌, ◌+◌, ℕ, List, [], ◌∷◌, ◌++◌, length, map, flat_map, Option, Ok, refl, sym, ap, subst, arith}
use Rattle.std.specs.Prelude.{sum_by}
use Rattle.gl_text.specs.LogicalLines.{FILE}
use Rattle.gl_text.specs.Cards.{Device}
use Rattle.gl_text.specs.CellCards.{devices_in, places_count}
use Rattle.gl_text.specs.Decks.{Body, dev_at, call_at, Sub, Deck}
use Rattle.gl_known.specs.Known.{body_size, sub_size}
use Rattle.gl_known.proofs.Totals.{total, total_is}
use Rattle.gl_text.specs.Flattening.{Flat, flatten}
use Rattle.gl_base.specs.Rails.{AreRails, run_rails}
use Rattle.gl_base.specs.Patterns.{IsSound}
use Rattle.gl_base.specs.Libraries.{Library}
use Rattle.gl_base.specs.Rounds.{source_of}
use Rattle.gl_base.proofs.TextLaws.{rails_are}
use Rattle.gl_flat.specs.PlainFlats.{plain}
use Rattle.gl_known.proofs.FlatSizes.{flat_known}
use Rattle.gl_lib.specs.Sources.{AreSound}
use Rattle.gl_lib.proofs.RailLaws.{rails_few, rails_fine}
use Rattle.gl_lift.specs.Liftable.{IsLiftable, IsSearchable}
use Rattle.gl_lift.proofs.FlatParts.{flat_parts}
use Rattle.gl_lift.proofs.Plain.{same_source}

-- ---- sizes

abbrev place_size : Device → ℕ
place_size d = length d.nodes + 1

total_both : (xs ys : List Device) → total place_size (xs ++ ys) ≡ total place_size xs + total place_size ys
total_both [] ys = omega arith
total_both (x ∷ xs) ys = let h = total_both xs ys in omega arith

devices_small : (bs : List Body) → total place_size (devices_in bs) ≤ total body_size bs
devices_small [] = omega arith
devices_small (dev_at line d ∷ bs) = let h = devices_small bs in omega arith
devices_small (call_at line c ∷ bs) = let h = devices_small bs in omega arith

all_small : (ss : List Sub) → total place_size (flat_map (λ cards. cards) (map (λ (s : Sub). devices_in s.cards) ss)) ≤ total sub_size ss
all_small [] = omega arith
all_small (s ∷ ss) =
    let both = total_both (devices_in s.cards) (flat_map (λ cards. cards) (map (λ (s : Sub). devices_in s.cards) ss)) in
    let h = devices_small s.cards in
    let body = total_is body_size s.cards in
    let t = all_small ss in
    omega arith

-- the places of the devices of all cells are no more than the cells are large
cells_small : (ss : List Sub) → sum_by sub_size ss ≤ FILE → places_count (flat_map (λ cards. cards) (map (λ (s : Sub). devices_in s.cards) ss)) ≤ FILE
cells_small ss few =
    let a = total_is place_size (flat_map (λ cards. cards) (map (λ (s : Sub). devices_in s.cards) ss)) in
    let b = total_is sub_size ss in
    omega (arith, a, b, all_small ss, few)

-- ---- a source

source_sound : (deck : Deck) (library : Library) (top : Option (List ℕ)) (flat : Flat) → IsLiftable deck → IsSearchable library → flatten deck (run_rails deck.globals library.deck.globals) top ≡ Ok flat → IsSound (source_of flat library)
source_sound deck library top flat d l h =
    let rails = run_rails deck.globals library.deck.globals in
    let parts = flat_parts deck rails top flat h in
    let known = flat_known deck rails top flat d.read (rails_fine deck.globals library.deck.globals d.read.globals l.globals) h in
    let few = rails_few rails deck.globals library.deck.globals refl in
    let count = ap length parts.rails_are in
    record {
      deck_cards = known.cards;
      rails_differ = subst AreRails (sym parts.rails_are) (rails_are deck.globals library.deck.globals);
      deck_places = known.places;
      cell_places = cells_small library.deck.subs l.cells.small;
      few_rails = omega (arith, count, few, d.few, l.few);
    }

pub flat_sound : (deck : Deck) (library : Library) (top : Option (List ℕ)) (flat : Flat) → IsLiftable deck → IsSearchable library → flatten deck (run_rails deck.globals library.deck.globals) top ≡ Ok flat → AreSound (plain flat) library
flat_sound deck library top flat d l h = record {
  source = subst IsSound (sym (same_source flat library)) (source_sound deck library top flat d l h);
  cells = l.cells;
}
