-- The first three links of lawful histories of bytes, and the lift theorem from the other four.
use Rattle.std.proofs.Common.{◌≡◌, ℕ, List, map, false, Option, None, Some, Ok, Err, refl, subst}
use Rattle.std.specs.Prelude.{Result}
use Rattle.gl_text.specs.LogicalLines.{Fault}
use Rattle.gl_text.specs.Decks.{Sub, Deck, has_twice, read_deck}
use Rattle.gl_text.specs.Flattening.{Flat}
use Rattle.gl_printed.proofs.ReadDeckLaws.{read_fine}
use Rattle.gl_base.specs.Libraries.{Cause, Library, cell_of, library_cause, library_of, checked, read_library}
use Rattle.gl_base.specs.Rounds.{cards_of}
use Rattle.gl_lifting.specs.Runs.{run_of}
use Rattle.gl_lifting.specs.Histories.{History}
use Rattle.gl_lifting.specs.LiftedDecks.{lifted_deck}
use Rattle.gl_lifting.specs.OutLimits.{limits, out_limit}
use Rattle.gl_lifting.specs.Lifted.{Options, LiftsBack}
use Rattle.gl_lifting.specs.Chain.{IsLawfulOf, DevicesOnce, CompositesOnce, VariantsFound, LiftedIsFlat, RenamedIsOriginal, LiftedIsRead, MapHasNames}
use Rattle.gl_lifting.proofs.LinkLaws.{lifts_back}
use Rattle.gl_lifting.proofs.OriginLaws.{devices_once, composites_once}
use Rattle.gl_lifting.proofs.NamedLaws.{variants_found}
use Rattle.gl_fault.specs.Refusals.{or_else}

-- an accepted value is the value
accepted : (o : Option Cause) (a b : Library) → or_else o a ≡ Ok b → a ≡ b
accepted None a b e = cc
accepted (Some cause) a b e = absurd cc

-- a library that is accepted is that of its deck, whose subcircuits have names of their own
checked_differ : (bytes : List ℕ) (r : Result Deck Fault) (library : Library) → read_deck false bytes ≡ r → checked r ≡ Ok library → has_twice (map (λ (s : Sub). s.head.name) library.deck.subs) ≡ false
checked_differ bytes (Err fault) library e f = absurd cc
checked_differ bytes (Ok deck) library e f =
    let same : library_of deck ≡ library = accepted (library_cause deck) (library_of deck) library f in
    subst (λ (l : Library). has_twice (map (λ (s : Sub). s.head.name) l.deck.subs) ≡ false) same (read_fine false bytes deck e).subs_differ

-- the cells of a library that was read have names of their own
pub cells_differ : (bytes : List ℕ) (library : Library) → read_library bytes ≡ Ok library → has_twice (map (λ (s : Sub). s.head.name) library.deck.subs) ≡ false
cells_differ bytes library e = checked_differ bytes (read_deck false bytes) library refl e

-- it tells of its cells as `library_of` does
checked_told : (r : Result Deck Fault) (library : Library) → checked r ≡ Ok library → library.cells ≡ map (cell_of library.deck.subs) library.deck.subs
checked_told (Err fault) library f = absurd cc
checked_told (Ok deck) library f =
    let same : library_of deck ≡ library = accepted (library_cause deck) (library_of deck) library f in
    subst (λ (l : Library). l.cells ≡ map (cell_of l.deck.subs) l.deck.subs) same refl

-- and so does a library that was read
pub cells_told : (bytes : List ℕ) (library : Library) → read_library bytes ≡ Ok library → library.cells ≡ map (cell_of library.deck.subs) library.deck.subs
cells_told bytes library e = checked_told (read_deck false bytes) library e

-- links 1, 2 and 3 of a lawful history of bytes
pub three_links : (deck_bytes library_bytes : List ℕ) (o : Options) (flat : Flat) (library : Library) (h : History) (stem : List ℕ) → IsLawfulOf deck_bytes library_bytes o flat library h stem
    → (DevicesOnce (run_of flat library o.keep) h) × (CompositesOnce h) × (VariantsFound (cards_of flat) h.last.composites)
three_links deck_bytes library_bytes o flat library h stem x =
    let run = run_of flat library o.keep in
    (devices_once run h x.lawful, composites_once run h x.lawful, variants_found (cards_of flat) run h (cells_differ library_bytes library x.library_is) x.lawful)

-- the lift theorem, where links 4 to 7 hold
pub four_links : ((deck_bytes library_bytes : List ℕ) (o : Options) (flat : Flat) (library : Library) (h : History) (stem map report : List ℕ) → IsLawfulOf deck_bytes library_bytes o flat library h stem
    → out_limit limits flat.top (lifted_deck stem flat (run_of flat library o.keep).source h) map report ≡ None
    → (LiftedIsFlat o flat (run_of flat library o.keep) h stem) × (RenamedIsOriginal flat (run_of flat library o.keep) h stem) × (LiftedIsRead flat (run_of flat library o.keep) h stem) × (MapHasNames flat (run_of flat library o.keep) h stem)) → LiftsBack
four_links four = lifts_back (λ deck_bytes library_bytes o flat library h stem map report x within.
    let three = three_links deck_bytes library_bytes o flat library h stem x in
    let rest = four deck_bytes library_bytes o flat library h stem map report x within in
    record {
      devices_once = three.0;
      composites_once = three.1;
      variants_found = three.2;
      lifted_is_flat = rest.0;
      renamed_is_original = rest.1;
      lifted_is_read = rest.2;
      map_has_names = rest.3;
    })
