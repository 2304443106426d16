-- The premises that bytes meet: the flat deck and the library are decks as they are read, and cells have few ports.
use Rattle.std.proofs.Common.{◌≡◌, ◌≤◌, ◌<◌, ℕ, List, [], ◌∷◌, ◌++◌, length, map, true, false, Bool, Option, None, Some, refl, subst, codes}
use Rattle.std.specs.Prelude.{Result, Ok, Err, not, nat_lt}
use Rattle.std.specs.List.{AllByRecursion}
use Rattle.std.proofs.lemmas.Bool.{ltb-false}
use Rattle.gl_text.specs.LogicalLines.{NAME, Fault, same_text}
use Rattle.gl_text.specs.Cards.{global}
use Rattle.gl_text.specs.Decks.{Sub, Deck, once, read_deck}
use Rattle.gl_text.specs.Flattening.{Flat}
use Rattle.gl_printed.specs.ReadCards.{IsFine}
use Rattle.gl_printed.specs.ReadDecks.{IsReadDeck}
use Rattle.gl_printed.specs.FlatDecks.{AreRails, deck_of}
use Rattle.gl_printed.proofs.Each.{each_append, each_filter}
use Rattle.gl_printed.proofs.ReadDeckLaws.{read_fine}
use Rattle.gl_printed.proofs.FlatDeckLaws.{flat_fine_deck}
use Rattle.gl_base.specs.Rails.{run_rails}
use Rattle.gl_base.specs.Libraries.{Library, Cause, PORTS, ports, cell_limit, top_cause, cells_cause, limit_cause, devices_cause, ports_cause, library_cause, library_of, checked, read_library}
use Rattle.gl_base.specs.RoundReports.{instance_name}
use Rattle.gl_base.specs.Stems.{IsStem, names_in}
use Rattle.gl_base.proofs.TextLaws.{rails_are}
use Rattle.gl_lifting.specs.Runs.{Run, run_of}
use Rattle.gl_lifting.specs.Histories.{History}
use Rattle.gl_lifting.specs.LiftedDecks.{lifted_deck}
use Rattle.gl_lifting.specs.OutLimits.{limits, out_limit}
use Rattle.gl_lifting.specs.Lifted.{Options}
use Rattle.gl_lifting.specs.Chain.{IsLawfulOf, LiftedIsRead}
use Rattle.gl_lifting.specs.Suited.{HasSuited, FewPorts}
use Rattle.gl_lifting.proofs.LimitLaws.{names_written}
use Rattle.gl_lifting.proofs.LiftedReadLaws.{lifted_read}
use Rattle.gl_fault.specs.Refusals.{first_some, when, or_else}

-- ---- rails

-- what holds of each holds of each once
each_once_of : (P : List ℕ → Type 0) (names : List (List ℕ)) → AllByRecursion P names → AllByRecursion P (once names)
each_once_of P [] h = tt
each_once_of P (n ∷ ns) h = (h.0, each_filter P (λ m. not (same_text n m)) (once ns) (each_once_of P ns h.1))

-- rails of fine names are fine
rails_fine : (deck library : List (List ℕ)) → AllByRecursion (λ n. IsFine (global (n ∷ []))) deck → AllByRecursion (λ n. IsFine (global (n ∷ []))) library → AreRails (run_rails deck library)
rails_fine deck library first second =
    let P : List ℕ → Type 0 = λ n. IsFine (global (n ∷ [])) in
    let are = rails_are deck library in
    record {
      fine = each_filter P (λ name. not (same_text name (codes "0"))) (once (deck ++ library)) (each_once_of P (deck ++ library) (each_append P deck library first second));
      differ = are.differ;
      no_zero = are.no_zero;
    }

-- ---- the library

-- no cause is no first cause, and none behind it
pub no_first : (c : Option Cause) (cs : List (Option Cause)) → first_some (c ∷ cs) ≡ None → (c ≡ None) × (first_some cs ≡ None)
no_first None cs e = (refl, e)
no_first (Some x) cs e = absurd cc

-- where there is no cause the test fails
pub no_cause : (test : Bool) (c : Cause) → when test c ≡ None → test ≡ false
no_cause true c e = absurd cc
no_cause false c e = refl

-- no cell has too many ports
each_few : (subs cells : List Sub) → first_some (map (limit_cause subs) cells) ≡ None → FewPorts cells
each_few subs [] e = tt
each_few subs (t ∷ ts) e =
    let a = no_first (limit_cause subs t) (map (limit_cause subs) ts) e in
    let b = no_first (devices_cause t) _ a.0 in
    let c = no_first (ports_cause t) _ b.1 in
    (ltb-false PORTS (length t.head.ports) (no_cause (nat_lt PORTS (length t.head.ports)) (cell_limit t.head.name ports (length t.head.ports)) c.0), each_few subs ts a.1)

-- a value without a cause
no_unless : (c : Option Cause) (v l : Library) → or_else c v ≡ Ok l → (c ≡ None) × (v ≡ l)
no_unless None v l e = (refl, cc)
no_unless (Some x) v l e = absurd cc

-- a library that was read has no cause
pub library_known : (r : Result Deck Fault) (l : Library) → checked r ≡ Ok l → (deck : Deck) × (r ≡ Ok deck) × (library_cause deck ≡ None) × (library_of deck ≡ l)
library_known (Err f) l e = absurd cc
library_known (Ok deck) l e = let u = no_unless (library_cause deck) (library_of deck) l e in (deck, refl, u.0, u.1)

-- a library that was read is a deck as it is read, and its cells have few ports
pub read_libraries : (bytes : List ℕ) (l : Library) → read_library bytes ≡ Ok l → IsReadDeck l.deck × FewPorts l.deck.subs
read_libraries bytes l e =
    let r = library_known (read_deck false bytes) l e in
    let a = no_first (top_cause r.0.top) _ r.2 in
    let b = no_first (cells_cause r.0.subs) _ a.1 in
    let c = no_first (first_some (map (limit_cause r.0.subs) r.0.subs)) _ b.1 in
    (subst (λ (x : Library). IsReadDeck x.deck) r.3 (read_fine false bytes r.0 r.1), subst (λ (x : Library). FewPorts x.deck.subs) r.3 (each_few r.0.subs r.0.subs c.0))

-- ---- the law

-- of any flat deck and library that are read
pub parts_read : (flat : Flat) (run : Run) (library : Library) (h : History) (stem map_bytes report : List ℕ) → IsReadDeck (deck_of flat) → IsReadDeck library.deck → FewPorts library.deck.subs → HasSuited run.source flat library h → IsStem (names_in flat) stem
    → ((n : ℕ) → 0 < n → n ≤ length h.last.composites → length (instance_name stem n) ≤ NAME) → out_limit limits flat.top (lifted_deck stem flat run.source h) map_bytes report ≡ None → LiftedIsRead flat run h stem
parts_read flat run library h stem map_bytes report fr lr few suited stem-is short within =
    lifted_read run.source flat stem library h fr lr few suited stem-is short (names_written flat.top (lifted_deck stem flat run.source h) map_bytes report within)

-- the flat deck of bytes is a deck as it is read
pub flat_known : (deck_bytes library_bytes : List ℕ) (o : Options) (flat : Flat) (library : Library) (h : History) (stem : List ℕ) → IsLawfulOf deck_bytes library_bytes o flat library h stem → IsReadDeck (deck_of flat)
flat_known deck_bytes library_bytes o flat library h stem is =
    let deck_read = read_fine true deck_bytes is.deck is.deck_is in
    let known = read_libraries library_bytes library is.library_is in
    flat_fine_deck is.deck (run_rails is.deck.globals library.deck.globals) o.top flat deck_read (rails_fine is.deck.globals library.deck.globals deck_read.globals known.0.globals) is.flat_is

-- of bytes
pub bytes_read : (deck_bytes library_bytes : List ℕ) (o : Options) (flat : Flat) (library : Library) (h : History) (stem map_bytes report : List ℕ) → IsLawfulOf deck_bytes library_bytes o flat library h stem → HasSuited (run_of flat library o.keep).source flat library h
    → ((n : ℕ) → 0 < n → n ≤ length h.last.composites → length (instance_name stem n) ≤ NAME) → out_limit limits flat.top (lifted_deck stem flat (run_of flat library o.keep).source h) map_bytes report ≡ None → LiftedIsRead flat (run_of flat library o.keep) h stem
bytes_read deck_bytes library_bytes o flat library h stem map_bytes report is suited short within =
    let deck_read = read_fine true deck_bytes is.deck is.deck_is in
    let known = read_libraries library_bytes library is.library_is in
    let flat_read = flat_fine_deck is.deck (run_rails is.deck.globals library.deck.globals) o.top flat deck_read (rails_fine is.deck.globals library.deck.globals deck_read.globals known.0.globals) is.flat_is in
    parts_read flat (run_of flat library o.keep) library h stem map_bytes report flat_read known.0 known.1 suited is.stem_is short within
