-- What is written of a deck and a library is what was lifted, and leads back.
use Rattle.std.proofs.Common.{◌≡◌, ℕ, List, Option, None, Some, ap, subst}
use Rattle.std.specs.Prelude.{Result, Ok, Err}
use Rattle.std.specs.Option.{option_map}
use Rattle.gl_fault.specs.Refusals.{or_else}
use Rattle.gl_text.specs.LogicalLines.{Fault}
use Rattle.gl_text.specs.Flattening.{Flat}
use Rattle.gl_base.specs.Libraries.{Library}
use Rattle.gl_base.specs.Rounds.{source_of}
use Rattle.gl_base.specs.Keeping.{unknown_keep}
use Rattle.gl_lifting.specs.LiftJobs.{Texts}
use Rattle.gl_lifting.specs.Lifted.{Options, IsLifted, IsRestored, LiftsBack}
use Rattle.gl_lift.specs.Lifting.{of_keep, unless_unknown, flat_deck}
use Rattle.gl_lift.specs.Written.{IsWritten}

known_by : (u : Option (List ℕ)) (f flat : Flat) → or_else (option_map of_keep u) f ≡ Ok flat → (f ≡ flat) × (u ≡ None)
known_by None f flat h = (cc, cc)
known_by (Some name) f flat h = absurd cc

-- a flat deck that is lifted is that of the deck, and all names are known
pub known_flat : (keep : List (List ℕ)) (library : Library) (wanted : Result Flat Fault) (flat : Flat) → unless_unknown keep library wanted ≡ Ok flat → (wanted ≡ Ok flat) × (unknown_keep keep (source_of flat library) ≡ None)
known_flat keep library (Err fault) flat h = absurd cc
known_flat keep library (Ok f) flat h =
    let k = known_by (unknown_keep keep (source_of f library)) f flat h in
    (ap (λ (g : Flat). Ok g) k.0, subst (λ (g : Flat). unknown_keep keep (source_of g library) ≡ None) k.0 k.1)

pub is_lifted : (deck_bytes library_bytes : List ℕ) (o : Options) (texts : Texts) → IsWritten deck_bytes library_bytes o texts → IsLifted deck_bytes library_bytes o texts.lifted texts.map texts.report
is_lifted deck_bytes library_bytes o texts w =
    let known = known_flat o.keep w.library (flat_deck o.top w.deck w.library) w.flat w.flat_is in
    let t = w.texts_are.texts_are in
    record {
      deck = w.deck;
      library = w.library;
      flat = w.flat;
      history = t.history;
      stem = t.stem;
      deck_is = w.deck_is;
      library_is = w.library_is;
      flat_is = known.0;
      history_is = record { all_known = known.1; history_is = t.history_is; stem_is = t.stem_is };
      texts_are = record { lifted_is = t.lifted_is; map_is = t.map_is; report_is = t.report_is };
      within = w.texts_are.limit_is;
    }

pub is_restored : LiftsBack → (deck_bytes library_bytes : List ℕ) (o : Options) (texts : Texts) (w : IsWritten deck_bytes library_bytes o texts) → IsRestored o.top texts.lifted texts.map w.flat
unfolding is_lifted
is_restored theorem deck_bytes library_bytes o texts w = theorem deck_bytes library_bytes o texts.lifted texts.map texts.report (is_lifted deck_bytes library_bytes o texts w)
