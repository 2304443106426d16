-- The limit that is counted of the texts of bytes is the one that they pass first.
use Rattle.std.proofs.Common.{◌≡◌, ◌∙◌, ℕ, List, Option, true, Ok, ap}
use Rattle.gl_text.specs.Decks.{Deck, read_deck}
use Rattle.gl_text.specs.Flattening.{Flat}
use Rattle.gl_base.specs.Libraries.{Library, read_library}
use Rattle.gl_lifting.specs.Runs.{Run, run_of}
use Rattle.gl_lifting.specs.Histories.{History, IsHistory, IsLawful}
use Rattle.gl_lifting.specs.LiftedDecks.{lifted_deck}
use Rattle.gl_lifting.specs.OutLimits.{OutLimit, limits, out_limit}
use Rattle.gl_lifting.specs.LiftJobs.{Texts}
use Rattle.gl_lifting.specs.Lifted.{Options}
use Rattle.gl_lifting.specs.Chain.{OfBytes}
use Rattle.gl_lengths.specs.CountedLimits.{HasCountedLimit}
use Rattle.gl_lift.specs.Lifting.{flat_deck, lifted_flat, HaveLimit}
use Rattle.gl_lift.specs.Counted.{HaveCounted}
use Rattle.gl_lift.proofs.WrittenLaws.{known_flat}

-- a history is lawful
abbrev pub HistoriesAreLawful : Type 0
HistoriesAreLawful = (run : Run) (h : History) → IsHistory run h → IsLawful run h

-- limits are counted
abbrev pub LimitsAreCounted : Type 0
LimitsAreCounted = OfBytes (λ o flat run h stem. HasCountedLimit flat run h stem)

pub counted_limit_is : HistoriesAreLawful → LimitsAreCounted → (deck_bytes library_bytes : List ℕ) (o : Options) (deck : Deck) (library : Library) (flat : Flat) (limit : Option OutLimit) (texts : Texts)
    → read_deck true deck_bytes ≡ Ok deck → read_library library_bytes ≡ Ok library → lifted_flat o.top o.keep deck library ≡ Ok flat
    → HaveCounted (run_of flat library o.keep) flat limit texts → HaveLimit (run_of flat library o.keep) flat limit texts
counted_limit_is lawful counted deck_bytes library_bytes o deck library flat limit texts deck_is library_is flat_is h =
    let t = h.texts_are in
    let known = known_flat o.keep library (flat_deck o.top deck library) flat flat_is in
    let law = counted deck_bytes library_bytes o flat library t.history t.stem (record {
      deck = deck;
      deck_is = deck_is;
      library_is = library_is;
      flat_is = known.0;
      lawful = lawful (run_of flat library o.keep) t.history t.history_is;
      stem_is = t.stem_is;
    }) in
    record {
      texts_are = t;
      limit_is = ap (λ (m : List ℕ). out_limit limits flat.top (lifted_deck t.stem flat (run_of flat library o.keep).source t.history) m texts.report) t.map_is ∙ (law texts.report ∙ h.limit_is);
    }
