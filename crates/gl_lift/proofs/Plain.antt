-- A flat deck with its devices at the top has the same source, names and texts.
use Rattle.std.proofs.Common.{◌≡◌, ◌+◌, ◌++◌, ◌∷◌, [], ℕ, List, length, map, Option, nat_lt, refl, ap, sym, ◌∙◌, subst}
use Rattle.std.specs.Prelude.{zip, flat_map}
use Rattle.gl_text.specs.Cards.{Device, dev}
use Rattle.gl_text.specs.Flattening.{Flat, FlatDevice, flat_card, flat_text, device_name, top_ports}
use Rattle.gl_base.specs.Rails.{all_rails}
use Rattle.gl_base.specs.BaseCircuit.{Source, nets_of}
use Rattle.gl_base.specs.Libraries.{Library}
use Rattle.gl_base.specs.Stems.{IsStem}
use Rattle.gl_base.specs.Rounds.{cards_of, source_of}
use Rattle.gl_base.specs.Keeping.{keeping, unknown_keep}
use Rattle.gl_lifting.specs.Runs.{Run, run_of}
use Rattle.gl_lifting.specs.Histories.{History, IsHistory, AreRounds}
use Rattle.gl_lifting.specs.HistoryReports.{rounds_report, left_in}
use Rattle.gl_lifting.specs.Variants.{variants_of, variant_names}
use Rattle.gl_lifting.specs.LiftedDecks.{variant_sub, slot_card, top_name}
use Rattle.gl_lifting.specs.NameMaps.{NameMap, all_located, devices_renamed, nets_renamed, renamed_by, map_text}
use Rattle.gl_lifting.specs.LiftJobs.{Texts}
use Rattle.gl_lifting.specs.OutLimits.{OutLimit, of_name, of_cards, of_lifted_text, of_lifted_flat, of_map_text, of_report_text, limits, passed_if, first_passed}
use Rattle.gl_lifting.specs.Counting.{has_long_name, new_card}
use Rattle.gl_lifting.specs.Renaming.{new_names}
use Rattle.gl_printed.specs.FlatDecks.{subs_around, top_without}
use Rattle.gl_text.specs.Decks.{Deck, deck_text, line_of}
use Rattle.gl_lift.specs.Counted.{HaveCounted}
use Rattle.gl_lift.specs.Lifting.{AreComplete, AreChoice, AreApart, AreTextsOf}
use Rattle.gl_flat.specs.PlainFlats.{plain_device, plain}
use Rattle.gl_flat.proofs.PlainLaws.{plain_cards}
use Rattle.gl_lib.specs.Sources.{cells_in}

pub same_source : (f : Flat) (library : Library) → source_of (plain f) library ≡ source_of f library
same_source f library = ap (λ (cards : List Device). record {
  rails = f.rails;
  deck_models = f.models;
  library_models = library.deck.models;
  devices = cards;
  cells = cells_in library;
  pinned = top_ports f.top;
}) (plain_cards f)

same_names : (ds : List FlatDevice) → map device_name (map plain_device (map flat_card ds)) ≡ map device_name ds
same_names [] = refl
same_names (d ∷ ds) = ap (λ (ns : List (List ℕ)). device_name d ∷ ns) (same_names ds)

-- the names of cards, of their nets, of rails and of ports
names_with : Flat → List Device → List (List ℕ)
names_with f cards = map (λ (c : Device). c.name) cards ++ nets_of cards ++ all_rails f.rails ++ top_ports f.top

-- the report of a history with names of devices and of cards
text_with : List ℕ → Library → History → List (List ℕ) → List Device → List ℕ
text_with stem library h devices cards = rounds_report (record { stem = stem; nets = nets_of cards }) devices library h.rounds (left_in h.last.slots)

-- the first kept name that is unknown
pub same_unknown : (keep : List (List ℕ)) (f : Flat) (library : Library) → unknown_keep keep (source_of (plain f) library) ≡ unknown_keep keep (source_of f library)
same_unknown keep f library = ap (unknown_keep keep) (same_source f library)

-- the run
same_run : (keep : List (List ℕ)) (f : Flat) (library : Library) → run_of (plain f) library keep ≡ run_of f library keep
same_run keep f library = ap (λ (s : Source). record { source = keeping keep s; library = library }) (same_source f library)

-- the lifted deck of a history with these cards
deck_with : List ℕ → Flat → List Device → Source → History → List ℕ
deck_with stem f cards s h =
    let vs = variants_of cards h.last.composites in
    let names = variant_names (top_name f) vs.different in
    let bodies = map (slot_card stem cards names vs.numbers) h.last.slots in deck_text (record {
      title = f.title;
      globals = f.rails;
      models = f.models;
      subs = map (variant_sub s names) (zip names vs.different) ++ subs_around f.top bodies;
      top = top_without f.top bodies;
      passed = f.passed;
    })

-- the map of names of a history with these cards
map_with : List ℕ → List Device → Source → History → List ℕ
map_with stem cards s h = let all = all_located stem h in map_text (record {
  devices = renamed_by (flat_map devices_renamed all) (map (λ (c : Device). c.name) cards);
  nets = renamed_by (flat_map (nets_renamed s) all) (nets_of cards);
})

plain_texts : (keep : List (List ℕ)) (f : Flat) (library : Library) (texts : Texts) → AreTextsOf (run_of (plain f) library keep) (plain f) texts → AreTextsOf (run_of f library keep) f texts
unfolding names_with text_with deck_with map_with
plain_texts keep f library texts h =
    let run = same_run keep f library in
    let source = (run_of f library keep).source in
    record {
      history = h.history;
      history_is = subst (λ (r : Run). IsHistory r h.history) run h.history_is;
      complete = subst (λ (r : Run). AreRounds AreComplete r h.history) run h.complete;
      choice = subst (λ (r : Run). AreRounds AreChoice r h.history) run h.choice;
      apart = subst (λ (r : Run). AreRounds AreApart r h.history) run h.apart;
      stem = h.stem;
      stem_is = subst (λ (cards : List Device). IsStem (names_with f cards) h.stem) (plain_cards f) h.stem_is;
      lifted_is = h.lifted_is
          ∙ ap (λ (r : Run). deck_with h.stem f (cards_of (plain f)) r.source h.history) run
          ∙ ap (λ (cards : List Device). deck_with h.stem f cards source h.history) (plain_cards f);
      map_is = h.map_is
          ∙ ap (λ (r : Run). map_with h.stem (cards_of (plain f)) r.source h.history) run
          ∙ ap (λ (cards : List Device). map_with h.stem cards source h.history) (plain_cards f);
      report_is = h.report_is
          ∙ ap (λ (ds : List (List ℕ)). text_with h.stem library h.history ds (cards_of (plain f))) (same_names f.devices)
          ∙ ap (text_with h.stem library h.history (map device_name f.devices)) (plain_cards f);
    }

-- the limit that is counted of a history with these cards
counted_with : List ℕ → Flat → List Device → Source → History → List ℕ → Option OutLimit
counted_with stem f cards s h report =
    let vs = variants_of cards h.last.composites in
    let names = variant_names (top_name f) vs.different in
    let bodies = map (slot_card stem cards names vs.numbers) h.last.slots in
    let deck : Deck = record {
      title = f.title;
      globals = f.rails;
      models = f.models;
      subs = map (variant_sub s names) (zip names vs.different) ++ subs_around f.top bodies;
      top = top_without f.top bodies;
      passed = f.passed;
    } in
    let all = all_located stem h in
    let m : NameMap = record { devices = renamed_by (flat_map devices_renamed all) (map (λ (c : Device). c.name) cards); nets = renamed_by (flat_map (nets_renamed s) all) (nets_of cards) } in
    first_passed (
    passed_if (has_long_name limits.name deck m) of_name
    ∷ passed_if (nat_lt limits.cards (length cards + length h.last.composites)) of_cards
    ∷ passed_if (nat_lt limits.text (length (deck_text deck))) of_lifted_text
    ∷ passed_if (nat_lt limits.text (length (flat_text (record (f) { devices = [] })) + length (flat_map (λ c. line_of (dev c)) (map (new_card m (nets_of cards)) (zip (new_names m.devices) cards))))) of_lifted_flat
    ∷ passed_if (nat_lt limits.text (length (map_text m))) of_map_text
    ∷ passed_if (nat_lt limits.text (length report)) of_report_text ∷ [])

pub plain_counted : (keep : List (List ℕ)) (f : Flat) (library : Library) (limit : Option OutLimit) (texts : Texts) → HaveCounted (run_of (plain f) library keep) (plain f) limit texts → HaveCounted (run_of f library keep) f limit texts
unfolding plain_texts counted_with
plain_counted keep f library limit texts h =
    let t = h.texts_are in
    record {
      texts_are = plain_texts keep f library texts t;
      limit_is = ap (λ (cards : List Device). counted_with t.stem f cards (run_of f library keep).source t.history texts.report) (sym (plain_cards f))
          ∙ ap (λ (r : Run). counted_with t.stem f (cards_of (plain f)) r.source t.history texts.report) (sym (same_run keep f library))
          ∙ h.limit_is;
    }
