-- The text of a lifted deck, by its parts.
use Rattle.std.proofs.Common.{◌≡◌, ℕ, List, [], ◌∷◌, ◌++◌, map, Option, Some, None, refl, sym, ap, ◌∙◌, append_assoc}
use Rattle.std.specs.Prelude.{flat_map, zip}
use Rattle.std.proofs.lemmas.List.{append-nil}
use Rattle.std.proofs.lemmas.Grind.{flat_map-append}
use Rattle.gl_text.specs.Cards.{Head, ended}
use Rattle.gl_text.specs.Decks.{Body, Sub, Deck, line_of, body_line, global_line, model_line, passed_line, sub_text, deck_text}
use Rattle.gl_text.specs.Flattening.{Flat, around}
use Rattle.gl_printed.specs.FlatDecks.{subs_around, top_without}
use Rattle.gl_base.specs.BaseCircuit.{Source}
use Rattle.gl_base.specs.Libraries.{Library}
use Rattle.gl_base.specs.Rounds.{cards_of}
use Rattle.gl_match.specs.Graph.{Circuit}
use Rattle.gl_lifting.specs.Runs.{run_of}
use Rattle.gl_lifting.specs.Replacement.{Slot, Origin}
use Rattle.gl_lifting.specs.Variants.{Variants, variants_of, variant_names}
use Rattle.gl_lifting.specs.LiftedDecks.{variant_sub, slot_card, top_name, lifted_deck}
use Rattle.gl_history.specs.Plain.{Lifted}
use Rattle.gl_history.specs.Replacing.{slots_of}
use Rattle.gl_found.specs.Founds.{all_found, IsRunOf}
use Rattle.gl_write.specs.Variants.{variants_in}
use Rattle.gl_write.specs.Texts.{deck_by}
use Rattle.gl_found.proofs.FoundLaws.{composites_found}
use Rattle.gl_write.proofs.VariantLaws.{variants_same}

-- slots that were taken apart are put together
together : (slots : List Slot) → slots_of (map (λ (s : Slot). s.device) slots) (map (λ (s : Slot). s.origin) slots) ≡ slots
together [] = refl
together (s ∷ slots) = ap (λ ss. s ∷ ss) (together slots)

-- cards stand inside the top subcircuit, if there is one
around_is : (x : List ℕ) (top : Option Head) (subs : List Sub) (cards : List Body)
    → (x ++ flat_map sub_text (subs ++ subs_around top cards)) ++ flat_map body_line (top_without top cards) ≡ (x ++ flat_map sub_text subs) ++ around top (flat_map body_line cards)
around_is x None subs cards = ap (λ (ss : List Sub). (x ++ flat_map sub_text ss) ++ flat_map body_line cards) (append-nil subs)
around_is x (Some head) subs cards =
    let s : Sub = record { line = 0; head = head; cards = cards } in
    append-nil (x ++ flat_map sub_text (subs ++ s ∷ []))
    ∙ ap (λ t. x ++ t) (flat_map-append sub_text subs (s ∷ []) ∙ ap (λ t. flat_map sub_text subs ++ t) (append-nil (sub_text s)))
    ∙ sym (append_assoc x (flat_map sub_text subs) (sub_text s))

-- a lifted deck, by its variants and the devices of the last circuit
abbrev pub lifted_by : List ℕ → Flat → Source → Variants → List Slot → Deck
lifted_by stem flat s vs slots =
    let names = variant_names (top_name flat) vs.different in
    let cards = map (slot_card stem (cards_of flat) names vs.numbers) slots in record {
      title = flat.title;
      globals = flat.rails;
      models = flat.models;
      subs = map (variant_sub s names) (zip names vs.different) ++ subs_around flat.top cards;
      top = top_without flat.top cards;
      passed = flat.passed;
    }

text_is : (stem : List ℕ) (flat : Flat) (s : Source) (vs : Variants) (slots : List Slot)
    → deck_text (lifted_by stem flat s vs slots) ≡ deck_by s stem flat (variant_names (top_name flat) vs.different) vs.different vs.numbers slots
text_is stem flat s vs slots =
    let names = variant_names (top_name flat) vs.different in
    let cards = map (slot_card stem (cards_of flat) names vs.numbers) slots in
    let front = flat.title ++ 10 ∷ flat_map global_line flat.rails ++ flat_map model_line flat.models in
    ap (λ t. t ++ flat_map passed_line flat.passed ++ line_of ended) (around_is front flat.top (map (variant_sub s names) (zip names vs.different)) cards)

-- the lifted deck of a history, by what its rounds show
pub deck_same : (stem : List ℕ) (flat : Flat) (library : Library) (lifted : Lifted) (r : IsRunOf flat library lifted) (vs : Variants) → vs ≡ variants_in (cards_of flat) library.deck.subs (all_found lifted.rounds)
    → lifted_by stem flat (run_of flat library r.keep).source vs (slots_of lifted.last.devices lifted.last_origins)
    ≡ lifted_deck stem flat (run_of flat library r.keep).source r.shown.history
deck_same stem flat library lifted r vs e =
    let run = run_of flat library r.keep in
    let h = r.shown.history in
    let told : vs ≡ variants_of (cards_of flat) h.last.composites =
    e ∙ variants_same (cards_of flat) run (record { different = []; numbers = [] }) (all_found lifted.rounds)
    ∙ ap (variants_of (cards_of flat)) (sym (composites_found run r.cells lifted r.are_cells r.shown)) in
    let slots : slots_of lifted.last.devices lifted.last_origins ≡ h.last.slots =
    ap (λ (c : Circuit). slots_of c.devices lifted.last_origins) r.shown.last
    ∙ ap (λ (os : List Origin). slots_of (map (λ (t : Slot). t.device) h.last.slots) os) r.shown.last_origins
    ∙ together h.last.slots in
    ap (λ (ws : Variants). lifted_by stem flat run.source ws (slots_of lifted.last.devices lifted.last_origins)) told
    ∙ ap (λ (ss : List Slot). lifted_by stem flat run.source (variants_of (cards_of flat) h.last.composites) ss) slots

-- the text of the lifted deck of a history, by what its rounds show
pub deck_is : (stem : List ℕ) (flat : Flat) (library : Library) (lifted : Lifted) (r : IsRunOf flat library lifted) (vs : Variants) → vs ≡ variants_in (cards_of flat) library.deck.subs (all_found lifted.rounds)
    → deck_by (run_of flat library r.keep).source stem flat (variant_names (top_name flat) vs.different) vs.different vs.numbers (slots_of lifted.last.devices lifted.last_origins)
    ≡ deck_text (lifted_deck stem flat (run_of flat library r.keep).source r.shown.history)
deck_is stem flat library lifted r vs e =
    sym (text_is stem flat (run_of flat library r.keep).source vs (slots_of lifted.last.devices lifted.last_origins))
    ∙ ap deck_text (deck_same stem flat library lifted r vs e)
