use Rattle.std.proofs.Common.{◌≡◌, ◌∙◌, ◌<◌, ◌++◌, ℕ, List, Option, length, map, sym, ap, subst}
use Rattle.std.specs.Prelude.{All, option_to_list}
use Rattle.std.specs.Option.{option_copied}
use Rattle.gl_text.specs.LogicalLines.{NAME}
use Rattle.gl_text.specs.Decks.{Deck, Sub}
use Rattle.gl_base.specs.Rounds.{cards_of}
use Rattle.gl_lifting.specs.Runs.{run_of}
use Rattle.gl_lifting.specs.Counting.{has_longer}
use Rattle.gl_lifting.specs.Variants.{Variant, variant_names}
use Rattle.gl_lifting.specs.LiftedDecks.{top_name}
use Rattle.gl_history.specs.Replacing.{slots_of}
use Rattle.gl_found.specs.Founds.{Found, all_found}
use Rattle.gl_found.proofs.FoundLaws.{cells_are_known}
use Rattle.gl_limit.specs.Bounds.{text_if_short}
use Rattle.gl_write.specs.Variants.{variants_in}
use Rattle.gl_write.specs.Texts.{deck_by}
use Rattle.gl_write.proofs.DeckLaws.{deck_is, deck_same}
use Rattle.gl_write.proofs.LongLaws.{names_are}
use Rattle.gl_write.proofs.written.lifted_text.Goals as goal

pub of-requires : goal.of-requires
of-requires c =
    let r = c.requires.run in
    let found : c.deref.result.now ≡ all_found c.args.lift.now.rounds = c.deref.ensures.value ∙ c.in_ok-found.ensures.found in
    let subs : c.as_slice.result.now ≡ c.args.library.now.deck.subs = c.as_slice.ensures.subs ∙ c.subs.ensures.subs ∙ ap (λ (d : Deck). d.subs) c.deck.ensures.deck in
    let known = cells_are_known (run_of c.args.flat.now c.args.library.now r.keep) r.cells c.args.lift.now r.are_cells r.shown in
    record { known = subst (λ fs. All (λ (f : Found). f.cell < length c.as_slice.result.now) fs) (sym found) (subst (λ ss. All (λ (f : Found). f.cell < length ss) (all_found c.args.lift.now.rounds)) (sym subs) known) }

pub returns-clause-long : goal.returns-clause-long
returns-clause-long c = λ r.
    let flat = c.args.flat.now in
    let library = c.args.library.now in
    let lift = c.args.lift.now in
    let stem = c.args.stem.now in
    let cards = cards_of flat in
    let s = (run_of flat library r.keep).source in
    let vs = c.in_ok-variants.variants in
    let slots = slots_of lift.last.devices lift.last_origins in
    let found : c.deref.result.now ≡ all_found lift.rounds = c.deref.ensures.value ∙ c.in_ok-found.ensures.found in
    let subs : c.as_slice.result.now ≡ library.deck.subs = c.as_slice.ensures.subs ∙ c.subs.ensures.subs ∙ ap (λ (d : Deck). d.subs) c.deck.ensures.deck in
    let told : vs ≡ variants_in cards library.deck.subs (all_found lift.rounds) = c.in_ok-variants.ensures.variants ∙ ap (λ ss. variants_in cards ss c.deref.result.now) subs ∙ ap (variants_in cards library.deck.subs) found in
    let names : c.deref-3.result.now ≡ variant_names (top_name flat) vs.different =
    c.deref-3.ensures.value ∙ c.in_ok-names.ensures.names ∙ ap (λ top. variant_names top c.different.result.now) c.name_of_top-top.ensures.name ∙ ap (variant_names (top_name flat)) c.different.ensures.different in
    c.has_long_name.ensures.long
    ∙ ap (λ (ns : List (List ℕ)). has_longer NAME (ns ++ option_to_list (option_copied c.name_of_top-top.result))) names
    ∙ ap (λ (t : Option (List ℕ)). has_longer NAME (variant_names (top_name flat) vs.different ++ option_to_list t)) c.name_of_top-top.ensures.name
    ∙ ap (has_longer NAME) (names_are stem flat s vs slots ∙ ap (λ (d : Deck). map (λ (x : Sub). x.head.name) d.subs) (deck_same stem flat library lift r vs told))

pub returns-clause-text : goal.returns-clause-text
returns-clause-text c = λ r.
    let flat = c.args.flat.now in
    let library = c.args.library.now in
    let lift = c.args.lift.now in
    let stem = c.args.stem.now in
    let cards = cards_of flat in
    let s = (run_of flat library r.keep).source in
    let vs = c.in_ok-variants.variants in
    let slots = slots_of lift.last.devices lift.last_origins in
    let found : c.deref.result.now ≡ all_found lift.rounds = c.deref.ensures.value ∙ c.in_ok-found.ensures.found in
    let subs : c.as_slice.result.now ≡ library.deck.subs = c.as_slice.ensures.subs ∙ c.subs.ensures.subs ∙ ap (λ (d : Deck). d.subs) c.deck.ensures.deck in
    let told : vs ≡ variants_in cards library.deck.subs (all_found lift.rounds) = c.in_ok-variants.ensures.variants ∙ ap (λ ss. variants_in cards ss c.deref.result.now) subs ∙ ap (variants_in cards library.deck.subs) found in
    let names : c.deref-2.result.now ≡ variant_names (top_name flat) vs.different =
    c.deref-2.ensures.value ∙ c.in_ok-names.ensures.names ∙ ap (λ top. variant_names top c.different.result.now) c.name_of_top-top.ensures.name ∙ ap (variant_names (top_name flat)) c.different.ensures.different in
    c.in_ok-text_of.ensures.text s
    ∙ ap (λ (ns : List (List ℕ)). text_if_short (deck_by s stem flat ns c.different-2.result.now c.numbers.result.now slots)) names
    ∙ ap (λ (ds : List Variant). text_if_short (deck_by s stem flat (variant_names (top_name flat) vs.different) ds c.numbers.result.now slots)) c.different-2.ensures.different
    ∙ ap (λ (ks : List ℕ). text_if_short (deck_by s stem flat (variant_names (top_name flat) vs.different) vs.different ks slots)) c.numbers.ensures.numbers
    ∙ ap text_if_short (deck_is stem flat library lift r vs told)
