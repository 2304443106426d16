-- The first limit that is passed, told by what is counted.
use Rattle.std.proofs.Common.{◌≡◌, ◌∙◌, ◌+◌, ◌∷◌, ◌++◌, ℕ, List, [], length, map, Bool, true, sym, ap, nat_lt}
use Rattle.std.specs.Prelude.{◌||◌, Option, flat_map}
use Rattle.std.specs.List.{list_any}
use Rattle.std.proofs.lemmas.List.Folds.{list_any-append}
use Rattle.gl_lists.proofs.Bools.{same_bool}
use Rattle.gl_lists.proofs.Membership.{in_any, from_any}
use Rattle.gl_text.specs.Decks.{Sub, Deck, deck_text}
use Rattle.gl_text.specs.Flattening.{Flat, bearers, bearer_name, count, one, flat_text}
use Rattle.gl_base.specs.Rounds.{cards_of}
use Rattle.gl_lifting.specs.Runs.{Run}
use Rattle.gl_lifting.specs.Histories.{History}
use Rattle.gl_lifting.specs.LiftedDecks.{lifted_deck}
use Rattle.gl_lifting.specs.NameMaps.{NameMap, map_of, map_text}
use Rattle.gl_lifting.specs.OutLimits.{OutLimit, of_name, of_cards, of_lifted_text, of_lifted_flat, of_map_text, of_report_text, limits, passed_if, first_passed, expanded_cards, lifted_flat}
use Rattle.gl_lifting.specs.Pairing.{AreAmong}
use Rattle.gl_lifting.specs.Renaming.{new_names}
use Rattle.gl_lifting.specs.Counting.{HasCardsOf, HasNewNames, HasNewLength, has_longer, has_long_name}
use Rattle.gl_lengths.specs.CountedLimits.{HasCountedLimit}

-- names that are among each other have a long one together
longer_alike : (most : ℕ) (few names : List (List ℕ)) → AreAmong few names → AreAmong names few → has_longer most few ≡ has_longer most names
longer_alike most few names into back = same_bool (has_longer most few) (has_longer most names) (one_way few names into) (one_way names few back) where
  one_way : (few names : List (List ℕ)) → AreAmong few names → has_longer most few ≡ true → has_longer most names ≡ true
  one_way few names into t = let r = from_any (λ name. nat_lt most (length name)) few t in in_any (λ name. nat_lt most (length name)) names r.0 (into r.0 r.1) r.2

-- so have they behind other names
longer_behind : (most : ℕ) (first few names : List (List ℕ)) → AreAmong few names → AreAmong names few → has_longer most (first ++ few) ≡ has_longer most (first ++ names)
longer_behind most first few names into back =
    let test : List ℕ → Bool = λ name. nat_lt most (length name) in
    list_any-append test first few ∙ ap (λ b. list_any test first || b) (longer_alike most few names into back) ∙ sym (list_any-append test first names)

-- the first limit that is passed, where these are known
first_of : Bool → ℕ → ℕ → ℕ → ℕ → ℕ → Option OutLimit
first_of long cards lifted flat map report = first_passed (
    passed_if long of_name
    ∷ passed_if (nat_lt limits.cards cards) of_cards
    ∷ passed_if (nat_lt limits.text lifted) of_lifted_text
    ∷ passed_if (nat_lt limits.text flat) of_lifted_flat
    ∷ passed_if (nat_lt limits.text map) of_map_text
    ∷ passed_if (nat_lt limits.text report) of_report_text ∷ [])

-- where cards, names and the length of the flattened lifted deck are those that are counted
pub limit_told : (flat : Flat) (run : Run) (h : History) (stem : List ℕ) → HasCardsOf flat run h stem → HasNewNames flat run h stem → HasNewLength flat run h stem → HasCountedLimit flat run h stem
unfolding first_of
limit_told flat run h stem cards names long report =
    let deck : Deck = lifted_deck stem flat run.source h in
    let m : NameMap = map_of stem flat run.source h in
    let f : Flat = lifted_flat flat.top deck in
    let heads = map (λ (s : Sub). s.head.name) deck.subs in
    let written = map bearer_name (flat_map bearers f.devices) in
    let lifted = length (deck_text deck) in
    let mapped = length (map_text m) in
    ap (λ b. first_of b (count one deck.subs (expanded_cards flat.top deck)) lifted (length (flat_text f)) mapped (length report))
    (longer_behind limits.name heads written (new_names m.devices ++ new_names m.nets) names.known names.there)
    ∙ ap (λ n. first_of (has_long_name limits.name deck m) n lifted (length (flat_text f)) mapped (length report)) cards
    ∙ ap (λ n. first_of (has_long_name limits.name deck m) (length (cards_of flat) + length h.last.composites) lifted n mapped (length report)) long
