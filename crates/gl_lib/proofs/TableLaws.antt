-- The tables of a base, from what is read.
use Rattle.std.proofs.Common.{◌≡◌, ◌+◌, ◌<◌, ℕ, List, [], ◌∷◌, ◌++◌, length, map, Option, refl, sym, ap, ◌∙◌, arith}
use Rattle.std.specs.Prelude.{flat_map}
use Rattle.std.proofs.lemmas.List.{map-append}
use Rattle.gl_text.specs.Decks.{Sub}
use Rattle.gl_text.specs.Flattening.{Flat}
use Rattle.gl_text.specs.CellCards.{devices_in}
use Rattle.gl_base.specs.TypeNames.{TypeName, type_by, word_of, each_once}
use Rattle.gl_base.specs.BaseCircuit.{types_of, type_in}
use Rattle.gl_base.specs.Patterns.{IsSound}
use Rattle.gl_base.specs.Libraries.{Library}
use Rattle.gl_base.specs.Rounds.{cards_of, source_of}
use Rattle.gl_flat.specs.Kept.{KeptDevice, kept_device}
use Rattle.gl_lib.specs.Sources.{cells_in, cards_of_cells, type_of_flat}
use Rattle.gl_lib.proofs.FlatLaws.{kept_types}
use Rattle.gl_lib.proofs.InsertLaws.{places_are}

-- the devices of all cells, taken together
flat_of_map : (subs : List Sub) → flat_map (λ (s : Sub). devices_in s.cards) subs ≡ flat_map (λ cards. cards) (map (λ (s : Sub). devices_in s.cards) subs)
flat_of_map [] = refl
flat_of_map (s ∷ ss) = ap (λ cards. devices_in s.cards ++ cards) (flat_of_map ss)

-- where the words are those of the models, the types are those of the source
pub types_read : (f : Flat) (library : Library) (words : List ℕ → Option (List ℕ)) (nets : List (List ℕ)) (devices : List KeptDevice) (subs : List Sub) (kinds : List TypeName) → ((name : List ℕ) → words name ≡ word_of (f.models ++ library.deck.models) name)
    → devices ≡ map (kept_device nets) (cards_of f) → subs ≡ library.deck.subs → kinds ≡ each_once (map (type_of_flat (type_by words)) devices ++ map (type_by words) (cards_of_cells subs)) → kinds ≡ types_of (source_of f library)
types_read f library words nets devices subs kinds h devices_are subs_are e =
    let type = type_in (source_of f library) in
    let same : words ≡ word_of (f.models ++ library.deck.models) = λ i name. h name i in
    e
    ∙ (λ i. each_once (map (type_of_flat (type_by (same i))) (devices_are i) ++ map (type_by (same i)) (cards_of_cells (subs_are i))))
    ∙ ap (λ ts. each_once (ts ++ map type (cards_of_cells library.deck.subs))) (kept_types (word_of (f.models ++ library.deck.models)) nets (cards_of f))
    ∙ ap (λ cards. each_once (map type (cards_of f) ++ map type cards)) (flat_of_map library.deck.subs)
    ∙ ap each_once (sym (map-append type (cards_of f) (flat_map (λ cards. cards) (cells_in library))))

-- there are few devices of all cells
pub few_cards : (f : Flat) (library : Library) → IsSound (source_of f library) → length (cards_of f) + length (cards_of_cells library.deck.subs) < 4294967296
few_cards f library is =
    let cards = flat_map (λ cards. cards) (cells_in library) in
    let same = ap length (flat_of_map library.deck.subs) in
    omega (arith, same, places_are (cards_of f), places_are cards, is.deck_places, is.cell_places)
