-- Kept devices as devices: they are those of their cards, and their types are among the types.
use Rattle.std.proofs.Common.{◌≡◌, ℕ, List, [], ◌∷◌, ◌++◌, get_or, map, Option, refl, ap}
use Rattle.std.specs.Prelude.{All, flat_map}
use Rattle.std.proofs.lemmas.List.Elements.{All-map, Contains-get_or, Contains-append_left}
use Rattle.gl_text.specs.Cards.{Device as Card}
use Rattle.gl_text.specs.Flattening.{Flat}
use Rattle.gl_match.specs.Graph.{Device}
use Rattle.gl_base.specs.TypeNames.{TypeName, type_by}
use Rattle.gl_base.specs.BaseCircuit.{types_of, type_in, device_by}
use Rattle.gl_base.specs.Libraries.{Library}
use Rattle.gl_base.specs.Rounds.{cards_of, source_of}
use Rattle.gl_flat.specs.Kept.{kept_device}
use Rattle.gl_lib.specs.Sources.{type_of_flat, device_of_flat}
use Rattle.gl_lib.specs.Numbered.{IsAmongTypes}
use Rattle.gl_lib.proofs.CircuitLaws.{type_is_there}

-- the devices of kept cards are those of the cards
pub kept_parts : (words : List ℕ → Option (List ℕ)) (types : List TypeName) (nets : List (List ℕ)) (cards : List Card)
    → map (device_of_flat (type_by words) types) (map (kept_device nets) cards) ≡ map (device_by (type_by words) types nets) cards
kept_parts words types nets [] = refl
kept_parts words types nets (c ∷ cs) = ap (λ (ds : List Device). device_by (type_by words) types nets c ∷ ds) (kept_parts words types nets cs)

-- and so are their types
pub kept_types : (words : List ℕ → Option (List ℕ)) (nets : List (List ℕ)) (cards : List Card) → map (type_of_flat (type_by words)) (map (kept_device nets) cards) ≡ map (type_by words) cards
kept_types words nets [] = refl
kept_types words nets (c ∷ cs) = ap (λ (ts : List TypeName). type_by words c ∷ ts) (kept_types words nets cs)

-- the types of kept devices are among those of their source
pub flat_among : (f : Flat) (library : Library) (nets : List (List ℕ)) → All (IsAmongTypes (type_in (source_of f library)) (types_of (source_of f library))) (map (kept_device nets) (cards_of f))
flat_among f library nets =
    let s = source_of f library in
    All-map (IsAmongTypes (type_in s) (types_of s)) (kept_device nets) (cards_of f) (λ k d lt.
    let card = get_or (cards_of f) k d in
    type_is_there (type_in s) (s.devices ++ flat_map (λ cards. cards) s.cells) card
    (Contains-append_left s.devices (flat_map (λ cards. cards) s.cells) card (Contains-get_or (cards_of f) k d lt)))
