-- What a lifted deck counts, told by the original deck and the history, whether limits are kept or not. This project's own.
use Rattle.std.specs.Prelude.{◌≡◌, ◌+◌, ◌++◌, ◌∷◌, [], ℕ, Bool, false, nat_lt, List, length, map, flat_map, zip, Contains, Option}
use Rattle.std.specs.List.{AllByRecursion, list_any}
use Rattle.gl_text.specs.Cards.{Device as Card, dev}
use Rattle.gl_text.specs.Flattening.{Flat, count, one, bearers, bearer_name, flat_text}
use Rattle.gl_base.specs.BaseCircuit.{net_number, nets_of}
use Rattle.gl_base.specs.Reports.{name_at}
use Rattle.gl_base.specs.Rounds.{cards_of}
use Rattle.gl_lifting.specs.Runs.{Run}
use Rattle.gl_lifting.specs.Histories.{History}
use Rattle.gl_lifting.specs.LiftedDecks.{lifted_deck}
use Rattle.gl_lifting.specs.OutLimits.{OutLimit, of_name, of_cards, of_lifted_text, of_lifted_flat, of_map_text, of_report_text, Limits, passed_if, first_passed, expanded_cards, lifted_flat}
use Rattle.gl_lifting.specs.NameMaps.{NameMap, map_of, map_text}
use Rattle.gl_text.specs.Decks.{Sub, Deck, line_of, deck_text, has_twice}
use Rattle.gl_lifting.specs.Renaming.{new_names, names_of_devices}
use Rattle.gl_lifting.specs.Pairing.{ArePaired, AreAmong}

-- the lifted deck is expanded to one card for each original device, and one X card for each composite
abbrev pub HasCardsOf : Flat → Run → History → List ℕ → Type 0
HasCardsOf flat run h stem = let deck = lifted_deck stem flat run.source h in count one deck.subs (expanded_cards flat.top deck) ≡ length (cards_of flat) + length h.last.composites

-- each device of the flattened lifted deck stands for an original one, line by line of the map
abbrev pub IsPaired : Flat → Run → History → List ℕ → Type 0
IsPaired flat run h stem = ArePaired (lifted_flat flat.top (lifted_deck stem flat run.source h)) (map_of stem flat run.source h) flat

-- the names of the devices of the flattened lifted deck and of the nets on them are the new names of the map
pub record HasNewNames (flat : Flat) (run : Run) (h : History) (stem : List ℕ) : Type 0 where
  pub known : AreAmong (map bearer_name (flat_map bearers (lifted_flat flat.top (lifted_deck stem flat run.source h)).devices)) (new_names (map_of stem flat run.source h).devices ++ new_names (map_of stem flat run.source h).nets)
  pub there : AreAmong (new_names (map_of stem flat run.source h).devices ++ new_names (map_of stem flat run.source h).nets) (map bearer_name (flat_map bearers (lifted_flat flat.top (lifted_deck stem flat run.source h)).devices))

-- no two devices of the flattened lifted deck have one name
abbrev pub HasOnceNames : Flat → Run → History → List ℕ → Type 0
HasOnceNames flat run h stem = has_twice (names_of_devices (lifted_flat flat.top (lifted_deck stem flat run.source h))) ≡ false

-- ---- lengths, told by the original deck and the map

-- a card of an original deck under the new names of a map: that of its line, and those of its nets by their numbers
abbrev pub new_card : NameMap → List (List ℕ) → List ℕ × Card → Card
new_card m nets z = record { name = z.0; nodes = map (λ n. name_at (new_names m.nets) (net_number nets n)) z.1.nodes; model = z.1.model; tail = z.1.tail }

-- the devices of an original deck as cards under the new names of a map
abbrev pub new_cards : NameMap → Flat → List Card
new_cards m flat = map (new_card m (nets_of (cards_of flat))) (zip (new_names m.devices) (cards_of flat))

-- each of them is the card of a device of the flattened lifted deck
abbrev pub HasNewCards : Flat → Run → History → List ℕ → Type 0
HasNewCards flat run h stem = let m = map_of stem flat run.source h in AllByRecursion (λ c. Contains (cards_of (lifted_flat flat.top (lifted_deck stem flat run.source h))) c) (new_cards m flat)

-- how long the text of a flat deck is with its devices under the new names of a map
abbrev pub new_length : NameMap → Flat → ℕ
new_length m flat = length (flat_text (record (flat) { devices = [] })) + length (flat_map (λ c. line_of (dev c)) (new_cards m flat))

-- the flattened lifted deck's text is so long
abbrev pub HasNewLength : Flat → Run → History → List ℕ → Type 0
HasNewLength flat run h stem = length (flat_text (lifted_flat flat.top (lifted_deck stem flat run.source h))) ≡ new_length (map_of stem flat run.source h) flat

-- a name that is longer than a limit is among some
abbrev pub has_longer : ℕ → List (List ℕ) → Bool
has_longer most names = list_any (λ name. nat_lt most (length name)) names

-- a name of a subcircuit of the lifted deck, or a new name of the map, is longer than a limit
abbrev pub has_long_name : ℕ → Deck → NameMap → Bool
has_long_name most deck m = has_longer most (map (λ (s : Sub). s.head.name) deck.subs ++ (new_names m.devices ++ new_names m.nets))

-- which limit is passed first, counted: names by the map, cards by the original devices and the composites, and the flattened lifted deck by the original one
abbrev pub counted_limit : Limits → Flat → Deck → NameMap → ℕ → List ℕ → Option OutLimit
counted_limit l flat deck m composites report = first_passed (
    passed_if (has_long_name l.name deck m) of_name
    ∷ passed_if (nat_lt l.cards (length (cards_of flat) + composites)) of_cards
    ∷ passed_if (nat_lt l.text (length (deck_text deck))) of_lifted_text
    ∷ passed_if (nat_lt l.text (new_length m flat)) of_lifted_flat
    ∷ passed_if (nat_lt l.text (length (map_text m))) of_map_text
    ∷ passed_if (nat_lt l.text (length report)) of_report_text ∷ [])
