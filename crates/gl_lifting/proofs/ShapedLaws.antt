-- Cells' cards and the deck's devices have a place of their type for each node; and devices of one type have one letter.
use Rattle.std.proofs.Common.{◌≡◌, ◌<◌, ◌∙◌, ℕ, List, [], ◌∷◌, ◌++◌, length, map, Option, Some, None, refl, sym, ap, subst, arith, flat_map, length-append}
use Rattle.std.specs.Prelude.{Contains}
use Rattle.std.specs.List.{AllByRecursion}
use Rattle.std.proofs.lemmas.List.{length-map, get_or-map, get_or_append_left}
use Rattle.std.proofs.lemmas.List.Elements.{Contains-append_left}
use Rattle.gl_match.proofs.Lists.{in_map, in_head, in_tail}
use Rattle.gl_match.specs.Graph.{Device, shape_at}
use Rattle.gl_text.specs.Cards.{Device as Card, dev, first_byte}
use Rattle.gl_text.specs.Decks.{Body, dev_at, call_at}
use Rattle.gl_text.specs.Flattening.{Flat}
use Rattle.gl_printed.specs.ReadCards.{IsFine}
use Rattle.gl_printed.specs.ReadDecks.{body_card, IsReadSub, IsReadDeck}
use Rattle.gl_printed.specs.FlatDecks.{deck_of}
use Rattle.gl_base.specs.BaseCircuit.{Source, type_in, types_of, type_number, nets_of, net_number, device_of}
use Rattle.gl_base.specs.Libraries.{Library, nodes_of}
use Rattle.gl_base.specs.Rounds.{cards_of}
use Rattle.gl_base.specs.TypeNames.{TypeName, of_word, of_model, of_letter, of_cell, same_type, type_by_model, type_by_word, classes_of}
use Rattle.gl_base.proofs.OnceLaws.{place_within, place_back, in_once}
use Rattle.gl_base.proofs.TypeLaws as types_are
use Rattle.gl_lifting.specs.Runs.{Run, run_of, card_type, cell_type, first_circuit}
use Rattle.gl_lifting.specs.Meeting.{IsShaped}
use Rattle.gl_lifting.specs.Suited.{IsOfKnownType}
use Rattle.gl_lifting.proofs.TurnedNameLaws.{type_places, cell_places}
use Rattle.gl_lifting.proofs.FlatCardLaws.{in_each, cards_fine}
use Rattle.gl_lifting.proofs.SuitedHistoryLaws.{cell_known}

-- ---- letters

-- the letter of a type
abbrev letter_of : TypeName → ℕ
letter_of (of_word a w) = a
letter_of (of_model a m) = a
letter_of (of_letter a) = a
letter_of (of_cell n p) = 0

letter_is : (words : List ℕ → Option (List ℕ)) (a : ℕ) (m : Option (List ℕ)) → letter_of (type_by_model words a m) ≡ a
letter_is words a None = refl
letter_is words a (Some m) = by (words m) where
  by : (w : Option (List ℕ)) → letter_of (type_by_word a m w) ≡ a
  by None = refl
  by (Some x) = refl

-- devices of one type have one letter
pub one_letter : (s : Source) (c d : Card) → type_in s c ≡ type_in s d → first_byte c.name ≡ first_byte d.name
one_letter s c d e = sym (letter_is _ (first_byte c.name) c.model) ∙ ap letter_of e ∙ letter_is _ (first_byte d.name) d.model

-- ---- shapes

-- a device of the first circuit has a net for each place of its shape
device_shaped : (run : Run) (d : Card) → Contains run.source.devices d → IsFine (dev d) → length (device_of run.source (nets_of run.source.devices) d).nets ≡ length (shape_at (first_circuit run) (device_of run.source (nets_of run.source.devices) d).kind)
device_shaped run d at fine =
    let s = run.source in
    let t = type_in s d in
    let all = map (type_in s) (s.devices ++ flat_map (λ cards. cards) s.cells) in
    let more = map cell_type run.library.deck.subs in
    let known : Contains (types_of s) t = subst (λ ts. Contains ts t) (sym (types_are.once_is all)) (in_once same_type types_are.exact types_are.itself all t (in_map (type_in s) (s.devices ++ flat_map (λ cards. cards) s.cells) d (Contains-append_left s.devices (flat_map (λ cards. cards) s.cells) d at))) in
    let k = type_number (types_of s) t in
    let lt : k < length (types_of s) = place_within same_type types_are.exact types_are.itself (types_of s) t known in
    let longer = length-append (types_of s) more in
    let shape : shape_at (first_circuit run) k ≡ classes_of t =
    get_or-map classes_of (types_of s ++ more) k t [] (omega (arith, lt, longer)) ∙ ap classes_of (get_or_append_left (types_of s) more t k lt ∙ place_back same_type types_are.exact types_are.itself (types_of s) t t known) in
    length-map d.nodes (net_number (nets_of s.devices)) ∙ type_places s d fine.is_read.kind ∙ sym (ap length shape)

devices_shaped : (run : Run) (ds : List Card) → ((d : Card) → Contains ds d → Contains run.source.devices d) → AllByRecursion (λ (d : Card). IsFine (dev d)) ds
    → AllByRecursion (λ (d : Device). length d.nets ≡ length (shape_at (first_circuit run) d.kind)) (map (device_of run.source (nets_of run.source.devices)) ds)
devices_shaped run [] inside fine = tt
devices_shaped run (d ∷ ds) inside fine = (device_shaped run d (inside d (in_head d ds)) fine.0, devices_shaped run ds (λ e at. inside e (in_tail d ds e at)) fine.1)

-- the run of a flat deck and a library that are read
pub run_shaped : (flat : Flat) (library : Library) (keep : List (List ℕ)) → IsReadDeck (deck_of flat) → IsReadDeck library.deck → IsShaped (run_of flat library keep)
run_shaped flat library keep flat_read read = record {
  known = λ cell card inside at. in_each (IsOfKnownType (run_of flat library keep)) cell.cards card (cell_known flat library keep read cell inside) at;
  nodes = λ cell card inside at. by card (in_each (λ b. IsFine (body_card b)) cell.cards card (in_each (IsReadSub library.deck.subs) library.deck.subs cell read.subs inside).cards at);
  devices = devices_shaped (run_of flat library keep) (cards_of flat) (λ d at. at) (cards_fine flat flat_read);
} where
  by : (b : Body) → IsFine (body_card b) → length (nodes_of b) ≡ length (classes_of (card_type (run_of flat library keep).source b))
  by (dev_at line d) f = type_places (run_of flat library keep).source d f.is_read.kind
  by (call_at line c) f = cell_places c.sub (length c.nodes)
