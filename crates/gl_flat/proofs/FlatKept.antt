-- A flat deck is kept: its nets are those of its cards, and each number leads back to the name.
use Rattle.std.proofs.Common.{◌≡◌, ℕ, List, [], ◌∷◌, ◌++◌, map, Option, Some, true, refl, sym, ap, ◌∙◌, subst, flat_map}
use Rattle.std.specs.Prelude.{Contains, position}
use Rattle.std.specs.List.{position_or_len}
use Rattle.std.proofs.lemmas.List.{map-append}
use Rattle.gl_match.proofs.Lists.{in_head, in_tail, in_map}
use Rattle.gl_text.specs.LogicalLines.{same_text}
use Rattle.gl_text.specs.Cards.{Device as Card, dev}
use Rattle.gl_text.specs.Decks.{is_in, line_of, once}
use Rattle.gl_text.specs.Flattening.{Net, FlatDevice, flat_card, device_name, net_name}
use Rattle.gl_flat.specs.PlainFlats.{plain_device}
use Rattle.gl_flat.proofs.PlainLaws.{cards_stay}
use Rattle.gl_base.specs.BaseCircuit.{nets_of, net_number}
use Rattle.gl_base.specs.Reports.{name_at}
use Rattle.gl_base.proofs.OnceLaws.{once_kept, place_back, position_there, there}
use Rattle.gl_base.proofs.TextLaws.{exact, itself, once_is, each_once, names_stay, node_is_net}
use Rattle.gl_text.specs.Flattening.{flat_line}
use Rattle.gl_flat.specs.Kept.{KeptDevice, kept_device, kept_cards, kept_devices, kept, AreKept}
use Rattle.gl_flat.specs.Kept.{device_line}

-- ---- names of nets

abbrev nodes_in : Card → List (List ℕ)
nodes_in c = c.nodes

abbrev names_in : FlatDevice → List (List ℕ)
names_in d = map net_name d.nets

pub names_are : (ds : List FlatDevice) → flat_map nodes_in (map flat_card ds) ≡ flat_map names_in ds
names_are [] = refl
names_are (d ∷ ds) = ap (λ t. map net_name d.nets ++ t) (names_are ds)

abbrev nets_in : FlatDevice → List Net
nets_in d = d.nets

names_all : (ds : List FlatDevice) → flat_map names_in ds ≡ map net_name (flat_map nets_in ds)
names_all [] = refl
names_all (d ∷ ds) = ap (λ t. map net_name d.nets ++ t) (names_all ds) ∙ sym (map-append net_name d.nets (flat_map nets_in ds))

-- each name of a device's net is one of the nets
pub net_there : (ds : List FlatDevice) (n : Net) → Contains (flat_map nets_in ds) n → Contains (nets_of (map flat_card ds)) (net_name n)
net_there ds n i =
    names_stay (flat_map nodes_in (map flat_card ds)) (net_name n)
    (subst (λ (ns : List (List ℕ)). Contains ns (net_name n)) (sym (names_are ds ∙ names_all ds)) (in_map net_name (flat_map nets_in ds) n i))

-- names that stand once are the same, each once
pub nets_once : (cards : List Card) → once (nets_of cards) ≡ nets_of cards
nets_once cards = once_is (nets_of cards) ∙ once_kept same_text exact itself (nets_of cards) (each_once (flat_map nodes_in cards))

-- ---- numbers

name_back : (nets : List (List ℕ)) (name : List ℕ) → Contains nets name → name_at nets (net_number nets name) ≡ name
name_back nets name i = place_back same_text exact itself nets name [] i

-- the number of a device's net leads back to its name
pub net_back : (ds : List FlatDevice) (n : Net) → Contains (flat_map nets_in ds) n → name_at (nets_of (map flat_card ds)) (net_number (nets_of (map flat_card ds)) (net_name n)) ≡ net_name n
net_back ds n i = name_back (nets_of (map flat_card ds)) (net_name n) (net_there ds n i)

nodes_back : (nets nodes : List (List ℕ)) → ((name : List ℕ) → Contains nodes name → Contains nets name) → map (name_at nets) (map (net_number nets) nodes) ≡ nodes
nodes_back nets [] h = refl
nodes_back nets (n ∷ ns) h =
    ap (λ (m : List ℕ). m ∷ map (name_at nets) (map (net_number nets) ns)) (name_back nets n (h n (in_head n ns)))
    ∙ ap (λ (ms : List (List ℕ)). n ∷ ms) (nodes_back nets ns (λ m i. h m (in_tail n ns m i)))

abbrev with_nodes : Card → List (List ℕ) → Card
with_nodes c nodes = record { name = c.name; nodes = nodes; model = c.model; tail = c.tail }

abbrev HasNets : List (List ℕ) → List Card → Type 0
HasNets nets cards = (c : Card) (name : List ℕ) → Contains cards c → Contains c.nodes name → Contains nets name

all_back : (nets : List (List ℕ)) (cards : List Card) → HasNets nets cards → kept_cards nets (map (kept_device nets) cards) ≡ cards
all_back nets [] h = refl
all_back nets (c ∷ cs) h =
    ap (λ (k : Card). k ∷ kept_cards nets (map (kept_device nets) cs)) (ap (with_nodes c) (nodes_back nets c.nodes (λ n j. h c n (in_head c cs) j)))
    ∙ ap (λ (ks : List Card). c ∷ ks) (all_back nets cs (λ k n i j. h k n (in_tail c cs k i) j))

-- the cards that numbers stand for are those that were numbered
pub cards_back : (cards : List Card) → kept_cards (nets_of cards) (map (kept_device (nets_of cards)) cards) ≡ cards
cards_back cards = all_back (nets_of cards) cards (λ c n i j. node_is_net cards c n i j)

-- a name that is there has a number
pub number_there : (names : List (List ℕ)) (name : List ℕ) (found : Option ℕ) → found ≡ position (same_text name) names → is_in name names ≡ true → found ≡ Some (position_or_len (same_text name) names)
number_there names name found e h = e ∙ position_there same_text exact itself names name (there same_text exact itself names name h)

-- ---- a flat deck that is made

numbers_are : (nets : List (List ℕ)) (ns : List Net) → map (λ n. net_number nets (net_name n)) ns ≡ map (net_number nets) (map net_name ns)
numbers_are nets [] = refl
numbers_are nets (n ∷ ns) = ap (λ (ks : List ℕ). net_number nets (net_name n) ∷ ks) (numbers_are nets ns)

abbrev with_nets : FlatDevice → List ℕ → KeptDevice
with_nets d nets = record { name = device_name d; nets = nets; model = d.card.model; tail = d.card.tail }

-- flat devices are kept as their cards
pub kept_is : (nets : List (List ℕ)) (ds : List FlatDevice) → map (kept nets) ds ≡ map (kept_device nets) (map flat_card ds)
kept_is nets [] = refl
kept_is nets (d ∷ ds) =
    ap (λ (ks : List ℕ). with_nets d ks ∷ map (kept nets) ds) (numbers_are nets d.nets)
    ∙ ap (λ (es : List KeptDevice). kept_device nets (flat_card d) ∷ es) (kept_is nets ds)

made_cards : (cards : List Card) (nets : List (List ℕ)) (devices : List KeptDevice) → nets ≡ nets_of cards → devices ≡ map (kept_device (nets_of cards)) cards → kept_cards nets devices ≡ cards
made_cards cards nets devices e f = ap (λ (ns : List (List ℕ)). kept_cards ns devices) e ∙ ap (kept_cards (nets_of cards)) f ∙ cards_back cards

pub are_kept : (cards : List Card) (nets : List (List ℕ)) (devices : List KeptDevice) → nets ≡ nets_of cards → devices ≡ map (kept_device (nets_of cards)) cards → AreKept nets devices
are_kept cards nets devices e f =
    let back = made_cards cards nets devices e f in
    record {
      nets_are = e ∙ ap nets_of (sym back);
      numbers_are = f ∙ ap (λ (ns : List (List ℕ)). map (kept_device ns) cards) (sym e) ∙ ap (map (kept_device nets)) (sym back);
    }

pub made_devices : (cards : List Card) (nets : List (List ℕ)) (devices : List KeptDevice) → nets ≡ nets_of cards → devices ≡ map (kept_device (nets_of cards)) cards → kept_devices nets devices ≡ map plain_device cards
made_devices cards nets devices e f = ap (map plain_device) (made_cards cards nets devices e f)

-- ---- a flat deck that is seen

pub seen_cards : (nets : List (List ℕ)) (devices : List KeptDevice) (seen : List FlatDevice) → kept_devices nets devices ≡ seen → map flat_card seen ≡ kept_cards nets devices
seen_cards nets devices seen e = ap (map flat_card) (sym e) ∙ cards_stay (kept_cards nets devices)

pub seen_nets : (nets : List (List ℕ)) (devices : List KeptDevice) (seen : List FlatDevice) → AreKept nets devices → kept_devices nets devices ≡ seen → nets ≡ nets_of (map flat_card seen)
seen_nets nets devices seen k e = k.nets_are ∙ ap nets_of (sym (seen_cards nets devices seen e))

pub seen_devices : (nets : List (List ℕ)) (devices : List KeptDevice) (seen : List FlatDevice) → AreKept nets devices → kept_devices nets devices ≡ seen → devices ≡ map (kept_device (nets_of (map flat_card seen))) (map flat_card seen)
seen_devices nets devices seen k e =
    k.numbers_are ∙ ap (map (kept_device nets)) (sym (seen_cards nets devices seen e))
    ∙ ap (λ (ns : List (List ℕ)). map (kept_device ns) (map flat_card seen)) (seen_nets nets devices seen k e)

names_stand : (nets : List (List ℕ)) (devices : List KeptDevice) → map (λ (d : KeptDevice). d.name) devices ≡ map device_name (kept_devices nets devices)
names_stand nets [] = refl
names_stand nets (d ∷ ds) = ap (λ (ns : List (List ℕ)). d.name ∷ ns) (names_stand nets ds)

pub seen_names : (nets : List (List ℕ)) (devices : List KeptDevice) (seen : List FlatDevice) → kept_devices nets devices ≡ seen → map (λ (d : KeptDevice). d.name) devices ≡ map device_name seen
seen_names nets devices seen e = names_stand nets devices ∙ ap (map device_name) e

-- ---- its text

abbrev card_line : Card → List ℕ
card_line c = line_of (dev c)

lines_are : (nets : List (List ℕ)) (devices : List KeptDevice) → flat_map (device_line nets) devices ≡ flat_map card_line (kept_cards nets devices)
lines_are nets [] = refl
lines_are nets (d ∷ ds) = ap (λ t. device_line nets d ++ t) (lines_are nets ds)

card_lines : (ds : List FlatDevice) → flat_map card_line (map flat_card ds) ≡ flat_map flat_line ds
card_lines [] = refl
card_lines (d ∷ ds) = ap (λ t. flat_line d ++ t) (card_lines ds)

-- the lines of kept devices are those of the flat devices
pub kept_lines : (ds : List FlatDevice) → flat_map (device_line (nets_of (map flat_card ds))) (map (kept_device (nets_of (map flat_card ds))) (map flat_card ds)) ≡ flat_map flat_line ds
kept_lines ds =
    lines_are (nets_of (map flat_card ds)) (map (kept_device (nets_of (map flat_card ds))) (map flat_card ds))
    ∙ ap (flat_map card_line) (cards_back (map flat_card ds)) ∙ card_lines ds
