-- A flat deck with its devices at the top has the same cards, and so the same text.
use Rattle.std.proofs.Common.{◌≡◌, ℕ, List, [], ◌∷◌, ◌++◌, refl, ap, ◌∙◌, map}
use Rattle.std.specs.Prelude.{flat_map}
use Rattle.gl_text.specs.Cards.{Device, dev, passed, ended, global, model}
use Rattle.gl_text.specs.Decks.{line_of}
use Rattle.gl_text.specs.Flattening.{FlatDevice, Flat, top_net, net_name, flat_card, flat_text, around}
use Rattle.gl_flat.specs.PlainFlats.{plain_device, plain}

pub nodes_stay : (nodes : List (List ℕ)) → map net_name (map top_net nodes) ≡ nodes
nodes_stay [] = refl
nodes_stay (n ∷ ns) = ap (λ ms. n ∷ ms) (nodes_stay ns)

abbrev with_nodes : Device → List (List ℕ) → Device
with_nodes d nodes = record { name = d.name; nodes = nodes; model = d.model; tail = d.tail }

pub card_stays : (d : Device) → flat_card (plain_device d) ≡ d
card_stays d = ap (with_nodes d) (nodes_stay d.nodes)

-- the cards of devices of the top are those of which they were made
pub cards_stay : (ds : List Device) → map flat_card (map plain_device ds) ≡ ds
cards_stay [] = refl
cards_stay (d ∷ ds) = ap (λ (c : Device). c ∷ map flat_card (map plain_device ds)) (card_stays d) ∙ ap (λ (cs : List Device). d ∷ cs) (cards_stay ds)

pub plain_cards : (f : Flat) → map flat_card (plain f).devices ≡ map flat_card f.devices
plain_cards f = cards_stay (map flat_card f.devices)

abbrev line_for : FlatDevice → List ℕ
line_for d = line_of (dev (flat_card d))

lines_stay : (ds : List FlatDevice) → flat_map line_for (map plain_device (map flat_card ds)) ≡ flat_map line_for ds
lines_stay [] = refl
lines_stay (d ∷ ds) =
    ap (λ (c : Device). line_of (dev c) ++ flat_map line_for (map plain_device (map flat_card ds))) (card_stays (flat_card d))
    ∙ ap (λ t. line_for d ++ t) (lines_stay ds)

abbrev text_with : Flat → List ℕ → List ℕ
text_with f lines = f.title ++ 10 ∷ flat_map (λ n. line_of (global (n ∷ []))) f.rails ++ flat_map (λ m. line_of (model m)) f.models
    ++ around f.top lines ++ flat_map (λ t. line_of (passed t)) f.passed ++ line_of ended

pub plain_text : (f : Flat) → flat_text (plain f) ≡ flat_text f
plain_text f = ap (text_with f) (lines_stay f.devices)
