-- Flattening in its steps: what is chosen, what exceeds, the flat deck, and what refuses it.
use Rattle.gl_fault.specs.Refusals.{first_some, or_else, ◌>>=◌}
use Rattle.std.specs.Prelude.{◌≡◌, ℕ, List, [], ◌∷◌, flat_map, Option, None, Some, Result, Ok}
use Rattle.gl_text.specs.LogicalLines.{Fault, top_devices}
use Rattle.gl_text.specs.Cards.{Head}
use Rattle.gl_text.specs.Decks.{Body, Deck}
use Rattle.gl_text.specs.Flattening.{DEPTH, FlatDevice, Flat, flat_devices, line_of_body, top_place, top_ports, bearers, chosen, excess_in, text_fault, long_in, clash_in}
use Rattle.std.specs.Option.{option_copied}
use Rattle.gl_deck.specs.declared.body.Body as body
use Rattle.gl_deck.specs.Bodies.{bodies_value}
use Rattle.gl_flat.specs.declared.chosen.Chosen.{Chosen}
use Rattle.gl_flat.specs.declared.frame.Frame.{Frame}
use Rattle.gl_flat.specs.declared.scene.Scene.{Scene}
use Rattle.gl_flat.specs.TopNames.{clash_with_top}

-- what is chosen, as the definition has it
abbrev pub choice_of : Chosen → Option Head × List Body
choice_of c = (option_copied c.head, bodies_value c.cards.now)

-- it is what is chosen
abbrev pub IsChoice : Deck → Option (List ℕ) → Chosen → Type 0
IsChoice deck top c = chosen deck top ≡ Ok (choice_of c)

-- the first of the cards that stand beside a subcircuit that is the top
abbrev pub beside_fault : List Body → Option Fault
beside_fault [] = None
beside_fault (card ∷ cards) = Some (top_devices (line_of_body card))

-- the flat deck of devices
abbrev pub flat_with : Deck → List (List ℕ) → Option Head → List FlatDevice → Flat
flat_with deck rails head devices = record { title = deck.title; rails = rails; models = deck.models; top = head; devices = devices; passed = deck.passed }

-- around what is no device
abbrev pub flat_by : Frame → List FlatDevice → Flat
flat_by f devices = flat_with f.deck.now f.rails.now (option_copied f.head) devices

-- a flat deck, or the first of three refusals
abbrev pub flat_unless : Flat → Option Fault → Option Fault → Option Fault → Result Flat Fault
flat_unless flat a b c = or_else a flat >>= λ f. or_else b f >>= λ g. or_else c g

-- the flat deck of devices, or its first refusal
abbrev pub flat_or_fault : Deck → List (List ℕ) → Option Head → List FlatDevice → Result Flat Fault
flat_or_fault deck rails head devices = flat_unless (flat_with deck rails head devices) (text_fault (flat_with deck rails head devices)) (long_in (flat_map bearers devices)) (clash_in rails (top_ports head) devices)

-- around what is no device
abbrev pub flat_or_fault_by : Frame → List FlatDevice → Result Flat Fault
flat_or_fault_by f devices = flat_or_fault f.deck.now f.rails.now (option_copied f.head) devices

-- a text that is too long, else the first flat name that is
abbrev pub length_fault : Flat → Option Fault
length_fault flat = first_some (text_fault flat ∷ long_in (flat_map bearers flat.devices) ∷ [])

-- neither its text nor a flat name is too long
pub record AreShort (flat : Flat) : Type 0 where
  pub text : text_fault flat ≡ None
  pub names : long_in (flat_map bearers flat.devices) ≡ None

-- the devices of cards of a deck
abbrev pub all_devices : Deck → List (List ℕ) → List Body → List FlatDevice
all_devices deck rails cards = flat_devices rails deck.subs DEPTH top_place cards

-- of the deck that is flattened
abbrev pub devices_by : Frame → List Body → List FlatDevice
devices_by f cards = all_devices f.deck.now f.rails.now cards

-- and those of cards that are read against subcircuits and rails
abbrev pub devices_against : Scene → List Body → List FlatDevice
devices_against s cards = flat_devices s.rails.now.keys s.subs.now DEPTH top_place cards

-- the first name that clashes in them
abbrev pub cards_clash : Scene → List Body → Option Fault
cards_clash s cards = clash_with_top s (devices_against s cards)

-- the devices of cards of the code
abbrev pub devices_in : Scene → List body.Body → List FlatDevice
devices_in s cards = devices_against s (bodies_value cards)

-- the flat deck of cards of the deck that is flattened, or its first refusal
abbrev pub flat_or_fault_of_cards : Frame → List Body → Result Flat Fault
flat_or_fault_of_cards f cards = flat_or_fault_by f (devices_by f cards)

-- flattening
abbrev pub stepwise : Deck → List (List ℕ) → Option (List ℕ) → Result Flat Fault
stepwise deck rails top = chosen deck top >>= λ c. or_else (excess_in deck.subs c.1) c >>= λ c. flat_or_fault deck rails c.0 (flat_devices rails deck.subs DEPTH top_place c.1)
