-- New names, told by what was found, the last first: a walk that knows of each composite the text of the way to it. This project's own.
use Rattle.std.specs.Prelude.{ℕ, List, [], ◌∷◌, ◌++◌, map, flat_map, filter, filter_map, fold, zip, reverse, Option, Some, None, unwrap_or, codes}
use Rattle.std.specs.List.{enumerate_from}
use Rattle.gl_text.specs.Cards.{first_byte}
use Rattle.gl_text.specs.Decks.{Body, dev_at, call_at, body_name, Sub}
use Rattle.gl_text.specs.Flattening.{path_text}
use Rattle.gl_match.specs.declared.spot.Spot.{Spot}
use Rattle.gl_match.specs.Graph.{Circuit}
use Rattle.gl_match.specs.LegalMaps.{nets_at}
use Rattle.gl_base.specs.Rails.{all_rails}
use Rattle.gl_base.specs.BaseCircuit.{net_number}
use Rattle.gl_base.specs.Libraries.{nodes_of}
use Rattle.gl_base.specs.RoundReports.{instance_name}
use Rattle.gl_lifting.specs.Runs.{cell_nets}
use Rattle.gl_lifting.specs.Replacement.{Origin, base, made}
use Rattle.gl_lifting.specs.NameMaps.{NameMap, under}
use Rattle.gl_found.specs.Founds.{Found, origin_in, sub_at}
use Rattle.gl_named.specs.Plans.{inner_by}

-- ---- ways

-- the text of the way to a composite, where these are known: its own name and a dot, if none is
abbrev pub way_text : List ℕ → Option (List ℕ) → ℕ → List ℕ
way_text stem known number = unwrap_or known (path_text (instance_name stem number ∷ []))

-- the text of the way through a card
abbrev pub way_behind : List ℕ → List ℕ → List ℕ
way_behind way name = way ++ name ++ codes "."

-- the way to the composite that a card was matched with, where it was one
abbrev pub way_row : List ℕ → Body × Origin → Option (ℕ × List ℕ)
way_row way card = by card.1 where
  by : Origin → Option (ℕ × List ℕ)
  by (base dev) = None
  by (made number) = Some (number, way_behind way (body_name card.0))

-- ---- devices

-- the flat name of a device behind the text of a way: its letter, a dot, the way and its own name
abbrev pub device_behind : List ℕ → List ℕ → List ℕ
device_behind [] name = name
device_behind (b ∷ bs) name = first_byte name ∷ codes "." ++ (b ∷ bs) ++ name

-- the new name of the original device that a card was matched with, where it was one
abbrev pub device_row : List ℕ → Body × Origin → Option (ℕ × List ℕ)
device_row way card = by card.0 card.1 where
  by : Body → Origin → Option (ℕ × List ℕ)
  by (dev_at line d) (base dev) = Some (dev, device_behind way d.name)
  by (dev_at line d) (made number) = None
  by (call_at line c) origin = None

-- ---- nets

-- what is known of a cell: its cards, its nets by their numbers, and the inner ones of these with their numbers
pub record Plan : Type 0 where
  pub cell : Sub
  pub nets : List (List ℕ)
  pub inner : List (ℕ × List ℕ)

-- the inner ones of numbered nets, whose names are those of no rail and of no port
abbrev pub inner_of : List (List ℕ) → List (List ℕ) → List (ℕ × List ℕ) → List (ℕ × List ℕ)
inner_of rails ports nets = filter (λ (net : ℕ × List ℕ). inner_by (all_rails rails) ports net.1) nets

-- of a cell
abbrev pub plan_of : List (List ℕ) → Sub → Plan
plan_of rails cell = record { cell = cell; nets = cell_nets cell; inner = inner_of rails cell.head.ports (enumerate_from 0 (cell_nets cell)) }

-- the nets of a card, by their numbers, each beside the net at the turned place of the card's image
abbrev pub card_pairs : List (List ℕ) → Circuit → Body × Spot → List (ℕ × ℕ)
card_pairs nets circuit card = zip (map (net_number nets) (nodes_of card.0)) (nets_at circuit card.1)

-- those of all cards of a cell
abbrev pub cell_pairs : List (List ℕ) → Circuit → List (Body × Spot) → List (ℕ × ℕ)
cell_pairs nets circuit cards = flat_map (card_pairs nets circuit) cards

-- the new name of the image of a net
abbrev pub net_row : List ℕ → (ℕ → Option ℕ) → ℕ × List ℕ → ℕ × List ℕ
net_row way image net = (unwrap_or (image net.0) 0, way ++ net.1)

-- ---- the walk

-- what the walk has put under numbers: the ways to composites, and the new names of devices and of nets
pub record Rows : Type 0 where
  pub ways : List (ℕ × List ℕ)
  pub devices : List (ℕ × List ℕ)
  pub nets : List (ℕ × List ℕ)

-- the cards of a cell with where the devices come from that they were matched with
abbrev pub cards_from : Found → List Body → List (Body × Origin)
cards_from f cards = zip cards (map (λ (s : Spot). origin_in f.origins s.dev) f.instance.least)

-- what a chosen instance adds, at a way
abbrev pub rows_at : Plan → Found → List ℕ → Rows
rows_at plan f way = record {
  ways = filter_map (way_row way) (cards_from f plan.cell.cards);
  devices = filter_map (device_row way) (cards_from f plan.cell.cards);
  nets = map (net_row way (under (cell_pairs plan.nets f.circuit (zip plan.cell.cards f.instance.least)))) plan.inner;
}

-- rows behind others
abbrev pub with_rows : Rows → Rows → Rows
with_rows rows more = record { ways = rows.ways ++ more.ways; devices = rows.devices ++ more.devices; nets = rows.nets ++ more.nets }

-- the rows behind one more chosen instance
abbrev pub rows_behind : List ℕ → List (List ℕ) → List Sub → Rows → Found → Rows
rows_behind stem rails subs rows f = with_rows rows (rows_at (plan_of rails (sub_at subs f.cell)) f (way_text stem (under rows.ways f.number) f.number))

-- no rows
abbrev pub no_rows : Rows
no_rows = record { ways = []; devices = []; nets = [] }

-- the rows of chosen instances, gone through in this order
abbrev pub rows_of : List ℕ → List (List ℕ) → List Sub → List Found → Rows
rows_of stem rails subs found = fold (rows_behind stem rails subs) no_rows found

-- names that are numbered from a number on, each with what stands under its number, which is itself where nothing does
abbrev pub renamed_from : (ℕ → Option (List ℕ)) → ℕ → List (List ℕ) → List (List ℕ × List ℕ)
renamed_from new number names = map (λ (n : ℕ × List ℕ). (unwrap_or (new n.0) n.1, n.1)) (enumerate_from number names)

-- the map of what was found: the last is gone through first
abbrev pub map_by : List ℕ → List (List ℕ) → List Sub → List (List ℕ) → List (List ℕ) → List Found → NameMap
map_by stem rails subs devices nets found = let rows = rows_of stem rails subs (reverse found) in record {
  devices = renamed_from (under rows.devices) 0 devices;
  nets = renamed_from (under rows.nets) 0 nets;
}
