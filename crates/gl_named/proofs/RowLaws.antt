-- What a chosen instance adds at a way is what the definition of maps has of its composite.
use Rattle.std.proofs.Common.{◌≡◌, ◌==◌, ◌+◌, ℕ, List, [], ◌∷◌, ◌++◌, length, map, Bool, true, false, cond, Option, Some, None, refl, sym, ap, ◌∙◌, append_assoc}
use Rattle.std.specs.Prelude.{not, ◌&&◌, ◌||◌, find, filter, filter_map, zip, position, option_map, unwrap_or, codes}
use Rattle.std.specs.List.{cons_option, enumerate_from, list_any, position_from, range_with_len}
use Rattle.std.specs.Option.{is_some}
use Rattle.std.proofs.lemmas.Iterator.Adapters.{position_from-zero}
use Rattle.std.proofs.lemmas.Grind.{flat_map-append}
use Rattle.std.proofs.lemmas.List.{append-nil, length-map}
use Rattle.gl_text.specs.LogicalLines.{same_text}
use Rattle.gl_text.specs.Cards.{Device as Card}
use Rattle.gl_text.specs.Decks.{Body, dev_at, call_at, body_name, is_in}
use Rattle.gl_text.specs.Flattening.{device_name, path_text}
use Rattle.gl_match.specs.declared.spot.Spot.{Spot}
use Rattle.gl_match.specs.Graph.{Circuit}
use Rattle.gl_match.specs.Keys.{image_in, port_image}
use Rattle.gl_match.specs.LegalMaps.{pairs_of}
use Rattle.gl_base.specs.Rails.{all_rails}
use Rattle.gl_base.specs.Patterns.{role_by, role_of}
use Rattle.gl_base.specs.RoundReports.{instance_name}
use Rattle.gl_lifting.specs.Runs.{Run, card_device, cell_nets, pattern_in}
use Rattle.gl_lifting.specs.Replacement.{Origin, base, made, Part, Composite}
use Rattle.gl_lifting.specs.NameMaps.{under, located, way_through, device_renamed, net_renamed, nets_renamed}
use Rattle.gl_found.specs.Founds.{Found, origin_in, part_at, sub_at, composite_by}
use Rattle.gl_named.specs.Plans.{inner_by}
use Rattle.gl_named.specs.Walks.{way_text, way_behind, way_row, device_behind, device_row, net_row, card_pairs, cell_pairs, plan_of}

-- ---- ways

-- a row whose way is told as a text
abbrev pub texted : ℕ × List (List ℕ) → ℕ × List ℕ
texted row = (row.0, path_text row.1)

text_by : (b : Bool) (row : ℕ × List (List ℕ)) (rest : Option (ℕ × List (List ℕ))) (told : Option (ℕ × List ℕ)) → option_map (λ (r : ℕ × List ℕ). r.1) told ≡ option_map path_text (option_map (λ (r : ℕ × List (List ℕ)). r.1) rest)
    → option_map (λ (r : ℕ × List ℕ). r.1) (cond b (Some (texted row)) told) ≡ option_map path_text (option_map (λ (r : ℕ × List (List ℕ)). r.1) (cond b (Some row) rest))
text_by true row rest told e = refl
text_by false row rest told e = e

-- under a number stands the text of the way that stands there
pub under_text : (ways : List (ℕ × List (List ℕ))) (n : ℕ) → under (map texted ways) n ≡ option_map path_text (under ways n)
under_text [] n = refl
under_text (row ∷ ways) n = text_by (row.0 == n) row (find (λ (r : ℕ × List (List ℕ)). r.0 == n) ways) (find (λ (r : ℕ × List ℕ). r.0 == n) (map texted ways)) (under_text ways n)

unwrap_map : {A B : Type 0} (f : A → B) (o : Option A) (d : A) → unwrap_or (option_map f o) (f d) ≡ f (unwrap_or o d)
unwrap_map f None d = refl
unwrap_map f (Some x) d = refl

-- the text of the way to a composite
pub way_is : (stem : List ℕ) (ways : List (ℕ × List (List ℕ))) (c : Composite) → way_text stem (under (map texted ways) c.number) c.number ≡ path_text (located stem ways c).way
way_is stem ways c =
    ap (λ o. way_text stem o c.number) (under_text ways c.number) ∙ unwrap_map path_text (under ways c.number) (instance_name stem c.number ∷ [])

-- one step more
path_more : (way : List (List ℕ)) (name : List ℕ) → way_behind (path_text way) name ≡ path_text (way ++ name ∷ [])
path_more way name =
    append_assoc (path_text way) name (codes ".")
    ∙ ap (λ t. path_text way ++ t) (sym (append-nil (name ++ codes ".")))
    ∙ sym (flat_map-append (λ (x : List ℕ). x ++ codes ".") way (name ∷ []))

abbrev origin_of : List Origin → Spot → Origin
origin_of origins s = origin_in origins s.dev

way_rows_by : (way : List (List ℕ)) (card : Body) (turn : ℕ) (o : Origin) (told : List (ℕ × List ℕ)) (rest : List (Body × Part)) → told ≡ map texted (filter_map (way_through way) rest)
    → filter_map (way_row (path_text way)) ((card, o) ∷ []) ++ told ≡ map texted (filter_map (way_through way) ((card, record { turn = turn; origin = o }) ∷ rest))
way_rows_by way card turn (base dev) told rest e = e
way_rows_by way card turn (made number) told rest e =
    ap (λ (t : List ℕ). (number, t) ∷ told) (path_more way (body_name card)) ∙ ap (λ rows. texted (number, way ++ body_name card ∷ []) ∷ rows) e

way_split : (way : List ℕ) (card : Body) (o : Origin) (rest : List (Body × Origin)) → filter_map (way_row way) ((card, o) ∷ rest) ≡ filter_map (way_row way) ((card, o) ∷ []) ++ filter_map (way_row way) rest
way_split way card (base dev) rest = refl
way_split way card (made number) rest = refl

-- the ways to the composites that a composite was made from
pub ways_are : (way : List (List ℕ)) (origins : List Origin) (cards : List Body) (spots : List Spot)
    → filter_map (way_row (path_text way)) (zip cards (map (origin_of origins) spots)) ≡ map texted (filter_map (way_through way) (zip cards (map (part_at origins) spots)))
ways_are way origins [] spots = refl
ways_are way origins (card ∷ cards) [] = refl
ways_are way origins (card ∷ cards) (s ∷ spots) =
    way_split (path_text way) card (origin_of origins s) (zip cards (map (origin_of origins) spots))
    ∙ way_rows_by way card s.turn (origin_of origins s) (filter_map (way_row (path_text way)) (zip cards (map (origin_of origins) spots))) (zip cards (map (part_at origins) spots)) (ways_are way origins cards spots)

-- ---- devices

-- the flat name of a device, by the text of the way to it
pub behind_is : (way : List (List ℕ)) (d : Card) → device_behind (path_text way) d.name ≡ device_name (record { path = way; card = d; nets = [] })
behind_is [] d = refl
behind_is ([] ∷ way) d = refl
behind_is ((b ∷ bs) ∷ way) d = refl

device_rows_by : (way : List (List ℕ)) (card : Body) (turn : ℕ) (o : Origin) (told : List (ℕ × List ℕ)) (rest : List (Body × Part)) → told ≡ filter_map (device_renamed way) rest
    → filter_map (device_row (path_text way)) ((card, o) ∷ []) ++ told ≡ filter_map (device_renamed way) ((card, record { turn = turn; origin = o }) ∷ rest)
device_rows_by way (dev_at line d) turn (base dev) told rest e =
    ap (λ (t : List ℕ). (dev, t) ∷ told) (behind_is way d) ∙ ap (λ rows. (dev, device_name (record { path = way; card = d; nets = [] })) ∷ rows) e
device_rows_by way (dev_at line d) turn (made number) told rest e = e
device_rows_by way (call_at line c) turn (base dev) told rest e = e
device_rows_by way (call_at line c) turn (made number) told rest e = e

device_split : (way : List ℕ) (card : Body) (o : Origin) (rest : List (Body × Origin)) → filter_map (device_row way) ((card, o) ∷ rest) ≡ filter_map (device_row way) ((card, o) ∷ []) ++ filter_map (device_row way) rest
device_split way (dev_at line d) (base dev) rest = refl
device_split way (dev_at line d) (made number) rest = refl
device_split way (call_at line c) (base dev) rest = refl
device_split way (call_at line c) (made number) rest = refl

-- the new names of a composite's original devices
pub devices_are : (way : List (List ℕ)) (origins : List Origin) (cards : List Body) (spots : List Spot)
    → filter_map (device_row (path_text way)) (zip cards (map (origin_of origins) spots)) ≡ filter_map (device_renamed way) (zip cards (map (part_at origins) spots))
devices_are way origins [] spots = refl
devices_are way origins (card ∷ cards) [] = refl
devices_are way origins (card ∷ cards) (s ∷ spots) =
    device_split (path_text way) card (origin_of origins s) (zip cards (map (origin_of origins) spots))
    ∙ device_rows_by way card s.turn (origin_of origins s) (filter_map (device_row (path_text way)) (zip cards (map (origin_of origins) spots))) (zip cards (map (part_at origins) spots)) (devices_are way origins cards spots)

-- ---- nets

-- the pairs of a cell's pattern are those of its cards
pub pairs_are : (run : Run) (nets : List (List ℕ)) (c : Circuit) (cards : List Body) (spots : List Spot) → pairs_of c (map (card_device run nets) cards) spots ≡ cell_pairs nets c (zip cards spots)
pairs_are run nets c [] spots = refl
pairs_are run nets c (card ∷ cards) [] = refl
pairs_are run nets c (card ∷ cards) (s ∷ spots) = ap (λ rest. card_pairs nets c (card, s) ++ rest) (pairs_are run nets c cards spots)

image_by : (b : Bool) (pair : ℕ × ℕ) (rest : Option ℕ) (found : Option (ℕ × ℕ)) → rest ≡ option_map (λ (p : ℕ × ℕ). p.1) found
    → cond b (Some pair.1) rest ≡ option_map (λ (p : ℕ × ℕ). p.1) (cond b (Some pair) found)
image_by true pair rest found e = refl
image_by false pair rest found e = e

-- the image of a net stands under its number
pub image_is : (pairs : List (ℕ × ℕ)) (net : ℕ) → image_in pairs net ≡ under pairs net
image_is [] net = refl
image_is (pair ∷ pairs) net = image_by (pair.0 == net) pair (image_in pairs net) (find (λ (p : ℕ × ℕ). p.0 == net) pairs) (image_is pairs net)

some_from : {X : Type 0} (p : X → Bool) (i : ℕ) (xs : List X) → is_some (position_from p i xs) ≡ list_any p xs
some_from p i [] = refl
some_from p i (x ∷ xs) = by (p x) (some_from p (i + 1) xs)
  where
    by : (b : Bool) → is_some (position_from p (i + 1) xs) ≡ list_any p xs → is_some (cond b (Some i) (position_from p (i + 1) xs)) ≡ (b || list_any p xs)
    by true e = refl
    by false e = e

-- a place is found exactly where something passes
some_place : {X : Type 0} (p : X → Bool) (xs : List X) → is_some (position p xs) ≡ list_any p xs
some_place p xs = ap is_some (position_from-zero p xs) ∙ some_from p 0 xs

role_rows : (way : List (List ℕ)) (x : List ℕ) (image : ℕ) (a b : Option ℕ) (told : List (ℕ × List ℕ))
    → cons_option (net_renamed way (role_by a b) (x, image)) told ≡ cond (not (is_some a) && not (is_some b)) ((image, path_text way ++ x) ∷ told) told
role_rows way x image None None told = refl
role_rows way x image None (Some port) told = refl
role_rows way x image (Some rail) None told = refl
role_rows way x image (Some rail) (Some port) told = refl

-- a net has a role of its own exactly where it is inner
inner_rows : (rails ports : List (List ℕ)) (way : List (List ℕ)) (x : List ℕ) (image : ℕ) (told : List (ℕ × List ℕ))
    → cons_option (net_renamed way (role_of rails ports x) (x, image)) told ≡ cond (inner_by (all_rails rails) ports x) ((image, path_text way ++ x) ∷ told) told
inner_rows rails ports way x image told =
    role_rows way x image (position (same_text x) (all_rails rails)) (position (same_text x) ports) told
    ∙ ap (λ b. cond (not b && not (is_some (position (same_text x) ports))) ((image, path_text way ++ x) ∷ told) told) (some_place (same_text x) (all_rails rails))
    ∙ ap (λ b. cond (not (is_in x (all_rails rails)) && not b) ((image, path_text way ++ x) ∷ told) told) (some_place (same_text x) ports)

module _ (rails ports : List (List ℕ)) (way : List (List ℕ)) (image : ℕ → Option ℕ) where
  abbrev renamed_nets : List (List ℕ × ℕ) → List (ℕ × List ℕ)
  renamed_nets nets = filter_map (λ (net : List ℕ × ℕ). net_renamed way (role_of rails ports net.0) net) nets

  abbrev inner_nets : List (ℕ × List ℕ) → List (ℕ × List ℕ)
  inner_nets nets = map (net_row (path_text way) image) (filter (λ (n : ℕ × List ℕ). inner_by (all_rails rails) ports n.1) nets)

  abbrev image_or_0 : ℕ → ℕ
  image_or_0 net = unwrap_or (image net) 0

  -- the new names of the images of inner nets
  rows_are : (k : ℕ) (nets : List (List ℕ)) → renamed_nets (zip nets (map image_or_0 (range_with_len k (length nets)))) ≡ inner_nets (enumerate_from k nets)
  rows_are k [] = refl
  rows_are k (x ∷ nets) =
      inner_rows rails ports way x (image_or_0 k) (renamed_nets (zip nets (map image_or_0 (range_with_len (k + 1) (length nets)))))
      ∙ ap (λ told. cond (inner_by (all_rails rails) ports x) ((image_or_0 k, path_text way ++ x) ∷ told) told) (rows_are (k + 1) nets)
      ∙ by (inner_by (all_rails rails) ports x)
    where
      by : (b : Bool) → cond b ((image_or_0 k, path_text way ++ x) ∷ inner_nets (enumerate_from (k + 1) nets)) (inner_nets (enumerate_from (k + 1) nets))
          ≡ map (net_row (path_text way) image) (cond b ((k, x) ∷ filter (λ (n : ℕ × List ℕ). inner_by (all_rails rails) ports n.1) (enumerate_from (k + 1) nets)) (filter (λ (n : ℕ × List ℕ). inner_by (all_rails rails) ports n.1) (enumerate_from (k + 1) nets)))
      by true = refl
      by false = refl

images_same : (pairs : List (ℕ × ℕ)) (ns : List ℕ) → map (port_image pairs) ns ≡ map (λ net. unwrap_or (under pairs net) 0) ns
images_same pairs [] = refl
images_same pairs (n ∷ ns) = ap (λ o. unwrap_or o 0 ∷ map (port_image pairs) ns) (image_is pairs n) ∙ ap (λ rest. unwrap_or (under pairs n) 0 ∷ rest) (images_same pairs ns)

-- those of a composite
pub nets_are : (run : Run) (f : Found) (way : List (List ℕ)) → let cell = sub_at run.library.deck.subs f.cell in let plan = plan_of run.source.rails cell in
    map (net_row (path_text way) (under (cell_pairs plan.nets f.circuit (zip plan.cell.cards f.instance.least)))) plan.inner
    ≡ nets_renamed run.source (record { composite = composite_by run f; way = way })
nets_are run f way =
    let cell = sub_at run.library.deck.subs f.cell in
    let nets = cell_nets cell in
    let rails = run.source.rails in
    let ports = cell.head.ports in
    let pairs = cell_pairs nets f.circuit (zip cell.cards f.instance.least) in
    let told = pairs_of f.circuit (pattern_in run cell).devices f.instance.least in
    sym (
    ap (λ n. renamed_nets rails ports way (under pairs) (zip nets (map (port_image told) (range_with_len 0 n)))) (length-map nets (role_of rails ports))
    ∙ ap (λ ps. renamed_nets rails ports way (under pairs) (zip nets (map (port_image ps) (range_with_len 0 (length nets))))) (pairs_are run nets f.circuit cell.cards f.instance.least)
    ∙ ap (λ images. renamed_nets rails ports way (under pairs) (zip nets images)) (images_same pairs (range_with_len 0 (length nets)))
    ∙ rows_are rails ports way (under pairs) 0 nets
    )
