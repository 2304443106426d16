-- Kept devices under their old names are those of the renamed flat deck.
use Rattle.std.proofs.Common.{◌≡◌, ℕ, List, [], ◌∷◌, ◌++◌, Bool, true, false, cond, Option, None, Some, length, map, take, get_or, ◌+◌, ◌<◌, refl, sym, ap, ◌∙◌}
use Rattle.std.specs.Prelude.{Contains, find, filter_map, option_map, option_to_list}
use Rattle.std.proofs.lemmas.List.{get_or-map, take_more}
use Rattle.std.proofs.lemmas.List.Elements.{filter_map-append}
use Rattle.gl_match.proofs.Lists.{in_head, in_tail}
use Rattle.gl_text.specs.LogicalLines.{same_text}
use Rattle.gl_text.specs.Cards.{Device as Card}
use Rattle.gl_text.specs.Flattening.{Flat}
use Rattle.gl_text.specs.PlainFlats.{plain_by}
use Rattle.gl_base.specs.BaseCircuit.{nets_of, net_number}
use Rattle.gl_base.specs.Reports.{name_at}
use Rattle.gl_base.specs.Rounds.{cards_of}
use Rattle.gl_base.proofs.TextLaws.{exact, itself, node_is_net}
use Rattle.gl_lists.proofs.EachOnce.{place_within, place_back}
use Rattle.gl_flat.specs.Kept.{KeptDevice, kept_device, kept_card, kept_cards, kept_of}
use Rattle.gl_lifting.specs.NameMaps.{NameMap}
use Rattle.gl_lifting.specs.Renaming.{old_name, device_back, renamed}
use Rattle.gl_restore.specs.Places.{first_named}
use Rattle.gl_restore.specs.Backs.{kept_name, under_name, back_of, backs_of, flat_with}

-- ---- lists

-- what is done to what a filtering map gives is done in it
done_inside : {X Y Z : Type 0} (k : Y → Z) (f : X → Option Y) (g : X → Option Z) (xs : List X) → ((x : X) → option_map k (f x) ≡ g x) → map k (filter_map f xs) ≡ filter_map g xs
done_inside k f g [] h = refl
done_inside {X} {Y} {Z} k f g (x ∷ xs) h = by (f x) (g x) (h x) (done_inside k f g xs h) where
  one : {A : Type 0} → Option A → List A → List A
  one None items = items
  one (Some a) items = a ∷ items

  by : (o : Option Y) (p : Option Z) → option_map k o ≡ p → map k (filter_map f xs) ≡ filter_map g xs → map k (one o (filter_map f xs)) ≡ one p (filter_map g xs)
  by None p e ih = ih ∙ ap (λ q. one q (filter_map g xs)) e
  by (Some y) p e ih = ap (λ zs. k y ∷ zs) ih ∙ ap (λ q. one q (filter_map g xs)) e

-- two functions that agree on all items agree on the one that is found
same_found : {X Y : Type 0} (k r : X → Y) (p : X → Bool) (xs : List X) → ((x : X) → Contains xs x → k x ≡ r x) → option_map k (find p xs) ≡ option_map r (find p xs)
same_found k r p [] h = refl
same_found {X} {Y} k r p (x ∷ xs) h = by (p x) (same_found k r p xs (λ y i. h y (in_tail x xs y i))) where
  by : (b : Bool) → option_map k (find p xs) ≡ option_map r (find p xs) → option_map k (cond b (Some x) (find p xs)) ≡ option_map r (cond b (Some x) (find p xs))
  by true ih = ap (λ y. Some y) (h x (in_head x xs))
  by false ih = ih

-- ---- nodes

-- the number of a node leads to what its name became
node_named : (nets : List (List ℕ)) (g : List ℕ → List ℕ) (name : List ℕ) → Contains nets name → name_at (map g nets) (net_number nets name) ≡ g name
node_named nets g name i =
    get_or-map g nets (net_number nets name) [] [] (place_within same_text exact itself nets name i)
    ∙ ap g (place_back same_text exact itself nets name [] i)

nodes_named : (nets : List (List ℕ)) (g : List ℕ → List ℕ) (nodes : List (List ℕ)) → ((name : List ℕ) → Contains nodes name → Contains nets name)
    → map (name_at (map g nets)) (map (net_number nets) nodes) ≡ map g nodes
nodes_named nets g [] h = refl
nodes_named nets g (n ∷ ns) h =
    ap (λ (m : List ℕ). m ∷ map (name_at (map g nets)) (map (net_number nets) ns)) (node_named nets g n (h n (in_head n ns)))
    ∙ ap (λ (ms : List (List ℕ)). g n ∷ ms) (nodes_named nets g ns (λ m i. h m (in_tail n ns m i)))

-- ---- devices

abbrev card_under : List ℕ → Card → List (List ℕ) → Card
card_under name c nodes = record { name = name; nodes = nodes; model = c.model; tail = c.tail }

-- the first of a name among kept devices is the first card of this name, kept
kept_found : (nets : List (List ℕ)) (name : List ℕ) (cards : List Card) → first_named kept_name name (map (kept_device nets) cards) ≡ option_map (kept_device nets) (find (λ (d : Card). same_text d.name name) cards)
kept_found nets name [] = refl
kept_found nets name (c ∷ cs) = by (same_text c.name name) (kept_found nets name cs) where
  rest : Option Card
  rest = find (λ (d : Card). same_text d.name name) cs

  by : (b : Bool) → first_named kept_name name (map (kept_device nets) cs) ≡ option_map (kept_device nets) rest
      → cond b (Some (kept_device nets c)) (first_named kept_name name (map (kept_device nets) cs)) ≡ option_map (kept_device nets) (cond b (Some c) rest)
  by true h = refl
  by false h = h

abbrev seen_under : List (List ℕ) → List (List ℕ) → List ℕ → Card → Card
seen_under olds nets name c = kept_card olds (under_name name (kept_device nets c))

composed : {X Y Z W : Type 0} (f : X → Y) (g : Y → Z) (h : Z → W) (o : Option X) → option_map h (option_map g (option_map f o)) ≡ option_map (λ x. h (g (f x))) o
composed f g h None = refl
composed f g h (Some x) = refl

-- the device of a line
line_is : (m : NameMap) (cards : List Card) (line : List ℕ × List ℕ) → option_map (kept_card (map (old_name m.nets) (nets_of cards))) (back_of (kept_of cards) line) ≡ device_back m cards line
line_is m cards line =
    let nets = nets_of cards in
    let olds = map (old_name m.nets) nets in
    ap (λ o. option_map (kept_card olds) (option_map (under_name line.1) o)) (kept_found nets line.0 cards)
    ∙ composed (kept_device nets) (under_name line.1) (kept_card olds) (find (λ (d : Card). same_text d.name line.0) cards)
    ∙ same_found (seen_under olds nets line.1) (λ (d : Card). card_under line.1 d (map (old_name m.nets) d.nodes)) (λ (d : Card). same_text d.name line.0) cards
    (λ c i. ap (card_under line.1 c) (nodes_named nets (old_name m.nets) c.nodes (λ n j. node_is_net cards c n i j)))

-- the devices of all lines
lines_are : (m : NameMap) (cards : List Card) (lines : List (List ℕ × List ℕ)) → kept_cards (map (old_name m.nets) (nets_of cards)) (backs_of (kept_of cards) lines) ≡ filter_map (device_back m cards) lines
lines_are m cards lines = done_inside (kept_card (map (old_name m.nets) (nets_of cards))) (back_of (kept_of cards)) (device_back m cards) lines (line_is m cards)

-- the renamed flat deck is that of the kept devices under their old names
pub renamed_is : (f : Flat) (m : NameMap) (olds : List (List ℕ)) (devices backs : List KeptDevice) → olds ≡ map (old_name m.nets) (nets_of (cards_of f)) → devices ≡ kept_of (cards_of f) → backs ≡ backs_of devices m.devices
    → flat_with f olds backs ≡ renamed f m
renamed_is f m olds devices backs olds_are devices_are backs_are =
    ap (λ (bs : List KeptDevice). flat_with f olds bs) (backs_are ∙ ap (λ (ds : List KeptDevice). backs_of ds m.devices) devices_are)
    ∙ ap (λ (os : List (List ℕ)). flat_with f os (backs_of (kept_of (cards_of f)) m.devices)) olds_are
    ∙ ap (plain_by f) (lines_are m (cards_of f) m.devices)

-- ---- one line more

one_back : (devices : List KeptDevice) (line : List ℕ × List ℕ) → backs_of devices (line ∷ []) ≡ option_to_list (back_of devices line)
one_back devices line = by (back_of devices line) where
  by : (o : Option KeptDevice) → filter_map (λ (l : List ℕ × List ℕ). o) (line ∷ []) ≡ option_to_list o
  by None = refl
  by (Some d) = refl

pub back_more : (devices : List KeptDevice) (lines : List (List ℕ × List ℕ)) (i : ℕ) (line : List ℕ × List ℕ) → i < length lines → line ≡ get_or lines i line
    → backs_of devices (take (i + 1) lines) ≡ backs_of devices (take i lines) ++ option_to_list (back_of devices line)
back_more devices lines i line lt is =
    ap (backs_of devices) (take_more lines i line lt ∙ ap (λ (m : List ℕ × List ℕ). take i lines ++ m ∷ []) (sym is))
    ∙ filter_map-append (back_of devices) (take i lines) (line ∷ [])
    ∙ ap (λ (bs : List KeptDevice). backs_of devices (take i lines) ++ bs) (one_back devices line)
