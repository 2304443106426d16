-- What a bound on the flat text bounds: flat names, and how many nets there are.
use Rattle.std.proofs.Common.{◌<◌, ◌≤◌, ◌+◌, ◌^◌, ℕ, List, [], ◌∷◌, ◌++◌, length, Option, Some, None, ap, map, flat_map, arith, length-append}
use Rattle.std.specs.Prelude.{option_to_list}
use Rattle.gl_text.proofs.Names.{names_fewer}
use Rattle.gl_text.specs.Cards.{Head, spaced, subckt, ends, ended}
use Rattle.gl_text.specs.Decks.{line_of, once, global_line, model_line, passed_line}
use Rattle.gl_text.specs.Flattening.{TEXT, Net, FlatDevice, Flat, net, net_name, device_name, flat_card, bearers, bearer_name, around, flat_text, flat_line}
use Rattle.gl_card.specs.Lines.{spaced_all}
use Rattle.gl_printed.proofs.Each.{each_append}
use Rattle.gl_flat.specs.LongNames.{IsCountable, AreCountable}
use Rattle.gl_base.specs.BaseCircuit.{nets_of}
use Rattle.gl_flat.proofs.FlatKept.{names_are}
use Rattle.gl_flat.proofs.PrintingLaws.{device_words}

behind_more : (xs ys : List ℕ) → length ys ≤ length (xs ++ ys)
behind_more xs ys = let e = length-append xs ys in omega arith

before_more : (xs ys : List ℕ) → length xs ≤ length (xs ++ ys)
before_more xs ys = let e = length-append xs ys in omega arith

-- ---- a device's line

line_length : (d : FlatDevice) → length (device_name d) + length (spaced_all (map net_name d.nets)) ≤ length (flat_line d)
line_length d =
    let own = device_name d in
    let nodes = spaced_all (map net_name d.nets) in
    let model = spaced_all (option_to_list d.card.model) in
    let is = ap length (device_words [] own (map net_name d.nets) d.card.model d.card.tail) in
    let a = length-append own nodes in
    let b = before_more (own ++ nodes) model in
    let e = before_more ((own ++ nodes) ++ model) (spaced d.card.tail) in
    let f = before_more (((own ++ nodes) ++ model) ++ spaced d.card.tail) (10 ∷ []) in
    omega (arith, is, a, b, e, f)

nets_countable : (ns : List Net) → length (spaced_all (map net_name ns)) < 2 ^ 32 → AreCountable (map net ns)
nets_countable [] h = tt
nets_countable (n ∷ ns) h =
    let e = length-append (32 ∷ net_name n) (spaced_all (map net_name ns)) in
    let own : length (net_name n) < 2 ^ 32 = omega (arith, e, h) in
    let rest : length (spaced_all (map net_name ns)) < 2 ^ 32 = omega (arith, e, h) in
    (own, nets_countable ns rest)

countable : (d : FlatDevice) → length (flat_line d) < 2 ^ 32 → AreCountable (bearers d)
countable d h =
    let e = line_length d in
    let own : length (device_name d) < 2 ^ 32 = omega (arith, e, h) in
    let nets : length (spaced_all (map net_name d.nets)) < 2 ^ 32 = omega (arith, e, h) in
    (own, nets_countable d.nets nets)

all_countable : (ds : List FlatDevice) → length (flat_map flat_line ds) < 2 ^ 32 → AreCountable (flat_map bearers ds)
all_countable [] h = tt
all_countable (d ∷ ds) h =
    let e = length-append (flat_line d) (flat_map flat_line ds) in
    let own : length (flat_line d) < 2 ^ 32 = omega (arith, e, h) in
    let rest : length (flat_map flat_line ds) < 2 ^ 32 = omega (arith, e, h) in
    each_append (λ b. IsCountable (bearer_name b)) (bearers d) (flat_map bearers ds) (countable d own) (all_countable ds rest)

-- ---- nets

nodes_few : (ns : List Net) → length (map net_name ns) ≤ length (spaced_all (map net_name ns))
nodes_few [] = omega arith
nodes_few (n ∷ ns) =
    let e = length-append (32 ∷ net_name n) (spaced_all (map net_name ns)) in
    let r = nodes_few ns in
    omega (arith, e, r)

abbrev names : FlatDevice → List (List ℕ)
names d = map net_name d.nets

names_few : (ds : List FlatDevice) → length (flat_map names ds) ≤ length (flat_map flat_line ds)
names_few [] = omega arith
names_few (d ∷ ds) =
    let e = length-append (flat_line d) (flat_map flat_line ds) in
    let f = length-append (names d) (flat_map names ds) in
    let g = nodes_few d.nets in
    let h = line_length d in
    let r = names_few ds in
    omega (arith, e, f, g, h, r)

-- ---- the text

around_more : (head : Option Head) (text : List ℕ) → length text ≤ length (around head text)
around_more None text = omega arith
around_more (Some h) text =
    let a = behind_more (line_of (subckt h)) text in
    let b = before_more (line_of (subckt h) ++ text) (line_of (ends (Some h.name))) in
    omega (arith, a, b)

lines_in_text : (f : Flat) → length (flat_map flat_line f.devices) ≤ length (flat_text f)
lines_in_text f =
    let lines = flat_map flat_line f.devices in
    let front = f.title ++ 10 ∷ flat_map global_line f.rails ++ flat_map model_line f.models in
    let middle = around f.top lines in
    let passed = flat_map passed_line f.passed in
    let a = around_more f.top lines in
    let b = behind_more front middle in
    let c = before_more (front ++ middle) passed in
    let d = before_more ((front ++ middle) ++ passed) (line_of ended) in
    omega (arith, a, b, c, d)

pub names_countable : (f : Flat) → length (flat_text f) ≤ TEXT → AreCountable (flat_map bearers f.devices)
names_countable f h = let e = lines_in_text f in all_countable f.devices (omega (arith, e, h))

pub nets_fit : (f : Flat) → length (flat_text f) ≤ TEXT → length (nets_of (map flat_card f.devices)) < 2 ^ 32
nets_fit f h =
    let a = names_fewer (flat_map names f.devices) in
    let b = names_few f.devices in
    let e = lines_in_text f in
    let same = ap (λ (ns : List (List ℕ)). length (once ns)) (names_are f.devices) in
    omega (arith, a, b, e, same, h)
