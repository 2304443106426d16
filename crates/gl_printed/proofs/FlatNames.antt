-- Flat names are names, and flat devices are fine cards.
use Rattle.std.proofs.Common.{◌≡◌, ◌≤◌, ℕ, List, [], ◌∷◌, ◌++◌, length, map, eqb, ltb, true, false, refl, ap, ◌∙◌, subst, arith, codes, lt-ltb, ltb-true, length-append}
use Rattle.std.specs.Prelude.{option_to_list}
use Rattle.std.specs.List.{AllByRecursion, join_with_byte}
use Rattle.std.proofs.lemmas.List.{length-map}
use Rattle.gl_text.specs.LogicalLines.{NAME}
use Rattle.gl_text.specs.WayBack.{IsName, IsOneLine}
use Rattle.gl_text.specs.Cards.{Device, dev, Kind, device, other, by_byte, kinds, first_byte, spaced}
use Rattle.gl_text.specs.Flattening.{Net, FlatDevice, path_text, net_name, device_name, flat_card}
use Rattle.gl_printed.specs.ReadCards.{IsFine}
use Rattle.gl_lists.proofs.Each.{each_append, each_both, each_map, each_right, each_to}
use Rattle.gl_printed.proofs.KindTables.{Shaped, letter_shaped}
use Rattle.gl_printed.proofs.PrintedFields.{Short, with_tail_length, with_tail_line}
use Rattle.gl_printed.proofs.NameBytes.{IsNameByte, OfName, bytes_name, name_bytes}
use Rattle.gl_printed.proofs.FlatDevices.{IsFlatDevice, IsFlatNet}

dot_byte : IsNameByte 46
dot_byte = record { plain = refl; small = refl; line = refl }

path_bytes : (path : List (List ℕ)) → AllByRecursion IsName path → OfName (path_text path)
path_bytes [] h = tt
path_bytes (x ∷ xs) h = each_append IsNameByte (x ++ codes ".") (path_text xs) (each_append IsNameByte x (codes ".") (name_bytes x h.0) (dot_byte, tt)) (path_bytes xs h.1)

some_behind : (xs n : List ℕ) → ltb 0 (length n) ≡ true → ltb 0 (length (xs ++ n)) ≡ true
some_behind xs n h = let a = ltb-true 0 (length n) h in let e = length-append xs n in lt-ltb 0 (length (xs ++ n)) (omega arith)

pub net_is_name : (n : Net) → IsFlatNet n → length (net_name n) ≤ NAME → IsName (net_name n)
net_is_name n h l = bytes_name (net_name n) (each_append IsNameByte (path_text n.path) n.name (path_bytes n.path h.path) (name_bytes n.name h.name)) (some_behind (path_text n.path) n.name h.name.some) l

first_of_name : (n : List ℕ) → IsName n → IsNameByte (first_byte n)
first_of_name [] h = absurd (let a = h.some in cc)
first_of_name (b ∷ n) h = (name_bytes (b ∷ n) h).0

named : List (List ℕ) → Device → List Net → FlatDevice
named path card nets = record { path = path; card = card; nets = nets }

name_is_name : (path : List (List ℕ)) (card : Device) (nets : List Net) → AllByRecursion IsName path → IsName card.name → length (device_name (named path card nets)) ≤ NAME → IsName (device_name (named path card nets))
unfolding named
name_is_name [] card nets p h l = h
name_is_name (x ∷ xs) card nets p h l =
    let front = first_byte card.name ∷ codes "." ++ path_text (x ∷ xs) in
    bytes_name (front ++ card.name) (each_append IsNameByte front card.name (first_of_name card.name h, (dot_byte, path_bytes (x ∷ xs) p)) (name_bytes card.name h)) (some_behind front card.name h.some) l

first_same : (path : List (List ℕ)) (card : Device) (nets : List Net) → first_byte (device_name (named path card nets)) ≡ first_byte card.name
unfolding named
first_same [] card nets = refl
first_same (x ∷ xs) card nets = refl

-- ---- the card of a flat device

nets_are_names : (nets : List Net) → AllByRecursion IsFlatNet nets → AllByRecursion (λ n. length (net_name n) ≤ NAME) nets → AllByRecursion IsName (map net_name nets)
nets_are_names nets h l = each_map IsName net_name nets (each_both IsFlatNet (λ n. length (net_name n) ≤ NAME) (λ n. IsName (net_name n)) net_is_name nets h l)

lengths : (a b : List ℕ) (xs ys more : List (List ℕ)) → length xs ≡ length ys → length (a ∷ xs ++ more) ≡ length (b ∷ ys ++ more)
lengths a b xs ys more e = let f = length-append xs more in let g = length-append ys more in omega arith

fine_by : (name : List ℕ) (nodes : List (List ℕ)) (card : Device) → IsName name → AllByRecursion IsName nodes → length nodes ≡ length card.nodes → first_byte name ≡ first_byte card.name → IsFine (dev card)
    → IsFine (dev (record { name = name; nodes = nodes; model = card.model; tail = card.tail }))
fine_by name nodes card n ns e f h =
    let models = option_to_list card.model in
    let all = name ∷ nodes ++ models in
    let i = h.is_read in
    let names : AllByRecursion IsName all = (n, each_append IsName nodes models ns (each_right IsName card.nodes models i.names.1)) in
    let count : length all ≡ length (card.name ∷ card.nodes ++ models) = lengths name card.name nodes card.nodes models e in
    let letter : (dot : Kind) → by_byte (kinds dot) (first_byte name) ≡ device (length nodes) (length all) = λ dot. let g = ap (by_byte (kinds dot)) f ∙ i.kind.letter dot in cc in
    let shape : Shaped (device (length nodes) (length all)) = subst Shaped (letter other) (letter_shaped other (first_byte name) tt) in
    let few = shape.2 in
    let long = with_tail_length all card.tail (each_to IsName Short (λ x p. p.short) all names) in
    let d = i.short in
    record {
      is_read = record { kind = record { letter = letter }; names = names; normal = i.normal; short = i.short };
      one_line = with_tail_line all card.tail (each_to IsName IsOneLine (λ x p. p.one_line) all names) (tail_line card h);
      short = omega arith;
    } where
      tail_line : (c : Device) → IsFine (dev c) → IsOneLine c.tail
      tail_line c g = unspaced c.tail (each_right (λ b. eqb b 10 ≡ false) (join_with_byte 32 (c.name ∷ c.nodes ++ option_to_list c.model)) (spaced c.tail) g.one_line)
        where
          unspaced : (t : List ℕ) → IsOneLine (spaced t) → IsOneLine t
          unspaced [] k = tt
          unspaced (b ∷ bs) k = k.1

-- a flat device whose names are not too long is a fine card
pub flat_fine : (d : FlatDevice) → IsFlatDevice d → length (device_name d) ≤ NAME → AllByRecursion (λ n. length (net_name n) ≤ NAME) d.nets → IsFine (dev (flat_card d))
unfolding named
flat_fine d h l m = fine_by (device_name d) (map net_name d.nets) d.card (name_is_name d.path d.card d.nets h.path h.card.is_read.names.0 l) (nets_are_names d.nets h.nets m) (length-map d.nets net_name ∙ h.as_many) (first_same d.path d.card d.nets) h.card
