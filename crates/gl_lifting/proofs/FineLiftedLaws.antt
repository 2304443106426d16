-- Cards and heads of a lifted deck are fine.
use Rattle.std.proofs.Common.{◌≡◌, ◌≤◌, ◌<◌, ◌+◌, ◌-◌, ◌^◌, ℕ, zero, suc, List, [], ◌∷◌, ◌++◌, length, eqb, ltb, true, false, refl, ap, subst, arith, codes, length-append, lt-ltb, ltb-true}
use Rattle.std.specs.Prelude.{decimal, option_to_list, replicate}
use Rattle.std.specs.List.{AllByRecursion, join_with_byte}
use Rattle.std.specs.Str.Parse.{AllDigits}
use Rattle.std.proofs.lemmas.Fmt.{decimal_is_IsNumeral}
use Rattle.std.proofs.lemmas.Str.Parse.{digit_from_value}
use Rattle.std.proofs.lemmas.List.{append-nil}
use Rattle.gl_text.specs.LogicalLines.{LINE, NAME}
use Rattle.gl_text.specs.WayBack.{IsName, IsOneLine}
use Rattle.gl_text.specs.Cards.{Device as Card, Call, Head, dev, call, subckt, Kind, device, caller, other, by_byte, kinds, first_byte, spaced, with_tail}
use Rattle.gl_printed.specs.ReadCards.{IsFine}
use Rattle.gl_printed.proofs.Each.{each_append, each_right, each_to}
use Rattle.gl_printed.proofs.KindTables.{Shaped, letter_shaped}
use Rattle.gl_printed.proofs.PrintedFields.{Short, joined_line, with_tail_length, with_tail_line}
use Rattle.gl_printed.proofs.NameBytes.{IsNameByte, OfName, bytes_name, name_bytes}
use Rattle.gl_lifting.specs.Variants.{variant_name}
use Rattle.gl_base.specs.RoundReports.{instance_name}
use Rattle.gl_base.specs.Stems.{stem_with}

-- ---- cards

-- the tail of a fine card is one line
tail_line : (c : Card) → IsFine (dev c) → IsOneLine c.tail
tail_line c g = unspaced c.tail (each_right (λ b. eqb b 10 ≡ false) (join_with_byte 32 (c.name ∷ c.nodes ++ option_to_list c.model)) (spaced c.tail) g.one_line) where
  unspaced : (t : List ℕ) → IsOneLine (spaced t) → IsOneLine t
  unspaced [] k = tt
  unspaced (b ∷ bs) k = k.1

-- a device under the name of one card, with other nodes, and with model and tail of a card that has a model exactly where it has one
pub device_fine : (d : Card) (nodes : List (List ℕ)) (e : Card) → IsFine (dev d) → IsFine (dev e) → AllByRecursion IsName nodes → length nodes ≡ length d.nodes → length (option_to_list e.model) ≡ length (option_to_list d.model)
    → IsFine (dev (record { name = d.name; nodes = nodes; model = e.model; tail = e.tail }))
device_fine d nodes e hd he parts long both =
    let models = option_to_list e.model in
    let all = d.name ∷ nodes ++ models in
    let own = hd.is_read.names in
    let theirs = he.is_read.names in
    let ps : AllByRecursion IsName all = (own.0, each_append IsName nodes models parts (each_right IsName e.nodes models theirs.1)) in
    let names = ps in
    let count : length all ≡ length (d.name ∷ d.nodes ++ option_to_list d.model) = omega (arith, long, both, length-append nodes models, length-append d.nodes (option_to_list d.model)) in
    let letter : (dot : Kind) → by_byte (kinds dot) (first_byte d.name) ≡ device (length nodes) (length all) = λ dot. let g = hd.is_read.kind.letter dot in cc in
    let shape : Shaped (device (length nodes) (length all)) = subst Shaped (letter other) (letter_shaped other (first_byte d.name) tt) in
    let few = shape.2 in
    let line = with_tail_length all e.tail (each_to IsName Short (λ x p. p.short) all ps) in
    let tail = he.is_read.short in
    record {
      is_read = record { kind = record { letter = letter }; names = names; normal = he.is_read.normal; short = tail };
      one_line = with_tail_line all e.tail (each_to IsName IsOneLine (λ x p. p.one_line) all ps) (tail_line e he);
      short = omega arith;
    }

-- fields that are names, and not too many, fit on a line
fields_short : (all : List (List ℕ)) → AllByRecursion IsName all → length all ≤ 127 → length (join_with_byte 32 all) ≤ LINE
fields_short all ps few =
    let line = with_tail_length all [] (each_to IsName Short (λ x p. p.short) all ps) in
    let same : length (with_tail all []) ≡ length (join_with_byte 32 all) = ap length (append-nil (join_with_byte 32 all)) in
    omega (arith, line, same, few)

-- an X card of names is fine
pub call_fine : (name : List ℕ) (nodes : List (List ℕ)) (sub : List ℕ) → ((dot : Kind) → by_byte (kinds dot) (first_byte name) ≡ caller) → IsName name → AllByRecursion IsName nodes → IsName sub → length nodes ≤ 64
    → IsFine (call (record { name = name; nodes = nodes; sub = sub }))
call_fine name nodes sub letter n ns s few =
    let all = name ∷ nodes ++ sub ∷ [] in
    let ps : AllByRecursion IsName all = (n, each_append IsName nodes (sub ∷ []) ns (s, tt)) in
    record {
      is_read = record { letter = letter; names = ps };
      one_line = joined_line all (each_to IsName IsOneLine (λ x p. p.one_line) all ps);
      short = fields_short all ps (omega (arith, few, length-append nodes (sub ∷ [])));
    }

-- the names of a fine X card
pub call_parts : (c : Call) → IsFine (call c) → AllByRecursion IsName (c.name ∷ c.nodes ++ c.sub ∷ [])
call_parts c h = h.is_read.names

-- the names of a fine head
pub head_parts : (h : Head) → IsFine (subckt h) → AllByRecursion IsName (h.name ∷ h.ports)
head_parts h f = f.is_read

-- a head of names is fine
pub head_fine : (name : List ℕ) (ports : List (List ℕ)) → IsName name → AllByRecursion IsName ports → length ports ≤ 64 → IsFine (subckt (record { name = name; ports = ports }))
head_fine name ports n ns few =
    let word = codes ".subckt" in
    let ps : AllByRecursion IsName (name ∷ ports) = (n, ns) in
    let short : AllByRecursion Short (word ∷ name ∷ ports) = (omega arith, each_to IsName Short (λ x p. p.short) (name ∷ ports) ps) in
    let line = with_tail_length (word ∷ name ∷ ports) [] short in
    let same : length (with_tail (word ∷ name ∷ ports) []) ≡ length (join_with_byte 32 (word ∷ name ∷ ports)) = ap length (append-nil (join_with_byte 32 (word ∷ name ∷ ports))) in
    record {
      is_read = ps;
      one_line = joined_line (word ∷ name ∷ ports) ((refl, (refl, (refl, (refl, (refl, (refl, (refl, tt))))))), each_to IsName IsOneLine (λ x p. p.one_line) (name ∷ ports) ps);
      short = omega (arith, line, same, few);
    }

-- ---- names

-- a digit is a byte of names
digit_byte : (k : ℕ) → k < 10 → IsNameByte (48 + k)
digit_byte zero lt = record { plain = refl; small = refl; line = refl }
digit_byte (suc zero) lt = record { plain = refl; small = refl; line = refl }
digit_byte (suc (suc zero)) lt = record { plain = refl; small = refl; line = refl }
digit_byte (suc (suc (suc zero))) lt = record { plain = refl; small = refl; line = refl }
digit_byte (suc (suc (suc (suc zero)))) lt = record { plain = refl; small = refl; line = refl }
digit_byte (suc (suc (suc (suc (suc zero))))) lt = record { plain = refl; small = refl; line = refl }
digit_byte (suc (suc (suc (suc (suc (suc zero)))))) lt = record { plain = refl; small = refl; line = refl }
digit_byte (suc (suc (suc (suc (suc (suc (suc zero))))))) lt = record { plain = refl; small = refl; line = refl }
digit_byte (suc (suc (suc (suc (suc (suc (suc (suc zero)))))))) lt = record { plain = refl; small = refl; line = refl }
digit_byte (suc (suc (suc (suc (suc (suc (suc (suc (suc zero))))))))) lt = record { plain = refl; small = refl; line = refl }
digit_byte (suc (suc (suc (suc (suc (suc (suc (suc (suc (suc k)))))))))) lt = absurd (omega (arith, lt))

-- so are all digits
digits_bytes : (ds : List ℕ) → AllDigits 10 ds → OfName ds
digits_bytes [] h = tt
digits_bytes (d ∷ ds) h =
    let r = digit_from_value d h.0 in
    (subst IsNameByte (omega (arith, r.0, r.1)) (digit_byte (d - 48) (omega (arith, r.0, r.1))), digits_bytes ds h.1)

-- a number is of such bytes
decimal_bytes : (n : ℕ) → n < 2 ^ 64 → OfName (decimal n)
decimal_bytes n lt = digits_bytes (decimal n) (decimal_is_IsNumeral n lt).0.1

-- a text with something in front is not empty
some_front : (xs ys : List ℕ) → ltb 0 (length xs) ≡ true → ltb 0 (length (xs ++ ys)) ≡ true
some_front xs ys h = lt-ltb 0 (length (xs ++ ys)) (omega (arith, ltb-true 0 (length xs) h, length-append xs ys))

-- the name of a variant is of bytes of names
variant_bytes : (cell : List ℕ) (n : ℕ) → n < 2 ^ 64 → OfName cell → OfName (variant_name cell n)
variant_bytes [] n lt h = (record { plain = refl; small = refl; line = refl }, (record { plain = refl; small = refl; line = refl }, decimal_bytes n lt))
variant_bytes (c ∷ cell) n lt h = (h.0, variant_bytes cell n lt h.1)

-- it is not empty
some_variant : (cell : List ℕ) (n : ℕ) → ltb 0 (length (variant_name cell n)) ≡ true
some_variant [] n = lt-ltb 0 (length (variant_name [] n)) (omega arith)
some_variant (c ∷ cell) n = lt-ltb 0 (length (variant_name (c ∷ cell) n)) (omega arith)

-- the name of a variant that is not too long
pub variant_part : (cell : List ℕ) (n : ℕ) → n < 2 ^ 64 → IsName cell → length (variant_name cell n) ≤ NAME → IsName (variant_name cell n)
variant_part cell n lt h short = bytes_name (variant_name cell n) (variant_bytes cell n lt (name_bytes cell h)) (some_variant cell n) short

-- underscores are bytes of names
under_bytes : (n : ℕ) → OfName (replicate n 95)
under_bytes zero = tt
under_bytes (suc n) = (record { plain = refl; small = refl; line = refl }, under_bytes n)

-- the name of a composite that is not too long, and its letter
pub instance_part : (underscores n : ℕ) → n < 2 ^ 64 → length (instance_name (stem_with underscores) n) ≤ NAME → IsName (instance_name (stem_with underscores) n)
instance_part underscores n lt short =
    let x : IsNameByte 120 = record { plain = refl; small = refl; line = refl } in
    let g : IsNameByte 103 = record { plain = refl; small = refl; line = refl } in
    let bytes : OfName (instance_name (stem_with underscores) n) = (x, (g, each_append IsNameByte (replicate underscores 95) (decimal n) (under_bytes underscores) (decimal_bytes n lt))) in
    bytes_name (instance_name (stem_with underscores) n) bytes (lt-ltb 0 (length (instance_name (stem_with underscores) n)) (omega arith)) short

-- the name of a composite begins with x
pub instance_letter : (underscores n : ℕ) (dot : Kind) → by_byte (kinds dot) (first_byte (instance_name (stem_with underscores) n)) ≡ caller
instance_letter underscores n dot = refl
