-- Fine cards, printed, are read again.
use Rattle.std.proofs.Common.{◌≡◌, ◌≤◌, ℕ, List, [], ◌∷◌, ◌++◌, length, map, eqb, ltb, true, false, Option, Some, None, Ok, refl, sym, ap, ◌∙◌, subst, arith, codes, le-ltb, append-nil}
use Rattle.std.specs.Prelude.{◌&&◌, ◌||◌, option_to_list}
use Rattle.std.specs.List.{AllByRecursion, join_with_byte, list_any}
use Rattle.std.proofs.lemmas.Bool.{or_parts}
use Rattle.gl_text.specs.LogicalLines.{NAME, TAIL, long_tail, parameters, Line, Piece, is_blank, is_separator, fold_byte, folded, fields_of, head_bytes, tail_of}
use Rattle.gl_text.specs.WayBack.{IsOneLine, IsName, IsReadAgain}
use Rattle.gl_fault.specs.Refusals.{when}
use Rattle.gl_text.specs.Cards.{Card, Model, Head, dev, call, model, subckt, ends, global, ended, passed, Kind, modelling, opening, closing, globals, other, kinds, by_byte, word_in, dot_words, kind_of, needs, names_of, tail_at, first_or, card_by, card_of, all_fields, no_card, no_card_by, has_parameters, has_nodes, has_long_tail, tail_fault, is_unknown, is_control, read_card, with_tail, spaced}
use Rattle.gl_text.proofs.CardLaws.{names_are, behind_is, short_names, all_none, device_again}
use Rattle.gl_text.proofs.CallCardLaws.{call_again}
use Rattle.gl_printed.specs.ReadCards.{IsRead, IsReadDevice, IsReadCall, IsReadModel, IsReadText, IsFine}
use Rattle.gl_printed.proofs.Fields.{first_is}
use Rattle.gl_printed.proofs.KindTables.{start_is}

-- ---- a line is read by its kind

no_fault : (l : Line) (kind : Kind) (fs : List (List ℕ)) → AllByRecursion IsName (names_of kind fs) → is_unknown kind ≡ false → needs kind ≤ length fs → is_control kind ≡ false → no_card_by l kind fs ≡ None
no_fault l kind fs names known enough free = rw (short_names l.line (names_of kind fs) names, known, le-ltb (length fs) (needs kind) enough, free) refl

NoEqual : Kind → List ℕ → Type 0
NoEqual kind text = (has_nodes kind && list_any (λ x. eqb x 61) text) ≡ false

read_by : (line : ℕ) (text : List ℕ) (kind : Kind) (fs : List (List ℕ)) (tail : List ℕ) (c : Card) → kind_of text ≡ kind → all_fields text ≡ fs → tail_at kind (fields_of text) ≡ tail
    → AllByRecursion IsName (names_of kind fs) → is_unknown kind ≡ false → needs kind ≤ length fs → is_control kind ≡ false → NoEqual kind text → length tail ≤ TAIL → card_by kind (names_of kind fs) tail text ≡ c
    → read_card (record { line = line; text = text }) ≡ Ok c
unfolding NoEqual
read_by line text kind fs tail c k f t names known enough free equal short card =
    let l : Line = record { line = line; text = text } in
    let a : no_card l ≡ None = ap (λ x. no_card_by l x (all_fields text)) k ∙ ap (no_card_by l kind) f ∙ no_fault l kind fs names known enough free in
    let p : has_parameters l ≡ None = ap (λ x. when (has_nodes x && list_any (λ y. eqb y 61) text) (parameters line)) k ∙ ap (λ b. when b (parameters line)) equal in
    let q : has_long_tail l ≡ None = ap (λ x. tail_fault line (tail_at x (fields_of text))) k ∙ ap (tail_fault line) t ∙ ap (λ b. when b (long_tail line (length tail))) (le-ltb TAIL (length tail) short) in
    let d : card_of text ≡ c = ap (λ x. card_by x (names_of x (all_fields text)) (tail_at x (fields_of text)) text) k ∙ ap (λ xs. card_by kind (names_of kind xs) (tail_at kind (fields_of text)) text) f ∙ ap (λ x. card_by kind (names_of kind fs) x text) t ∙ card in
    all_none (no_card l) (has_parameters l) (has_long_tail l) (card_of text) c a p q d

-- ---- the kind of a card that begins with a dot

first_same : (ps : List Piece) → folded (head_bytes ps) ≡ first_or [] (map (λ (p : Piece). folded p.bytes) ps)
first_same [] = refl
first_same (p ∷ ps) = refl

dot_kind : (w : List ℕ) (rest : List (List ℕ)) (tail : List ℕ) (fs : List (List ℕ)) → all_fields (with_tail ((46 ∷ w) ∷ rest) tail) ≡ (46 ∷ w) ∷ fs → kind_of (with_tail ((46 ∷ w) ∷ rest) tail) ≡ word_in dot_words (46 ∷ w)
dot_kind w [] tail fs e = ap (word_in dot_words) (first_same (fields_of (with_tail ((46 ∷ w) ∷ []) tail)) ∙ ap (first_or []) e)
dot_kind w (m ∷ ms) tail fs e = ap (word_in dot_words) (first_same (fields_of (with_tail ((46 ∷ w) ∷ m ∷ ms) tail)) ∙ ap (first_or []) e)

-- ---- no equal sign

Free : List ℕ → Type 0
Free text = list_any (λ x. eqb x 61) text ≡ false

free_byte : (b : ℕ) → is_separator b ≡ false → eqb b 61 ≡ false
free_byte b h =
    let one = (or_parts (is_blank b || eqb b 44 || eqb b 61 || eqb b 40) (eqb b 41) h).0 in
    let two = (or_parts (is_blank b || eqb b 44 || eqb b 61) (eqb b 40) one).0 in
    (or_parts (is_blank b || eqb b 44) (eqb b 61) two).1

free_append : (a b : List ℕ) → AllByRecursion (λ x. is_separator x ≡ false) a → Free b → Free (a ++ b)
unfolding Free
free_append [] b p q = q
free_append (x ∷ a) b p q = rw (free_byte x p.0) (free_append a b p.1 q)

free_joined : (ns : List (List ℕ)) → AllByRecursion IsName ns → Free (join_with_byte 32 ns)
unfolding Free
free_joined [] h = refl
free_joined (n ∷ []) h = subst Free (append-nil n) (free_append n [] h.0.plain refl)
free_joined (n ∷ m ∷ ms) h = free_append n (32 ∷ join_with_byte 32 (m ∷ ms)) h.0.plain (free_joined (m ∷ ms) h.1)

-- ---- each kind

named : (w : List ℕ) → ltb 0 (length w) ≡ true → AllByRecursion (λ b. is_separator b ≡ false) w → folded w ≡ w → length w ≤ NAME → IsOneLine w → IsName w
named w a b c d l = record { some = a; one_line = l; plain = b; small = c; short = d }

model_name : IsName (codes ".model")
model_name = named (codes ".model") refl (refl, (refl, (refl, (refl, (refl, (refl, tt)))))) refl (omega arith) (refl, (refl, (refl, (refl, (refl, (refl, tt))))))

subckt_name : IsName (codes ".subckt")
subckt_name = named (codes ".subckt") refl (refl, (refl, (refl, (refl, (refl, (refl, (refl, tt))))))) refl (omega arith) (refl, (refl, (refl, (refl, (refl, (refl, (refl, tt)))))))

global_name : IsName (codes ".global")
global_name = named (codes ".global") refl (refl, (refl, (refl, (refl, (refl, (refl, (refl, tt))))))) refl (omega arith) (refl, (refl, (refl, (refl, (refl, (refl, (refl, tt)))))))

ends_name : IsName (codes ".ends")
ends_name = named (codes ".ends") refl (refl, (refl, (refl, (refl, (refl, tt))))) refl (omega arith) (refl, (refl, (refl, (refl, (refl, tt)))))

-- the fields of names that are joined
joined_fields : (n : List ℕ) (ns : List (List ℕ)) → AllByRecursion IsName (n ∷ ns) → all_fields (join_with_byte 32 (n ∷ ns)) ≡ n ∷ ns
joined_fields n ns h = ap all_fields (sym (append-nil (join_with_byte 32 (n ∷ ns)))) ∙ names_are n ns [] h ∙ append-nil (n ∷ ns)

joined_kind : (w : List ℕ) (ns : List (List ℕ)) → AllByRecursion IsName ((46 ∷ w) ∷ ns) → kind_of (join_with_byte 32 ((46 ∷ w) ∷ ns)) ≡ word_in dot_words (46 ∷ w)
joined_kind w ns h = ap kind_of (sym (append-nil (join_with_byte 32 ((46 ∷ w) ∷ ns)))) ∙ dot_kind w ns [] (ns ++ []) (names_are (46 ∷ w) ns [] h)

tail_spaced : (tail : List ℕ) → tail_of tail ≡ tail → tail_of (spaced tail) ≡ tail
tail_spaced [] h = refl
tail_spaced (b ∷ tail) h = h

model_again : (line : ℕ) (m : Model) → IsReadModel m → IsReadAgain line (model m)
unfolding NoEqual
model_again line m h =
    let rest = m.name ∷ m.word ∷ [] in
    let all : AllByRecursion IsName (codes ".model" ∷ rest) = (model_name, h.names) in
    let text = with_tail (codes ".model" ∷ rest) m.tail in
    let fs = codes ".model" ∷ rest ++ all_fields m.tail in
    let f : all_fields text ≡ fs = names_are (codes ".model") rest m.tail all in
    read_by line text modelling fs m.tail (model m) (dot_kind (codes "model") rest m.tail (rest ++ all_fields m.tail) f) f
    (ap tail_of (behind_is (codes ".model") rest m.tail all) ∙ tail_spaced m.tail h.normal) h.names refl (omega arith) refl refl h.short refl

subckt_again : (line : ℕ) (h : Head) → AllByRecursion IsName (h.name ∷ h.ports) → IsReadAgain line (subckt h)
unfolding NoEqual Free
subckt_again line h n =
    let rest = h.name ∷ h.ports in
    let all : AllByRecursion IsName (codes ".subckt" ∷ rest) = (subckt_name, n) in
    let text = join_with_byte 32 (codes ".subckt" ∷ rest) in
    let k : kind_of text ≡ opening = joined_kind (codes "subckt") rest all in
    read_by line text opening (codes ".subckt" ∷ rest) [] (subckt h) k (joined_fields (codes ".subckt") rest all) refl n refl (omega arith) refl (free_joined (codes ".subckt" ∷ rest) all) (omega arith) refl

global_again : (line : ℕ) (names : List (List ℕ)) → AllByRecursion IsName names → IsReadAgain line (global names)
unfolding NoEqual
global_again line names n =
    let all : AllByRecursion IsName (codes ".global" ∷ names) = (global_name, n) in
    let text = join_with_byte 32 (codes ".global" ∷ names) in
    read_by line text globals (codes ".global" ∷ names) [] (global names) (joined_kind (codes "global") names all) (joined_fields (codes ".global") names all) refl n refl (omega arith) refl refl (omega arith) refl

ends_again : (line : ℕ) (name : Option (List ℕ)) → AllByRecursion IsName (option_to_list name) → IsReadAgain line (ends name)
unfolding NoEqual
ends_again line None n = refl
ends_again line (Some name) n =
    let all : AllByRecursion IsName (codes ".ends" ∷ name ∷ []) = (ends_name, n) in
    let text = join_with_byte 32 (codes ".ends" ∷ name ∷ []) in
    read_by line text closing (codes ".ends" ∷ name ∷ []) [] (ends (Some name)) (joined_kind (codes "ends") (name ∷ []) all) (joined_fields (codes ".ends") (name ∷ []) all) refl n refl (omega arith) refl refl (omega arith) refl

some_field : (text : List ℕ) → kind_of text ≡ other → 1 ≤ length (all_fields text)
some_field [] k = absurd cc
some_field (b ∷ bs) k = let e = ap length (first_is b bs (start_is b bs (ap is_unknown k)).plain) in omega arith

passed_again : (line : ℕ) (text : List ℕ) → IsReadText text → read_card (record { line = line; text = text }) ≡ Ok (passed text)
unfolding NoEqual
passed_again line text h = read_by line text other (all_fields text) [] (passed text) h.kind refl refl tt refl (some_field text h.kind) refl refl (omega arith) (ap passed h.no_blanks)

small_first : (b : ℕ) (bs : List ℕ) → folded (b ∷ bs) ≡ b ∷ bs → fold_byte b ≡ b
small_first b bs h = cc

device_by : (line : ℕ) (name : List ℕ) (nodes : List (List ℕ)) (kind : Option (List ℕ)) (tail : List ℕ) → IsReadDevice (record { name = name; nodes = nodes; model = kind; tail = tail })
    → IsReadAgain line (dev (record { name = name; nodes = nodes; model = kind; tail = tail }))
device_by line [] nodes kind tail h = absurd (let a = h.names.0.some in cc)
device_by line (b ∷ bs) nodes kind tail h = device_again line b bs nodes kind tail (record { letter = λ dot. ap (by_byte (kinds dot)) (small_first b bs h.names.0.small) ∙ h.kind.letter dot; names = h.names; normal = h.normal; short = h.short })

call_by : (line : ℕ) (name : List ℕ) (nodes : List (List ℕ)) (sub : List ℕ) → IsReadCall (record { name = name; nodes = nodes; sub = sub })
    → IsReadAgain line (call (record { name = name; nodes = nodes; sub = sub }))
call_by line [] nodes sub h = absurd (let a = h.names.0.some in cc)
call_by line (b ∷ bs) nodes sub h = call_again line b bs nodes sub (record { letter = λ dot. ap (by_byte (kinds dot)) (small_first b bs h.names.0.small) ∙ h.letter dot; names = h.names })

card_by_kind : (line : ℕ) (c : Card) → IsRead c → IsReadAgain line c
card_by_kind line (dev d) h = device_by line d.name d.nodes d.model d.tail h
card_by_kind line (call c) h = call_by line c.name c.nodes c.sub h
card_by_kind line (model m) h = model_again line m h
card_by_kind line (subckt s) h = subckt_again line s h
card_by_kind line (ends name) h = ends_again line name h
card_by_kind line (global names) h = global_again line names h
card_by_kind line ended h = refl
card_by_kind line (passed text) h = passed_again line text h

-- a fine card that is printed is read again, on any line
pub card_again : (line : ℕ) (c : Card) → IsFine c → IsReadAgain line c
card_again line c h = card_by_kind line c h.is_read
