-- A printed device is read again.
use Rattle.std.proofs.Common.{◌≡◌, ℕ, List, [], ◌∷◌, ◌++◌, length, take, drop, map, cond, eqb, ltb, false, Option, Some, None, Ok, refl, ap, ◌∙◌, append_assoc, arith}
use Rattle.std.specs.Prelude.{◌&&◌, filter, option_to_list}
use Rattle.std.specs.List.{AllByRecursion, join_with_byte, list_any}
use Rattle.std.proofs.Math.Seq.{take-append_seam}
use Rattle.std.proofs.lemmas.List.{append-nil, length-append}
use Rattle.std.proofs.lemmas.Bool.{le-ltb}
use Rattle.gl_text.specs.LogicalLines.{NAME, TAIL, Fault, long_name, long_tail, parameters, first_field, Line, Piece, is_separator, onto, pieces_of, is_field, fields_of, folded, fold_byte, tail_of}
use Rattle.gl_text.specs.WayBack.{IsName, IsDevice, IsReadAgain}
use Rattle.gl_fault.specs.Refusals.{first_some, when, or_else}
use Rattle.gl_text.specs.Cards.{Card, dev, Kind, device, kinds, by_byte, kind_of, word_in, dot_words, behind, card_of, card_by, with_tail, names_of, tail_at, front, all_fields, spaced, no_card, no_card_by, has_parameters, has_nodes, has_long_tail, tail_fault}

-- ---- names

abbrev Plain : List ℕ → Type 0
Plain bytes = AllByRecursion (λ b. is_separator b ≡ false) bytes

abbrev piece : List ℕ → List ℕ → Piece
piece bytes rest = record { bytes = bytes; behind = rest }

-- a name and then a space
piece_first : (n rest : List ℕ) → Plain n → pieces_of (n ++ 32 ∷ rest) ≡ piece n (32 ∷ rest) ∷ pieces_of rest
piece_first [] rest p = refl
piece_first (b ∷ n) rest p =
    ap (λ t. cond t (piece [] (b ∷ n ++ 32 ∷ rest) ∷ pieces_of (n ++ 32 ∷ rest)) (onto b (pieces_of (n ++ 32 ∷ rest)))) p.0 ∙ ap (onto b) (piece_first n rest p.1)

piece_last : (n : List ℕ) → Plain n → pieces_of n ≡ piece n [] ∷ []
piece_last [] p = refl
piece_last (b ∷ n) p = ap (λ t. cond t (piece [] (b ∷ n) ∷ pieces_of n) (onto b (pieces_of n))) p.0 ∙ ap (onto b) (piece_last n p.1)

field_first : (n rest : List ℕ) → IsName n → fields_of (n ++ 32 ∷ rest) ≡ piece n (32 ∷ rest) ∷ fields_of rest
field_first n rest h = ap (filter is_field) (piece_first n rest h.plain) ∙ ap (λ t. cond t (piece n (32 ∷ rest) ∷ fields_of rest) (fields_of rest)) h.some

field_last : (n : List ℕ) → IsName n → fields_of n ≡ piece n [] ∷ []
field_last n h = ap (filter is_field) (piece_last n h.plain) ∙ ap (λ t. cond t (piece n [] ∷ []) []) h.some

-- the last name, then the tail
field_tail : (n tail : List ℕ) → IsName n → fields_of (n ++ spaced tail) ≡ piece n (spaced tail) ∷ fields_of tail
field_tail n [] h = ap fields_of (append-nil n) ∙ field_last n h
field_tail n (b ∷ tail) h = field_first n (b ∷ tail) h

abbrev shown : List Piece → List (List ℕ)
shown ps = map (λ (p : Piece). folded p.bytes) ps

-- names with a tail are read as the names, the tail stands behind the last of them
regroup : (n : List ℕ) (m : List ℕ) (ms : List (List ℕ)) (tail : List ℕ) → with_tail (n ∷ m ∷ ms) tail ≡ n ++ 32 ∷ with_tail (m ∷ ms) tail
regroup n m ms tail = append_assoc n (32 ∷ join_with_byte 32 (m ∷ ms)) (spaced tail)

pub names_are : (n : List ℕ) (ns : List (List ℕ)) (tail : List ℕ) → AllByRecursion IsName (n ∷ ns) → all_fields (with_tail (n ∷ ns) tail) ≡ n ∷ ns ++ all_fields tail
names_are n [] tail h = ap shown (field_tail n tail h.0) ∙ ap (λ x. x ∷ all_fields tail) h.0.small
names_are n (m ∷ ms) tail h =
    ap all_fields (regroup n m ms tail) ∙ ap shown (field_first n (with_tail (m ∷ ms) tail) h.0)
    ∙ ap (λ x. x ∷ all_fields (with_tail (m ∷ ms) tail)) h.0.small ∙ ap (λ xs. n ∷ xs) (names_are m ms tail h.1)

pub behind_is : (n : List ℕ) (ns : List (List ℕ)) (tail : List ℕ) → AllByRecursion IsName (n ∷ ns) → behind (length (n ∷ ns)) (fields_of (with_tail (n ∷ ns) tail)) ≡ spaced tail
behind_is n [] tail h = ap (behind 1) (field_tail n tail h.0)
behind_is n (m ∷ ms) tail h =
    ap (λ t. behind (length (n ∷ m ∷ ms)) (fields_of t)) (regroup n m ms tail) ∙ ap (behind (length (n ∷ m ∷ ms))) (field_first n (with_tail (m ∷ ms) tail) h.0) ∙ behind_is m ms tail h.1

-- ---- no refusal

pub short_names : (line : ℕ) (ns : List (List ℕ)) → AllByRecursion IsName ns → first_some (map (λ (n : List ℕ). when (ltb NAME (length n)) (long_name line (length n))) ns) ≡ None
short_names line [] h = refl
short_names line (n ∷ ns) h =
    ap (λ t. first_some (when t (long_name line (length n)) ∷ map (λ (m : List ℕ). when (ltb NAME (length m)) (long_name line (length m))) ns)) (le-ltb NAME (length n) h.0.short)
    ∙ short_names line ns h.1

pub all_none : (a b c : Option Fault) (x y : Card) → a ≡ None → b ≡ None → c ≡ None → x ≡ y → or_else (first_some (a ∷ b ∷ c ∷ [])) x ≡ Ok y
all_none a b c x y p q r e = rw (p, q, r, e) refl

no_fault : (l : Line) (k : ℕ) (ns more : List (List ℕ)) → AllByRecursion IsName ns → no_card_by l (device k (length ns)) (ns ++ more) ≡ None
no_fault l k ns more h =
    let few : ltb (length (ns ++ more)) (length ns) ≡ false = le-ltb (length (ns ++ more)) (length ns) (rw length-append (omega arith)) in
    rw (take-append_seam ns more, short_names l.line ns h, few) refl

tail_spaced : (tail : List ℕ) → tail_of tail ≡ tail → tail_of (spaced tail) ≡ tail
tail_spaced [] h = refl
tail_spaced (b ∷ tail) h = h

front_option : (m : Option (List ℕ)) → front (option_to_list m) ≡ m
front_option None = refl
front_option (Some x) = refl

drop_seam : (xs ys : List (List ℕ)) → drop (length xs) (xs ++ ys) ≡ ys
drop_seam [] ys = refl
drop_seam (x ∷ xs) ys = drop_seam xs ys

pub kind_is : (b : ℕ) (bs : List ℕ) (rest : List (List ℕ)) (tail : List ℕ) (kind : Kind) → ((dot : Kind) → by_byte (kinds dot) (fold_byte b) ≡ kind) → kind_of (with_tail ((b ∷ bs) ∷ rest) tail) ≡ kind
kind_is b bs [] tail kind h = h (word_in dot_words (first_field (with_tail ((b ∷ bs) ∷ []) tail)))
kind_is b bs (m ∷ ms) tail kind h = h (word_in dot_words (first_field (with_tail ((b ∷ bs) ∷ m ∷ ms) tail)))

-- a device that is printed is read again
pub device_again : (line b : ℕ) (bs : List ℕ) (nodes : List (List ℕ)) (model : Option (List ℕ)) (tail : List ℕ) → IsDevice b bs nodes model tail
    → IsReadAgain line (dev (record { name = b ∷ bs; nodes = nodes; model = model; tail = tail }))
device_again line b bs nodes model tail h =
    let rest = nodes ++ option_to_list model in
    let ns = (b ∷ bs) ∷ rest in
    let text = with_tail ns tail in
    let kind = device (length nodes) (length ns) in
    let l : Line = record { line = line; text = text } in
    let card = dev (record { name = b ∷ bs; nodes = nodes; model = model; tail = tail }) in
    let kind_e : kind_of text ≡ kind = kind_is b bs rest tail kind h.letter in
    let names_e : all_fields text ≡ ns ++ all_fields tail = names_are (b ∷ bs) rest tail h.names in
    let tail_e : tail_at kind (fields_of text) ≡ tail = ap tail_of (behind_is (b ∷ bs) rest tail h.names) ∙ tail_spaced tail h.normal in
    let names_e' : names_of kind (all_fields text) ≡ ns = ap (take (length ns)) names_e ∙ take-append_seam ns (all_fields tail) in
    let a : no_card l ≡ None = ap (λ k. no_card_by l k (all_fields text)) kind_e ∙ ap (no_card_by l kind) names_e ∙ no_fault l (length nodes) ns (all_fields tail) h.names in
    let p : has_parameters l ≡ None = ap (λ k. when (has_nodes k && list_any (λ x. eqb x 61) text) (parameters line)) kind_e in
    let q : has_long_tail l ≡ None =
    ap (λ k. tail_fault line (tail_at k (fields_of text))) kind_e ∙ ap (tail_fault line) tail_e ∙ ap (λ t. when t (long_tail line (length tail))) (le-ltb TAIL (length tail) h.short) in
    let last : card_by kind ns tail text ≡ card = rw (take-append_seam nodes (option_to_list model), drop_seam nodes (option_to_list model), front_option model) refl in
    let d : card_of text ≡ card =
    ap (λ k. card_by k (names_of k (all_fields text)) (tail_at k (fields_of text)) text) kind_e
    ∙ ap (λ xs. card_by kind xs (tail_at kind (fields_of text)) text) names_e' ∙ ap (λ t. card_by kind ns t text) tail_e ∙ last in
    all_none (no_card l) (has_parameters l) (has_long_tail l) (card_of text) card a p q d
