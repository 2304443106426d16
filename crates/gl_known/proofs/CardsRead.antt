-- A card that was read is no larger than its text.
use Rattle.gl_fault.proofs.FirstLaws.{none_of, when_none}
use Rattle.gl_fault.specs.Refusals.{first_some, when}
use Rattle.std.proofs.Common.{◌≡◌, ◌≤◌, ◌+◌, ℕ, List, [], ◌∷◌, length, take, drop, map, ltb, None, arith}
use Rattle.std.proofs.lemmas.List.{length-drop, length-take}
use Rattle.std.proofs.lemmas.Bool.{ltb-false}
use Rattle.gl_text.specs.LogicalLines.{NAME, long_name, unknown_card, short_card, control_block, Line, fold_byte, fields_of, first_field}
use Rattle.gl_text.specs.Cards.{Card, dev, call, model, subckt, global, passed, Kind, device, caller, modelling, opening, closing, globals, word_in, dot_words, kind_of, needs, names_of, tail_at, all_fields, card_by, card_of, but_last, first_byte, is_unknown, is_control, no_card, no_card_by}
use Rattle.gl_known.proofs.Fields.{all_fields_few}
use Rattle.gl_known.proofs.CardKinds.{Right, dot_is_none, kind_is_right}

-- ---- what was not refused

-- a card has the fields that its kind needs
enough_by : (l : Line) (kind : Kind) (fields : List (List ℕ)) → no_card_by l kind fields ≡ None → needs kind ≤ length fields
enough_by l kind fields h =
    let none = none_of (first_some (map (λ (n : List ℕ). when (ltb NAME (length n)) (long_name l.line (length n))) (names_of kind fields))
    ∷ when (is_unknown kind) (unknown_card l.line (first_byte l.text))
    ∷ when (ltb (length fields) (needs kind)) (short_card l.line (length fields) (needs kind))
    ∷ when (is_control kind) (control_block l.line) ∷ []) h in
    ltb-false (length fields) (needs kind) (when_none (ltb (length fields) (needs kind)) (short_card l.line (length fields) (needs kind)) none.1.1.0)

enough : (l : Line) → no_card l ≡ None → needs (kind_of l.text) ≤ length (all_fields l.text)
enough l h = enough_by l (kind_of l.text) (all_fields l.text) h

-- ---- sizes

abbrev pub global_size : Card → ℕ
global_size (global names) = length names
global_size _ = 0

abbrev pub model_size : Card → ℕ
model_size (model m) = 1
model_size _ = 0

abbrev pub head_size : Card → ℕ
head_size (subckt h) = length h.ports + 1
head_size _ = 0

abbrev pub node_size : Card → ℕ
node_size (dev d) = length d.nodes + 1
node_size (call c) = length c.nodes + 1
node_size _ = 0

abbrev pub passed_size : Card → ℕ
passed_size (passed text) = 1
passed_size _ = 0

-- what a card adds to a deck
abbrev pub card_size : Card → ℕ
card_size c = global_size c + model_size c + head_size c + node_size c + passed_size c

but_last_length : (xs : List (List ℕ)) → length (but_last xs) ≤ length xs
but_last_length [] = omega arith
but_last_length (x ∷ []) = omega arith
but_last_length (x ∷ y ∷ ys) = let h = but_last_length (y ∷ ys) in omega arith

size_by : (kind : Kind) (fields : List (List ℕ)) (tail text : List ℕ) → Right kind → needs kind ≤ length fields → card_size (card_by kind (names_of kind fields) tail text) ≤ length fields
size_by (device nodes count) fields tail text right h =
    let t = length-take nodes (drop 1 (take count fields)) in
    let d = length-drop 1 (take count fields) in
    let c = length-take count fields in
    omega (arith, right.0)
size_by caller fields tail text right h = let b = but_last_length (drop 1 fields) in let d = length-drop 1 fields in omega arith
size_by modelling fields tail text right h = omega arith
size_by opening fields tail text right h = let e = length-drop 1 (drop 1 fields) in let d = length-drop 1 fields in omega arith
size_by closing fields tail text right h = omega arith
size_by globals fields tail text right h = let d = length-drop 1 fields in omega arith
size_by _ fields tail text right h = omega arith

kind_right : (text : List ℕ) → Right (kind_of text)
kind_right [] = tt
kind_right (b ∷ bs) = kind_is_right (word_in dot_words (first_field (b ∷ bs))) (fold_byte b) (dot_is_none (first_field (b ∷ bs)))

card_small : (text : List ℕ) → needs (kind_of text) ≤ length (all_fields text) → card_size (card_of text) ≤ length text
card_small text h =
    let s = size_by (kind_of text) (all_fields text) (tail_at (kind_of text) (fields_of text)) text (kind_right text) h in
    let f = all_fields_few text in
    omega arith

-- the card of a line is no larger than its text
pub card_read : (l : Line) → no_card l ≡ None → card_size (card_of l.text) ≤ length l.text
card_read l h = card_small l.text (enough l h)
