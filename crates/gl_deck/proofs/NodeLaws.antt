-- How many nodes an X card has, and how many ports a head.
use Rattle.std.proofs.Common.{◌≡◌, ◌<◌, ◌≤◌, ◌^◌, ℕ, List, [], ◌∷◌, length, drop, sym, subst, arith}
use Rattle.std.proofs.lemmas.List.{length-map}
use Rattle.gl_text.specs.LogicalLines.{LINE, Piece, fields_of, folded}
use Rattle.gl_text.specs.Cards.{Kind, device, caller, modelling, opening, closing, globals, ending, control, other, unknown, Card, kind_of, names_of, tail_at, card_by, card_of, all_fields, but_last}
use Rattle.gl_card.proofs.ReadLaws.{text_fields_few}
use Rattle.gl_deck.specs.Cards.{IsCountable}

but_last_few : {A : Type 0} (xs : List A) → length (but_last xs) ≤ length xs
but_last_few [] = omega arith
but_last_few (x ∷ []) = omega arith
but_last_few (x ∷ y ∷ ys) = let rest = but_last_few (y ∷ ys) in omega arith

behind_few : {A : Type 0} (xs : List A) → length (drop 1 xs) ≤ length xs
behind_few [] = omega arith
behind_few (x ∷ xs) = omega arith

few_by : (k : Kind) (fields : List (List ℕ)) (tail text : List ℕ) → length fields < 2 ^ 32 → IsCountable (card_by k (names_of k fields) tail text)
few_by (device nodes count) fields tail text h = tt
few_by caller fields tail text h =
    let a = but_last_few (drop 1 fields) in
    let b = behind_few fields in
    omega arith
few_by modelling fields tail text h = tt
few_by opening fields tail text h =
    let a = behind_few (drop 1 fields) in
    let b = behind_few fields in
    omega arith
few_by closing fields tail text h = tt
few_by globals fields tail text h = tt
few_by ending fields tail text h = tt
few_by control fields tail text h = tt
few_by other fields tail text h = tt
few_by unknown fields tail text h = tt

pub countable : (text : List ℕ) (card : Card) → length text ≤ LINE → card ≡ card_of text → IsCountable card
countable text card h e =
    let same = length-map (fields_of text) (λ (p : Piece). folded p.bytes) in
    let few = text_fields_few text in
    let all : length (all_fields text) < 2 ^ 32 = omega arith in
    subst IsCountable (sym e) (few_by (kind_of text) (all_fields text) (tail_at (kind_of text) (fields_of text)) text all)
