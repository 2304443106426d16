-- How long a card's tail is.
use Rattle.std.proofs.Common.{◌≡◌, ◌≤◌, ℕ, zero, suc, List, [], ◌∷◌, length, cond, true, false, Bool, refl, ap, ◌∙◌, arith}
use Rattle.std.specs.Prelude.{filter}
use Rattle.std.specs.List.{AllByRecursion}
use Rattle.gl_text.specs.LogicalLines.{Piece, is_separator, is_field, onto, pieces_of, fields_of}
use Rattle.gl_text.specs.Cards.{Card, dev, model, Kind, device, caller, modelling, opening, closing, globals, ending, control, other, unknown, kind_of, card_by, card_of, names_of, tail_at, all_fields, behind}
use Rattle.gl_text.proofs.Trims.{tail_shorter}

-- a card's own tail
abbrev pub tail_of_card : Card → List ℕ
tail_of_card (dev d) = d.tail
tail_of_card (model m) = m.tail
tail_of_card _ = []

-- ---- the text behind a field

abbrev Within : ℕ → List Piece → Type 0
Within n ps = AllByRecursion (λ (p : Piece). length p.behind ≤ n) ps

wider : (n m : ℕ) (ps : List Piece) → n ≤ m → Within n ps → Within m ps
wider n m [] h w = tt
wider n m (p ∷ ps) h w = (omega (arith, h, w.0), wider n m ps h w.1)

onto_within : (n b : ℕ) (ps : List Piece) → Within n ps → Within n (onto b ps)
onto_within n b [] w = (omega arith, tt)
onto_within n b (p ∷ ps) w = w

pieces_by : (t : Bool) (b : ℕ) (bs : List ℕ) → Within (length bs) (pieces_of bs) → Within (length (b ∷ bs)) (cond t (record { bytes = []; behind = b ∷ bs } ∷ pieces_of bs) (onto b (pieces_of bs)))
pieces_by true b bs w = (omega arith, wider (length bs) (length (b ∷ bs)) (pieces_of bs) (omega arith) w)
pieces_by false b bs w = onto_within (length (b ∷ bs)) b (pieces_of bs) (wider (length bs) (length (b ∷ bs)) (pieces_of bs) (omega arith) w)

pieces_within : (bs : List ℕ) → Within (length bs) (pieces_of bs)
pieces_within [] = (omega arith, tt)
pieces_within (b ∷ bs) = pieces_by (is_separator b) b bs (pieces_within bs)

filter_by : (n : ℕ) (t : Bool) (p : Piece) (ps qs : List Piece) → length p.behind ≤ n → Within n qs → Within n (cond t (p ∷ qs) qs)
filter_by n true p ps qs h w = (h, w)
filter_by n false p ps qs h w = w

filter_within : (n : ℕ) (ps : List Piece) → Within n ps → Within n (filter is_field ps)
filter_within n [] w = tt
filter_within n (p ∷ ps) w = filter_by n (is_field p) p ps (filter is_field ps) w.0 (filter_within n ps w.1)

behind_short : (n k : ℕ) (ps : List Piece) → Within n ps → length (behind k ps) ≤ n
behind_short n zero ps w = omega arith
behind_short n (suc k) [] w = omega arith
behind_short n (suc zero) (p ∷ ps) w = w.0
behind_short n (suc (suc k)) (p ∷ ps) w = behind_short n (suc k) ps w.1

tail_at_short : (k : Kind) (text : List ℕ) → length (tail_at k (fields_of text)) ≤ length text
tail_at_short (device nodes count) text =
    let h = behind_short (length text) count (fields_of text) (filter_within (length text) (pieces_of text) (pieces_within text)) in
    let g = tail_shorter (behind count (fields_of text)) in
    omega arith
tail_at_short modelling text =
    let h = behind_short (length text) 3 (fields_of text) (filter_within (length text) (pieces_of text) (pieces_within text)) in
    let g = tail_shorter (behind 3 (fields_of text)) in
    omega arith
tail_at_short caller text = omega arith
tail_at_short opening text = omega arith
tail_at_short closing text = omega arith
tail_at_short globals text = omega arith
tail_at_short ending text = omega arith
tail_at_short control text = omega arith
tail_at_short other text = omega arith
tail_at_short unknown text = omega arith

tail_by : (k : Kind) (names : List (List ℕ)) (fields : List Piece) (text : List ℕ) → tail_of_card (card_by k names (tail_at k fields) text) ≡ tail_at k fields
tail_by (device nodes count) names fields text = refl
tail_by modelling names fields text = refl
tail_by caller names fields text = refl
tail_by opening names fields text = refl
tail_by closing names fields text = refl
tail_by globals names fields text = refl
tail_by ending names fields text = refl
tail_by control names fields text = refl
tail_by other names fields text = refl
tail_by unknown names fields text = refl

-- a card's tail is no longer than its text
pub card_tail_short : (c : Card) (text : List ℕ) → c ≡ card_of text → length (tail_of_card c) ≤ length text
card_tail_short c text e =
    let same : tail_of_card c ≡ tail_at (kind_of text) (fields_of text) = ap tail_of_card e ∙ tail_by (kind_of text) (names_of (kind_of text) (all_fields text)) (fields_of text) text in
    let short = tail_at_short (kind_of text) text in
    rw same short
