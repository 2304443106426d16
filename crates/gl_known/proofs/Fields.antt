-- How many fields a text has.
use Rattle.std.proofs.Common.{◌≡◌, ◌≤◌, ◌+◌, ℕ, suc, List, [], ◌∷◌, length, cond, ltb, Bool, true, false, refl, arith}
use Rattle.std.specs.Prelude.{filter}
use Rattle.std.proofs.lemmas.List.{length-map}
use Rattle.std.proofs.lemmas.Bool.{ltb-true}
use Rattle.gl_text.specs.LogicalLines.{Piece, onto, pieces_of, is_field, fields_of, is_separator, folded}
use Rattle.gl_text.specs.Cards.{all_fields}
use Rattle.gl_known.proofs.Totals.{total}

abbrev piece_size : Piece → ℕ
piece_size p = length p.bytes

onto_size : (b : ℕ) (ps : List Piece) → total piece_size (onto b ps) ≡ suc (total piece_size ps)
onto_size b [] = omega arith
onto_size b (p ∷ ps) = omega arith

pieces_by : (b : ℕ) (bs : List ℕ) (t : Bool) → total piece_size (pieces_of bs) ≤ length bs
    → total piece_size (cond t (record { bytes = []; behind = b ∷ bs } ∷ pieces_of bs) (onto b (pieces_of bs))) ≤ suc (length bs)
pieces_by b bs true h = omega arith
pieces_by b bs false h = let o = onto_size b (pieces_of bs) in omega arith

pieces_small : (text : List ℕ) → total piece_size (pieces_of text) ≤ length text
pieces_small [] = omega arith
pieces_small (b ∷ bs) = pieces_by b bs (is_separator b) (pieces_small bs)

fields_by : (p : Piece) (ps : List Piece) (t : Bool) → ltb 0 (length p.bytes) ≡ t → length (cond t (p ∷ ps) ps) ≤ length p.bytes + length ps
fields_by p ps true e = let s = ltb-true 0 (length p.bytes) e in omega arith
fields_by p ps false e = omega arith

fields_few : (ps : List Piece) → length (filter is_field ps) ≤ total piece_size ps
fields_few [] = omega arith
fields_few (p ∷ ps) = let f = fields_by p (filter is_field ps) (is_field p) refl in let h = fields_few ps in omega arith

-- a text has no more fields than bytes
pub all_fields_few : (text : List ℕ) → length (all_fields text) ≤ length text
all_fields_few text =
    let m = length-map (fields_of text) (λ (p : Piece). folded p.bytes) in let f = fields_few (pieces_of text) in let s = pieces_small text in omega arith
