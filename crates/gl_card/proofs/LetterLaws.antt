-- A device's name begins with its letter.
use Rattle.std.proofs.Common.{◌≡◌, ◌≤◌, ℕ, List, [], ◌∷◌, length, cond, ltb, true, false, refl, ap, ◌∙◌, arith, inl, inr}
use Rattle.std.specs.Prelude.{filter, map}
use Rattle.std.proofs.lemmas.Bool.{cases_Bool, lt-ltb}
use Rattle.std.proofs.lemmas.Bool.Decides.{nat_tests}
use Rattle.gl_text.specs.LogicalLines.{Piece, is_separator, onto, pieces_of, is_field, fields_of, folded, fold_byte, head_bytes}
use Rattle.gl_text.specs.Cards.{first_byte, first_or, all_fields}
use Rattle.gl_line.specs.declared.field.Field.{Field}
use Rattle.gl_card.specs.declared.letter.Letter.{Letter}
use Rattle.gl_card.specs.declared.letter.Letter.TheVariants.{M, D, R, C, L, V, I}
use Rattle.gl_card.specs.declared.kind.Kind.{Kind}
use Rattle.gl_card.specs.declared.kind.Kind.TheVariants as kinds
use Rattle.gl_card.specs.Letters.{byte_of}
use Rattle.gl_card.specs.Kinds.{AreFields, IsLettered, IsLetteredField}
use Rattle.gl_card.proofs.ReadLaws.{shown_is}

high : (l : Letter) → 99 ≤ byte_of l
high M = omega arith
high D = omega arith
high R = omega arith
high C = omega arith
high L = omega arith
high V = omega arith
high I = omega arith

low_fold : (b : ℕ) → b ≤ 61 → fold_byte b ≤ 61
low_fold b h = grind (arith, nat_tests)

low_separator : (b : ℕ) → is_separator b ≡ true → b ≤ 61
low_separator b h = grind (arith, nat_tests)

plain : (l : Letter) (b : ℕ) → fold_byte b ≡ byte_of l → is_separator b ≡ false
plain l b e = elim (cases_Bool (is_separator b)) [
  | inl t ↦ absurd (let low = low_fold b (low_separator b t) in let up = high l in omega arith)
  | inr f ↦ f
]

head-onto : (x : ℕ) (ps : List Piece) → head_bytes (filter is_field (onto x ps)) ≡ x ∷ head_bytes ps
head-onto x [] = refl
head-onto x (p ∷ ps) =
    let some : ltb 0 (length (x ∷ p.bytes)) ≡ true = lt-ltb 0 (length (x ∷ p.bytes)) (omega arith) in
    ap (λ t. head_bytes (cond t (record p { bytes = x ∷ p.bytes } ∷ filter is_field ps) (filter is_field ps))) some

head_first : (b : ℕ) (bs : List ℕ) → is_separator b ≡ false → head_bytes (fields_of (b ∷ bs)) ≡ b ∷ head_bytes (pieces_of bs)
head_first b bs h = ap (λ t. head_bytes (filter is_field (cond t (record { bytes = []; behind = b ∷ bs } ∷ pieces_of bs) (onto b (pieces_of bs))))) h ∙ head-onto b (pieces_of bs)

first_by : (ps : List Piece) → first_or [] (map (λ (p : Piece). folded p.bytes) ps) ≡ folded (head_bytes ps)
first_by [] = refl
first_by (p ∷ ps) = refl

no_letter : (l : Letter) → 0 ≡ byte_of l → ⊥
no_letter l e = let up = high l in omega arith

begins_by : (l : Letter) (text : List ℕ) → fold_byte (first_byte text) ≡ byte_of l → first_byte (first_or [] (all_fields text)) ≡ byte_of l
begins_by l [] e = absurd (no_letter l e)
begins_by l (b ∷ bs) e = ap first_byte (first_by (fields_of (b ∷ bs))) ∙ ap (λ t. first_byte (folded t)) (head_first b bs (plain l b e)) ∙ e

pub lettered : (k : Kind) (text : List ℕ) (fields : List Field) → AreFields text fields → IsLettered k text → IsLetteredField k fields
lettered (kinds.Device l) text fields h e = ap (λ ns. first_byte (first_or [] ns)) (shown_is text fields h) ∙ begins_by l text e
lettered kinds.Call text fields h e = tt
lettered kinds.Model text fields h e = tt
lettered kinds.Subckt text fields h e = tt
lettered kinds.Ends text fields h e = tt
lettered kinds.Global text fields h e = tt
lettered kinds.End text fields h e = tt
lettered kinds.Control text fields h e = tt
lettered kinds.Other text fields h e = tt
lettered kinds.Unknown text fields h e = tt
