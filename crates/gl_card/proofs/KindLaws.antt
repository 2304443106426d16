-- The kind of a dot card.
use Rattle.std.proofs.Common.{◌≡◌, ℕ, List, [], ◌∷◌, Some, refl, sym, ap, ◌∙◌}
use Rattle.std.specs.Prelude.{slice_get}
use Rattle.gl_text.specs.LogicalLines.{first_field, fold_byte, folded, head_bytes}
use Rattle.gl_text.specs.Cards.{Kind, kind_of, kinds, by_byte, word_in, dot_words}
use Rattle.gl_line.specs.declared.field.Field.{Field}
use Rattle.gl_line.specs.Fields.{piece_of}
use Rattle.std.specs.Prelude.{map}
use Rattle.gl_card.specs.Kinds.{AreFields, first_bytes}

first_by : (text : List ℕ) (fields : List Field) → first_bytes fields ≡ head_bytes (map (piece_of text) fields)
first_by text [] = refl
first_by text (f ∷ fs) = refl

-- the first field by the fields that were found
first_is : (text : List ℕ) (fields : List Field) → AreFields text fields → folded (first_bytes fields) ≡ first_field text
first_is text fields h = ap folded (first_by text fields ∙ ap head_bytes h)

pub dot_is : (text : List ℕ) (fields : List Field) (x : ℕ) (k : Kind) → AreFields text fields → Some x ≡ slice_get text 0 → fold_byte x ≡ 46
    → k ≡ word_in dot_words (folded (first_bytes fields)) → k ≡ kind_of text
dot_is [] fields x k h e f g = absurd cc
dot_is (b ∷ bs) fields x k h e f g =
    let same : x ≡ b = cc in
    let dot : fold_byte b ≡ 46 = ap fold_byte (sym same) ∙ f in
    g ∙ ap (word_in dot_words) (first_is (b ∷ bs) fields h) ∙ ap (by_byte (kinds (word_in dot_words (first_field (b ∷ bs))))) (sym dot)
