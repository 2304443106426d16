-- Pieces between commas, a byte more at a time.
use Rattle.std.proofs.Common.{◌≡◌, ◌++◌, ℕ, List, [], ◌∷◌, Bool, true, false, map, refl, ap, sym, ◌∙◌, append-nil, append_assoc}
use Rattle.std.specs.Prelude.{◌==◌, if◌then◌else◌}
use Rattle.gl_text.specs.LogicalLines.{folded}
use Rattle.gl_words.specs.Pieces.{onto_first, pieces}

-- there is a first piece
some_pieces : (bytes : List ℕ) → onto_first [] (pieces bytes) ≡ pieces bytes
some_pieces [] = refl
some_pieces (byte ∷ bytes) = by (byte == 44) where
  onto_none : (ps : List (List ℕ)) → onto_first [] (onto_first (byte ∷ []) ps) ≡ onto_first (byte ∷ []) ps
  onto_none [] = refl
  onto_none (p ∷ ps) = refl

  by : (comma : Bool) → onto_first [] (if comma then [] ∷ pieces bytes else onto_first (byte ∷ []) (pieces bytes)) ≡ (if comma then [] ∷ pieces bytes else onto_first (byte ∷ []) (pieces bytes))
  by true = refl
  by false = onto_none (pieces bytes)

pub begin : (bytes : List ℕ) → map folded (onto_first [] (pieces bytes)) ≡ map folded (pieces bytes)
begin bytes = ap (map folded) (some_pieces bytes)

-- a comma ends the piece
pub comma_step : (byte : ℕ) (names : List (List ℕ)) (piece bytes : List ℕ) → (byte == 44) ≡ true
    → (names ++ folded piece ∷ []) ++ map folded (onto_first [] (pieces bytes)) ≡ names ++ map folded (onto_first piece (pieces (byte ∷ bytes)))
comma_step byte names piece bytes is =
    let cut : pieces (byte ∷ bytes) ≡ [] ∷ pieces bytes = ap (λ (comma : Bool). if comma then [] ∷ pieces bytes else onto_first (byte ∷ []) (pieces bytes)) is in
    append_assoc names (folded piece ∷ []) (map folded (onto_first [] (pieces bytes)))
    ∙ ap (λ (ps : List (List ℕ)). names ++ folded piece ∷ map folded ps) (some_pieces bytes)
    ∙ ap (λ (p : List ℕ). names ++ folded p ∷ map folded (pieces bytes)) (sym (append-nil piece))
    ∙ ap (λ (ps : List (List ℕ)). names ++ map folded (onto_first piece ps)) (sym cut)

-- any other byte stands in it
onto_both : (a b : List ℕ) (ps : List (List ℕ)) → onto_first (a ++ b) ps ≡ onto_first a (onto_first b ps)
onto_both a b [] = refl
onto_both a b (p ∷ ps) = ap (λ (q : List ℕ). q ∷ ps) (append_assoc a b p)

pub other_step : (byte : ℕ) (names : List (List ℕ)) (piece bytes : List ℕ) → (byte == 44) ≡ false
    → names ++ map folded (onto_first (piece ++ byte ∷ []) (pieces bytes)) ≡ names ++ map folded (onto_first piece (pieces (byte ∷ bytes)))
other_step byte names piece bytes is =
    let more : pieces (byte ∷ bytes) ≡ onto_first (byte ∷ []) (pieces bytes) = ap (λ (comma : Bool). if comma then [] ∷ pieces bytes else onto_first (byte ∷ []) (pieces bytes)) is in
    ap (λ (ps : List (List ℕ)). names ++ map folded ps) (onto_both piece (byte ∷ []) (pieces bytes))
    ∙ ap (λ (ps : List (List ℕ)). names ++ map folded (onto_first piece ps)) (sym more)

-- the last piece ends with the text
pub finish : (names : List (List ℕ)) (piece text : List ℕ) → names ++ map folded (onto_first piece (pieces [])) ≡ map folded (pieces (text ++ [])) → names ++ folded piece ∷ [] ≡ map folded (pieces text)
finish names piece text h =
    ap (λ (p : List ℕ). names ++ folded p ∷ []) (sym (append-nil piece)) ∙ h ∙ ap (λ (t : List ℕ). map folded (pieces t)) (append-nil text)
