-- Fields of a text: each is plain, and together they are no longer than the text.
use Rattle.std.proofs.Common.{◌≡◌, ◌≤◌, ◌+◌, ℕ, suc, List, [], ◌∷◌, length, map, filter, cond, eqb, ltb, true, false, Bool, refl, ap, ◌∙◌, arith, length-append, lt-ltb}
use Rattle.std.specs.List.{AllByRecursion, join_with_byte}
use Rattle.std.proofs.lemmas.List.{length-map}
use Rattle.gl_text.specs.LogicalLines.{Piece, onto, pieces_of, is_field, fields_of, is_blank, is_separator, fold_byte, folded, put_back, trim_end, head_bytes, first_field}
use Rattle.gl_text.specs.Cards.{all_fields}
use Rattle.gl_text.specs.WayBack.{IsOneLine}
use Rattle.gl_lists.proofs.Each.{by_cond, each_both, each_filter, each_map, each_passes, each_to}
use Rattle.gl_printed.proofs.Bytes.{Plain, folded_line, folded_plain, folded_twice, plain_no_blank}

-- ---- what holds of each byte holds of each piece

abbrev pub Holds : (ℕ → Type 0) → Piece → Type 0
Holds Q p = AllByRecursion Q p.bytes × AllByRecursion Q p.behind

onto_holds : (Q : ℕ → Type 0) (b : ℕ) → Q b → (ps : List Piece) → AllByRecursion (Holds Q) ps → AllByRecursion (Holds Q) (onto b ps)
onto_holds Q b q [] h = (((q, tt), tt), tt)
onto_holds Q b q (p ∷ ps) h = (((q, h.0.0), h.0.1), h.1)

pieces_hold : (Q : ℕ → Type 0) (text : List ℕ) → AllByRecursion Q text → AllByRecursion (Holds Q) (pieces_of text)
pieces_hold Q [] h = ((tt, tt), tt)
pieces_hold Q (b ∷ bs) h = by_cond (AllByRecursion (Holds Q)) (is_separator b) (record { bytes = []; behind = b ∷ bs } ∷ pieces_of bs) (onto b (pieces_of bs))
    (λ e. ((tt, h), pieces_hold Q bs h.1)) (λ e. onto_holds Q b h.0 (pieces_of bs) (pieces_hold Q bs h.1))

pub fields_hold : (Q : ℕ → Type 0) (text : List ℕ) → AllByRecursion Q text → AllByRecursion (Holds Q) (fields_of text)
fields_hold Q text h = each_filter (Holds Q) is_field (pieces_of text) (pieces_hold Q text h)

-- ---- each is plain

abbrev IsPlain : Piece → Type 0
IsPlain p = Plain p.bytes

onto_plain : (b : ℕ) → is_separator b ≡ false → (ps : List Piece) → AllByRecursion IsPlain ps → AllByRecursion IsPlain (onto b ps)
onto_plain b q [] h = ((q, tt), tt)
onto_plain b q (p ∷ ps) h = ((q, h.0), h.1)

pieces_plain : (text : List ℕ) → AllByRecursion IsPlain (pieces_of text)
pieces_plain [] = (tt, tt)
pieces_plain (b ∷ bs) = by_cond (AllByRecursion IsPlain) (is_separator b) (record { bytes = []; behind = b ∷ bs } ∷ pieces_of bs) (onto b (pieces_of bs))
    (λ e. (tt, pieces_plain bs)) (λ e. onto_plain b e (pieces_of bs) (pieces_plain bs))

-- a name but for its length
pub record IsWord (n : List ℕ) : Type 0 where
  pub some : ltb 0 (length n) ≡ true
  pub plain : Plain n
  pub small : folded n ≡ n

word_of : (p : Piece) → IsPlain p → is_field p ≡ true → IsWord (folded p.bytes)
word_of p h f = record { some = ap (ltb 0) (length-map p.bytes fold_byte) ∙ f; plain = folded_plain p.bytes h; small = folded_twice p.bytes }

pub fields_words : (text : List ℕ) → AllByRecursion IsWord (all_fields text)
fields_words text = each_map IsWord (λ (p : Piece). folded p.bytes) (fields_of text)
    (each_both IsPlain (λ p. is_field p ≡ true) (λ (p : Piece). IsWord (folded p.bytes)) word_of (fields_of text) (each_filter IsPlain is_field (pieces_of text) (pieces_plain text)) (each_passes is_field (pieces_of text)))

pub fields_lines : (text : List ℕ) → IsOneLine text → AllByRecursion IsOneLine (all_fields text)
fields_lines text h = each_map IsOneLine (λ (p : Piece). folded p.bytes) (fields_of text)
    (each_to (Holds (λ b. eqb b 10 ≡ false)) (λ (p : Piece). IsOneLine (folded p.bytes)) (λ p q. folded_line p.bytes q.0) (fields_of text) (fields_hold (λ b. eqb b 10 ≡ false) text h))

-- ---- the first field

-- the bytes up to the first separator
pub run : List ℕ → List ℕ
run [] = []
run (b ∷ bs) = cond (is_separator b) [] (b ∷ run bs)

head_onto : (b : ℕ) (ps : List Piece) → head_bytes (onto b ps) ≡ b ∷ head_bytes ps
head_onto b [] = refl
head_onto b (p ∷ ps) = refl

head_run : (text : List ℕ) → head_bytes (pieces_of text) ≡ run text
unfolding run
head_run [] = refl
head_run (b ∷ bs) = by (is_separator b) (head_run bs) where
  by : (t : Bool) → head_bytes (pieces_of bs) ≡ run bs → head_bytes (cond t (record { bytes = []; behind = b ∷ bs } ∷ pieces_of bs) (onto b (pieces_of bs))) ≡ cond t [] (b ∷ run bs)
  by true e = refl
  by false e = head_onto b (pieces_of bs) ∙ ap (λ xs. b ∷ xs) e

-- trimming the end leaves the first run
pub run_end : (text : List ℕ) → run (trim_end is_blank text) ≡ run text
unfolding run
run_end [] = refl
run_end (b ∷ bs) = by (trim_end is_blank bs) (run_end bs) (is_separator b) refl where
  by : (ys : List ℕ) → run ys ≡ run bs → (t : Bool) → is_separator b ≡ t → run (put_back is_blank b ys) ≡ cond t [] (b ∷ run bs)
  by [] e true s = by_cond (λ zs. run zs ≡ []) (is_blank b) [] (b ∷ []) (λ f. refl) (λ f. ap (λ t. cond t [] (b ∷ [])) s)
  by [] e false s = ap (λ t. run (cond t [] (b ∷ []))) (plain_no_blank b s) ∙ ap (λ t. cond t [] (b ∷ [])) s ∙ ap (λ xs. b ∷ xs) e
  by (y ∷ ys) e true s = ap (λ t. cond t [] (b ∷ run (y ∷ ys))) s
  by (y ∷ ys) e false s = ap (λ t. cond t [] (b ∷ run (y ∷ ys))) s ∙ ap (λ xs. b ∷ xs) e

behind_first : List Piece → List Piece
behind_first [] = []
behind_first (p ∷ ps) = ps

head_behind : List Piece → List ℕ
head_behind [] = []
head_behind (p ∷ ps) = p.behind

some : (b : ℕ) (bs : List ℕ) → ltb 0 (length (b ∷ bs)) ≡ true
some b bs = lt-ltb 0 (length (b ∷ bs)) (omega arith)

first_onto : (b : ℕ) (ps : List Piece) → filter is_field (onto b ps) ≡ record { bytes = b ∷ head_bytes ps; behind = head_behind ps } ∷ filter is_field (behind_first ps)
unfolding behind_first head_behind
first_onto b [] = ap (λ t. cond t (record { bytes = b ∷ []; behind = [] } ∷ []) []) (some b [])
first_onto b (p ∷ ps) = ap (λ t. cond t (record { bytes = b ∷ p.bytes; behind = p.behind } ∷ filter is_field ps) (filter is_field ps)) (some b p.bytes)

-- the fields behind the first
pub later : List ℕ → List (List ℕ)
later bs = map (λ (p : Piece). folded p.bytes) (filter is_field (behind_first (pieces_of bs)))

first_piece : (b : ℕ) (bs : List ℕ) → is_separator b ≡ false → fields_of (b ∷ bs) ≡ record { bytes = b ∷ run bs; behind = head_behind (pieces_of bs) } ∷ filter is_field (behind_first (pieces_of bs))
first_piece b bs h = ap (λ t. filter is_field (cond t (record { bytes = []; behind = b ∷ bs } ∷ pieces_of bs) (onto b (pieces_of bs)))) h
    ∙ first_onto b (pieces_of bs) ∙ ap (λ xs. record { bytes = b ∷ xs; behind = head_behind (pieces_of bs) } ∷ filter is_field (behind_first (pieces_of bs))) (head_run bs)

pub first_is : (b : ℕ) (bs : List ℕ) → is_separator b ≡ false → all_fields (b ∷ bs) ≡ folded (b ∷ run bs) ∷ later bs
unfolding later
first_is b bs h = ap (map (λ (p : Piece). folded p.bytes)) (first_piece b bs h)

pub first_field_is : (b : ℕ) (bs : List ℕ) → is_separator b ≡ false → first_field (b ∷ bs) ≡ folded (b ∷ run bs)
first_field_is b bs h = ap (λ ps. folded (head_bytes ps)) (first_piece b bs h)

-- ---- lengths

weight : List Piece → ℕ
weight [] = 0
weight (p ∷ ps) = suc (length p.bytes) + weight ps

weight_onto : (b : ℕ) (ps : List Piece) (n : ℕ) → weight ps ≡ suc n → weight (onto b ps) ≡ suc (suc n)
unfolding weight
weight_onto b [] n h = absurd (omega arith)
weight_onto b (p ∷ ps) n h = omega arith

weight_pieces : (text : List ℕ) → weight (pieces_of text) ≡ suc (length text)
unfolding weight
weight_pieces [] = refl
weight_pieces (b ∷ bs) = let ih = weight_pieces bs in by_cond (λ ps. weight ps ≡ suc (length (b ∷ bs))) (is_separator b) (record { bytes = []; behind = b ∷ bs } ∷ pieces_of bs) (onto b (pieces_of bs))
    (λ e. omega arith) (λ e. weight_onto b (pieces_of bs) (length bs) ih)

weight_filter : (t : Piece → Bool) (ps : List Piece) → weight (filter t ps) ≤ weight ps
unfolding weight
weight_filter t [] = omega arith
weight_filter t (p ∷ ps) = let ih = weight_filter t ps in by_cond (λ qs. weight qs ≤ weight (p ∷ ps)) (t p) (p ∷ filter t ps) (filter t ps) (λ e. omega arith) (λ e. omega arith)

abbrev shown : List Piece → List (List ℕ)
shown ps = map (λ (p : Piece). folded p.bytes) ps

weight_some : (p : Piece) (ps : List Piece) → suc (length (join_with_byte 32 (shown (p ∷ ps)))) ≡ weight (p ∷ ps)
unfolding weight
weight_some p [] = let e = length-map p.bytes fold_byte in omega arith
weight_some p (q ∷ ps) = let e = length-map p.bytes fold_byte in let ih = weight_some q ps in let f = length-append (folded p.bytes) (32 ∷ join_with_byte 32 (shown (q ∷ ps))) in omega arith

-- joined by one space, the fields are no longer than the text
pub joined_shorter : (text : List ℕ) → length (join_with_byte 32 (all_fields text)) ≤ length text
joined_shorter text = by (fields_of text) (weight_filter is_field (pieces_of text)) where
  by : (ps : List Piece) → weight ps ≤ weight (pieces_of text) → length (join_with_byte 32 (shown ps)) ≤ length text
  by [] l = omega arith
  by (p ∷ ps) l = let e = weight_some p ps in let f = weight_pieces text in omega arith
