-- From the fields that were found to the card of a text.
use Rattle.std.proofs.Common.{◌≡◌, ◌≤◌, ◌+◌, cond, ℕ, List, [], ◌∷◌, length, map, ltb, true, false, Bool, Option, Some, None, Result, Ok, Err, refl, sym, ap, ◌∙◌, arith}
use Rattle.std.specs.Prelude.{filter, IfOk, IfErr}
use Rattle.std.proofs.lemmas.Bool.{ltb-false}
use Rattle.std.proofs.lemmas.List.{length-map}
use Rattle.gl_text.specs.LogicalLines.{Fault, Line, Piece, fields_of, folded, is_field, is_separator, onto, pieces_of}
use Rattle.gl_text.specs.Cards as cards
use Rattle.gl_fault.proofs.AnswerLaws.{given, none_is, refused_behind}
use Rattle.gl_fault.proofs.FirstLaws.{or_else_ok}
use Rattle.gl_fault.specs.Refusals.{first_some, when, or_else}
use Rattle.gl_text.specs.Cards.{Kind, kind_of, card_by, card_of, names_of, tail_at, all_fields, no_card, no_card_by, needs}
use Rattle.gl_line.specs.declared.field.Field.{Field}
use Rattle.gl_line.specs.Fields.{piece_of}
use Rattle.gl_card.specs.declared.card.Card.{Card}
use Rattle.gl_card.specs.declared.fault.CardFault.{CardFault}
use Rattle.gl_card.specs.Kinds.{AreFields, shown, card_from}
use Rattle.gl_card.specs.Reading.{Refuses, GivesCard, card_value, fault_of}

shown_by : (text : List ℕ) (fields : List Field) → shown fields ≡ map (λ (p : Piece). folded p.bytes) (map (piece_of text) fields)
shown_by text [] = refl
shown_by text (f ∷ fs) = ap (λ ns. folded f.bytes.now ∷ ns) (shown_by text fs)

-- the names that all fields give
pub shown_is : (text : List ℕ) (fields : List Field) → AreFields text fields → shown fields ≡ all_fields text
shown_is text fields h = shown_by text fields ∙ ap (map (λ (p : Piece). folded p.bytes)) h

pub card_is : (k : Kind) (text : List ℕ) (fields : List Field) → AreFields text fields → k ≡ kind_of text → card_from k fields text ≡ card_of text
card_is k text fields h e =
    ap (λ ps. card_by k (names_of k (shown fields)) (tail_at k ps) text) h
    ∙ ap (λ ns. card_by k (names_of k ns) (tail_at k (fields_of text)) text) (shown_is text fields h)
    ∙ ap (λ j. card_by j (names_of j (all_fields text)) (tail_at j (fields_of text)) text) e

pub fault_is : (l : Line) (n : ℕ) (text : List ℕ) (k : Kind) (fields : List Field) → n ≡ l.line → text ≡ l.text → AreFields l.text fields → k ≡ kind_of l.text
    → no_card_by (record { line = n; text = text }) k (shown fields) ≡ no_card l
fault_is l n text k fields same_line same_text h e =
    ap (λ m. no_card_by (record { line = m; text = text }) k (shown fields)) same_line
    ∙ ap (λ t. no_card_by (record { line = l.line; text = t }) k (shown fields)) same_text
    ∙ ap (no_card_by l k) (shown_is l.text fields h) ∙ ap (λ j. no_card_by l j (all_fields l.text)) e

pub made : (l : Line) (c : Card) → no_card l ≡ None → card_value c ≡ card_of l.text → or_else (no_card l) (card_of l.text) ≡ Ok (card_value c)
made l c n e = ap (λ o. or_else o (card_of l.text)) n ∙ ap (λ x. Ok x) (sym e)

-- ---- how many fields there are

filter_few : (ps : List Piece) → length (filter is_field ps) ≤ length ps
filter_few [] = omega arith
filter_few (p ∷ ps) = by (is_field p) (filter_few ps) where
  by : (b : Bool) → length (filter is_field ps) ≤ length ps → length (cond b (p ∷ filter is_field ps) (filter is_field ps)) ≤ length (p ∷ ps)
  by true h = omega arith
  by false h = omega arith

onto_more : (b : ℕ) (ps : List Piece) (n : ℕ) → length ps ≤ n + 1 → length (onto b ps) ≤ n + 1
onto_more b [] n h = omega arith
onto_more b (p ∷ ps) n h = h

pieces_few : (text : List ℕ) → length (pieces_of text) ≤ length text + 1
pieces_few [] = omega arith
pieces_few (b ∷ bs) = by (is_separator b) (pieces_few bs) where
  by : (t : Bool) → length (pieces_of bs) ≤ length bs + 1 → length (cond t (record { bytes = []; behind = b ∷ bs } ∷ pieces_of bs) (onto b (pieces_of bs))) ≤ length (b ∷ bs) + 1
  by true h = omega arith
  by false h = let g = onto_more b (pieces_of bs) (length bs) h in omega arith

-- a text has at most one field more than bytes
pub text_fields_few : (text : List ℕ) → length (fields_of text) ≤ length text + 1
text_fields_few text =
    let b = filter_few (pieces_of text) in
    let c = pieces_few text in
    omega arith

-- and so have the fields that were found
pub fields_few : (text : List ℕ) (fields : List Field) → AreFields text fields → length fields ≤ length text + 1
fields_few text fields h =
    let same : length (map (piece_of text) fields) ≡ length (fields_of text) = ap length h in
    let a = length-map fields (piece_of text) in
    let b = text_fields_few text in
    omega arith

-- ---- where nothing is refused

few_by : (a b d : Option Fault) (t : Bool) (f : Fault) → first_some (a ∷ b ∷ when t f ∷ d ∷ []) ≡ None → t ≡ false
few_by None None d false f p = refl
few_by None None d true f p = absurd cc
few_by None (Some g) d t f p = absurd cc
few_by (Some g) b d t f p = absurd cc

-- where nothing is refused there are enough fields
pub enough : (l : Line) (k : Kind) (fields : List Field) (a b d : Option Fault) (f : Fault) → first_some (a ∷ b ∷ when (ltb (length (shown fields)) (needs k)) f ∷ d ∷ []) ≡ None → needs k ≤ length fields
enough l k fields a b d f p =
    let few = ltb-false (length (shown fields)) (needs k) (few_by a b d (ltb (length (shown fields)) (needs k)) f p) in
    omega (arith, few, length-map fields (λ (g : Field). folded g.bytes.now))

-- ---- later refusals

pub card_kept : (n : Option Fault) (x y : cards.Card) → or_else n x ≡ Ok y → y ≡ x
card_kept n x y p = sym (or_else_ok n x y p).1

pub later : (e : CardFault) (n : Option Fault) (x y : cards.Card) (more : List (Option Fault)) → or_else n x ≡ Ok y → Refuses (Some e) (first_some more) → GivesCard (Err e) (or_else (first_some (n ∷ more)) x)
later e n x y more p q = refused_behind (fault_of e) n x y more p (given fault_of e (first_some more) x q)

pub unrefused : (n : Option Fault) (x y : cards.Card) (more : List (Option Fault)) → or_else n x ≡ Ok y → Refuses None (first_some more) → or_else (first_some (n ∷ more)) x ≡ Ok y
unrefused (Some f) x y more p q = absurd cc
unrefused None x y more p q = ap (λ o. or_else o x) (none_is fault_of (first_some more) q) ∙ p

-- what is judged of a card that was read
pub judged_gives : (r : Result Card CardFault) (n : Option Fault) (x : cards.Card) (card : Card) (more : List (Option Fault)) → or_else n x ≡ Ok (card_value card)
    → IfOk r (λ kept. (kept ≡ card) × Refuses None (first_some more)) → IfErr r (λ fault. Refuses (Some fault) (first_some more)) → GivesCard r (or_else (first_some (n ∷ more)) x)
judged_gives (Ok kept) n x card more p q e = unrefused n x (card_value card) more p q.1 ∙ ap (λ c. Ok (card_value c)) (sym q.0)
judged_gives (Err fault) n x card more p q e = later fault n x (card_value card) more p e
