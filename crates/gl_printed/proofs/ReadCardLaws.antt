-- Cards that were read are fine.
use Rattle.std.proofs.Common.{◌≡◌, ◌≤◌, ℕ, zero, suc, List, [], ◌∷◌, length, take, eqb, ltb, false, None, Ok, refl, sym, ap, ◌∙◌, subst, arith, length-take-le, ltb-false}
use Rattle.std.specs.List.{AllByRecursion}
use Rattle.gl_text.specs.LogicalLines.{LINE, TAIL, long_tail, Line, Piece, is_separator, fold_byte, fields_of, first_field, tail_of}
use Rattle.gl_text.specs.Cards.{Card, Kind, device, caller, modelling, opening, closing, globals, ending, control, other, unknown, kinds, by_byte, kind_of, names_of, tail_at, behind, first_or, card_by, card_of, all_fields, first_byte, no_card_by, read_card}
use Rattle.gl_text.proofs.TailLaws.{tail_again}
use Rattle.gl_text.specs.WayBack.{IsOneLine}
use Rattle.gl_printed.specs.ReadCards.{IsFine}
use Rattle.gl_lists.proofs.Each.{each_take}
use Rattle.gl_printed.proofs.Bytes.{each_tail}
use Rattle.gl_printed.proofs.Fields.{Holds, IsWord, fields_hold, fields_lines, fields_words, first_field_is, first_is}
use Rattle.gl_printed.proofs.KindTables.{Shaped, kind_shaped, letter_is, start_is, word_wanted}
use Rattle.gl_fault.proofs.FirstLaws.{when_none}
use Rattle.gl_printed.proofs.Refusals.{HasCard, has_card, read_as}
use Rattle.gl_printed.proofs.FineByKind.{IsTail, call_fine, device_fine, ended_fine, ends_fine, fields_are, global_fine, kind_end, model_fine, passed_fine, subckt_fine}

each_behind : (Q : ℕ → Type 0) (k : ℕ) (ps : List Piece) → AllByRecursion (Holds Q) ps → AllByRecursion Q (behind k ps)
each_behind Q zero ps h = tt
each_behind Q (suc k) [] h = tt
each_behind Q (suc zero) (p ∷ ps) h = h.0.1
each_behind Q (suc (suc k)) (p ∷ ps) h = each_behind Q (suc k) ps h.1

tail_is : (k : ℕ) (text : List ℕ) → IsOneLine text → length (tail_of (behind k (fields_of text))) ≤ TAIL → IsTail (tail_of (behind k (fields_of text)))
tail_is k text o s = record { normal = tail_again (behind k (fields_of text)); line = each_tail (λ b. eqb b 10 ≡ false) refl (behind k (fields_of text)) (each_behind (λ b. eqb b 10 ≡ false) k (fields_of text) (fields_hold (λ b. eqb b 10 ≡ false) text o)); short = s }

first_take : (m : ℕ) (fs : List (List ℕ)) → 1 ≤ m → first_or [] (take m fs) ≡ first_or [] fs
first_take zero fs l = absurd (omega arith)
first_take (suc m) [] l = refl
first_take (suc m) (f ∷ fs) l = refl

fine_by : (b : ℕ) (bs : List ℕ) (kind : Kind) → kind_of (b ∷ bs) ≡ kind → HasCard kind (all_fields (b ∷ bs)) → length (tail_at kind (fields_of (b ∷ bs))) ≤ TAIL → IsOneLine (b ∷ bs) → length (b ∷ bs) ≤ LINE
    → first_or [] (all_fields (b ∷ bs)) ≡ first_field (b ∷ bs) → first_byte (first_or [] (all_fields (b ∷ bs))) ≡ fold_byte b → is_separator b ≡ false
    → IsFine (card_by kind (names_of kind (all_fields (b ∷ bs))) (tail_at kind (fields_of (b ∷ bs))) (b ∷ bs))
fine_by b bs (device k m) e c t o s f g p =
    let fs = all_fields (b ∷ bs) in
    let n = c.enough in
    let shape : Shaped (device k m) = subst Shaped e (kind_shaped b bs) in
    device_fine k m (take m fs) (tail_of (behind m (fields_of (b ∷ bs)))) (b ∷ bs) (length-take-le m fs n) shape (λ dot. ap (by_byte (kinds dot)) (ap first_byte (first_take m fs (let a = shape.0 in omega arith)) ∙ g) ∙ letter_is b bs (device k m) refl e dot) (each_take IsWord m fs (fields_words (b ∷ bs))) c.short (each_take IsOneLine m fs (fields_lines (b ∷ bs) o)) (tail_is m (b ∷ bs) o t)
fine_by b bs caller e c t o s f g p = call_fine (all_fields (b ∷ bs)) [] (b ∷ bs) (λ dot. ap (by_byte (kinds dot)) g ∙ letter_is b bs caller refl e dot) (fields_are (b ∷ bs) o s) c
fine_by b bs modelling e c t o s f g p = model_fine (all_fields (b ∷ bs)) (tail_of (behind 3 (fields_of (b ∷ bs)))) (b ∷ bs) (fields_are (b ∷ bs) o s) c (tail_is 3 (b ∷ bs) o t)
fine_by b bs opening e c t o s f g p = subckt_fine (all_fields (b ∷ bs)) [] (b ∷ bs) (f ∙ word_wanted b bs opening refl e) (fields_are (b ∷ bs) o s) c
fine_by b bs closing e c t o s f g p = ends_fine (all_fields (b ∷ bs)) [] (b ∷ bs) (f ∙ word_wanted b bs closing refl e) (fields_are (b ∷ bs) o s) c
fine_by b bs globals e c t o s f g p = global_fine (all_fields (b ∷ bs)) [] (b ∷ bs) (f ∙ word_wanted b bs globals refl e) (fields_are (b ∷ bs) o s) c
fine_by b bs ending e c t o s f g p = ended_fine
fine_by b bs other e c t o s f g p = passed_fine (b ∷ bs) o s (kind_end b bs p ∙ e)
fine_by b bs control e c t o s f g p = absurd (let a = c.free in cc)
fine_by b bs unknown e c t o s f g p = absurd (let a = c.known in cc)

text_fine : (l : Line) (text : List ℕ) → no_card_by l (kind_of text) (all_fields text) ≡ None → length (tail_at (kind_of text) (fields_of text)) ≤ TAIL → IsOneLine text → length text ≤ LINE → IsFine (card_of text)
text_fine l [] n t o s = absurd (let a = (has_card l unknown (all_fields []) n).known in cc)
text_fine l (b ∷ bs) n t o s =
    let c = has_card l (kind_of (b ∷ bs)) (all_fields (b ∷ bs)) n in
    let p = (start_is b bs c.known).plain in
    let f = ap (first_or []) (first_is b bs p) in
    fine_by b bs (kind_of (b ∷ bs)) refl c t o s (f ∙ sym (first_field_is b bs p)) (ap first_byte f) p

-- a card that was read from one line, which is not too long, is fine
pub fine_again : (l : Line) (c : Card) → IsOneLine l.text → length l.text ≤ LINE → read_card l ≡ Ok c → IsFine c
fine_again l c o s h =
    let r = read_as l c h in
    let tail = tail_at (kind_of l.text) (fields_of l.text) in
    subst IsFine r.card (text_fine l l.text r.some (ltb-false TAIL (length tail) (when_none (ltb TAIL (length tail)) (long_tail l.line (length tail)) r.short)) o s)
