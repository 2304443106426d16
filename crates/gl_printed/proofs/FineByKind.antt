-- Fields make fine cards, kind by kind.
use Rattle.std.proofs.Common.{◌≡◌, ◌≤◌, ◌+◌, ℕ, zero, suc, List, [], ◌∷◌, ◌++◌, length, take, drop, cond, eqb, false, refl, sym, ap, ◌∙◌, subst, arith, codes, length-take-le, take-append-drop}
use Rattle.std.specs.Prelude.{option_to_list}
use Rattle.std.specs.List.{AllByRecursion, join_with_byte}
use Rattle.std.proofs.lemmas.List.{length-append}
use Rattle.gl_text.specs.LogicalLines.{LINE, NAME, TAIL, is_blank, is_separator, put_back, trim_end, folded, fold_byte, first_field, tail_of}
use Rattle.gl_text.specs.WayBack.{IsName, IsOneLine}
use Rattle.gl_text.specs.Cards.{ended, passed, Kind, device, caller, modelling, opening, closing, globals, other, kinds, by_byte, word_in, dot_words, kind_of, names_of, first_or, last_name, but_last, front, card_by, all_fields, first_byte, with_tail}
use Rattle.gl_printed.specs.ReadCards.{IsFine}
use Rattle.gl_lists.proofs.Each.{each_both}
use Rattle.gl_printed.proofs.Bytes.{each_end, end_twice, plain_no_blank}
use Rattle.gl_printed.proofs.Fields.{IsWord, fields_lines, fields_words, first_field_is, joined_shorter, run_end}
use Rattle.gl_printed.proofs.KindTables.{Shaped}
use Rattle.gl_printed.proofs.Refusals.{HasCard}
use Rattle.gl_printed.proofs.PrintedFields.{Short, joined_line, with_tail_length, with_tail_line}
use Rattle.gl_text.proofs.Trims.{end_shorter}

-- the fields of one line that is not too long
pub record IsFields (fs : List (List ℕ)) : Type 0 where
  pub words : AllByRecursion IsWord fs
  pub lines : AllByRecursion IsOneLine fs
  pub joined : length (join_with_byte 32 fs) ≤ LINE

pub fields_are : (text : List ℕ) → IsOneLine text → length text ≤ LINE → IsFields (all_fields text)
fields_are text o s = let l = joined_shorter text in record { words = fields_words text; lines = fields_lines text o; joined = omega arith }

-- a word of one line that is not too long
name_of : (n : List ℕ) → IsWord n → (length n ≤ NAME) × IsOneLine n → IsName n
name_of n w s = record { some = w.some; one_line = s.1; plain = w.plain; small = w.small; short = s.0 }

names_are : (ns : List (List ℕ)) → AllByRecursion IsWord ns → AllByRecursion Short ns → AllByRecursion IsOneLine ns → AllByRecursion IsName ns
names_are ns w s l = each_both IsWord (λ n. (length n ≤ NAME) × IsOneLine n) IsName name_of ns w (each_both Short IsOneLine (λ n. (length n ≤ NAME) × IsOneLine n) (λ n i j. (i, j)) ns s l)

-- the tail of a card
pub record IsTail (tail : List ℕ) : Type 0 where
  pub normal : tail_of tail ≡ tail
  pub line : IsOneLine tail
  pub short : length tail ≤ TAIL

-- ---- devices

at_most_one : (ys : List (List ℕ)) → length ys ≤ 1 → option_to_list (front ys) ≡ ys
at_most_one [] l = refl
at_most_one (y ∷ []) l = refl
at_most_one (y ∷ z ∷ zs) l = absurd (omega arith)

nodes_model : (k : ℕ) (xs : List (List ℕ)) → length xs ≤ k + 1 → take k xs ++ option_to_list (front (drop k xs)) ≡ xs
nodes_model k xs l =
    let e = take-append-drop k xs in
    let f = ap length e in
    let g = length-append (take k xs) (drop k xs) in
    by (few k xs l) ∙ e where
      few : (k : ℕ) (xs : List (List ℕ)) → length xs ≤ k + 1 → length (drop k xs) ≤ 1
      few zero xs l = omega arith
      few (suc k) [] l = omega arith
      few (suc k) (x ∷ xs) l = few k xs (omega arith)

      by : length (drop k xs) ≤ 1 → take k xs ++ option_to_list (front (drop k xs)) ≡ take k xs ++ drop k xs
      by m = ap (λ ys. take k xs ++ ys) (at_most_one (drop k xs) m)

pub device_fine : (k m : ℕ) (xs : List (List ℕ)) (tail text : List ℕ) → length xs ≡ m → Shaped (device k m) → ((dot : Kind) → by_byte (kinds dot) (first_byte (first_or [] xs)) ≡ device k m)
    → AllByRecursion IsWord xs → AllByRecursion Short xs → AllByRecursion IsOneLine xs → IsTail tail → IsFine (card_by (device k m) xs tail text)
device_fine k m [] tail text n s h w r o t = absurd (let a = s.0 in omega arith)
device_fine k m (x ∷ xs) tail text n s h w r o t =
    let a = s.0 in let b = s.1 in let c = s.2 in
    let rest = take k xs ++ option_to_list (front (drop k xs)) in
    let e : rest ≡ xs = nodes_model k xs (omega arith) in
    let nodes : length (take k xs) ≡ k = length-take-le k xs (omega arith) in
    let count : length (x ∷ rest) ≡ m = ap (λ ys. length (x ∷ ys)) e ∙ n in
    let long = with_tail_length (x ∷ xs) tail r in
    let d = t.short in
    record {
      is_read = record {
        kind = record { letter = λ dot. let g = h dot in cc };
        names = subst (λ ys. AllByRecursion IsName (x ∷ ys)) (sym e) (names_are (x ∷ xs) w r o);
        normal = t.normal;
        short = t.short;
      };
      one_line = subst (λ ys. IsOneLine (with_tail (x ∷ ys) tail)) (sym e) (with_tail_line (x ∷ xs) tail o t.line);
      short = subst (λ ys. length (with_tail (x ∷ ys) tail) ≤ LINE) (sym e) (omega arith);
    }

-- ---- X cards

last_again : (y : List ℕ) (ys : List (List ℕ)) → but_last (y ∷ ys) ++ last_name (y ∷ ys) ∷ [] ≡ y ∷ ys
last_again y [] = refl
last_again y (z ∷ zs) = ap (λ xs. y ∷ xs) (last_again z zs)

pub call_fine : (fs : List (List ℕ)) (tail text : List ℕ) → ((dot : Kind) → by_byte (kinds dot) (first_byte (first_or [] fs)) ≡ caller) → IsFields fs → HasCard caller fs → IsFine (card_by caller fs tail text)
call_fine [] tail text h f c = absurd (let a = c.enough in omega arith)
call_fine (x ∷ []) tail text h f c = absurd (let a = c.enough in omega arith)
call_fine (x ∷ y ∷ ys) tail text h f c =
    let e = last_again y ys in
    record {
      is_read = record { letter = h; names = subst (λ xs. AllByRecursion IsName (x ∷ xs)) (sym e) (names_are (x ∷ y ∷ ys) f.words c.short f.lines) };
      one_line = subst (λ xs. IsOneLine (join_with_byte 32 (x ∷ xs))) (sym e) (joined_line (x ∷ y ∷ ys) f.lines);
      short = subst (λ xs. length (join_with_byte 32 (x ∷ xs)) ≤ LINE) (sym e) f.joined;
    }

-- ---- cards that begin with a dot

pub model_fine : (fs : List (List ℕ)) (tail text : List ℕ) → IsFields fs → HasCard modelling fs → IsTail tail → IsFine (card_by modelling (names_of modelling fs) tail text)
model_fine [] tail text f c t = absurd (let a = c.enough in omega arith)
model_fine (x ∷ []) tail text f c t = absurd (let a = c.enough in omega arith)
model_fine (x ∷ y ∷ []) tail text f c t = absurd (let a = c.enough in omega arith)
model_fine (x ∷ y ∷ z ∷ zs) tail text f c t =
    let ns = codes ".model" ∷ y ∷ z ∷ [] in
    let s : AllByRecursion Short ns = (omega arith, c.short) in
    let long = with_tail_length ns tail s in
    let d = t.short in
    record {
      is_read = record { names = names_are (y ∷ z ∷ []) (f.words.1.0, (f.words.1.1.0, tt)) c.short (f.lines.1.0, (f.lines.1.1.0, tt)); normal = t.normal; short = t.short };
      one_line = with_tail_line ns tail ((refl, (refl, (refl, (refl, (refl, (refl, tt)))))), (f.lines.1.0, (f.lines.1.1.0, tt))) t.line;
      short = omega arith;
    }

pub subckt_fine : (fs : List (List ℕ)) (tail text : List ℕ) → first_or [] fs ≡ codes ".subckt" → IsFields fs → HasCard opening fs → IsFine (card_by opening (names_of opening fs) tail text)
subckt_fine [] tail text w f c = absurd (let a = c.enough in omega arith)
subckt_fine (x ∷ []) tail text w f c = absurd (let a = c.enough in omega arith)
subckt_fine (x ∷ y ∷ ys) tail text w f c = record {
  is_read = names_are (y ∷ ys) f.words.1 c.short f.lines.1;
  one_line = subst (λ z. IsOneLine (join_with_byte 32 (z ∷ y ∷ ys))) w (joined_line (x ∷ y ∷ ys) f.lines);
  short = subst (λ z. length (join_with_byte 32 (z ∷ y ∷ ys)) ≤ LINE) w f.joined;
}

pub global_fine : (fs : List (List ℕ)) (tail text : List ℕ) → first_or [] fs ≡ codes ".global" → IsFields fs → HasCard globals fs → IsFine (card_by globals (names_of globals fs) tail text)
global_fine [] tail text w f c = absurd (let a = c.enough in omega arith)
global_fine (x ∷ ys) tail text w f c = record {
  is_read = names_are ys f.words.1 c.short f.lines.1;
  one_line = subst (λ z. IsOneLine (join_with_byte 32 (z ∷ ys))) w (joined_line (x ∷ ys) f.lines);
  short = subst (λ z. length (join_with_byte 32 (z ∷ ys)) ≤ LINE) w f.joined;
}

pub ends_fine : (fs : List (List ℕ)) (tail text : List ℕ) → first_or [] fs ≡ codes ".ends" → IsFields fs → HasCard closing fs → IsFine (card_by closing (names_of closing fs) tail text)
ends_fine [] tail text w f c = absurd (let a = c.enough in omega arith)
ends_fine (x ∷ []) tail text w f c = record {
  is_read = tt;
  one_line = subst IsOneLine w f.lines.0;
  short = omega arith;
}
ends_fine (x ∷ y ∷ ys) tail text w f c =
    let ns = codes ".ends" ∷ y ∷ [] in
    let s : AllByRecursion Short ns = (omega arith, c.short) in
    let long = with_tail_length ns [] s in
    let l : AllByRecursion IsOneLine ns = (subst IsOneLine w f.lines.0, (f.lines.1.0, tt)) in
    let e = length-append (join_with_byte 32 ns) [] in
    record {
      is_read = names_are (y ∷ []) (f.words.1.0, tt) c.short (f.lines.1.0, tt);
      one_line = joined_line ns l;
      short = omega arith;
    }

pub ended_fine : IsFine ended
ended_fine = record { is_read = tt; one_line = (refl, (refl, (refl, (refl, tt)))); short = omega arith }

-- the end of a passed line is cut off, and it stays what it is
pub kind_end : (b : ℕ) (bs : List ℕ) → is_separator b ≡ false → kind_of (trim_end is_blank (b ∷ bs)) ≡ kind_of (b ∷ bs)
kind_end b bs h =
    let cs = trim_end is_blank bs in
    let e : trim_end is_blank (b ∷ bs) ≡ b ∷ cs = front cs in
    let f : first_field (b ∷ cs) ≡ first_field (b ∷ bs) = first_field_is b cs h ∙ ap (λ xs. folded (b ∷ xs)) (run_end bs) ∙ sym (first_field_is b bs h) in
    ap kind_of e ∙ ap (λ w. by_byte (kinds (word_in dot_words w)) (fold_byte b)) f where
      front : (cs : List ℕ) → put_back is_blank b cs ≡ b ∷ cs
      front [] = ap (λ t. cond t [] (b ∷ [])) (plain_no_blank b h)
      front (c ∷ cs) = refl

pub passed_fine : (text : List ℕ) → IsOneLine text → length text ≤ LINE → kind_of (trim_end is_blank text) ≡ other → IsFine (passed (trim_end is_blank text))
passed_fine text o s k = let l = end_shorter is_blank text in record {
  is_read = record { kind = k; no_blanks = end_twice text };
  one_line = each_end (λ b. eqb b 10 ≡ false) is_blank text o;
  short = omega arith;
}
