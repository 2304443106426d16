-- Printed cards are logical lines.
use Rattle.std.proofs.Common.{◌≡◌, ◌≤◌, ◌+◌, ℕ, List, [], ◌∷◌, ◌++◌, length, map, cond, ltb, true, false, not, None, Ok, Err, refl, sym, ap, ◌∙◌, subst, arith, codes, le-ltb, lt-ltb, append-nil, append_assoc, filter, flat_map}
use Rattle.std.specs.Prelude.{◌&&◌, option_to_list}
use Rattle.std.specs.List.{AllByRecursion, join_with_byte, onto_first}
use Rattle.std.proofs.lemmas.Bool.{false_from_ne_true}
use Rattle.gl_text.specs.LogicalLines.{LINE, long_line, Line, is_blank, is_separator, fold_byte, folded, fields_of, first_field, tail_of, trim_end, trim_front, same_text, begins, put_back, lines_of, trimmed_from, is_kept, grouped, joined, up_to_end, up_to_long, logical_of, kept_lines, logical_lines}
use Rattle.gl_text.specs.WayBack.{IsName, IsOneLine}
use Rattle.gl_text.specs.Cards.{Card, dev, call, model, subckt, ends, global, ended, passed, ending, unknown, kinds, by_byte, word_in, dot_words, kind_of, names_of, tail_at, card_by, card_of, all_fields, with_tail, printed, no_card}
use Rattle.gl_text.specs.Decks.{line_of}
use Rattle.gl_printed.specs.ReadCards.{IsRead, IsFine}
use Rattle.gl_printed.specs.PrintedLines.{is_end, numbered}
use Rattle.gl_lists.proofs.Each.{each_append, each_to, filter_all}
use Rattle.gl_printed.proofs.Bytes.{Ends, IsStart, end_append, end_plain, normal_end, plain_no_blank}
use Rattle.gl_printed.proofs.Fields.{first_field_is, run}
use Rattle.gl_printed.proofs.KindTables.{start_is}
use Rattle.gl_printed.proofs.Refusals.{has_card, read_as}
use Rattle.gl_printed.proofs.FineByKind.{ended_fine}
use Rattle.gl_printed.proofs.PrintedCardLaws.{card_again}
use Rattle.gl_text.proofs.Names.{exact}

-- ---- no blank at the end

some_name : (n : List ℕ) (ns : List (List ℕ)) → AllByRecursion IsName (n ∷ ns) → join_with_byte 32 (n ∷ ns) ≡ [] → ⊥
some_name [] ns h e = let a = h.0.some in cc
some_name (b ∷ n) [] h e = cc
some_name (b ∷ n) (m ∷ ms) h e = cc

end_space : (text : List ℕ) → (text ≡ [] → ⊥) → Ends text → Ends (32 ∷ text)
end_space [] n e = absurd (n refl)
end_space (b ∷ bs) n e = ap (put_back is_blank 32) e

joined_end : (n : List ℕ) (ns : List (List ℕ)) → AllByRecursion IsName (n ∷ ns) → Ends (join_with_byte 32 (n ∷ ns))
joined_end n [] h = end_plain n h.0.plain
joined_end n (m ∷ ms) h = end_append n 32 (join_with_byte 32 (m ∷ ms)) (end_space (join_with_byte 32 (m ∷ ms)) (some_name m ms h.1) (joined_end m ms h.1))

with_tail_end : (n : List ℕ) (ns : List (List ℕ)) (tail : List ℕ) → AllByRecursion IsName (n ∷ ns) → tail_of tail ≡ tail → Ends (with_tail (n ∷ ns) tail)
with_tail_end n ns [] h e = subst Ends (sym (append-nil (join_with_byte 32 (n ∷ ns)))) (joined_end n ns h)
with_tail_end n ns (b ∷ tail) h e = end_append (join_with_byte 32 (n ∷ ns)) 32 (b ∷ tail) (ap (put_back is_blank 32) (normal_end (b ∷ tail) e))

-- behind a word that is plain
word_end : (w : List ℕ) (ns : List (List ℕ)) → AllByRecursion (λ b. is_separator b ≡ false) w → AllByRecursion IsName ns → Ends (join_with_byte 32 (w ∷ ns))
word_end w [] p h = end_plain w p
word_end w (m ∷ ms) p h = end_append w 32 (join_with_byte 32 (m ∷ ms)) (end_space (join_with_byte 32 (m ∷ ms)) (some_name m ms h) (joined_end m ms h))

word_tail_end : (w : List ℕ) (ns : List (List ℕ)) (tail : List ℕ) → AllByRecursion (λ b. is_separator b ≡ false) w → AllByRecursion IsName ns → tail_of tail ≡ tail → Ends (with_tail (w ∷ ns) tail)
word_tail_end w ns [] p h e = subst Ends (sym (append-nil (join_with_byte 32 (w ∷ ns)))) (word_end w ns p h)
word_tail_end w ns (b ∷ tail) p h e = end_append (join_with_byte 32 (w ∷ ns)) 32 (b ∷ tail) (ap (put_back is_blank 32) (normal_end (b ∷ tail) e))

printed_end : (c : Card) → IsRead c → Ends (printed c)
printed_end (dev d) h = with_tail_end d.name (d.nodes ++ option_to_list d.model) d.tail h.names h.normal
printed_end (call c) h = joined_end c.name (c.nodes ++ c.sub ∷ []) h.names
printed_end (model m) h = word_tail_end (codes ".model") (m.name ∷ m.word ∷ []) m.tail (refl, (refl, (refl, (refl, (refl, (refl, tt)))))) h.names h.normal
printed_end (subckt s) h = word_end (codes ".subckt") (s.name ∷ s.ports) (refl, (refl, (refl, (refl, (refl, (refl, (refl, tt))))))) h
printed_end (ends name) h = word_end (codes ".ends") (option_to_list name) (refl, (refl, (refl, (refl, (refl, tt))))) h
printed_end (global names) h = word_end (codes ".global") names (refl, (refl, (refl, (refl, (refl, (refl, (refl, tt))))))) h
printed_end ended h = refl
printed_end (passed text) h = h.no_blanks

-- ---- a printed card as a line

pub record IsPrinted (text : List ℕ) : Type 0 where
  pub one_line : IsOneLine text
  pub trimmed : trim_front is_blank (trim_end is_blank text) ≡ text
  pub kept : (ltb 0 (length text) && not (begins 42 text)) ≡ true
  pub no_more : begins 43 text ≡ false
  pub short : length text ≤ LINE

printed_by : (l : Line) (text : List ℕ) → no_card (record { line = l.line; text = text }) ≡ None → IsOneLine text → Ends text → length text ≤ LINE → IsPrinted text
printed_by l [] n o e s = absurd (let a = (has_card (record { line = l.line; text = [] }) unknown (all_fields []) n).known in cc)
printed_by l (b ∷ bs) n o e s =
    let text = b ∷ bs in
    let i : IsStart b = start_is b bs (has_card (record { line = l.line; text = text }) (kind_of text) (all_fields text) n).known in
    record {
      one_line = o;
      trimmed = ap (trim_front is_blank) e ∙ ap (λ t. cond t (trim_front is_blank bs) text) (plain_no_blank b i.plain);
      kept = rw (lt-ltb 0 (length text) (omega arith), i.no_star) refl;
      no_more = i.no_plus;
      short = s;
    }

pub card_line : (c : Card) → IsFine c → IsPrinted (printed c)
card_line c h =
    let l : Line = record { line = 0; text = printed c } in
    printed_by l (printed c) (read_as l c (card_again 0 c h)).some h.one_line (printed_end c h.is_read) h.short

-- ---- only `.end` ends the file

end_kind : (b : ℕ) (bs : List ℕ) → is_separator b ≡ false → first_field (b ∷ bs) ≡ codes ".end" → kind_of (b ∷ bs) ≡ ending
end_kind b bs p e =
    let f : fold_byte b ∷ folded (run bs) ≡ codes ".end" = sym (first_field_is b bs p) ∙ e in
    let g : fold_byte b ≡ 46 = cc in
    ap (λ w. by_byte (kinds (word_in dot_words w)) (fold_byte b)) e ∙ ap (by_byte (kinds ending)) g

end_card : (text : List ℕ) → kind_of text ≡ ending → card_of text ≡ ended
end_card text k = ap (λ x. card_by x (names_of x (all_fields text)) (tail_at x (fields_of text)) text) k

goes_on_by : (l : Line) (c : Card) (text : List ℕ) → no_card (record { line = l.line; text = text }) ≡ None → card_of text ≡ c → is_end c ≡ false → same_text (first_field text) (codes ".end") ≡ false
goes_on_by l c [] n e i = absurd (let a = (has_card (record { line = l.line; text = [] }) unknown (all_fields []) n).known in cc)
goes_on_by l c (b ∷ bs) n e i = false_from_ne_true (same_text (first_field (b ∷ bs)) (codes ".end")) (λ t.
    let text = b ∷ bs in
    let p = (start_is b bs (has_card (record { line = l.line; text = text }) (kind_of text) (all_fields text) n).known).plain in
    let f = ap is_end (sym (end_card text (end_kind b bs p (exact (first_field text) (codes ".end") t))) ∙ e) in cc)

goes_on : (c : Card) → IsFine c → is_end c ≡ false → same_text (first_field (printed c)) (codes ".end") ≡ false
goes_on c h i =
    let l : Line = record { line = 0; text = printed c } in
    let r = read_as l c (card_again 0 c h) in
    goes_on_by l c (printed c) r.some r.card i

-- ---- lines of printed cards

abbrev pub ArePrinted : List Card → Type 0
ArePrinted cs = AllByRecursion (λ c. IsPrinted (printed c)) cs

pub line_first : (l rest : List ℕ) → IsOneLine l → lines_of (l ++ 10 ∷ rest) ≡ l ∷ lines_of rest
line_first [] rest p = refl
line_first (b ∷ l) rest p = ap (λ t. cond t ([] ∷ lines_of (l ++ 10 ∷ rest)) (onto_first b (lines_of (l ++ 10 ∷ rest)))) p.0 ∙ ap (onto_first b) (line_first l rest p.1)

lines_are : (n : ℕ) (cs : List Card) → ArePrinted cs → trimmed_from n (lines_of (flat_map line_of cs)) ≡ numbered n cs
lines_are n [] h = refl
lines_are n (c ∷ cs) h =
    let text = printed c in
    let rest = flat_map line_of cs in
    ap (λ t. trimmed_from n (lines_of t)) (append_assoc text (10 ∷ []) rest) ∙ ap (trimmed_from n) (line_first text rest h.0.one_line)
    ∙ ap (λ t. record { line = n; text = t } ∷ trimmed_from (n + 1) (lines_of rest)) h.0.trimmed ∙ ap (λ ls. record { line = n; text = text } ∷ ls) (lines_are (n + 1) cs h.1)

all_kept : (n : ℕ) (cs : List Card) → ArePrinted cs → AllByRecursion (λ l. is_kept l ≡ true) (numbered n cs)
all_kept n [] h = tt
all_kept n (c ∷ cs) h = (h.0.kept, all_kept (n + 1) cs h.1)

alone : Line → List Line
alone l = l ∷ []

groups_are : (n : ℕ) (cs : List Card) → ArePrinted cs → grouped (numbered n cs) ≡ [] ∷ map alone (numbered n cs)
unfolding alone
groups_are n [] h = refl
groups_are n (c ∷ cs) h =
    let l : Line = record { line = n; text = printed c } in
    ap (λ t. cond t (onto_first l (grouped (numbered (n + 1) cs))) ([] ∷ onto_first l (grouped (numbered (n + 1) cs)))) h.0.no_more
    ∙ ap (λ gs. [] ∷ onto_first l gs) (groups_are (n + 1) cs h.1)

joined_are : (ls : List Line) → map joined (map alone ls) ≡ ls
unfolding alone
joined_are [] = refl
joined_are (l ∷ ls) = ap (λ t. record { line = l.line; text = t } ∷ map joined (map alone ls)) (append-nil l.text) ∙ ap (λ xs. l ∷ xs) (joined_are ls)

ends_there : (n : ℕ) (cs : List Card) → AllByRecursion IsFine cs → AllByRecursion (λ c. is_end c ≡ false) cs → up_to_end (numbered n (cs ++ ended ∷ [])) ≡ numbered n (cs ++ ended ∷ [])
ends_there n [] h i = refl
ends_there n (c ∷ cs) h i =
    let l : Line = record { line = n; text = printed c } in
    let rest = numbered (n + 1) (cs ++ ended ∷ []) in
    ap (λ t. l ∷ cond t [] (up_to_end rest)) (goes_on c h.0 i.0) ∙ ap (λ xs. l ∷ xs) (ends_there (n + 1) cs h.1 i.1)

all_short : (n : ℕ) (cs : List Card) → ArePrinted cs → up_to_long (numbered n cs) ≡ map Ok (numbered n cs)
all_short n [] h = refl
all_short n (c ∷ cs) h =
    let l : Line = record { line = n; text = printed c } in
    let rest = up_to_long (numbered (n + 1) cs) in
    ap (λ t. cond t (Err (long_line n (length (printed c))) ∷ []) (Ok l ∷ rest)) (le-ltb LINE (length (printed c)) h.0.short) ∙ ap (λ xs. Ok l ∷ xs) (all_short (n + 1) cs h.1)

-- fine cards, printed with `.end` behind them, are logical lines in order
pub lines_again : (n : ℕ) (cards : List Card) → AllByRecursion IsFine cards → AllByRecursion (λ c. is_end c ≡ false) cards
    → logical_lines n (flat_map line_of (cards ++ ended ∷ [])) ≡ map Ok (numbered n (cards ++ ended ∷ []))
lines_again n cards h i =
    let all = cards ++ ended ∷ [] in
    let p : ArePrinted all = each_to IsFine (λ c. IsPrinted (printed c)) card_line all (each_append IsFine cards (ended ∷ []) h (ended_fine, tt)) in
    let ls = numbered n all in
    let k : kept_lines n (flat_map line_of all) ≡ ls = ap (filter is_kept) (lines_are n all p) ∙ filter_all is_kept ls (all_kept n all p) in
    ap (λ xs. logical_of (grouped xs)) k ∙ ap logical_of (groups_are n all p) ∙ ap (λ xs. up_to_long (up_to_end xs)) (joined_are ls)
    ∙ ap up_to_long (ends_there n cards h i) ∙ all_short n all p
