-- A printed X card is read again.
use Rattle.std.proofs.Common.{◌≡◌, ℕ, List, [], ◌∷◌, ◌++◌, length, eqb, ltb, false, None, refl, sym, ap, ◌∙◌, arith}
use Rattle.std.specs.Prelude.{◌&&◌, ◌||◌}
use Rattle.std.specs.List.{AllByRecursion, join_with_byte, list_any}
use Rattle.std.proofs.lemmas.List.{append-nil, length-append}
use Rattle.std.proofs.lemmas.Bool.{le-ltb, or_parts}
use Rattle.gl_text.specs.LogicalLines.{parameters, Line, is_blank, is_separator, fields_of}
use Rattle.gl_text.specs.WayBack.{IsName, IsCall, IsReadAgain}
use Rattle.gl_fault.specs.Refusals.{when}
use Rattle.gl_text.specs.Cards.{call, caller, kind_of, card_of, card_by, names_of, tail_at, all_fields, no_card, no_card_by, has_parameters, has_nodes, has_long_tail, tail_fault, but_last, last_name}
use Rattle.gl_text.proofs.CardLaws.{names_are, short_names, all_none, kind_is}

abbrev NoEqual : List ℕ → Type 0
NoEqual text = list_any (λ x. eqb x 61) text ≡ false

no_equal_byte : (b : ℕ) → is_separator b ≡ false → eqb b 61 ≡ false
no_equal_byte b h =
    let one = (or_parts (is_blank b || eqb b 44 || eqb b 61 || eqb b 40) (eqb b 41) h).0 in
    let two = (or_parts (is_blank b || eqb b 44 || eqb b 61) (eqb b 40) one).0 in
    (or_parts (is_blank b || eqb b 44) (eqb b 61) two).1

no_equal : (n : List ℕ) → AllByRecursion (λ b. is_separator b ≡ false) n → NoEqual n
no_equal [] p = refl
no_equal (b ∷ n) p = rw (no_equal_byte b p.0) (no_equal n p.1)

no_equal_append : (a b : List ℕ) → AllByRecursion (λ x. is_separator x ≡ false) a → NoEqual b → NoEqual (a ++ b)
no_equal_append [] b p q = q
no_equal_append (x ∷ a) b p q = rw (no_equal_byte x p.0) (no_equal_append a b p.1 q)

no_equal_joined : (ns : List (List ℕ)) → AllByRecursion IsName ns → NoEqual (join_with_byte 32 ns)
no_equal_joined [] h = refl
no_equal_joined (n ∷ []) h = no_equal n h.0.plain
no_equal_joined (n ∷ m ∷ ms) h = no_equal_append n (32 ∷ join_with_byte 32 (m ∷ ms)) h.0.plain (no_equal_joined (m ∷ ms) h.1)

but_last_is : (x : List ℕ) (ns : List (List ℕ)) → but_last (ns ++ x ∷ []) ≡ ns
but_last_is x [] = refl
but_last_is x (n ∷ []) = refl
but_last_is x (n ∷ m ∷ ms) = ap (λ xs. n ∷ xs) (but_last_is x (m ∷ ms))

last_is : (x n : List ℕ) (ns : List (List ℕ)) → last_name (n ∷ ns ++ x ∷ []) ≡ x
last_is x n [] = refl
last_is x n (m ∷ ms) = last_is x m ms

enough : (x n : List ℕ) (ns : List (List ℕ)) → ltb (length (n ∷ ns ++ x ∷ [])) 2 ≡ false
enough x n ns = le-ltb (length (n ∷ ns ++ x ∷ [])) 2 (rw length-append (omega arith))

-- an X card that is printed is read again
pub call_again : (line b : ℕ) (bs : List ℕ) (nodes : List (List ℕ)) (sub : List ℕ) → IsCall b bs nodes sub
    → IsReadAgain line (call (record { name = b ∷ bs; nodes = nodes; sub = sub }))
call_again line b bs nodes sub h =
    let rest = nodes ++ sub ∷ [] in
    let ns = (b ∷ bs) ∷ rest in
    let text = join_with_byte 32 ns in
    let l : Line = record { line = line; text = text } in
    let card = call (record { name = b ∷ bs; nodes = nodes; sub = sub }) in
    let kind_e : kind_of text ≡ caller = ap kind_of (sym (append-nil text)) ∙ kind_is b bs rest [] caller h.letter in
    let names_e : all_fields text ≡ ns = ap all_fields (sym (append-nil text)) ∙ names_are (b ∷ bs) rest [] h.names ∙ append-nil ns in
    let a : no_card l ≡ None = ap (λ k. no_card_by l k (all_fields text)) kind_e ∙ ap (no_card_by l caller) names_e ∙ rw (short_names line ns h.names, enough sub (b ∷ bs) nodes) refl in
    let p : has_parameters l ≡ None = ap (λ k. when (has_nodes k && list_any (λ x. eqb x 61) text) (parameters line)) kind_e ∙ ap (λ t. when t (parameters line)) (no_equal_joined ns h.names) in
    let q : has_long_tail l ≡ None = ap (λ k. tail_fault line (tail_at k (fields_of text))) kind_e in
    let last : card_by caller ns [] text ≡ card = rw (but_last_is sub nodes, last_is sub (b ∷ bs) nodes) refl in
    let d : card_of text ≡ card =
    ap (λ k. card_by k (names_of k (all_fields text)) (tail_at k (fields_of text)) text) kind_e ∙ ap (λ xs. card_by caller xs [] text) names_e ∙ last in
    all_none (no_card l) (has_parameters l) (has_long_tail l) (card_of text) card a p q d
