-- Lines of a lifted deck, word by word.
use Rattle.std.proofs.Common.{◌≡◌, ◌+◌, ℕ, zero, suc, List, [], ◌∷◌, ◌++◌, map, Some, None, sym, ap, ◌∙◌, arith, append_assoc}
use Rattle.std.specs.Prelude.{codes, flat_map, option_to_list}
use Rattle.std.specs.List.{range_with_len, join_with_byte}
use Rattle.std.specs.Option.{option_copied}
use Rattle.std.proofs.lemmas.List.{append-nil, map-append}
use Rattle.std.proofs.lemmas.Grind.{flat_map-append}
use Rattle.gl_text.specs.Cards.{spaced}
use Rattle.gl_text.specs.Decks.{Body, body_name, body_line, head_line, ends_line, Sub, sub_text}
use Rattle.gl_card.specs.Lines.{spaced_all}
use Rattle.gl_flat.proofs.PrintingLaws.{device_words}
use Rattle.gl_base.specs.BaseCircuit.{Source}
use Rattle.gl_base.specs.Reports.{name_at}
use Rattle.gl_lifting.specs.LiftedDecks.{nodes_back, variant_card}
use Rattle.gl_write.specs.declared.carried.Matched.{Matched}
use Rattle.gl_write.specs.declared.carried.Matched.TheVariants as matched
use Rattle.gl_write.specs.Keys.{carried_by}
use Rattle.gl_write.specs.Lines.{matched_text}

-- one number more
range_more : (a n : ℕ) → range_with_len a (suc n) ≡ range_with_len a n ++ (a + n) ∷ []
range_more a zero = ap (λ x. x ∷ []) (omega arith)
range_more a (suc n) = let same : a + 1 + n ≡ a + suc n = omega arith in ap (λ xs. a ∷ xs) (range_more (a + 1) n ∙ ap (λ x. range_with_len (a + 1) n ++ x ∷ []) same)

range_next : (n : ℕ) → range_with_len 0 (n + 1) ≡ range_with_len 0 n ++ n ∷ []
range_next n =
    let next : n + 1 ≡ suc n = omega arith in
    let same : 0 + n ≡ n = omega arith in
    ap (range_with_len 0) next ∙ range_more 0 n ∙ ap (λ x. range_with_len 0 n ++ x ∷ []) same

-- the word of one place more
pub places_more : (f : ℕ → List ℕ) (before out new : List ℕ) (n : ℕ) (word : List ℕ) → out ≡ before ++ spaced_all (map f (range_with_len 0 n)) → new ≡ out ++ spaced_all (word ∷ []) → word ≡ f n → new ≡ before ++ spaced_all (map f (range_with_len 0 (n + 1)))
places_more f before out new n word was now is =
    let front = range_with_len 0 n in
    now ∙ ap (λ o. o ++ spaced_all (word ∷ [])) was ∙ ap (λ (w : List ℕ). (before ++ spaced_all (map f front)) ++ spaced_all (w ∷ [])) is
    ∙ append_assoc before (spaced_all (map f front)) (spaced_all (f n ∷ []))
    ∙ ap (λ t. before ++ t) (sym (flat_map-append (λ (w : List ℕ). 32 ∷ w) (map f front) (f n ∷ [])))
    ∙ ap (λ (ws : List (List ℕ)). before ++ spaced_all ws) (sym (map-append f front (n ∷ [])))
    ∙ ap (λ ns. before ++ spaced_all (map f ns)) (sym (range_next n))

-- a call, word by word
pub call_words : (out name : List ℕ) (nodes : List (List ℕ)) (sub : List ℕ) → (((out ++ name) ++ spaced_all nodes) ++ spaced_all (sub ∷ [])) ++ 10 ∷ [] ≡ out ++ (join_with_byte 32 (name ∷ nodes ++ sub ∷ []) ++ 10 ∷ [])
call_words out name nodes sub =
    ap (λ t. t ++ 10 ∷ []) (sym (append-nil (((out ++ name) ++ spaced_all nodes) ++ spaced_all (sub ∷ []))))
    ∙ device_words out name nodes (Some sub) []
    ∙ ap (λ t. out ++ (t ++ 10 ∷ [])) (append-nil (join_with_byte 32 (name ∷ nodes ++ sub ∷ [])))

-- a card of a variant, word by word
pub card_words : (s : Source) (names : List (List ℕ)) (out : List ℕ) (card : Body) (turn : ℕ) (m : Matched)
    → (((out ++ body_name card) ++ spaced_all (nodes_back s card turn)) ++ matched_text names m) ++ 10 ∷ [] ≡ out ++ body_line (variant_card s names (card, carried_by turn m))
card_words s names out card turn (matched.Device model tail) =
    ap (λ t. t ++ 10 ∷ []) (sym (append_assoc ((out ++ body_name card) ++ spaced_all (nodes_back s card turn)) (spaced_all (option_to_list (option_copied model))) (spaced tail.now)))
    ∙ device_words out (body_name card) (nodes_back s card turn) (option_copied model) tail.now
card_words s names out card turn (matched.Variant number) = call_words out (body_name card) (nodes_back s card turn) (name_at names number)

-- the card that opens a subcircuit, word by word
pub opening_words : (out name : List ℕ) (ports : List (List ℕ)) → (((out ++ codes ".subckt") ++ spaced_all (name ∷ [])) ++ spaced_all ports) ++ 10 ∷ [] ≡ out ++ head_line (record { name = name; ports = ports })
opening_words out name ports =
    let first = out ++ codes ".subckt" in
    ap (λ t. t ++ 10 ∷ []) (append_assoc first (spaced_all (name ∷ [])) (spaced_all ports) ∙ ap (λ t. first ++ (t ++ spaced_all ports)) (append-nil (32 ∷ name)))
    ∙ ap (λ t. t ++ 10 ∷ []) (sym (append-nil (first ++ spaced_all (name ∷ ports))))
    ∙ ap (λ t. t ++ 10 ∷ []) (sym (append-nil ((first ++ spaced_all (name ∷ ports)) ++ [])))
    ∙ device_words out (codes ".subckt") (name ∷ ports) None []
    ∙ ap (λ t. out ++ (t ++ 10 ∷ [])) (append-nil (join_with_byte 32 (codes ".subckt" ∷ (name ∷ ports) ++ [])))
    ∙ ap (λ (ws : List (List ℕ)). out ++ (join_with_byte 32 (codes ".subckt" ∷ ws) ++ 10 ∷ [])) (append-nil (name ∷ ports))

-- a subcircuit, part by part
pub sub_parts : (out : List ℕ) (s : Sub) (text : List ℕ) → text ≡ flat_map body_line s.cards → ((out ++ head_line s.head) ++ text) ++ ends_line s.head.name ≡ out ++ sub_text s
sub_parts out s text e =
    ap (λ t. ((out ++ head_line s.head) ++ t) ++ ends_line s.head.name) e
    ∙ ap (λ t. t ++ ends_line s.head.name) (append_assoc out (head_line s.head) (flat_map body_line s.cards))
    ∙ append_assoc out (head_line s.head ++ flat_map body_line s.cards) (ends_line s.head.name)
