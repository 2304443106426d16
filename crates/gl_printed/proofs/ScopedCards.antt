-- Cards by the scope that they stand in, where the cards of a deck are placed in order.
use Rattle.std.proofs.Common.{◌≡◌, ◌≤◌, ◌<◌, ◌+◌, ℕ, List, [], ◌∷◌, ◌++◌, map, cond, eqb, true, false, Bool, Option, Some, None, refl, ap, ◌∙◌, subst, arith, append-nil, filter_map, flat_map, ne_eqb, eq-eqb, eqb-true}
use Rattle.std.specs.List.{AllByRecursion, cons_option}
use Rattle.gl_text.specs.Cards.{Card, Model, model, ends, global, ended, passed}
use Rattle.gl_text.specs.Decks.{Body, dev_at, call_at, Sub, Deck, Scope, Placed, top_scope, scope_after, body_of, sub_of, has_twice, bodies, body_name}
use Rattle.gl_printed.specs.ReadDecks.{body_card, AllDiffer, sub_cards, unnumbered_body, unnumbered_sub}
use Rattle.gl_printed.proofs.DeckCards.{all_cards}
use Rattle.gl_printed.proofs.DistinctNames.{body_in}
use Rattle.gl_printed.proofs.PlacedCards.{Quiet, body_quiet, inside, past, past_le, placed, placing, sub_split}

-- cards that give nothing are passed over
skip : {X Y : Type 0} (h : Placed → Option Y) (f : X → Card) (s : Scope) (rest : List Card) → Quiet f s → ((n : ℕ) (x : X) → h (placed s n (f x)) ≡ None)
    → (n : ℕ) (xs : List X) → filter_map h (placing n s (map f xs ++ rest)) ≡ filter_map h (placing (past n xs) s rest)
skip h f s rest q e n [] = refl
skip h f s rest q e n (x ∷ xs) = ap (λ o. cons_option o (filter_map h (placing (n + 1) (scope_after s n (f x)) (map f xs ++ rest)))) (e n x)
    ∙ ap (λ t. filter_map h (placing (n + 1) t (map f xs ++ rest))) (q n x) ∙ skip h f s rest q e (n + 1) xs

abbrev pub numbered_body : ℕ → Body → Body
numbered_body n (dev_at line d) = dev_at n d
numbered_body n (call_at line c) = call_at n c

abbrev pub renumbered : ℕ → List Body → List Body
renumbered n [] = []
renumbered n (b ∷ bs) = numbered_body n b ∷ renumbered (n + 1) bs

pub renumbered_bare : (n : ℕ) (bs : List Body) → map unnumbered_body (renumbered n bs) ≡ map unnumbered_body bs
renumbered_bare n [] = refl
renumbered_bare n (dev_at line d ∷ bs) = ap (λ xs. dev_at 0 d ∷ xs) (renumbered_bare (n + 1) bs)
renumbered_bare n (call_at line c ∷ bs) = ap (λ xs. call_at 0 c ∷ xs) (renumbered_bare (n + 1) bs)

renumbered_names : (n : ℕ) (bs : List Body) → map body_name (renumbered n bs) ≡ map body_name bs
renumbered_names n [] = refl
renumbered_names n (dev_at line d ∷ bs) = ap (λ xs. d.name ∷ xs) (renumbered_names (n + 1) bs)
renumbered_names n (call_at line c ∷ bs) = ap (λ xs. c.name ∷ xs) (renumbered_names (n + 1) bs)

-- bodies of the scope of line L
abbrev pub within : ℕ → ℕ → Scope → List Card → List Body
within L n s cs = filter_map (body_in L) (placing n s cs)

body_is : (s : Scope) (n : ℕ) (b : Body) → body_of (placed s n (body_card b)) ≡ Some (numbered_body n b)
body_is s n (dev_at line d) = refl
body_is s n (call_at line c) = refl

within_level : (L : ℕ) (s : Scope) (rest : List Card) (n : ℕ) (bs : List Body) → within L n s (map body_card bs ++ rest) ≡ cond (eqb s.line L) (renumbered n bs) [] ++ within L (past n bs) s rest
within_level L s rest n [] = by (eqb s.line L) where
  by : (t : Bool) → within L n s rest ≡ cond t [] [] ++ within L n s rest
  by true = refl
  by false = refl
within_level L s rest n (b ∷ bs) =
    ap (λ o. cons_option (cond (eqb s.line L) o None) (within L (n + 1) (scope_after s n (body_card b)) (map body_card bs ++ rest))) (body_is s n b)
    ∙ ap (λ t. cons_option (cond (eqb s.line L) (Some (numbered_body n b)) None) (within L (n + 1) t (map body_card bs ++ rest))) (body_quiet s n b)
    ∙ ap (cons_option (cond (eqb s.line L) (Some (numbered_body n b)) None)) (within_level L s rest (n + 1) bs) ∙ by (eqb s.line L) (renumbered (n + 1) bs) (within L (past (n + 1) bs) s rest) where
      by : (t : Bool) (xs ys : List Body) → cons_option (cond t (Some (numbered_body n b)) None) (cond t xs [] ++ ys) ≡ cond t (numbered_body n b ∷ xs) [] ++ ys
      by true xs ys = refl
      by false xs ys = refl

none_either : {X : Type 0} (t : Bool) (xs : List X) → cons_option (cond t None None) xs ≡ xs
none_either true xs = refl
none_either false xs = refl

-- the number behind the cards of a subcircuit
abbrev pub past_sub : ℕ → Sub → ℕ
past_sub n s = past (n + 1) s.cards + 1

-- a subcircuit and what follows
within_sub : (L n : ℕ) (s : Sub) (xs rest : List Card) → within L n top_scope ((sub_cards s ++ xs) ++ rest) ≡ cond (eqb n L) (renumbered (n + 1) s.cards) [] ++ within L (past_sub n s) top_scope (xs ++ rest)
within_sub L n s xs rest =
    let name = s.head.name in
    let more = ends (Some name) ∷ (xs ++ rest) in
    ap (within L n top_scope) (sub_split s xs rest) ∙ none_either (eqb 0 L) (within L (n + 1) (inside n name) (map body_card s.cards ++ more))
    ∙ within_level L (inside n name) more (n + 1) s.cards
    ∙ ap (λ ys. cond (eqb n L) (renumbered (n + 1) s.cards) [] ++ ys) (none_either (eqb n L) (within L (past_sub n s) top_scope (xs ++ rest)))

-- the cards behind the subcircuits
abbrev pub back_cards : Deck → List Card
back_cards d = map body_card d.top ++ (map passed d.passed ++ ended ∷ [])

either : (b : Bool) (o : Option Body) → cond b o o ≡ o
either true o = refl
either false o = refl

within_back : (L n : ℕ) (d : Deck) → within L n top_scope (back_cards d) ≡ cond (eqb 0 L) (renumbered n d.top) []
within_back L n d =
    let ps = ended ∷ [] in
    within_level L top_scope (map passed d.passed ++ ps) n d.top
    ∙ ap (λ ys. cond (eqb 0 L) (renumbered n d.top) [] ++ ys) (skip (body_in L) passed top_scope ps (λ m t. refl) (λ m t. either (eqb 0 L) None) (past n d.top) d.passed ∙ none_either (eqb 0 L) [])
    ∙ append-nil (cond (eqb 0 L) (renumbered n d.top) [])

-- ---- by the numbers of subcircuits

past_sub_more : (n : ℕ) (s : Sub) → n < past_sub n s
past_sub_more n s = let l = past_le (n + 1) s.cards in omega arith

-- no card behind line n stands in a scope that began before
later_none : (d : Deck) (ss : List Sub) (n L : ℕ) → 1 ≤ L → L < n → within L n top_scope (flat_map sub_cards ss ++ back_cards d) ≡ []
later_none d [] n L a b = within_back L n d ∙ ap (λ t. cond t (renumbered n d.top) []) (ne_eqb 0 L (omega arith))
later_none d (s ∷ ss) n L a b = let m = past_sub_more n s in
    within_sub L n s (flat_map sub_cards ss) (back_cards d) ∙ ap (λ t. cond t (renumbered (n + 1) s.cards) [] ++ within L (past_sub n s) top_scope (flat_map sub_cards ss ++ back_cards d)) (ne_eqb n L (omega arith))
    ∙ later_none d ss (past_sub n s) L a (omega arith)

-- its own scope holds its cards
own_cards : (d : Deck) (s : Sub) (ss : List Sub) (n : ℕ) → 1 ≤ n → within n n top_scope (flat_map sub_cards (s ∷ ss) ++ back_cards d) ≡ renumbered (n + 1) s.cards
own_cards d s ss n a =
    within_sub n n s (flat_map sub_cards ss) (back_cards d) ∙ ap (λ t. cond t (renumbered (n + 1) s.cards) [] ++ within n (past_sub n s) top_scope (flat_map sub_cards ss ++ back_cards d)) (eq-eqb n n refl)
    ∙ ap (λ ys. renumbered (n + 1) s.cards ++ ys) (later_none d ss (past_sub n s) n a (past_sub_more n s)) ∙ append-nil (renumbered (n + 1) s.cards)

-- names differ in each scope
differ_from : (d : Deck) → AllDiffer (map body_name d.top) → (ss : List Sub) → AllByRecursion (λ (s : Sub). AllDiffer (map body_name s.cards)) ss → (n : ℕ) → 1 ≤ n → (L : ℕ)
    → AllDiffer (map body_name (within L n top_scope (flat_map sub_cards ss ++ back_cards d)))
differ_from d t [] h n a L = ap (λ bs. has_twice (map body_name bs)) (within_back L n d) ∙ by (eqb 0 L) where
  by : (b : Bool) → has_twice (map body_name (cond b (renumbered n d.top) [])) ≡ false
  by true = ap has_twice (renumbered_names n d.top) ∙ t
  by false = refl
differ_from d t (s ∷ ss) h n a L =
    let m = past_sub_more n s in
    by (eqb n L) refl (differ_from d t ss h.1 (past_sub n s) (omega arith) L) where
      by : (b : Bool) → eqb n L ≡ b → AllDiffer (map body_name (within L (past_sub n s) top_scope (flat_map sub_cards ss ++ back_cards d)))
          → AllDiffer (map body_name (within L n top_scope (flat_map sub_cards (s ∷ ss) ++ back_cards d)))
      by true e ih = subst (λ k. AllDiffer (map body_name (within k n top_scope (flat_map sub_cards (s ∷ ss) ++ back_cards d)))) (eqb-true n L e)
          (ap (λ bs. has_twice (map body_name bs)) (own_cards d s ss n a) ∙ ap has_twice (renumbered_names (n + 1) s.cards) ∙ h.0)
      by false e ih = ap (λ bs. has_twice (map body_name bs)) (within_sub L n s (flat_map sub_cards ss) (back_cards d) ∙ ap (λ x. cond x (renumbered (n + 1) s.cards) [] ++ within L (past_sub n s) top_scope (flat_map sub_cards ss ++ back_cards d)) e) ∙ ih

-- the cards of the top
top_from : (d : Deck) (ss : List Sub) (n : ℕ) → 1 ≤ n → map unnumbered_body (within 0 n top_scope (flat_map sub_cards ss ++ back_cards d)) ≡ map unnumbered_body d.top
top_from d [] n a = ap (map unnumbered_body) (within_back 0 n d) ∙ renumbered_bare n d.top
top_from d (s ∷ ss) n a = let m = past_sub_more n s in
    ap (map unnumbered_body) (within_sub 0 n s (flat_map sub_cards ss) (back_cards d) ∙ ap (λ x. cond x (renumbered (n + 1) s.cards) [] ++ within 0 (past_sub n s) top_scope (flat_map sub_cards ss ++ back_cards d)) (ne_eqb n 0 (omega arith)))
    ∙ top_from d ss (past_sub n s) (omega arith)

-- ---- the subcircuits

no_sub : (whole : List Placed) (s : Scope) (n : ℕ) (b : Body) → sub_of whole (placed s n (body_card b)) ≡ None
no_sub whole s n (dev_at line d) = refl
no_sub whole s n (call_at line c) = refl

subs_from : (d : Deck) (whole : List Placed) (ss : List Sub) (n : ℕ) → 1 ≤ n → ((L : ℕ) → n ≤ L → bodies L whole ≡ within L n top_scope (flat_map sub_cards ss ++ back_cards d))
    → map unnumbered_sub (filter_map (sub_of whole) (placing n top_scope (flat_map sub_cards ss ++ back_cards d))) ≡ map unnumbered_sub ss
subs_from d whole [] n a w = ap (map unnumbered_sub)
    (skip (sub_of whole) body_card top_scope (map passed d.passed ++ ended ∷ []) (body_quiet top_scope) (no_sub whole top_scope) n d.top
    ∙ skip (sub_of whole) passed top_scope (ended ∷ []) (λ m t. refl) (λ m t. refl) (past n d.top) d.passed)
subs_from d whole (s ∷ ss) n a w =
    let name = s.head.name in
    let xs = flat_map sub_cards ss in
    let rest = back_cards d in
    let more = ends (Some name) ∷ (xs ++ rest) in
    let m = past_sub_more n s in
    let head : filter_map (sub_of whole) (placing n top_scope ((sub_cards s ++ xs) ++ rest)) ≡ record { line = n; head = s.head; cards = bodies n whole } ∷ filter_map (sub_of whole) (placing (past_sub n s) top_scope (xs ++ rest)) =
    ap (λ cs. filter_map (sub_of whole) (placing n top_scope cs)) (sub_split s xs rest)
    ∙ ap (λ ys. record { line = n; head = s.head; cards = bodies n whole } ∷ ys) (skip (sub_of whole) body_card (inside n name) more (body_quiet (inside n name)) (no_sub whole (inside n name)) (n + 1) s.cards) in
    let own : map unnumbered_body (bodies n whole) ≡ map unnumbered_body s.cards = ap (map unnumbered_body) (w n (omega arith) ∙ own_cards d s ss n a) ∙ renumbered_bare (n + 1) s.cards in
    let later : (L : ℕ) → past_sub n s ≤ L → bodies L whole ≡ within L (past_sub n s) top_scope (xs ++ rest) = λ L l. w L (omega arith) ∙ within_sub L n s xs rest
    ∙ ap (λ x. cond x (renumbered (n + 1) s.cards) [] ++ within L (past_sub n s) top_scope (xs ++ rest)) (ne_eqb n L (omega arith)) in
    ap (map unnumbered_sub) head ∙ ap (λ cs. record { line = 0; head = s.head; cards = cs } ∷ map unnumbered_sub (filter_map (sub_of whole) (placing (past_sub n s) top_scope (xs ++ rest)))) own
    ∙ ap (λ ys. unnumbered_sub s ∷ ys) (subs_from d whole ss (past_sub n s) (omega arith) later)

-- ---- behind the globals and models

abbrev front_past : Deck → ℕ → ℕ
front_past d n = past (past n d.globals) d.models

front_le : (d : Deck) (n : ℕ) → n ≤ front_past d n
front_le d n = let a = past_le n d.globals in let b = past_le (past n d.globals) d.models in omega arith

skip_front : {Y : Type 0} (h : Placed → Option Y) → ((n : ℕ) (g : List ℕ) → h (placed top_scope n (global (g ∷ []))) ≡ None) → ((n : ℕ) (m : Model) → h (placed top_scope n (model m)) ≡ None)
    → (d : Deck) (n : ℕ) → filter_map h (placing n top_scope (all_cards d)) ≡ filter_map h (placing (front_past d n) top_scope (flat_map sub_cards d.subs ++ back_cards d))
unfolding all_cards
skip_front h g m d n =
    let w : List ℕ → Card = λ x. global (x ∷ []) in
    let rest = flat_map sub_cards d.subs ++ back_cards d in
    skip h w top_scope (map model d.models ++ rest) (λ i x. refl) g n d.globals ∙ skip h model top_scope rest (λ i x. refl) m (past n d.globals) d.models

front_within : (d : Deck) (n L : ℕ) → within L n top_scope (all_cards d) ≡ within L (front_past d n) top_scope (flat_map sub_cards d.subs ++ back_cards d)
front_within d n L = skip_front (body_in L) (λ i g. either (eqb 0 L) None) (λ i m. either (eqb 0 L) None) d n

pub scopes_differ : (d : Deck) → AllDiffer (map body_name d.top) → AllByRecursion (λ (s : Sub). AllDiffer (map body_name s.cards)) d.subs → (n : ℕ) → 1 ≤ n → (L : ℕ) → AllDiffer (map body_name (within L n top_scope (all_cards d)))
scopes_differ d t h n a L = let l = front_le d n in ap (λ bs. has_twice (map body_name bs)) (front_within d n L) ∙ differ_from d t d.subs h (front_past d n) (omega arith) L

pub top_again : (d : Deck) (n : ℕ) → 1 ≤ n → map unnumbered_body (within 0 n top_scope (all_cards d)) ≡ map unnumbered_body d.top
top_again d n a = let l = front_le d n in ap (map unnumbered_body) (front_within d n 0) ∙ top_from d d.subs (front_past d n) (omega arith)

pub subs_again : (d : Deck) (n : ℕ) → 1 ≤ n → map unnumbered_sub (filter_map (sub_of (placing n top_scope (all_cards d))) (placing n top_scope (all_cards d))) ≡ map unnumbered_sub d.subs
subs_again d n a = let l = front_le d n in let whole = placing n top_scope (all_cards d) in
    ap (map unnumbered_sub) (skip_front (sub_of whole) (λ i g. refl) (λ i m. refl) d n) ∙ subs_from d whole d.subs (front_past d n) (omega arith) (λ L k. front_within d n L)
