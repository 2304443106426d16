-- Cards placed in order, the cards of a deck among them.
use Rattle.std.proofs.Common.{◌≡◌, ◌≤◌, ◌+◌, ℕ, List, [], ◌∷◌, ◌++◌, map, Option, Some, None, refl, sym, ap, ◌∙◌, subst, arith, append-nil, append_assoc, filter_map, flat_map, fold}
use Rattle.std.specs.Prelude.{option_to_list}
use Rattle.std.specs.List.{AllByRecursion, cons_option}
use Rattle.gl_text.specs.Cards.{Head, Model, Card, model, subckt, ends, global, ended, passed}
use Rattle.gl_text.specs.Decks.{Body, dev_at, call_at, Sub, Deck, Scope, Placed, top_scope, scope_after, scope_behind, model_of, passed_of, globals_of}
use Rattle.gl_printed.specs.ReadDecks.{body_card, sub_cards}
use Rattle.gl_printed.proofs.DeckCards.{all_cards, each_of, heads_picked, none_of, picked_parts}
use Rattle.gl_printed.proofs.DistinctNames.{head_of}

abbrev pub placed : Scope → ℕ → Card → Placed
placed s n c = record { scope = s; line = n; card = c }

abbrev pub inside : ℕ → List ℕ → Scope
inside n name = record { line = n; name = name }

-- cards placed from line n on, in a scope
abbrev pub placing : ℕ → Scope → List Card → List Placed
placing n s [] = []
placing n s (c ∷ cs) = placed s n c ∷ placing (n + 1) (scope_after s n c) cs

-- the number behind as many lines
abbrev pub past : {X : Type 0} → ℕ → List X → ℕ
past n [] = n
past n (x ∷ xs) = past (n + 1) xs

pub past_le : {X : Type 0} (n : ℕ) (xs : List X) → n ≤ past n xs
past_le n [] = omega arith
past_le n (x ∷ xs) = let l = past_le (n + 1) xs in omega arith

-- these cards leave the scope
abbrev pub Quiet : {X : Type 0} → (X → Card) → Scope → Type 0
Quiet {X} f s = (n : ℕ) (x : X) → scope_after s n (f x) ≡ s

pub body_quiet : (s : Scope) → Quiet body_card s
body_quiet s n (dev_at line d) = refl
body_quiet s n (call_at line c) = refl

-- the cards of a subcircuit before others
pub sub_split : (s : Sub) (xs rest : List Card) → (sub_cards s ++ xs) ++ rest ≡ subckt s.head ∷ (map body_card s.cards ++ (ends (Some s.head.name) ∷ (xs ++ rest)))
sub_split s xs rest = append_assoc (sub_cards s) xs rest ∙ ap (λ cs. subckt s.head ∷ cs) (append_assoc (map body_card s.cards) (ends (Some s.head.name) ∷ []) (xs ++ rest))

-- ---- what holds of each placed card

pub each_level : {X : Type 0} (P : Placed → Type 0) (f : X → Card) (s : Scope) (rest : List Card) → Quiet f s → ((n : ℕ) → 1 ≤ n → AllByRecursion P (placing n s rest))
    → (xs : List X) → ((n : ℕ) → AllByRecursion (λ x. P (placed s n (f x))) xs) → (n : ℕ) → 1 ≤ n → AllByRecursion P (placing n s (map f xs ++ rest))
each_level P f s rest q r [] h n l = r n l
each_level P f s rest q r (x ∷ xs) h n l = ((h n).0, subst (λ t. AllByRecursion P (placing (n + 1) t (map f xs ++ rest))) (sym (q n x)) (each_level P f s rest q r xs (λ m. (h m).1) (n + 1) (omega arith)))

pub each_subs : (P : Placed → Type 0) (rest : List Card) → ((n : ℕ) → 1 ≤ n → AllByRecursion P (placing n top_scope rest)) → (ss : List Sub)
    → ((n : ℕ) → 1 ≤ n → AllByRecursion (λ (s : Sub). P (placed top_scope n (subckt s.head))) ss)
    → ((n : ℕ) → 1 ≤ n → (m : ℕ) → AllByRecursion (λ (s : Sub). AllByRecursion (λ b. P (placed (inside n s.head.name) m (body_card b))) s.cards) ss)
    → ((n : ℕ) → 1 ≤ n → (m : ℕ) → AllByRecursion (λ (s : Sub). P (placed (inside n s.head.name) m (ends (Some s.head.name)))) ss)
    → (n : ℕ) → 1 ≤ n → AllByRecursion P (placing n top_scope (flat_map sub_cards ss ++ rest))
each_subs P rest r [] a b c n l = r n l
each_subs P rest r (s ∷ ss) a b c n l =
    let xs = flat_map sub_cards ss in
    subst (λ cs. AllByRecursion P (placing n top_scope cs)) (sym (sub_split s xs rest)) (
      (a n l).0,
      each_level P body_card (inside n s.head.name) (ends (Some s.head.name) ∷ (xs ++ rest)) (body_quiet (inside n s.head.name))
          (λ m k. ((c n l m).0, each_subs P rest r ss (λ i j. (a i j).1) (λ i j m. (b i j m).1) (λ i j m. (c i j m).1) (m + 1) (omega arith))) s.cards (λ m. (b n l m).0) (n + 1) (omega arith),
    )

-- what has to hold of each part of a deck
pub record Parts (P : Placed → Type 0) (d : Deck) : Type 0 where
  pub globals : (n : ℕ) → AllByRecursion (λ g. P (placed top_scope n (global (g ∷ [])))) d.globals
  pub models : (n : ℕ) → AllByRecursion (λ m. P (placed top_scope n (model m))) d.models
  pub heads : (n : ℕ) → 1 ≤ n → AllByRecursion (λ (s : Sub). P (placed top_scope n (subckt s.head))) d.subs
  pub cards : (n : ℕ) → 1 ≤ n → (m : ℕ) → AllByRecursion (λ (s : Sub). AllByRecursion (λ b. P (placed (inside n s.head.name) m (body_card b))) s.cards) d.subs
  pub closes : (n : ℕ) → 1 ≤ n → (m : ℕ) → AllByRecursion (λ (s : Sub). P (placed (inside n s.head.name) m (ends (Some s.head.name)))) d.subs
  pub top : (n : ℕ) → AllByRecursion (λ b. P (placed top_scope n (body_card b))) d.top
  pub passed : (n : ℕ) → AllByRecursion (λ t. P (placed top_scope n (passed t))) d.passed
  pub last : (n : ℕ) → P (placed top_scope n ended)

pub each_part : (P : Placed → Type 0) (d : Deck) → Parts P d → (n : ℕ) → 1 ≤ n → AllByRecursion P (placing n top_scope (all_cards d))
unfolding all_cards
each_part P d h =
    let p = map passed d.passed ++ ended ∷ [] in
    let t = map body_card d.top ++ p in
    let s = flat_map sub_cards d.subs ++ t in
    let m = map model d.models ++ s in
    let f : List ℕ → Card = λ g. global (g ∷ []) in
    let a = each_level P passed top_scope (ended ∷ []) (λ n x. refl) (λ n l. (h.last n, tt)) d.passed h.passed in
    let b = each_level P body_card top_scope p (body_quiet top_scope) a d.top h.top in
    let c = each_subs P t b d.subs h.heads h.cards h.closes in
    let e = each_level P model top_scope s (λ n x. refl) c d.models h.models in
    each_level P f top_scope m (λ n x. refl) e d.globals h.globals

-- ---- the scope behind all cards

after : ℕ → Scope → List Card → Scope
after n s [] = s
after n s (c ∷ cs) = after (n + 1) (scope_after s n c) cs

fold_after : (n : ℕ) (s : Scope) (cs : List Card) → fold (λ t (p : Placed). scope_after t p.line p.card) s (placing n s cs) ≡ after n s cs
unfolding after
fold_after n s [] = refl
fold_after n s (c ∷ cs) = fold_after (n + 1) (scope_after s n c) cs

after_level : {X : Type 0} (f : X → Card) (s : Scope) (rest : List Card) → Quiet f s → ((n : ℕ) → after n s rest ≡ top_scope) → (xs : List X) (n : ℕ) → after n s (map f xs ++ rest) ≡ top_scope
unfolding after
after_level f s rest q r [] n = r n
after_level f s rest q r (x ∷ xs) n = ap (λ t. after (n + 1) t (map f xs ++ rest)) (q n x) ∙ after_level f s rest q r xs (n + 1)

after_subs : (rest : List Card) → ((n : ℕ) → after n top_scope rest ≡ top_scope) → (ss : List Sub) (n : ℕ) → after n top_scope (flat_map sub_cards ss ++ rest) ≡ top_scope
unfolding after
after_subs rest r [] n = r n
after_subs rest r (s ∷ ss) n =
    let xs = flat_map sub_cards ss in
    ap (after n top_scope) (sub_split s xs rest) ∙ after_level body_card (inside n s.head.name) (ends (Some s.head.name) ∷ (xs ++ rest)) (body_quiet (inside n s.head.name)) (λ m. after_subs rest r ss (m + 1)) s.cards (n + 1)

pub scope_at_end : (d : Deck) (n : ℕ) → scope_behind (placing n top_scope (all_cards d)) ≡ top_scope
unfolding after all_cards
scope_at_end d n =
    let p = map passed d.passed ++ ended ∷ [] in
    let t = map body_card d.top ++ p in
    let s = flat_map sub_cards d.subs ++ t in
    let m = map model d.models ++ s in
    let f : List ℕ → Card = λ g. global (g ∷ []) in
    fold_after n top_scope (all_cards d) ∙ after_level f top_scope m (λ n x. refl) (after_level model top_scope s (λ n x. refl) (after_subs t (after_level body_card top_scope p (body_quiet top_scope) (after_level passed top_scope (ended ∷ []) (λ n x. refl) (λ n. refl) d.passed) d.top) d.subs) d.models) d.globals n

-- ---- what is picked without regard to scopes and lines

pub picked_by : {Y : Type 0} (h : Placed → Option Y) (g : Card → List Y) → ((s : Scope) (n : ℕ) (c : Card) → option_to_list (h (placed s n c)) ≡ g c) → (n : ℕ) (s : Scope) (cs : List Card) → filter_map h (placing n s cs) ≡ flat_map g cs
picked_by h g e n s [] = refl
picked_by {Y} h g e n s (c ∷ cs) = by (h (placed s n c)) (filter_map h (placing (n + 1) (scope_after s n c) cs)) ∙ ap (λ ys. option_to_list (h (placed s n c)) ++ ys) (picked_by h g e (n + 1) (scope_after s n c) cs) ∙ ap (λ ys. ys ++ flat_map g cs) (e s n c) where
  by : (o : Option Y) (ys : List Y) → cons_option o ys ≡ option_to_list o ++ ys
  by None ys = refl
  by (Some y) ys = refl

pub picked_all : {Y : Type 0} (h : Placed → List Y) (g : Card → List Y) → ((s : Scope) (n : ℕ) (c : Card) → h (placed s n c) ≡ g c) → (n : ℕ) (s : Scope) (cs : List Card) → flat_map h (placing n s cs) ≡ flat_map g cs
picked_all h g e n s [] = refl
picked_all h g e n s (c ∷ cs) = ap (λ ys. h (placed s n c) ++ ys) (picked_all h g e (n + 1) (scope_after s n c) cs) ∙ ap (λ ys. ys ++ flat_map g cs) (e s n c)

-- a card that stands anywhere
abbrev free : Card → Placed
free c = placed top_scope 0 c

abbrev card_models : Card → List Model
card_models c = option_to_list (model_of (free c))

abbrev card_texts : Card → List (List ℕ)
card_texts c = option_to_list (passed_of (free c))

abbrev card_heads : Card → List Head
card_heads c = option_to_list (head_of (free c))

abbrev card_globals : Card → List (List ℕ)
card_globals c = globals_of (free c)

-- a device or an X card gives none of these
no_models : (b : Body) → card_models (body_card b) ≡ []
no_models (dev_at line e) = refl
no_models (call_at line c) = refl

no_texts : (b : Body) → card_texts (body_card b) ≡ []
no_texts (dev_at line e) = refl
no_texts (call_at line c) = refl

no_heads : (b : Body) → card_heads (body_card b) ≡ []
no_heads (dev_at line e) = refl
no_heads (call_at line c) = refl

no_globals : (b : Body) → card_globals (body_card b) ≡ []
no_globals (dev_at line e) = refl
no_globals (call_at line c) = refl

pub models_again : (d : Deck) (n : ℕ) → filter_map model_of (placing n top_scope (all_cards d)) ≡ d.models
models_again d n = picked_by model_of card_models (λ s m c. refl) n top_scope (all_cards d)
    ∙ picked_parts card_models d [] d.models [] [] [] (none_of (λ x. []) (λ x. refl) d.globals) (each_of d.models) (heads_picked card_models no_models (λ o. refl) d.subs ∙ none_of (λ x. []) (λ x. refl) d.subs)
    (none_of (λ b. card_models (body_card b)) no_models d.top) (ap (λ ys. ys ++ []) (none_of (λ x. []) (λ x. refl) d.passed)) ∙ append-nil d.models

pub passed_again : (d : Deck) (n : ℕ) → filter_map passed_of (placing n top_scope (all_cards d)) ≡ d.passed
passed_again d n = picked_by passed_of card_texts (λ s m c. refl) n top_scope (all_cards d)
    ∙ picked_parts card_texts d [] [] [] [] d.passed (none_of (λ x. []) (λ x. refl) d.globals) (none_of (λ x. []) (λ x. refl) d.models) (heads_picked card_texts no_texts (λ o. refl) d.subs ∙ none_of (λ x. []) (λ x. refl) d.subs)
    (none_of (λ b. card_texts (body_card b)) no_texts d.top) (ap (λ ys. ys ++ []) (each_of d.passed) ∙ append-nil d.passed)

pub globals_again : (d : Deck) (n : ℕ) → flat_map globals_of (placing n top_scope (all_cards d)) ≡ d.globals
globals_again d n = picked_all globals_of card_globals (λ s m c. refl) n top_scope (all_cards d)
    ∙ picked_parts card_globals d d.globals [] [] [] [] (each_of d.globals) (none_of (λ x. []) (λ x. refl) d.models) (heads_picked card_globals no_globals (λ o. refl) d.subs ∙ none_of (λ x. []) (λ x. refl) d.subs)
    (none_of (λ b. card_globals (body_card b)) no_globals d.top) (ap (λ ys. ys ++ []) (none_of (λ x. []) (λ x. refl) d.passed)) ∙ append-nil d.globals

heads_of : (ss : List Sub) → flat_map (λ (s : Sub). s.head ∷ []) ss ≡ map (λ (s : Sub). s.head) ss
heads_of [] = refl
heads_of (s ∷ ss) = ap (λ hs. s.head ∷ hs) (heads_of ss)

pub heads_again : (d : Deck) (n : ℕ) → filter_map head_of (placing n top_scope (all_cards d)) ≡ map (λ (s : Sub). s.head) d.subs
heads_again d n = picked_by head_of card_heads (λ s m c. refl) n top_scope (all_cards d)
    ∙ picked_parts card_heads d [] [] (map (λ (s : Sub). s.head) d.subs) [] [] (none_of (λ x. []) (λ x. refl) d.globals) (none_of (λ x. []) (λ x. refl) d.models) (heads_picked card_heads no_heads (λ o. refl) d.subs ∙ heads_of d.subs)
    (none_of (λ b. card_heads (body_card b)) no_heads d.top) (ap (λ ys. ys ++ []) (none_of (λ x. []) (λ x. refl) d.passed)) ∙ append-nil (map (λ (s : Sub). s.head) d.subs)
