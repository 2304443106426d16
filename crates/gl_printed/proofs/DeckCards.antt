-- All cards of a deck, and what is picked of them.
use Rattle.std.proofs.Common.{◌≡◌, ℕ, List, [], ◌∷◌, ◌++◌, map, Option, Some, refl, ap, ◌∙◌, append-nil, append_assoc, flat_map}
use Rattle.std.proofs.lemmas.Grind.{flat_map-append}
use Rattle.std.proofs.lemmas.List.Folds.{flat_map-map}
use Rattle.gl_text.specs.Cards.{Card, subckt, ends, global, model, passed, ended}
use Rattle.gl_text.specs.Decks.{Body, Sub, Deck}
use Rattle.gl_printed.specs.ReadDecks.{body_card, sub_cards, cards_of}

-- all cards, with `.end`, nested to the right
unfoldable pub all_cards : Deck → List Card
all_cards d = map (λ n. global (n ∷ [])) d.globals ++ (map model d.models ++ (flat_map sub_cards d.subs ++ (map body_card d.top ++ (map passed d.passed ++ ended ∷ []))))

pub all_are : (d : Deck) → cards_of d ++ ended ∷ [] ≡ all_cards d
unfolding all_cards
all_are d = simp append_assoc

subs_picked : {Y : Type 0} (g : Card → List Y) (ss : List Sub) → flat_map g (flat_map sub_cards ss) ≡ flat_map (λ s. flat_map g (sub_cards s)) ss
subs_picked g [] = refl
subs_picked g (s ∷ ss) = flat_map-append g (sub_cards s) (flat_map sub_cards ss) ∙ ap (λ ys. flat_map g (sub_cards s) ++ ys) (subs_picked g ss)

one_more : {Y : Type 0} (g : Card → List Y) (xs ys : List Card) (a b : List Y) → flat_map g xs ≡ a → flat_map g ys ≡ b → flat_map g (xs ++ ys) ≡ a ++ b
one_more g xs ys a b e f = flat_map-append g xs ys ∙ ap (λ t. t ++ flat_map g ys) e ∙ ap (λ t. a ++ t) f

-- of all cards, by the parts
pub picked_parts : {Y : Type 0} (g : Card → List Y) (d : Deck) (a b c e f : List Y) → flat_map (λ n. g (global (n ∷ []))) d.globals ≡ a → flat_map (λ m. g (model m)) d.models ≡ b → flat_map (λ s. flat_map g (sub_cards s)) d.subs ≡ c
    → flat_map (λ x. g (body_card x)) d.top ≡ e → flat_map (λ t. g (passed t)) d.passed ++ g ended ≡ f → flat_map g (all_cards d) ≡ a ++ (b ++ (c ++ (e ++ f)))
unfolding all_cards
picked_parts g d a b c e f ga gb gc ge gf =
    let w : List ℕ → Card = λ n. global (n ∷ []) in
    let p = map passed d.passed in
    let t = map body_card d.top in
    let s = flat_map sub_cards d.subs in
    let m = map model d.models in
    let pe : flat_map g (p ++ ended ∷ []) ≡ f = one_more g p (ended ∷ []) (flat_map (λ x. g (passed x)) d.passed) (g ended) (flat_map-map g passed d.passed) (append-nil (g ended)) ∙ gf in
    one_more g (map w d.globals) (m ++ (s ++ (t ++ (p ++ ended ∷ [])))) a (b ++ (c ++ (e ++ f))) (flat_map-map g w d.globals ∙ ga)
    (one_more g m (s ++ (t ++ (p ++ ended ∷ []))) b (c ++ (e ++ f)) (flat_map-map g model d.models ∙ gb)
    (one_more g s (t ++ (p ++ ended ∷ [])) c (e ++ f) (subs_picked g d.subs ∙ gc)
    (one_more g t (p ++ ended ∷ []) e f (flat_map-map g body_card d.top ∙ ge) pe)))

pub none_of : {X Y : Type 0} (g : X → List Y) → ((x : X) → g x ≡ []) → (xs : List X) → flat_map g xs ≡ []
none_of g e [] = refl
none_of g e (x ∷ xs) = ap (λ ys. ys ++ flat_map g xs) (e x) ∙ none_of g e xs

pub each_of : {X : Type 0} (xs : List X) → flat_map (λ x. x ∷ []) xs ≡ xs
each_of [] = refl
each_of (x ∷ xs) = ap (λ ys. x ∷ ys) (each_of xs)

-- a subcircuit gives what its head gives
head_picked : {Y : Type 0} (g : Card → List Y) → ((b : Body) → g (body_card b) ≡ []) → ((o : Option (List ℕ)) → g (ends o) ≡ []) → (s : Sub) → flat_map g (sub_cards s) ≡ g (subckt s.head)
head_picked g e f s =
    let o = ends (Some s.head.name) in
    ap (λ ys. g (subckt s.head) ++ ys) (flat_map-append g (map body_card s.cards) (o ∷ []) ∙ ap (λ ys. ys ++ flat_map g (o ∷ [])) (flat_map-map g body_card s.cards ∙ none_of (λ b. g (body_card b)) e s.cards) ∙ ap (λ ys. ys ++ []) (f (Some s.head.name)))
    ∙ append-nil (g (subckt s.head))

pub heads_picked : {Y : Type 0} (g : Card → List Y) → ((b : Body) → g (body_card b) ≡ []) → ((o : Option (List ℕ)) → g (ends o) ≡ []) → (ss : List Sub) → flat_map (λ s. flat_map g (sub_cards s)) ss ≡ flat_map (λ (s : Sub). g (subckt s.head)) ss
heads_picked g e f [] = refl
heads_picked g e f (s ∷ ss) = ap (λ ys. ys ++ flat_map (λ t. flat_map g (sub_cards t)) ss) (head_picked g e f s) ∙ ap (λ ys. g (subckt s.head) ++ ys) (heads_picked g e f ss)
