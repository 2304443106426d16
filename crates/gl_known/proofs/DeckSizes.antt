-- A deck is no larger than its cards together.
use Rattle.std.proofs.Common.{◌≡◌, ◌≤◌, ◌+◌, ℕ, suc, List, [], ◌∷◌, length, cond, eqb, leb, Bool, true, false, None, refl, ◌∙◌, arith}
use Rattle.std.specs.Prelude.{not, codes, filter, flat_map, filter_map, sum_by}
use Rattle.std.proofs.lemmas.Bool.{eqb-true, leb-true, leb-false}
use Rattle.gl_text.specs.LogicalLines.{same_text}
use Rattle.gl_text.specs.Cards.{Card, dev, subckt}
use Rattle.gl_text.specs.Decks.{Scope, Placed, body_of, bodies, sub_of, model_of, passed_of, globals_of, once, deck_by}
use Rattle.gl_known.specs.Known.{body_size, sub_size, deck_size}
use Rattle.gl_known.proofs.Totals.{total, one, if_some, total_is, length_is, total-le, total-same, total-filter, total-filter_map, length-flat_map}
use Rattle.gl_known.proofs.CardsRead.{global_size, model_size, head_size, node_size, passed_size, card_size}
use Rattle.gl_known.proofs.Placing.{RisingCards}

-- ---- a part of each card

abbrev of_global : Placed → ℕ
of_global p = global_size p.card

abbrev of_model : Placed → ℕ
of_model p = model_size p.card

abbrev of_head : Placed → ℕ
of_head p = head_size p.card

abbrev of_nodes : Placed → ℕ
of_nodes p = node_size p.card

abbrev of_passed : Placed → ℕ
of_passed p = passed_size p.card

parts : (ps : List Placed) → total (λ (p : Placed). card_size p.card) ps ≡ total of_global ps + total of_model ps + total of_head ps + total of_nodes ps + total of_passed ps
parts [] = refl
parts (p ∷ ps) = let h = parts ps in omega arith

-- ---- the cards of a scope

-- the nodes of the cards of one scope, and of those from a line on
abbrev at_line : ℕ → Placed → ℕ
at_line line p = cond (eqb p.scope.line line) (node_size p.card) 0

abbrev from_line : ℕ → Placed → ℕ
from_line line p = cond (leb line p.scope.line) (node_size p.card) 0

body_is : (s : Scope) (n : ℕ) (c : Card) → if_some body_size (body_of (record { scope = s; line = n; card = c })) ≡ node_size c
body_is s n (dev d) = refl
body_is s n _ = refl

at_by : (t : Bool) (p : Placed) → if_some body_size (cond t (body_of p) None) ≡ cond t (node_size p.card) 0
at_by true p = body_is p.scope p.line p.card
at_by false p = refl

bodies_are : (line : ℕ) (ps : List Placed) → sum_by body_size (bodies line ps) ≡ total (at_line line) ps
bodies_are line ps =
    let in_scope = λ (p : Placed). cond (eqb p.scope.line line) (body_of p) None in
    total_is body_size (bodies line ps) ∙ total-filter_map body_size in_scope ps ∙ total-same (λ (p : Placed). if_some body_size (in_scope p)) (at_line line) (λ p. at_by (eqb p.scope.line line) p) ps

-- the cards of a scope and of later ones
apart_by : (n line s w : ℕ) (a b c : Bool) → n ≤ line → eqb s line ≡ a → leb (suc line) s ≡ b → leb n s ≡ c → cond a w 0 + cond b w 0 ≤ cond c w 0
apart_by n line s w true true c le p q r = absurd (let e = eqb-true s line p in let f = leb-true (suc line) s q in omega arith)
apart_by n line s w true false true le p q r = omega arith
apart_by n line s w true false false le p q r = absurd (let e = eqb-true s line p in let g = leb-false n s r in omega arith)
apart_by n line s w false true true le p q r = omega arith
apart_by n line s w false true false le p q r = absurd (let f = leb-true (suc line) s q in let g = leb-false n s r in omega arith)
apart_by n line s w false false c le p q r = omega arith

apart : (n line : ℕ) → n ≤ line → (ps : List Placed) → total (at_line line) ps + total (from_line (suc line)) ps ≤ total (from_line n) ps
apart n line le [] = omega arith
apart n line le (p ∷ ps) =
    let s = p.scope.line in
    let h = apart n line le ps in
    let a = apart_by n line s (node_size p.card) (eqb s line) (leb (suc line) s) (leb n s) le refl refl refl in
    omega arith

some_by : (t : Bool) (w : ℕ) → cond t w 0 ≤ w
some_by true w = omega arith
some_by false w = omega arith

-- the cards outside subcircuits and those within
whole : (ps : List Placed) → total (at_line 0) ps + total (from_line 1) ps ≤ total of_nodes ps
whole ps =
    let a = apart 0 0 (omega arith) ps in
    let b = total-le (from_line 0) of_nodes (λ p. some_by (leb 0 p.scope.line) (node_size p.card)) ps in
    omega arith

-- ---- subcircuits

sub_small : (n : ℕ) (cards : List Placed) (s : Scope) (line : ℕ) (c : Card) (rest head : ℕ) → n ≤ line → rest ≤ head + total (from_line (suc line)) cards
    → if_some sub_size (sub_of cards (record { scope = s; line = line; card = c })) + rest ≤ head_size c + head + total (from_line n) cards
sub_small n cards s line (subckt k) rest head le h = let a = apart n line le cards in let b = bodies_are line cards in omega arith
sub_small n cards s line _ rest head le h = let a = apart n line le cards in omega arith

subs_small : (n : ℕ) (cards ps : List Placed) → RisingCards n ps → total (λ (p : Placed). if_some sub_size (sub_of cards p)) ps ≤ total of_head ps + total (from_line n) cards
subs_small n cards [] r = omega arith
subs_small n cards (p ∷ ps) r =
    let h = subs_small (suc p.line) cards ps r.1 in
    let s = sub_small n cards p.scope p.line p.card (total (λ (q : Placed). if_some sub_size (sub_of cards q)) ps) (total of_head ps) r.0 h in
    omega arith

-- ---- globals, models and passed cards

once_few : (ns : List (List ℕ)) → total one (once ns) ≤ total one ns
once_few [] = omega arith
once_few (n ∷ ns) = let f = total-filter one (λ m. not (same_text n m)) (once ns) in let h = once_few ns in omega arith

global_is : (s : Scope) (n : ℕ) (c : Card) → length (globals_of (record { scope = s; line = n; card = c })) ≡ global_size c
global_is s n (dev d) = refl
global_is s n _ = refl

globals_small : (ps : List Placed) → length (filter (λ n. not (same_text n (codes "0"))) (once (flat_map globals_of ps))) ≤ total of_global ps
globals_small ps =
    let all = flat_map globals_of ps in
    let kept = filter (λ n. not (same_text n (codes "0"))) (once all) in
    let a = length_is kept in
    let b = total-filter one (λ n. not (same_text n (codes "0"))) (once all) in
    let c = once_few all in
    let d = length_is all in
    let e = length-flat_map globals_of ps in
    let f = total-same (λ (p : Placed). length (globals_of p)) of_global (λ p. global_is p.scope p.line p.card) ps in
    omega arith

model_is : (s : Scope) (n : ℕ) (c : Card) → if_some one (model_of (record { scope = s; line = n; card = c })) ≡ model_size c
model_is s n (dev d) = refl
model_is s n _ = refl

models_are : (ps : List Placed) → length (filter_map model_of ps) ≡ total of_model ps
models_are ps =
    length_is (filter_map model_of ps) ∙ total-filter_map one model_of ps ∙ total-same (λ (p : Placed). if_some one (model_of p)) of_model (λ p. model_is p.scope p.line p.card) ps

passed_is : (s : Scope) (n : ℕ) (c : Card) → if_some one (passed_of (record { scope = s; line = n; card = c })) ≡ passed_size c
passed_is s n (dev d) = refl
passed_is s n _ = refl

passed_are : (ps : List Placed) → length (filter_map passed_of ps) ≡ total of_passed ps
passed_are ps =
    length_is (filter_map passed_of ps) ∙ total-filter_map one passed_of ps ∙ total-same (λ (p : Placed). if_some one (passed_of p)) of_passed (λ p. passed_is p.scope p.line p.card) ps

-- ---- the deck

-- each card is counted once
pub deck_small : (title : List ℕ) (cards : List Placed) → RisingCards 1 cards → deck_size (deck_by title cards) ≤ total (λ (p : Placed). card_size p.card) cards
deck_small title cards r =
    let a = globals_small cards in
    let b = models_are cards in
    let c = total_is sub_size (filter_map (sub_of cards) cards) ∙ total-filter_map sub_size (sub_of cards) cards in
    let d = subs_small 1 cards cards r in
    let e = bodies_are 0 cards in
    let f = passed_are cards in
    let g = whole cards in
    let h = parts cards in
    omega arith
