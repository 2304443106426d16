-- What is known of cards that were placed.
use Rattle.std.proofs.Common.{◌≡◌, ◌≤◌, ◌<◌, ◌+◌, ℕ, List, [], ◌∷◌, ◌++◌, length, false, None, Result, Ok, Err, refl, sym, ◌∙◌, subst, arith, codes}
use Rattle.std.specs.Prelude.{◌&&◌}
use Rattle.std.specs.List.{AllByRecursion}
use Rattle.gl_text.specs.LogicalLines.{LINE, Fault, local_card, duplicate_port, zero_port, Line}
use Rattle.gl_fault.specs.Refusals.{first_some, when, or_else}
use Rattle.gl_text.specs.Cards.{Head, Card, subckt, ends, card_of, no_card, has_parameters, has_long_tail}
use Rattle.gl_text.specs.Decks.{Scope, Placed, scope_after, scope_behind, is_inside, is_of_top, nested, bad_ends, duplicate, has_twice, is_in, ports_of, place, placed_from}
use Rattle.gl_text.proofs.CardLaws.{all_none}
use Rattle.gl_text.specs.WayBack.{IsOneLine}
use Rattle.gl_printed.specs.ReadCards.{IsFine}
use Rattle.gl_lists.proofs.Each.{each_both, each_to, each_push}
use Rattle.gl_fault.proofs.FirstLaws.{none_first, or_else_ok, when_none, bind_ok}
use Rattle.gl_printed.proofs.ReadCardLaws.{fine_again}
use Rattle.gl_printed.proofs.DistinctNames.{NamesDiffer, differ_more, differ_none}
use Rattle.gl_printed.proofs.PlacedCards.{placed}
use Rattle.gl_printed.proofs.PlacingLaws.{faults, scope_one_more}
use Rattle.gl_printed.proofs.ReadLineLaws.{InOrder}

-- ---- one card

pub record IsPlaced (before : List Placed) (l : Line) (p : Placed) : Type 0 where
  pub is_it : p ≡ placed (scope_behind before) l.line (card_of l.text)
  pub fine : IsFine p.card
  pub no_other : duplicate before p ≡ None
  pub ports_differ : has_twice (ports_of p.card) ≡ false
  pub no_zero : is_in (codes "0") (ports_of p.card) ≡ false

place_is : (before : List Placed) (l : Line) (p : Placed) → IsOneLine l.text → length l.text ≤ LINE → place before l ≡ Ok p → IsPlaced before l p
place_is before l p o s h =
    let q = placed (scope_behind before) l.line (card_of l.text) in
    let judge : Placed → Result Placed Fault = λ x. or_else (first_some (faults before l x)) x in
    let b = bind_ok (or_else (no_card l) q) judge p h in
    let c = or_else_ok (no_card l) q b.0 b.1 in
    let d = or_else_ok (first_some (faults before l b.0)) b.0 p b.2 in
    let e : q ≡ p = c.1 ∙ d.1 in
    let f : first_some (faults before l p) ≡ None = subst (λ x. first_some (faults before l x) ≡ None) d.1 d.0 in
    let f1 = none_first (nested p) _ f in
    let f2 = none_first (bad_ends p) _ f1.1 in
    let f3 = none_first (when (is_inside p.scope && is_of_top p.card) (local_card p.line)) _ f2.1 in
    let f4 = none_first (has_parameters l) _ f3.1 in
    let f5 = none_first (duplicate before p) _ f4.1 in
    let f6 = none_first (when (has_twice (ports_of p.card)) (duplicate_port p.line)) _ f5.1 in
    let f7 = none_first (when (is_in (codes "0") (ports_of p.card)) (zero_port p.line)) _ f6.1 in
    let f8 = none_first (has_long_tail l) [] f7.1 in
    record {
      is_it = sym e;
      fine = subst (λ (x : Placed). IsFine x.card) e (fine_again l (card_of l.text) o s (all_none (no_card l) (has_parameters l) (has_long_tail l) (card_of l.text) (card_of l.text) c.0 f4.0 f8.0 refl));
      no_other = f5.0;
      ports_differ = when_none (has_twice (ports_of p.card)) (duplicate_port p.line) f6.0;
      no_zero = when_none (is_in (codes "0") (ports_of p.card)) (zero_port p.line) f7.0;
    }

-- ---- scopes

-- a scope that begins at the line of a `.subckt` card has its name
abbrev pub Agrees : Placed → Scope → Type 0
Agrees p s = (h : Head) → p.card ≡ subckt h → s.line ≡ p.line → s.name ≡ h.name

agree_old : (p : Placed) (s : Scope) (line : ℕ) (c : Card) → 1 ≤ p.line → p.line < line → Agrees p s → Agrees p (scope_after s line c)
agree_old p s line (subckt d) a b g = λ h e f. absurd (omega arith)
agree_old p s line (ends d) a b g = λ h e f. absurd (omega arith)
agree_old p s line c a b g = g

agree_new : (s : Scope) (line : ℕ) (c : Card) → Agrees (placed s line c) (scope_after s line c)
agree_new s line (subckt d) = λ h e f. cc
agree_new s line c = λ h e f. absurd cc

after_low : (s : Scope) (line n : ℕ) (c : Card) → s.line < n → n ≤ line → (scope_after s line c).line < line + 1
after_low s line n (subckt d) a b = omega arith
after_low s line n (ends d) a b = omega arith
after_low s line n c a b = omega arith

-- ---- all cards

pub record IsLow (n : ℕ) (p : Placed) : Type 0 where
  pub some : 1 ≤ p.line
  pub line : p.line < n
  pub scope : p.scope.line < n

pub record Held (n : ℕ) (ps : List Placed) : Type 0 where
  pub fine : AllByRecursion (λ (p : Placed). IsFine p.card) ps
  pub ports_differ : AllByRecursion (λ (p : Placed). has_twice (ports_of p.card) ≡ false) ps
  pub no_zero : AllByRecursion (λ (p : Placed). is_in (codes "0") (ports_of p.card) ≡ false) ps
  pub differ : NamesDiffer ps
  pub low : AllByRecursion (IsLow n) ps
  pub behind_low : (scope_behind ps).line < n
  pub scopes : AllByRecursion (λ (p : Placed). AllByRecursion (λ (q : Placed). Agrees p q.scope) ps) ps
  pub behind : AllByRecursion (λ (p : Placed). Agrees p (scope_behind ps)) ps

held_none : (n : ℕ) → 1 ≤ n → Held n []
held_none n l = record { fine = tt; ports_differ = tt; no_zero = tt; differ = differ_none; low = tt; behind_low = omega arith; scopes = tt; behind = tt }

higher : (n m : ℕ) → n ≤ m → (p : Placed) → IsLow n p → IsLow m p
higher n m l p h = let a = h.line in let b = h.scope in record { some = h.some; line = omega arith; scope = omega arith }

held_more : (n : ℕ) (ps : List Placed) (line : ℕ) (c : Card) → 1 ≤ n → n ≤ line → Held n ps → IsFine c → duplicate ps (placed (scope_behind ps) line c) ≡ None → has_twice (ports_of c) ≡ false → is_in (codes "0") (ports_of c) ≡ false
    → Held (line + 1) (ps ++ placed (scope_behind ps) line c ∷ [])
held_more n ps line c a b h f d t z =
    let s = scope_behind ps in
    let p = placed s line c in
    let all = ps ++ p ∷ [] in
    let next : scope_behind all ≡ scope_after s line c = scope_one_more ps p in
    let low = h.behind_low in
    let old : AllByRecursion (λ (q : Placed). Agrees q s) ps = h.behind in
    record {
      fine = each_push (λ (q : Placed). IsFine q.card) ps p h.fine f;
      ports_differ = each_push (λ (q : Placed). has_twice (ports_of q.card) ≡ false) ps p h.ports_differ t;
      no_zero = each_push (λ (q : Placed). is_in (codes "0") (ports_of q.card) ≡ false) ps p h.no_zero z;
      differ = differ_more ps p h.differ d;
      low = each_push (IsLow (line + 1)) ps p (each_to (IsLow n) (IsLow (line + 1)) (higher n (line + 1) (omega arith)) ps h.low) (record { some = omega arith; line = omega arith; scope = omega arith });
      behind_low = subst (λ (x : Scope). x.line < line + 1) (sym next) (after_low s line n c low b);
      scopes = each_push (λ (q : Placed). AllByRecursion (λ (r : Placed). Agrees q r.scope) all) ps p
          (each_both (λ (q : Placed). AllByRecursion (λ (r : Placed). Agrees q r.scope) ps) (λ (q : Placed). Agrees q s) (λ (q : Placed). AllByRecursion (λ (r : Placed). Agrees q r.scope) all)
          (λ q i j. each_push (λ (r : Placed). Agrees q r.scope) ps p i j) ps h.scopes old)
          (each_push (λ (r : Placed). Agrees p r.scope) ps p (each_to (IsLow n) (λ (r : Placed). Agrees p r.scope) (λ r i k e g. absurd (let u = i.scope in omega arith)) ps h.low) (λ k e g. absurd (omega arith)));
      behind = subst (λ x. AllByRecursion (λ (q : Placed). Agrees q x) all) (sym next) (each_push (λ (q : Placed). Agrees q (scope_after s line c)) ps p
          (each_both (IsLow n) (λ (q : Placed). Agrees q s) (λ (q : Placed). Agrees q (scope_after s line c)) (λ q i j. let u = i.line in agree_old q s line c i.some (omega arith) j) ps h.low old) (agree_new s line c));
    }

held_line : (n : ℕ) (ps : List Placed) (l : Line) (p : Placed) → 1 ≤ n → n ≤ l.line → Held n ps → IsPlaced ps l p → Held (l.line + 1) (ps ++ p ∷ [])
held_line n ps l p a b h i =
    let e = i.is_it in
    subst (λ x. Held (l.line + 1) (ps ++ x ∷ [])) (sym e)
    (held_more n ps l.line (card_of l.text) a b h (subst (λ (x : Placed). IsFine x.card) e i.fine) (subst (λ x. duplicate ps x ≡ None) e i.no_other)
    (subst (λ (x : Placed). has_twice (ports_of x.card) ≡ false) e i.ports_differ) (subst (λ (x : Placed). is_in (codes "0") (ports_of x.card) ≡ false) e i.no_zero))

ok_is : {A : Type 0} (x y : A) (r : Result A Fault) → r ≡ Ok x → r ≡ Ok y → x ≡ y
ok_is x y r e f = cc

placed_held : (rs : List (Result Line Fault)) (n : ℕ) (before cards : List Placed) → 1 ≤ n → InOrder n rs → Held n before → placed_from before rs ≡ Ok cards → (m : ℕ) × Held m cards
placed_held [] n before cards a i h e = (n, subst (Held n) (ok_is before cards (Ok before) refl e) h)
placed_held (Err f ∷ rs) n before cards a i h e = absurd cc
placed_held (Ok l ∷ rs) n before cards a i h e =
    let b = bind_ok (place before l) (λ p. placed_from (before ++ p ∷ []) rs) cards e in
    let p = place_is before l b.0 i.1 i.2 b.1 in
    placed_held rs (l.line + 1) (before ++ b.0 ∷ []) cards (omega arith) i.3 (held_line n before l b.0 a i.0 h p) b.2

-- what was placed from lines in order
pub cards_held : (rs : List (Result Line Fault)) (n : ℕ) (cards : List Placed) → 1 ≤ n → InOrder n rs → placed_from [] rs ≡ Ok cards → (m : ℕ) × Held m cards
cards_held rs n cards a i e = placed_held rs n [] cards a i (held_none n a) e
