-- Subcircuits that were read.
use Rattle.std.proofs.Common.{◌≡◌, ◌≤◌, ℕ, List, [], ◌∷◌, map, false, Some, None, refl, ap, subst, codes, filter_map}
use Rattle.std.specs.List.{AllByRecursion, cons_option}
use Rattle.gl_text.specs.Cards.{Card, Head, dev, call, model, subckt, ends, global, ended, passed}
use Rattle.gl_text.specs.Decks.{Body, Sub, Scope, Placed, has_twice, is_in, ports_of, bodies, sub_of, call_fault}
use Rattle.gl_printed.specs.ReadCards.{IsFine}
use Rattle.gl_printed.specs.ReadDecks.{FindsSubWithin, IsReadSub}
use Rattle.gl_lists.proofs.Each.{each_both, each_to}
use Rattle.gl_printed.proofs.DistinctNames.{body_in, head_name, head_of, names_by, none_is}
use Rattle.gl_printed.proofs.PlacedCards.{placed}
use Rattle.gl_printed.proofs.HeldCards.{Agrees, Held, IsLow}
use Rattle.gl_printed.proofs.PickedCards.{bodies_fine, each_picked}
use Rattle.gl_printed.proofs.CalledSubs.{inner_call}
use Rattle.std.proofs.lemmas.Option.{same_Some}

abbrev pub Unrefused : List Sub → List Placed → Type 0
Unrefused subs cards = AllByRecursion (λ p. call_fault subs p ≡ None) cards

sub_read : (m : ℕ) (cards : List Placed) (subs : List Sub) → Held m cards → Unrefused subs cards → (s : Scope) (n : ℕ) (c : Card) → IsFine c → 1 ≤ n → AllByRecursion (λ (q : Placed). Agrees (placed s n c) q.scope) cards
    → has_twice (ports_of c) ≡ false → is_in (codes "0") (ports_of c) ≡ false → (t : Sub) → sub_of cards (placed s n c) ≡ Some t → IsReadSub subs t
sub_read m cards subs h u s n (dev d) f l a p z t e = none_is t e
sub_read m cards subs h u s n (call d) f l a p z t e = none_is t e
sub_read m cards subs h u s n (model d) f l a p z t e = none_is t e
sub_read m cards subs h u s n (subckt d) f l a p z t e =
    let made : Sub = record { line = n; head = d; cards = bodies n cards } in
    let good : IsReadSub subs made = record {
      head = f;
      ports_differ = p;
      no_zero = z;
      cards = bodies_fine n m cards h;
      names_differ = h.differ.scopes n;
      calls = each_picked (FindsSubWithin subs d.name) (body_in n) cards (each_both (λ (q : Placed). Agrees (placed s n (subckt d)) q.scope) (λ q. call_fault subs q ≡ None) (λ q. (b : Body) → body_in n q ≡ Some b → FindsSubWithin subs d.name b)
          (λ q i j. inner_call subs n d.name q.scope q.line q.card l (λ k. i d refl k) j) cards a u);
    } in
    subst (IsReadSub subs) (same_Some made t e) good
sub_read m cards subs h u s n (ends d) f l a p z t e = none_is t e
sub_read m cards subs h u s n (global d) f l a p z t e = none_is t e
sub_read m cards subs h u s n ended f l a p z t e = none_is t e
sub_read m cards subs h u s n (passed d) f l a p z t e = none_is t e

record IsGood (cards : List Placed) (p : Placed) : Type 0 where
  fine : IsFine p.card
  some : 1 ≤ p.line
  agrees : AllByRecursion (λ (q : Placed). Agrees p q.scope) cards
  ports_differ : has_twice (ports_of p.card) ≡ false
  no_zero : is_in (codes "0") (ports_of p.card) ≡ false

all_good : (m : ℕ) (cards : List Placed) → Held m cards → AllByRecursion (IsGood cards) cards
all_good m cards h =
    let a = each_both (λ (p : Placed). IsFine p.card) (IsLow m) (λ (p : Placed). IsFine p.card × (1 ≤ p.line)) (λ p i j. (i, j.some)) cards h.fine h.low in
    let b = each_both (λ (p : Placed). has_twice (ports_of p.card) ≡ false) (λ (p : Placed). is_in (codes "0") (ports_of p.card) ≡ false) (λ (p : Placed). (has_twice (ports_of p.card) ≡ false) × (is_in (codes "0") (ports_of p.card) ≡ false)) (λ p i j. (i, j)) cards h.ports_differ h.no_zero in
    let c = each_both (λ (p : Placed). IsFine p.card × (1 ≤ p.line)) (λ (p : Placed). AllByRecursion (λ (q : Placed). Agrees p q.scope) cards) (λ (p : Placed). (IsFine p.card × (1 ≤ p.line)) × AllByRecursion (λ (q : Placed). Agrees p q.scope) cards) (λ p i j. (i, j)) cards a h.scopes in
    each_both (λ (p : Placed). (IsFine p.card × (1 ≤ p.line)) × AllByRecursion (λ (q : Placed). Agrees p q.scope) cards) (λ (p : Placed). (has_twice (ports_of p.card) ≡ false) × (is_in (codes "0") (ports_of p.card) ≡ false)) (IsGood cards)
    (λ p i j. record { fine = i.0.0; some = i.0.1; agrees = i.1; ports_differ = j.0; no_zero = j.1 }) cards c b

pub subs_read : (m : ℕ) (cards : List Placed) (subs : List Sub) → Held m cards → Unrefused subs cards → AllByRecursion (IsReadSub subs) (filter_map (sub_of cards) cards)
subs_read m cards subs h u = each_picked (IsReadSub subs) (sub_of cards) cards (each_to (IsGood cards) (λ p. (t : Sub) → sub_of cards p ≡ Some t → IsReadSub subs t)
    (λ p i. sub_read m cards subs h u p.scope p.line p.card i.fine i.some i.agrees i.ports_differ i.no_zero) cards (all_good m cards h))

sub_name_one : (whole : List Placed) (s : Scope) (n : ℕ) (c : Card) (xs : List Sub) (ys : List Head) → map (λ (t : Sub). t.head.name) xs ≡ map head_name ys → map (λ (t : Sub). t.head.name) (cons_option (sub_of whole (placed s n c)) xs) ≡ map head_name (cons_option (head_of (placed s n c)) ys)
sub_name_one whole s n (subckt d) xs ys e = ap (λ zs. d.name ∷ zs) e
sub_name_one whole s n c xs ys e = e

pub sub_names : (whole ps : List Placed) → map (λ (t : Sub). t.head.name) (filter_map (sub_of whole) ps) ≡ names_by head_of head_name ps
sub_names whole [] = refl
sub_names whole (p ∷ ps) = sub_name_one whole p.scope p.line p.card (filter_map (sub_of whole) ps) (filter_map head_of ps) (sub_names whole ps)
