-- The cards of a deck as it is read are not refused where they are placed.
use Rattle.std.proofs.Common.{◌≡◌, ◌≤◌, ℕ, List, [], ◌∷◌, map, ltb, true, false, Bool, Some, None, refl, ap, ◌∙◌, arith, lt-ltb}
use Rattle.std.specs.Prelude.{◌&&◌}
use Rattle.std.specs.List.{AllByRecursion}
use Rattle.gl_text.specs.Cards.{model, subckt, ends, global, passed}
use Rattle.gl_text.specs.Decks.{Body, dev_at, call_at, Sub, Deck, Scope, top_scope, is_inside, has_twice, call_fault, body_name}
use Rattle.gl_printed.specs.ReadDecks.{body_card, AllDiffer, FindsSub, FindsSubWithin, IsReadSub, IsReadDeck}
use Rattle.gl_lists.proofs.Each.{each_to, each_true}
use Rattle.gl_printed.proofs.DeckCards.{all_cards}
use Rattle.gl_printed.proofs.DistinctNames.{NamesDiffer, head_name, model_name}
use Rattle.gl_printed.proofs.Renumbered.{Same}
use Rattle.gl_printed.proofs.PlacedCards.{Parts, heads_again, inside, models_again, placed, placing}
use Rattle.gl_printed.proofs.ScopedCards.{scopes_differ}
use Rattle.gl_printed.proofs.PlacingLaws.{Sits}
use Rattle.gl_printed.proofs.CalledSubs.{inner_called, top_called}
use Rattle.gl_text.proofs.Names.{itself}

-- ---- each card sits where it is placed

body_sits : (s : Scope) (n : ℕ) (b : Body) → Sits (placed s n (body_card b))
body_sits s n (dev_at line d) = record { outside = refl; closes = refl; not_local = by (is_inside s); ports_differ = refl; no_zero = refl } where
  by : (t : Bool) → (t && false) ≡ false
  by true = refl
  by false = refl
body_sits s n (call_at line c) = record { outside = refl; closes = refl; not_local = by (is_inside s); ports_differ = refl; no_zero = refl } where
  by : (t : Bool) → (t && false) ≡ false
  by true = refl
  by false = refl

head_sits : (subs : List Sub) (n : ℕ) (s : Sub) → IsReadSub subs s → Sits (placed top_scope n (subckt s.head))
head_sits subs n s h = record { outside = refl; closes = refl; not_local = refl; ports_differ = h.ports_differ; no_zero = h.no_zero }

close_sits : (n m : ℕ) → 1 ≤ n → (name : List ℕ) → Sits (placed (inside n name) m (ends (Some name)))
close_sits n m l name =
    let a : ltb 0 n ≡ true = lt-ltb 0 n l in
    record { outside = refl; closes = rw (a, itself name) refl; not_local = rw a refl; ports_differ = refl; no_zero = refl }

pub all_sit : (d : Deck) → IsReadDeck d → Parts Sits d
all_sit d h = record {
  globals = λ n. each_true (λ g. Sits (placed top_scope n (global (g ∷ [])))) (λ g. record { outside = refl; closes = refl; not_local = refl; ports_differ = refl; no_zero = refl }) d.globals;
  models = λ n. each_true (λ m. Sits (placed top_scope n (model m))) (λ m. record { outside = refl; closes = refl; not_local = refl; ports_differ = refl; no_zero = refl }) d.models;
  heads = λ n l. each_to (IsReadSub d.subs) (λ (s : Sub). Sits (placed top_scope n (subckt s.head))) (head_sits d.subs n) d.subs h.subs;
  cards = λ n l m. each_true (λ (s : Sub). AllByRecursion (λ b. Sits (placed (inside n s.head.name) m (body_card b))) s.cards) (λ s. each_true (λ b. Sits (placed (inside n s.head.name) m (body_card b))) (body_sits (inside n s.head.name) m) s.cards) d.subs;
  closes = λ n l m. each_true (λ (s : Sub). Sits (placed (inside n s.head.name) m (ends (Some s.head.name)))) (λ s. close_sits n m l s.head.name) d.subs;
  top = λ n. each_true (λ b. Sits (placed top_scope n (body_card b))) (body_sits top_scope n) d.top;
  passed = λ n. each_true (λ t. Sits (placed top_scope n (passed t))) (λ t. record { outside = refl; closes = refl; not_local = refl; ports_differ = refl; no_zero = refl }) d.passed;
  last = λ n. record { outside = refl; closes = refl; not_local = refl; ports_differ = refl; no_zero = refl };
}

-- ---- names differ

head_names : (ss : List Sub) → map head_name (map (λ (s : Sub). s.head) ss) ≡ map (λ (s : Sub). s.head.name) ss
head_names [] = refl
head_names (s ∷ ss) = ap (λ xs. s.head.name ∷ xs) (head_names ss)

pub all_differ : (d : Deck) → IsReadDeck d → NamesDiffer (placing 2 top_scope (all_cards d))
all_differ d h = record {
  scopes = scopes_differ d h.top_differ (each_to (IsReadSub d.subs) (λ (s : Sub). AllDiffer (map body_name s.cards)) (λ s i. i.names_differ) d.subs h.subs) 2 (omega arith);
  models = ap (λ ms. has_twice (map model_name ms)) (models_again d 2) ∙ h.models_differ;
  subs = ap (λ hs. has_twice (map head_name hs)) (heads_again d 2) ∙ ap has_twice (head_names d.subs) ∙ h.subs_differ;
}

-- ---- no call is refused

pub all_called : (d : Deck) (ts : List Sub) → IsReadDeck d → Same ts d.subs → Parts (λ p. call_fault ts p ≡ None) d
all_called d ts h e = record {
  globals = λ n. each_true (λ g. call_fault ts (placed top_scope n (global (g ∷ []))) ≡ None) (λ g. refl) d.globals;
  models = λ n. each_true (λ m. call_fault ts (placed top_scope n (model m)) ≡ None) (λ m. refl) d.models;
  heads = λ n l. each_true (λ (s : Sub). call_fault ts (placed top_scope n (subckt s.head)) ≡ None) (λ s. refl) d.subs;
  cards = λ n l m. each_to (IsReadSub d.subs) (λ (s : Sub). AllByRecursion (λ b. call_fault ts (placed (inside n s.head.name) m (body_card b)) ≡ None) s.cards)
      (λ s i. each_to (FindsSubWithin d.subs s.head.name) (λ b. call_fault ts (placed (inside n s.head.name) m (body_card b)) ≡ None) (inner_called d.subs ts e n l m s.head.name) s.cards i.calls) d.subs h.subs;
  closes = λ n l m. each_true (λ (s : Sub). call_fault ts (placed (inside n s.head.name) m (ends (Some s.head.name))) ≡ None) (λ s. refl) d.subs;
  top = λ n. each_to (FindsSub d.subs) (λ b. call_fault ts (placed top_scope n (body_card b)) ≡ None) (top_called d.subs ts e n) d.top h.top_calls;
  passed = λ n. each_true (λ t. call_fault ts (placed top_scope n (passed t)) ≡ None) (λ t. refl) d.passed;
  last = λ n. refl;
}
