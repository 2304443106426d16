-- Numbers by which no call goes up.
use Rattle.std.proofs.Common.{◌≡◌, ◌<◌, ◌≤◌, ℕ, List, [], ◌∷◌, length, false, ap, sym, subst, arith, inl, inr}
use Rattle.std.specs.Prelude.{Contains}
use Rattle.std.specs.List.{IsAmong}
use Rattle.std.proofs.lemmas.Bool.{cases_Bool}
use Rattle.gl_text.specs.LogicalLines.{same_text}
use Rattle.gl_text.specs.Decks.{Sub, callees, reaches, steps}
use Rattle.gl_deck.specs.Ranks.{AreRanks, AtMost, NoneUp, rank_in}
use Rattle.gl_text.proofs.Names.{exact}
use Rattle.gl_deck.proofs.Members.{in_one, among_in}
use Rattle.gl_lists.proofs.Each.{each_in}
use Rattle.gl_lists.proofs.Membership.{from_any}
use Rattle.gl_deck.proofs.ReachLaws.{all_found}

-- a subcircuit of at most a number
abbrev Low : (List ℕ → ℕ) → List Sub → ℕ → Sub → Type 0
Low rank subs most u = Contains subs u × (rank u.head.name ≤ most)

low_same : (a b c : ℕ) → a ≡ b → b ≤ c → a ≤ c
low_same a b c e h = omega arith

low_less : (a b c : ℕ) → a ≤ b → b ≤ c → a ≤ c
low_less a b c e h = omega arith

-- what a subcircuit leads to has at most its number
found_low : (rank : List ℕ → ℕ) (subs : List Sub) (t : Sub) → NoneUp rank subs → Contains subs t → (u : Sub) → Contains (steps subs (length subs) (t ∷ [])) u → Low rank subs (rank t.head.name) u
found_low rank subs t none i =
    let most = rank t.head.name in
    all_found subs (Low rank subs most) (length subs) (t ∷ [])
    (λ u s m j e. (j, low_same (rank s.head.name) (rank u.head.name) most (ap rank e) m.1))
    (λ u s m j called.
    let own : AtMost rank (rank u.head.name) u.cards = each_in (λ (v : Sub). AtMost rank (rank v.head.name) v.cards) subs u none m.0 in
    let low : rank s.head.name ≤ rank u.head.name = each_in (λ n. rank n ≤ rank u.head.name) (callees u.cards) s.head.name own called in
    (j, low_less (rank s.head.name) (rank u.head.name) most low m.1))
    (λ u h. subst (λ (v : Sub). Low rank subs most v) (sym (in_one u t h)) (i, omega arith))

-- so it does not lead up
pub not_up : (subs : List Sub) (ranks : List ℕ) (t : Sub) (name : List ℕ) → AreRanks subs ranks → IsAmong subs t → rank_in subs ranks t.head.name < rank_in subs ranks name → reaches subs t name ≡ false
not_up subs ranks t name none among lt = elim (cases_Bool (reaches subs t name)) [
  | inl e ↦
      let rank = rank_in subs ranks in
      let u = from_any (λ (v : Sub). same_text v.head.name name) (steps subs (length subs) (t ∷ [])) e in
      let low = found_low rank subs t none (among_in t subs among) u.0 u.1 in
      let same : rank u.0.head.name ≡ rank name = ap rank (exact u.0.head.name name u.2) in
      absurd (too_low (rank t.head.name) (rank u.0.head.name) (rank name) low.1 same lt)
  | inr e ↦ e
] where
  too_low : (a b c : ℕ) → b ≤ a → b ≡ c → a < c → ⊥
  too_low a b c h e lt = omega arith
