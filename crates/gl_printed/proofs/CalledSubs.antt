-- What X cards call.
use Rattle.std.proofs.Common.{◌≡◌, ◌≤◌, ℕ, List, [], ◌∷◌, length, eqb, true, false, not, Option, Some, None, refl, sym, ap, ◌∙◌, subst, arith, lt-ltb, eqb-true, eq-eqb}
use Rattle.std.specs.Prelude.{◌&&◌}
use Rattle.gl_text.specs.LogicalLines.{wrong_node_count, recursive}
use Rattle.gl_fault.specs.Refusals.{when}
use Rattle.gl_text.specs.Cards.{Card, Call, dev, call}
use Rattle.gl_text.specs.Decks.{Body, dev_at, call_at, Sub, Scope, top_scope, is_inside, find_sub, reaches, call_fault}
use Rattle.gl_printed.specs.ReadDecks.{body_card, IsCallOf, FindsSub, FindsSubWithin}
use Rattle.gl_fault.proofs.FirstLaws.{none_first, when_none}
use Rattle.gl_printed.proofs.DistinctNames.{body_in}
use Rattle.gl_printed.proofs.Renumbered.{Same, same_call}
use Rattle.gl_printed.proofs.PlacedCards.{inside, placed}
use Rattle.gl_printed.proofs.PickedCards.{in_scope_is, not_here}
use Rattle.std.proofs.lemmas.Bool.{not-false}

-- ---- calls that are read

pub record IsCalled (subs : List Sub) (s : Scope) (c : Call) : Type 0 where
  pub sub : Sub
  pub is_call : IsCallOf subs c sub
  pub no_way_back : (is_inside s && reaches subs sub s.name) ≡ false

pub called : (subs : List Sub) (s : Scope) (n : ℕ) (c : Call) → call_fault subs (placed s n (call c)) ≡ None → IsCalled subs s c
called subs s n c h = by (find_sub subs c.sub) refl where
  by : (o : Option Sub) → find_sub subs c.sub ≡ o → IsCalled subs s c
  by None e = absurd (let f = rw e at h in cc)
  by (Some t) e =
      let f = rw e at h in
      let a = none_first (when (not (eqb (length c.nodes) (length t.head.ports))) (wrong_node_count n (length c.nodes) (length t.head.ports))) (when (is_inside s && reaches subs t s.name) (recursive n) ∷ []) f in
      let b = none_first (when (is_inside s && reaches subs t s.name) (recursive n)) [] a.1 in
      record {
        sub = t;
        is_call = record { found = e; as_many = eqb-true (length c.nodes) (length t.head.ports) (not-false (eqb (length c.nodes) (length t.head.ports)) (when_none (not (eqb (length c.nodes) (length t.head.ports))) (wrong_node_count n (length c.nodes) (length t.head.ports)) a.0)) };
        no_way_back = when_none (is_inside s && reaches subs t s.name) (recursive n) b.0;
      }

pub top_call : (subs : List Sub) (s : Scope) (n : ℕ) (c : Card) → call_fault subs (placed s n c) ≡ None → (b : Body) → body_in 0 (placed s n c) ≡ Some b → FindsSub subs b
top_call subs s n (dev d) h b e = in_scope_is (eqb s.line 0) (dev_at n d) b e (λ t f. subst (FindsSub subs) f tt)
top_call subs s n (call d) h b e = in_scope_is (eqb s.line 0) (call_at n d) b e (λ t f. let i = called subs s n d h in subst (FindsSub subs) f (i.sub, i.is_call))
top_call subs s n c h b e = not_here (eqb s.line 0) b e

pub inner : (subs : List Sub) (s : Scope) (n L : ℕ) (name : List ℕ) (c : Call) → 1 ≤ L → (s.line ≡ L → s.name ≡ name) → s.line ≡ L → call_fault subs (placed s n (call c)) ≡ None → FindsSubWithin subs name (call_at n c)
inner subs s n L name c l a e h =
    let i = called subs s n c h in
    let b : is_inside s ≡ true = lt-ltb 0 s.line (omega arith) in
    let r : reaches subs i.sub s.name ≡ false = sym (ap (λ t. t && reaches subs i.sub s.name) b) ∙ i.no_way_back in
    (i.sub, i.is_call, ap (reaches subs i.sub) (sym (a e)) ∙ r)

pub inner_call : (subs : List Sub) (L : ℕ) (name : List ℕ) (s : Scope) (n : ℕ) (c : Card) → 1 ≤ L → (s.line ≡ L → s.name ≡ name) → call_fault subs (placed s n c) ≡ None → (b : Body) → body_in L (placed s n c) ≡ Some b → FindsSubWithin subs name b
inner_call subs L name s n (dev d) l a h b e = in_scope_is (eqb s.line L) (dev_at n d) b e (λ t f. subst (FindsSubWithin subs name) f tt)
inner_call subs L name s n (call d) l a h b e = in_scope_is (eqb s.line L) (call_at n d) b e (λ t f. subst (FindsSubWithin subs name) f (inner subs s n L name d l a (eqb-true s.line L t) h))
inner_call subs L name s n c l a h b e = not_here (eqb s.line L) b e

-- ---- calls that are read again

call_known : (subs : List Sub) (s : Scope) (n : ℕ) (c : Call) (t : Sub) → IsCallOf subs c t → (is_inside s && reaches subs t s.name) ≡ false → call_fault subs (placed s n (call c)) ≡ None
call_known subs s n c t h r = rw (h.found, eq-eqb (length c.nodes) (length t.head.ports) h.as_many, r) refl

pub top_called : (ss ts : List Sub) → Same ts ss → (n : ℕ) (b : Body) → FindsSub ss b → call_fault ts (placed top_scope n (body_card b)) ≡ None
top_called ss ts e n (dev_at line d) h = refl
top_called ss ts e n (call_at line c) h = let u = same_call ss ts c h.0 e h.1 in call_known ts top_scope n c u.0 u.1 refl

pub inner_called : (ss ts : List Sub) → Same ts ss → (n : ℕ) → 1 ≤ n → (m : ℕ) (name : List ℕ) (b : Body) → FindsSubWithin ss name b → call_fault ts (placed (inside n name) m (body_card b)) ≡ None
inner_called ss ts e n l m name (dev_at line d) h = refl
inner_called ss ts e n l m name (call_at line c) h =
    let u = same_call ss ts c h.0 e h.1 in
    let r : reaches ts u.0 name ≡ false = u.2 name ∙ h.2 in
    call_known ts (inside n name) m c u.0 u.1 (rw (lt-ltb 0 n l) r)
