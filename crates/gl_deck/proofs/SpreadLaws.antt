-- Several marks more.
use Rattle.std.proofs.Common.{◌≡◌, ℕ, zero, suc, List, [], ◌∷◌, length, Option, Some, None, refl, sym, ap, subst, ◌∙◌, arith, inl, inr}
use Rattle.std.specs.Prelude.{Contains, ◌⊎◌}
use Rattle.gl_text.specs.Decks.{Sub}
use Rattle.gl_deck.specs.Places.{place_in}
use Rattle.gl_deck.specs.Walks.{Walk, marked, marked_at, marked_all}
use Rattle.gl_lists.proofs.Membership.{in_head, in_tail, in_none}
use Rattle.gl_deck.proofs.PlaceLaws.{place_within}
use Rattle.gl_deck.proofs.MarkLaws.{Marked, Spreads, unchanged, spread_is, marked_here}

fresh_then : (a b c : Walk) (P Q : ℕ → Type 0) (j : ℕ) → ((k : ℕ) → Contains b.pending k → Contains c.pending k) → Marked b j → Marked a j ⊎ (P j × Contains b.pending j) → Marked a j ⊎ ((P j ⊎ Q j) × Contains c.pending j)
fresh_then a b c P Q j up m (inl o) = inl o
fresh_then a b c P Q j up m (inr f) = inr (inl f.0, up j f.1)

fresh_both : (a b c : Walk) (P Q : ℕ → Type 0) (j : ℕ) → Spreads a b P → Spreads b c Q → Marked b j ⊎ (Q j × Contains c.pending j) → Marked a j ⊎ ((P j ⊎ Q j) × Contains c.pending j)
fresh_both a b c P Q j s t (inl m) = fresh_then a b c P Q j t.pending m (s.fresh j m)
fresh_both a b c P Q j s t (inr f) = inr (inr f.0, f.1)

pended_then : (a b c : Walk) (j : ℕ) → ((k : ℕ) → Marked b k → Marked c k) → Contains a.pending j ⊎ Marked b j → Contains a.pending j ⊎ Marked c j
pended_then a b c j up (inl p) = inl p
pended_then a b c j up (inr m) = inr (up j m)

pended_both : (a b c : Walk) (P Q : ℕ → Type 0) (j : ℕ) → Spreads a b P → Spreads b c Q → Contains b.pending j ⊎ Marked c j → Contains a.pending j ⊎ Marked c j
pended_both a b c P Q j s t (inl p) = pended_then a b c j t.kept (s.pended j p)
pended_both a b c P Q j s t (inr m) = inr m

both : (a b c : Walk) (P Q : ℕ → Type 0) → Spreads a b P → Spreads b c Q → Spreads a c (λ j. P j ⊎ Q j)
both a b c P Q s t = record {
  sized = t.sized ∙ s.sized;
  kept = λ j m. t.kept j (s.kept j m);
  pending = λ j p. t.pending j (s.pending j p);
  pended = λ j p. pended_both a b c P Q j s t (t.pended j p);
  fresh = λ j m. fresh_both a b c P Q j s t (t.fresh j m);
  left = t.left ∙ s.left;
}

fresh_weaker : (P Q : ℕ → Type 0) (A B : Type 0) (j : ℕ) → (P j → Q j) → A ⊎ (P j × B) → A ⊎ (Q j × B)
fresh_weaker P Q A B j f (inl a) = inl a
fresh_weaker P Q A B j f (inr p) = inr (f p.0, p.1)

weaker : (a b : Walk) (P Q : ℕ → Type 0) → ((j : ℕ) → P j → Q j) → Spreads a b P → Spreads a b Q
weaker a b P Q f s = record { sized = s.sized; kept = s.kept; pending = s.pending; pended = s.pended; fresh = λ j m. fresh_weaker P Q (Marked a j) (Contains b.pending j) j (f j) (s.fresh j m); left = s.left }

spread_at : (subs : List Sub) (n : List ℕ) (o : Option ℕ) (w : Walk) → place_in subs n ≡ o → length w.marks ≡ length subs → Spreads w (marked_at o w) (λ j. place_in subs n ≡ Some j)
spread_at subs n None w e h = unchanged w (λ j. place_in subs n ≡ Some j)
spread_at subs n (Some i) w e h =
    let low = place_within subs n i e in
    weaker w (marked i w) (λ j. j ≡ i) (λ j. place_in subs n ≡ Some j) (λ j f. e ∙ ap (λ k. Some k) (sym f)) (spread_is w i (omega arith))

-- the places of these names
abbrev pub Placed : List Sub → List (List ℕ) → ℕ → Type 0
Placed subs ns j = (n : List ℕ) × (Contains ns n) × (place_in subs n ≡ Some j)

placed_by : (subs : List Sub) (n : List ℕ) (ns : List (List ℕ)) (j : ℕ) → (place_in subs n ≡ Some j) ⊎ Placed subs ns j → Placed subs (n ∷ ns) j
placed_by subs n ns j (inl e) = (n, in_head n ns, e)
placed_by subs n ns j (inr p) = (p.0, in_tail n ns p.0 p.1, p.2)

pub spread_all : (subs : List Sub) (ns : List (List ℕ)) (w : Walk) → length w.marks ≡ length subs → Spreads w (marked_all subs ns w) (Placed subs ns)
spread_all subs [] w h = unchanged w (Placed subs [])
spread_all subs (n ∷ ns) w h =
    let first = spread_at subs n (place_in subs n) w refl h in
    let next = marked_at (place_in subs n) w in
    let rest = spread_all subs ns next (first.sized ∙ h) in
    weaker w (marked_all subs ns next) (λ j. (place_in subs n ≡ Some j) ⊎ Placed subs ns j) (Placed subs (n ∷ ns)) (placed_by subs n ns)
    (both w next (marked_all subs ns next) (λ j. place_in subs n ≡ Some j) (Placed subs ns) first rest)

marked_by : (subs : List Sub) (n : List ℕ) (o : Option ℕ) (w : Walk) (j : ℕ) → place_in subs n ≡ o → place_in subs n ≡ Some j → length w.marks ≡ length subs → Marked (marked_at o w) j
marked_by subs n None w j e f h = absurd cc
marked_by subs n (Some i) w j e f h =
    let low = place_within subs n i e in
    let same : i ≡ j = cc in
    subst (λ (k : ℕ). Marked (marked i w) k) same (marked_here w i (omega arith))

pub called_marked : (subs : List Sub) (ns : List (List ℕ)) (w : Walk) (n : List ℕ) (j : ℕ) → length w.marks ≡ length subs → Contains ns n → place_in subs n ≡ Some j → Marked (marked_all subs ns w) j
called_marked subs [] w n j h i e = absurd (in_none n i)
called_marked subs (m ∷ ns) w n j h (zero, lt, f) e =
    let next = marked_at (place_in subs m) w in
    let first = spread_at subs m (place_in subs m) w refl h in
    let rest = spread_all subs ns next (first.sized ∙ h) in
    rest.kept j (marked_by subs m (place_in subs m) w j refl (ap (place_in subs) f ∙ e) h)
called_marked subs (m ∷ ns) w n j h (suc k, lt, f) e =
    let first = spread_at subs m (place_in subs m) w refl h in
    called_marked subs ns (marked_at (place_in subs m) w) n j (first.sized ∙ h) (k, omega (arith, lt), f) e
