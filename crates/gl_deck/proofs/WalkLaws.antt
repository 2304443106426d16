-- Marks that spread from one subcircuit.
use Rattle.std.proofs.Common.{◌≡◌, ◌+◌, ◌<◌, ℕ, List, [], ◌∷◌, ◌++◌, length, false, Option, Some, None, get_or, refl, sym, ap, subst, ◌∙◌, arith, inl, inr}
use Rattle.std.specs.Prelude.{Contains, ◌⊎◌, slice_get}
use Rattle.std.proofs.lemmas.List.Elements.{Contains-append_left, Contains-append_right, Contains-append_cases}
use Rattle.std.specs.List.{IsDistinct}
use Rattle.std.proofs.lemmas.List.{length-append}
use Rattle.std.proofs.lemmas.Option.{same_Some}
use Rattle.gl_text.specs.LogicalLines.{same_text}
use Rattle.gl_text.specs.Decks.{Sub, callees}
use Rattle.gl_deck.specs.Bodies.{names_of}
use Rattle.gl_deck.specs.Places.{place_in}
use Rattle.gl_deck.specs.Walks.{Walk, marked_all, called_names}
use Rattle.gl_deck.proofs.Members.{in_one, at_in, in_at}
use Rattle.gl_lists.proofs.Membership.{in_head, in_none}
use Rattle.gl_deck.proofs.ReachLaws.{Settled, called_found}
use Rattle.gl_deck.proofs.PlaceLaws.{own_place, at_its_place}
use Rattle.gl_deck.proofs.MarkLaws.{Marked, left, unmarked}
use Rattle.gl_deck.proofs.SpreadLaws.{Placed, spread_all, called_marked}

-- what the subcircuit at a place calls is marked
abbrev pub Looked : List Sub → Walk → ℕ → Type 0
Looked subs w i = (s : Sub) (n : List ℕ) (j : ℕ) → slice_get subs i ≡ Some s → Contains (callees s.cards) n → place_in subs n ≡ Some j → Marked w j

-- marks that spread from t, within what is found
pub record IsWalk (subs found : List Sub) (t : Sub) (w : Walk) : Type 0 where
  pub sized : length w.marks ≡ length subs
  pub first : (i : ℕ) → place_in subs t.head.name ≡ Some i → Marked w i
  pub sound : (i : ℕ) (s : Sub) → Marked w i → slice_get subs i ≡ Some s → Contains found s
  pub pended : (i : ℕ) → Contains w.pending i → Marked w i
  pub done : (i : ℕ) → Marked w i → Contains w.pending i ⊎ Looked subs w i

-- at first t alone is marked
pub begins : (subs found : List Sub) (t : Sub) (w : Walk) → IsDistinct same_text (names_of subs) → Contains subs t → Contains found t → length w.marks ≡ length subs → ((i : ℕ) → get_or w.marks i false ≡ false) → w.pending ≡ [] → IsWalk subs found t (marked_all subs (t.head.name ∷ []) w)
begins subs found t w distinct i f h none empty =
    let spread = spread_all subs (t.head.name ∷ []) w h in
    let new = marked_all subs (t.head.name ∷ []) w in
    let stands = in_at t subs i in
    let place = own_place subs stands.0 t distinct stands.1 in
    let fresh : (j : ℕ) → Marked new j → Placed subs (t.head.name ∷ []) j × Contains new.pending j = λ j m. begins_by w (Placed subs (t.head.name ∷ []) j) (Contains new.pending j) j (none j) (spread.fresh j m) in
    record {
      sized = spread.sized ∙ h;
      first = λ j e. called_marked subs (t.head.name ∷ []) w t.head.name j h (in_head t.head.name []) e;
      sound = λ j s m e.
          let from = fresh j m in
          let at = from.0 in
          let here : place_in subs t.head.name ≡ Some j = ap (place_in subs) (sym (in_one at.0 t.head.name at.1)) ∙ at.2 in
          let same : stands.0 ≡ j = same_Some stands.0 j (sym place ∙ here) in
          let is : s ≡ t = same_Some s t (sym e ∙ ap (slice_get subs) (sym same) ∙ stands.1) in
          subst (λ (u : Sub). Contains found u) (sym is) f;
      pended = λ j p. begins_pended w new j empty (spread.pended j p);
      done = λ j m. let from = fresh j m in inl from.1;
    } where
      begins_by : (w : Walk) (P Q : Type 0) (j : ℕ) → get_or w.marks j false ≡ false → Marked w j ⊎ (P × Q) → P × Q
      begins_by w P Q j off (inl m) = absurd cc
      begins_by w P Q j off (inr p) = p

      begins_pended : (w new : Walk) (j : ℕ) → w.pending ≡ [] → Contains w.pending j ⊎ Marked new j → Marked new j
      begins_pended w new j e (inl p) = absurd (in_none j (subst (λ (xs : List ℕ). Contains xs j) e p))
      begins_pended w new j e (inr m) = m

done_by : (subs : List Sub) (w r new : Walk) (i j : ℕ) → ((k : ℕ) → Contains r.pending k → Contains new.pending k) → ((k : ℕ) → Marked w k → Marked new k) → Looked subs new i → Contains r.pending j ⊎ Contains (i ∷ []) j → Contains new.pending j ⊎ Looked subs new j
done_by subs w r new i j up kept here (inl p) = inl (up j p)
done_by subs w r new i j up kept here (inr m) = inr (subst (λ (k : ℕ). Looked subs new k) (sym (in_one j i m)) here)

done_old : (subs : List Sub) (w r new : Walk) (i j : ℕ) → ((k : ℕ) → Contains r.pending k → Contains new.pending k) → ((k : ℕ) → Marked w k → Marked new k) → Looked subs new i → w.pending ≡ r.pending ++ i ∷ [] → Contains w.pending j ⊎ Looked subs w j → Contains new.pending j ⊎ Looked subs new j
done_old subs w r new i j up kept here e (inl p) = done_by subs w r new i j up kept here (Contains-append_cases r.pending (i ∷ []) j (subst (λ (xs : List ℕ). Contains xs j) e p))
done_old subs w r new i j up kept here e (inr l) = inr (λ s n k at called place. kept k (l s n k at called place))

sound_new : (subs found : List Sub) (i j : ℕ) (u : Sub) (o : Option Sub) → slice_get subs i ≡ o → Settled subs found → ((s : Sub) → slice_get subs i ≡ Some s → Contains found s) → Placed subs (called_names o) j → slice_get subs j ≡ Some u → Contains found u
sound_new subs found i j u None e settles h p at = absurd (in_none p.0 p.1)
sound_new subs found i j u (Some s) e settles h p at =
    let place = at_its_place subs p.0 j p.2 in
    let same : place.0 ≡ u = cc in
    let name : u.head.name ≡ p.0 = ap (λ (v : Sub). v.head.name) (sym same) ∙ place.2 in
    called_found subs found s u settles (h s e) (at_in u subs j at) (subst (λ (n : List ℕ). Contains (callees s.cards) n) (sym name) p.1)

-- one that is pending is looked at
pub advances : (subs found : List Sub) (t : Sub) (w r : Walk) (i : ℕ) → Settled subs found → IsWalk subs found t w → r.marks ≡ w.marks → w.pending ≡ r.pending ++ i ∷ [] → IsWalk subs found t (marked_all subs (called_names (slice_get subs i)) r)
advances subs found t w r i settles walk same e =
    let ns = called_names (slice_get subs i) in
    let new = marked_all subs ns r in
    let sized : length r.marks ≡ length subs = ap length same ∙ walk.sized in
    let spread = spread_all subs ns r sized in
    let kept : (j : ℕ) → Marked w j → Marked new j = λ j m. spread.kept j (ap (λ bs. get_or bs j false) same ∙ m) in
    let back : (j : ℕ) → Marked r j → Marked w j = λ j m. ap (λ bs. get_or bs j false) (sym same) ∙ m in
    let mine : Marked w i = walk.pended i (subst (λ (xs : List ℕ). Contains xs i) (sym e) (Contains-append_right r.pending (i ∷ []) i (in_head i []))) in
    let here : Looked subs new i = λ s n j at called place. called_marked subs ns r n j sized (subst (λ (o : Option Sub). Contains (called_names o) n) (sym at) called) place in
    record {
      sized = spread.sized ∙ sized;
      first = λ j p. kept j (walk.first j p);
      sound = λ j u m at. advances_sound subs found i j u (Marked r j) (Contains new.pending j) (λ m. walk.sound j u (back j m) at) (λ p. sound_new subs found i j u (slice_get subs i) refl settles (λ s f. walk.sound i s mine f) p at) (spread.fresh j m);
      pended = λ j p. advances_pended w r new j (λ q. kept j (walk.pended j (subst (λ (xs : List ℕ). Contains xs j) (sym e) (Contains-append_left r.pending (i ∷ []) j q)))) (spread.pended j p);
      done = λ j m. advances_done subs new j (Marked r j) (Placed subs ns j) (λ m. done_old subs w r new i j spread.pending kept here e (walk.done j (back j m))) (spread.fresh j m);
    } where
      advances_sound : (subs found : List Sub) (i j : ℕ) (u : Sub) (P Q : Type 0) → (P → Contains found u) → (Placed subs (called_names (slice_get subs i)) j → Contains found u) → P ⊎ (Placed subs (called_names (slice_get subs i)) j × Q) → Contains found u
      advances_sound subs found i j u P Q f g (inl m) = f m
      advances_sound subs found i j u P Q f g (inr p) = g p.0

      advances_pended : (w r new : Walk) (j : ℕ) → (Contains r.pending j → Marked new j) → Contains r.pending j ⊎ Marked new j → Marked new j
      advances_pended w r new j f (inl p) = f p
      advances_pended w r new j f (inr m) = m

      advances_done : (subs : List Sub) (new : Walk) (j : ℕ) (P Q : Type 0) → (P → Contains new.pending j ⊎ Looked subs new j) → P ⊎ (Q × Contains new.pending j) → Contains new.pending j ⊎ Looked subs new j
      advances_done subs new j P Q f (inl m) = f m
      advances_done subs new j P Q f (inr p) = inl p.1

-- and less is left
pub less_left : (subs : List Sub) (ns : List (List ℕ)) (w r : Walk) (i : ℕ) → length r.marks ≡ length subs → r.marks ≡ w.marks → w.pending ≡ r.pending ++ i ∷ [] → left (marked_all subs ns r) < left w
unfolding left
less_left subs ns w r i sized same e =
    let spread = spread_all subs ns r sized in
    let l = length-append r.pending (i ∷ []) in
    let m : length w.pending ≡ length (r.pending ++ i ∷ []) = ap length e in
    let u : unmarked r.marks ≡ unmarked w.marks = ap unmarked same in
    let f : unmarked (marked_all subs ns r).marks + length (marked_all subs ns r).pending ≡ unmarked r.marks + length r.pending = spread.left in
    omega arith
