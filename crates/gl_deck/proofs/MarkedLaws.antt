-- At the end those are marked that the subcircuit leads to.
use Rattle.std.proofs.Common.{◌≡◌, ℕ, List, [], ◌∷◌, length, true, Option, Some, None, refl, sym, ap, subst, ◌∙◌, inl, inr}
use Rattle.std.specs.Prelude.{Contains, ◌⊎◌, slice_get}
use Rattle.std.specs.List.{IsDistinct}
use Rattle.std.proofs.lemmas.Option.{same_Some}
use Rattle.gl_lists.proofs.Bools.{same_bool}
use Rattle.gl_text.specs.LogicalLines.{same_text}
use Rattle.gl_text.specs.Decks.{Sub, reaches, steps}
use Rattle.gl_deck.specs.Bodies.{names_of}
use Rattle.gl_deck.specs.Places.{place_in}
use Rattle.gl_deck.specs.Walks.{Walk, is_marked_at, is_marked}
use Rattle.gl_text.proofs.Names.{exact, itself}
use Rattle.gl_deck.proofs.Members.{in_one, in_at}
use Rattle.gl_lists.proofs.Membership.{in_none, in_any, from_any}
use Rattle.gl_deck.proofs.ReachLaws.{all_found}
use Rattle.gl_deck.proofs.PlaceLaws.{own_place, at_its_place}
use Rattle.gl_deck.proofs.MarkLaws.{Marked}
use Rattle.gl_deck.proofs.WalkLaws.{IsWalk, Looked}

-- it stands at a place that is marked
abbrev Stands : List Sub → Walk → Sub → Type 0
Stands subs w s = (k : ℕ) × (slice_get subs k ≡ Some s) × Marked w k

marked_place : (w : Walk) (o : Option ℕ) → is_marked_at w o ≡ true → (k : ℕ) × (o ≡ Some k) × Marked w k
marked_place w None e = absurd cc
marked_place w (Some k) e = (k, refl, e)

looked_at : (subs : List Sub) (w : Walk) (k : ℕ) → w.pending ≡ [] → Contains w.pending k ⊎ Looked subs w k → Looked subs w k
looked_at subs w k e (inl p) = absurd (in_none k (subst (λ (xs : List ℕ). Contains xs k) e p))
looked_at subs w k e (inr l) = l

pub walked : (subs : List Sub) (t : Sub) (w : Walk) → IsDistinct same_text (names_of subs) → Contains subs t → IsWalk subs (steps subs (length subs) (t ∷ [])) t w → w.pending ≡ [] → (name : List ℕ) → is_marked subs w name ≡ reaches subs t name
walked subs t w distinct i walk empty name =
    let found = steps subs (length subs) (t ∷ []) in
    let first : Stands subs w t = let at = in_at t subs i in (at.0, at.1, walk.first at.0 (own_place subs at.0 t distinct at.1)) in
    let all : (u : Sub) → Contains found u → Stands subs w u = all_found subs (Stands subs w) (length subs) (t ∷ [])
    (λ u s m j e.
    let at = in_at s subs j in
    let here = own_place subs at.0 s distinct at.1 in
    let there = own_place subs m.0 u distinct m.1 in
    let same : m.0 ≡ at.0 = same_Some m.0 at.0 (sym there ∙ ap (place_in subs) (sym e) ∙ here) in
    (at.0, at.1, subst (λ (k : ℕ). Marked w k) same m.2))
    (λ u s m j called.
    let at = in_at s subs j in
    (at.0, at.1, looked_at subs w m.0 empty (walk.done m.0 m.2) u s.head.name at.0 m.1 called (own_place subs at.0 s distinct at.1)))
    (λ u h. subst (λ (v : Sub). Stands subs w v) (sym (in_one u t h)) first) in
    same_bool (is_marked subs w name) (reaches subs t name)
    (λ e.
    let m = marked_place w (place_in subs name) e in
    let at = at_its_place subs name m.0 m.1 in
    in_any (λ (u : Sub). same_text u.head.name name) found at.0 (walk.sound m.0 at.0 m.2 at.1) (ap (λ n. same_text n name) at.2 ∙ itself name))
    (λ e.
    let u = from_any (λ (v : Sub). same_text v.head.name name) found e in
    let m = all u.0 u.1 in
    let place : place_in subs name ≡ Some m.0 = ap (place_in subs) (sym (exact u.0.head.name name u.2)) ∙ own_place subs m.0 u.0 distinct m.1 in
    ap (is_marked_at w) place ∙ m.2)
