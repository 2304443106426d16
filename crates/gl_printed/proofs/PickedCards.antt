-- Cards picked from placed cards are fine.
use Rattle.std.proofs.Common.{◌≡◌, ℕ, List, [], ◌∷◌, cond, eqb, true, false, Bool, Option, Some, None, refl, subst, filter_map, flat_map}
use Rattle.std.specs.List.{AllByRecursion, cons_option}
use Rattle.gl_text.specs.Cards.{Card, Model, dev, call, model, passed}
use Rattle.gl_text.specs.Decks.{Body, dev_at, call_at, Scope, Placed, bodies, model_of, passed_of}
use Rattle.gl_printed.specs.ReadCards.{IsFine}
use Rattle.gl_printed.specs.ReadDecks.{body_card}
use Rattle.gl_lists.proofs.Each.{each_append, each_to}
use Rattle.gl_printed.proofs.DistinctNames.{body_in, none_is}
use Rattle.gl_printed.proofs.PlacedCards.{placed}
use Rattle.gl_printed.proofs.HeldCards.{Held}
use Rattle.std.proofs.lemmas.Option.{same_Some}

-- ---- what is picked of cards

pub each_picked : {X Y : Type 0} (P : Y → Type 0) (h : X → Option Y) (xs : List X) → AllByRecursion (λ x. (y : Y) → h x ≡ Some y → P y) xs → AllByRecursion P (filter_map h xs)
each_picked P h [] i = tt
each_picked {X} {Y} P h (x ∷ xs) i = by (h x) i.0 (each_picked P h xs i.1) where
  by : (o : Option Y) → ((y : Y) → o ≡ Some y → P y) → AllByRecursion P (filter_map h xs) → AllByRecursion P (cons_option o (filter_map h xs))
  by None j r = r
  by (Some y) j r = (j y refl, r)

pub each_flat : {X Y : Type 0} (P : Y → Type 0) (f : X → List Y) (xs : List X) → AllByRecursion (λ x. AllByRecursion P (f x)) xs → AllByRecursion P (flat_map f xs)
each_flat P f [] h = tt
each_flat P f (x ∷ xs) h = each_append P (f x) (flat_map f xs) h.0 (each_flat P f xs h.1)

pub not_here : {P : Type 0} (t : Bool) (y : Body) → cond t None None ≡ Some y → P
not_here true y e = absurd cc
not_here false y e = absurd cc

-- ---- models, passed lines, devices and X cards

pub model_picked : (s : Scope) (n : ℕ) (c : Card) → IsFine c → (m : Model) → model_of (placed s n c) ≡ Some m → IsFine (model m)
model_picked s n (model d) h m e = subst (λ x. IsFine (model x)) (same_Some d m e) h
model_picked s n c h m e = none_is m e

pub passed_picked : (s : Scope) (n : ℕ) (c : Card) → IsFine c → (t : List ℕ) → passed_of (placed s n c) ≡ Some t → IsFine (passed t)
passed_picked s n (passed d) h m e = subst (λ x. IsFine (passed x)) (same_Some d m e) h
passed_picked s n c h m e = none_is m e

pub in_scope_is : {P : Type 0} (t : Bool) (b y : Body) → cond t (Some b) None ≡ Some y → (t ≡ true → b ≡ y → P) → P
in_scope_is true b y e f = f refl (same_Some b y e)
in_scope_is false b y e f = none_is y e

pub body_picked : (L : ℕ) (s : Scope) (n : ℕ) (c : Card) → IsFine c → (b : Body) → body_in L (placed s n c) ≡ Some b → IsFine (body_card b)
body_picked L s n (dev d) h b e = in_scope_is (eqb s.line L) (dev_at n d) b e (λ t f. subst (λ x. IsFine (body_card x)) f h)
body_picked L s n (call d) h b e = in_scope_is (eqb s.line L) (call_at n d) b e (λ t f. subst (λ x. IsFine (body_card x)) f h)
body_picked L s n c h b e = not_here (eqb s.line L) b e

pub bodies_fine : (L m : ℕ) (cards : List Placed) → Held m cards → AllByRecursion (λ b. IsFine (body_card b)) (bodies L cards)
bodies_fine L m cards h = each_picked (λ b. IsFine (body_card b)) (body_in L) cards (each_to (λ (p : Placed). IsFine p.card) (λ p. (b : Body) → body_in L p ≡ Some b → IsFine (body_card b)) (λ p i. body_picked L p.scope p.line p.card i) cards h.fine)
