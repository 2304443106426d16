-- Flat devices: what is known of each.
use Rattle.std.proofs.Common.{◌≡◌, ℕ, zero, suc, List, [], ◌∷◌, length, map, cond, true, false, Bool, Option, Some, None, refl, subst, find, zip, option_map, unwrap_or, flat_map}
use Rattle.std.specs.Prelude.{option_to_list}
use Rattle.std.specs.List.{AllByRecursion}
use Rattle.std.proofs.lemmas.List.{length-map}
use Rattle.gl_text.specs.LogicalLines.{same_text}
use Rattle.gl_text.specs.WayBack.{IsName}
use Rattle.gl_text.specs.Cards.{Call, dev, call}
use Rattle.gl_text.specs.Decks.{Body, dev_at, call_at, Sub, find_sub}
use Rattle.gl_text.specs.Flattening.{Net, FlatDevice, Place, top_net, top_place, is_rail, net_of, inside, devices_of, flat_devices}
use Rattle.gl_printed.specs.ReadCards.{IsFine}
use Rattle.gl_printed.specs.ReadDecks.{body_card, IsReadSub}
use Rattle.gl_lists.proofs.Each.{by_cond, each_append, each_left, each_map, each_to}
use Rattle.gl_printed.proofs.PickedCards.{each_flat}
use Rattle.gl_printed.proofs.CalledSubs.{inner}
use Rattle.std.proofs.lemmas.Option.{same_Some}

pub record IsFlatNet (n : Net) : Type 0 where
  pub path : AllByRecursion IsName n.path
  pub name : IsName n.name

pub record IsFlatDevice (d : FlatDevice) : Type 0 where
  pub path : AllByRecursion IsName d.path
  pub card : IsFine (dev d.card)
  pub nets : AllByRecursion IsFlatNet d.nets
  pub as_many : length d.nets ≡ length d.card.nodes

pub record IsPlace (p : Place) : Type 0 where
  pub path : AllByRecursion IsName p.path
  pub ports : AllByRecursion (λ q. IsFlatNet q.1) p.ports

-- ---- nets

found_holds : {X : Type 0} (P : X → Type 0) (t : X → Bool) (xs : List X) → AllByRecursion P xs → (x : X) → find t xs ≡ Some x → P x
found_holds P t [] h x e = absurd cc
found_holds {X} P t (y ∷ ys) h x e = by (t y) (found_holds P t ys h.1 x) e where
  by : (b : Bool) → (find t ys ≡ Some x → P x) → cond b (Some y) (find t ys) ≡ Some x → P x
  by true r e = subst P (same_Some y x e) h.0
  by false r e = r e

net_flat : (rails : List (List ℕ)) (place : Place) (name : List ℕ) → IsPlace place → IsName name → IsFlatNet (net_of rails place name)
net_flat rails place name h p = by (find (λ (q : List ℕ × Net). same_text q.0 name) place.ports) (found_holds (λ (q : List ℕ × Net). IsFlatNet q.1) (λ (q : List ℕ × Net). same_text q.0 name) place.ports h.ports) where
  own : IsFlatNet (cond (is_rail rails name) (top_net name) (record { path = place.path; name = name }))
  own = by_cond IsFlatNet (is_rail rails name) (top_net name) (record { path = place.path; name = name }) (λ e. record { path = tt; name = p }) (λ e. record { path = h.path; name = p })

  by : (o : Option (List ℕ × Net)) → ((q : List ℕ × Net) → o ≡ Some q → IsFlatNet q.1) → IsFlatNet (unwrap_or (option_map (λ (q : List ℕ × Net). q.1) o) (cond (is_rail rails name) (top_net name) (record { path = place.path; name = name })))
  by None f = own
  by (Some q) f = f q refl

nets_flat : (rails : List (List ℕ)) (place : Place) (names : List (List ℕ)) → IsPlace place → AllByRecursion IsName names → AllByRecursion IsFlatNet (map (net_of rails place) names)
nets_flat rails place names h p = each_map IsFlatNet (net_of rails place) names (each_to IsName (λ n. IsFlatNet (net_of rails place n)) (λ n q. net_flat rails place n h q) names p)

each_zip : {X Y : Type 0} (P : Y → Type 0) (xs : List X) (ys : List Y) → AllByRecursion P ys → AllByRecursion (λ q. P q.1) (zip xs ys)
each_zip P [] ys h = tt
each_zip P (x ∷ xs) [] h = tt
each_zip P (x ∷ xs) (y ∷ ys) h = (h.0, each_zip P xs ys h.1)

-- ---- devices

abbrev pub FineBodies : List Body → Type 0
FineBodies cs = AllByRecursion (λ b. IsFine (body_card b)) cs

abbrev Good : (Place → List Body → List FlatDevice) → Type 0
Good inner = (p : Place) (cs : List Body) → IsPlace p → FineBodies cs → AllByRecursion IsFlatDevice (inner p cs)

inside_place : (rails : List (List ℕ)) (place : Place) (c : Call) (s : Sub) → IsPlace place → IsFine (call c) → IsPlace (inside rails place c s)
inside_place rails place c s h f =
    let names = f.is_read.names in
    record {
      path = each_append IsName place.path (c.name ∷ []) h.path (names.0, tt);
      ports = each_zip IsFlatNet s.head.ports (map (net_of rails place) c.nodes) (nets_flat rails place c.nodes h (each_left IsName c.nodes (c.sub ∷ []) names.1));
    }

card_flat : (rails : List (List ℕ)) (all subs : List Sub) → AllByRecursion (IsReadSub all) subs → (inner : Place → List Body → List FlatDevice) → Good inner → (place : Place) (b : Body) → IsPlace place → IsFine (body_card b) → AllByRecursion IsFlatDevice (devices_of rails subs inner place b)
card_flat rails all subs r inner g place (dev_at line d) h f =
    let names = f.is_read.names in
    (record { path = h.path; card = f; nets = nets_flat rails place d.nodes h (each_left IsName d.nodes (option_to_list d.model) names.1); as_many = length-map d.nodes (net_of rails place) }, tt)
card_flat rails all subs r inner g place (call_at line c) h f = by (find_sub subs c.sub) refl where
  by : (o : Option Sub) → find_sub subs c.sub ≡ o → AllByRecursion IsFlatDevice (devices_of rails subs inner place (call_at line c))
  by None e = rw e tt
  by (Some t) e = rw e (g (inside rails place c t) t.cards (inside_place rails place c t h f) (found_holds (IsReadSub all) (λ (s : Sub). same_text s.head.name c.sub) subs r t e).cards)

cards_flat : (f : Body → List FlatDevice) (cs : List Body) → AllByRecursion (λ b. AllByRecursion IsFlatDevice (f b)) cs → AllByRecursion IsFlatDevice (flat_map f cs)
cards_flat f cs h = each_flat IsFlatDevice f cs h

pub devices_flat : (rails : List (List ℕ)) (all subs : List Sub) → AllByRecursion (IsReadSub all) subs → (depth : ℕ) → (p : Place) (cs : List Body) → IsPlace p → FineBodies cs → AllByRecursion IsFlatDevice (flat_devices rails subs depth p cs)
devices_flat rails all subs r zero p cs h f = cards_flat (devices_of rails subs (λ q c. []) p) cs (each_to (λ b. IsFine (body_card b)) (λ b. AllByRecursion IsFlatDevice (devices_of rails subs (λ q c. []) p b)) (λ b i. card_flat rails all subs r (λ q c. []) (λ q c i j. tt) p b h i) cs f)
devices_flat rails all subs r (suc depth) p cs h f = cards_flat (devices_of rails subs (flat_devices rails subs depth) p) cs (each_to (λ b. IsFine (body_card b)) (λ b. AllByRecursion IsFlatDevice (devices_of rails subs (flat_devices rails subs depth) p b))
    (λ b i. card_flat rails all subs r (flat_devices rails subs depth) (devices_flat rails all subs r depth) p b h i) cs f)

top_is_place : IsPlace top_place
top_is_place = record { path = tt; ports = tt }

-- all flat devices of fine cards
pub all_flat : (rails : List (List ℕ)) (all subs : List Sub) → AllByRecursion (IsReadSub all) subs → (depth : ℕ) (cs : List Body) → AllByRecursion (λ b. IsFine (body_card b)) cs → AllByRecursion IsFlatDevice (flat_devices rails subs depth top_place cs)
all_flat rails all subs r depth cs f = devices_flat rails all subs r depth top_place cs top_is_place f

-- the subcircuit of a name is one of them
pub found_sub : (all subs : List Sub) → AllByRecursion (IsReadSub all) subs → (name : List ℕ) (t : Sub) → find_sub subs name ≡ Some t → IsReadSub all t
found_sub all subs r name t e = found_holds (IsReadSub all) (λ (s : Sub). same_text s.head.name name) subs r t e
