-- A composite in the lifted deck is flattened as its cell is in the library: the same devices under the composite's way, and nets that are of the top or the cell's own.
use Rattle.std.proofs.Common.{◌≡◌, ◌≤◌, ◌∙◌, ℕ, zero, suc, List, [], ◌∷◌, ◌++◌, map, cond, Bool, true, false, Some, refl, sym, ap, subst, arith, inl, inr, append_assoc}
use Rattle.std.specs.Prelude.{◌⊎◌, Contains, flat_map, zip}
use Rattle.std.specs.Option.{unwrap_or}
use Rattle.std.specs.List.{AllZip}
use Rattle.gl_match.proofs.Lists.{in_map, from_map}
use Rattle.gl_text.specs.LogicalLines.{same_text}
use Rattle.gl_text.specs.Cards.{Device as Card, Call}
use Rattle.gl_text.specs.Decks.{Body, dev_at, call_at, Sub, find_sub}
use Rattle.gl_text.specs.Flattening.{Net, FlatDevice, Place, top_net, is_rail, actual, net_of, devices_of, flat_devices}
use Rattle.gl_base.specs.TypeNames.{classes_of}
use Rattle.gl_base.specs.BaseCircuit.{Source, type_in}
use Rattle.gl_base.specs.Reports.{name_at}
use Rattle.gl_lifting.specs.Replacement.{Origin, base, Part, Composite}
use Rattle.gl_lifting.specs.Variants.{variant_of}
use Rattle.gl_lifting.specs.LiftedDecks.{nodes_back}
use Rattle.gl_lifting.proofs.TurnBackLaws.{turned_inside}
use Rattle.gl_lifting.proofs.ExpandLaws.{part_card, composite_sub, Calls, TreeAt, Tree, call_nodes}

-- two lists behind each other
pub zip_append : {X Y : Type 0} (R : X → Y → Type 0) (ws bs : List X) (xs ys : List Y) → AllZip R ws xs → AllZip R bs ys → AllZip R (ws ++ bs) (xs ++ ys)
zip_append R [] bs [] ys h g = g
zip_append R [] bs (x ∷ xs) ys h g = absurd h
zip_append R (a ∷ ws) bs [] ys h g = absurd h
zip_append R (a ∷ ws) bs (x ∷ xs) ys h g = (h.0, zip_append R ws bs xs ys h.1 g)

-- a net is the top's, of an old name, or one below a way
abbrev pub Stems : (List ℕ → Type 0) → List (List ℕ) → Net → Net → Type 0
Stems Old way m n = ((m.path ≡ []) × Old m.name) ⊎ (m ≡ record { path = way ++ n.path; name = n.name })

-- a device is one below a way, its card of the same name, its nets of the top's or nets of the other below the way
pub record Twin (Old : List ℕ → Type 0) (way : List (List ℕ)) (d e : FlatDevice) : Type 0 where
  pub path : d.path ≡ way ++ e.path
  pub name : d.card.name ≡ e.card.name
  pub nets : (m : Net) → Contains d.nets m → (n : Net) × Contains e.nets n × Stems Old way m n

module _ (s : Source) (cards : List Card) (cs : List Composite) (names : List (List ℕ)) (numbers : List ℕ) (subs cells : List Sub) (rails own : List (List ℕ))
    (Old : List ℕ → Type 0) (rails_old : (name : List ℕ) → is_rail rails name ≡ true → Old name)
    (found : (c : Composite) → Contains cs c → find_sub subs (name_at names (variant_of numbers c.number)) ≡ Some (composite_sub s cards names numbers c))
    (known : (c : Composite) → Contains cs c → find_sub cells c.cell.head.name ≡ Some c.cell)
    (fewer : (name : List ℕ) → is_rail rails name ≡ false → is_rail own name ≡ false) (way : List (List ℕ)) where
  -- each name is at two places the top's net, or nets below the way
  abbrev pub Met : Place → Place → Type 0
  Met p q = (name : List ℕ) → Stems Old way (net_of rails p name) (net_of own q name)

  -- ports beside actual nets of two places
  looked : (p q : Place) → Met p q → (ports nodes : List (List ℕ)) (name : List ℕ) (a b : Net) → Stems Old way a b
      → Stems Old way (unwrap_or (actual (zip ports (map (net_of rails p) nodes)) name) a) (unwrap_or (actual (zip ports (map (net_of own q) nodes)) name) b)
  looked p q met [] nodes name a b h = h
  looked p q met (x ∷ xs) [] name a b h = h
  looked p q met (x ∷ xs) (n ∷ ns) name a b h =
      by (same_text x name) refl (looked p q met xs ns name a b h)
    where
      by : (t : Bool) → same_text x name ≡ t → Stems Old way (unwrap_or (actual (zip xs (map (net_of rails p) ns)) name) a) (unwrap_or (actual (zip xs (map (net_of own q) ns)) name) b) → Stems Old way (unwrap_or (actual (zip (x ∷ xs) (map (net_of rails p) (n ∷ ns))) name) a) (unwrap_or (actual (zip (x ∷ xs) (map (net_of own q) (n ∷ ns))) name) b)
      by true e later = rw e (met n)
      by false e later = rw e later

  -- inside X cards of one name, with the same nodes and ports
  inside_met : (p q : Place) → p.path ≡ way ++ q.path → Met p q → (x : List ℕ) (ports nodes : List (List ℕ))
      → Met (record { path = p.path ++ x ∷ []; ports = zip ports (map (net_of rails p) nodes) }) (record { path = q.path ++ x ∷ []; ports = zip ports (map (net_of own q) nodes) })
  inside_met p q path met x ports nodes name = looked p q met ports nodes name _ _ (local (is_rail rails name) refl) where
    local : (t : Bool) → is_rail rails name ≡ t → Stems Old way (cond (is_rail rails name) (top_net name) (record { path = p.path ++ x ∷ []; name = name })) (cond (is_rail own name) (top_net name) (record { path = q.path ++ x ∷ []; name = name }))
    local true e = rw e (inl (refl, rails_old name e))
    local false e = rw (e, fewer name e) (inr (ap (λ (w : List (List ℕ)). record { path = w; name = name }) (ap (λ (w : List (List ℕ)). w ++ x ∷ []) path ∙ append_assoc way q.path (x ∷ []))))

  -- a device card, and an X card whose composite is inside alike
  card_twins : (f g : Place → List Body → List FlatDevice) (p q : Place) → p.path ≡ way ++ q.path → Met p q → (Inner : Call → Part → Type 0)
      → ((line : ℕ) (c : Call) (x : Part) → Inner c x → AllZip (Twin Old way) (devices_of rails subs f p (part_card s cards names numbers (call_at line c, x))) (devices_of own cells g q (call_at line c)))
      → (b : Body) (x : Part) → TreeAt s cards Inner b x → AllZip (Twin Old way) (devices_of rails subs f p (part_card s cards names numbers (b, x))) (devices_of own cells g q b)
  card_twins f g p q path met Inner calls (call_at line c) x h = calls line c x h
  card_twins f g p q path met Inner calls (dev_at line d) x h = at x.origin h.suits.origin_is where
    nets : (m : Net) → Contains (map (net_of rails p) (nodes_back s (dev_at line d) x.turn)) m → (n : Net) × Contains (map (net_of own q) d.nodes) n × Stems Old way m n
    nets m there =
        let r = from_map (net_of rails p) (nodes_back s (dev_at line d) x.turn) m there in
        let inside = turned_inside (classes_of (type_in s d)) x.turn d.nodes r.0 h.suits.turn_below h.places r.1 in
        (net_of own q r.0, in_map (net_of own q) d.nodes r.0 inside, subst (λ z. Stems Old way z (net_of own q r.0)) r.2 (met r.0))

    at : (o : Origin) → o ≡ base h.suits.dev → AllZip (Twin Old way) (devices_of rails subs f p (part_card s cards names numbers (dev_at line d, record { turn = x.turn; origin = o }))) (devices_of own cells g q (dev_at line d))
    at o e = subst (λ (o : Origin). AllZip (Twin Old way) (devices_of rails subs f p (part_card s cards names numbers (dev_at line d, record { turn = x.turn; origin = o }))) (devices_of own cells g q (dev_at line d))) (sym e) (record { path = path; name = refl; nets = nets }, tt)

  -- all cards
  all_twins : (f g : Place → List Body → List FlatDevice) (p q : Place) → p.path ≡ way ++ q.path → Met p q → (Inner : Call → Part → Type 0)
      → ((line : ℕ) (c : Call) (x : Part) → Inner c x → AllZip (Twin Old way) (devices_of rails subs f p (part_card s cards names numbers (call_at line c, x))) (devices_of own cells g q (call_at line c)))
      → (bs : List Body) (xs : List Part) → AllZip (TreeAt s cards Inner) bs xs → AllZip (Twin Old way) (flat_map (devices_of rails subs f p) (map (part_card s cards names numbers) (zip bs xs))) (flat_map (devices_of own cells g q) bs)
  all_twins f g p q path met Inner calls [] [] h = tt
  all_twins f g p q path met Inner calls [] (x ∷ xs) h = absurd h
  all_twins f g p q path met Inner calls (b ∷ bs) [] h = absurd h
  all_twins f g p q path met Inner calls (b ∷ bs) (x ∷ xs) h = zip_append (Twin Old way) (devices_of rails subs f p (part_card s cards names numbers (b, x))) _ (devices_of own cells g q b) _
      (card_twins f g p q path met Inner calls b x h.0) (all_twins f g p q path met Inner calls bs xs h.1)

  -- an X card, where the cards of its composite are alike at all places that are
  call_twins : (f g : Place → List Body → List FlatDevice) (Inner : Body → Part → Type 0)
      → ((bs : List Body) (xs : List Part) → AllZip Inner bs xs → (p q : Place) → p.path ≡ way ++ q.path → Met p q → AllZip (Twin Old way) (f p (map (part_card s cards names numbers) (zip bs xs))) (g q bs))
      → (p q : Place) → p.path ≡ way ++ q.path → Met p q → (line : ℕ) (c : Call) (x : Part) → Calls cs Inner c x → AllZip (Twin Old way) (devices_of rails subs f p (part_card s cards names numbers (call_at line c, x))) (devices_of own cells g q (call_at line c))
  call_twins f g Inner deeper p q path met line c x h =
      let t = h.composite in
      let called : find_sub cells c.sub ≡ Some t.cell = ap (find_sub cells) (sym h.name_is) ∙ known t h.stands in
      let same = call_nodes s line x.turn c h.turn_below in
      let inner = deeper t.cell.cards t.parts h.parts (record { path = p.path ++ c.name ∷ []; ports = zip t.cell.head.ports (map (net_of rails p) c.nodes) }) (record { path = q.path ++ c.name ∷ []; ports = zip t.cell.head.ports (map (net_of own q) c.nodes) })
      (ap (λ w. w ++ c.name ∷ []) path ∙ append_assoc way q.path (c.name ∷ [])) (inside_met p q path met c.name t.cell.head.ports c.nodes) in
      subst (λ (o : Origin). AllZip (Twin Old way) (devices_of rails subs f p (part_card s cards names numbers (call_at line c, record { turn = x.turn; origin = o }))) (devices_of own cells g q (call_at line c))) (sym h.origin_is)
      (rw (found t h.stands, called, same) inner)

  -- all of a tree, where both go deep enough
  pub twins : (k n m : ℕ) → k ≤ n → k ≤ m → (bs : List Body) (xs : List Part) → AllZip (Tree s cards cs k) bs xs → (p q : Place) → p.path ≡ way ++ q.path → Met p q
      → AllZip (Twin Old way) (flat_devices rails subs n p (map (part_card s cards names numbers) (zip bs xs))) (flat_devices own cells m q bs)
  twins zero zero zero kn km bs xs h p q path met = all_twins (λ p c. []) (λ p c. []) p q path met (λ c x. ⊥) (λ line c x e. absurd e) bs xs h
  twins zero zero (suc m) kn km bs xs h p q path met = all_twins (λ p c. []) (flat_devices own cells m) p q path met (λ c x. ⊥) (λ line c x e. absurd e) bs xs h
  twins zero (suc n) zero kn km bs xs h p q path met = all_twins (flat_devices rails subs n) (λ p c. []) p q path met (λ c x. ⊥) (λ line c x e. absurd e) bs xs h
  twins zero (suc n) (suc m) kn km bs xs h p q path met = all_twins (flat_devices rails subs n) (flat_devices own cells m) p q path met (λ c x. ⊥) (λ line c x e. absurd e) bs xs h
  twins (suc k) zero m kn km bs xs h p q path met = absurd (omega (arith, kn))
  twins (suc k) (suc n) zero kn km bs xs h p q path met = absurd (omega (arith, km))
  twins (suc k) (suc n) (suc m) kn km bs xs h p q path met = all_twins (flat_devices rails subs n) (flat_devices own cells m) p q path met (Calls cs (Tree s cards cs k))
      (call_twins (flat_devices rails subs n) (flat_devices own cells m) (Tree s cards cs k) (λ bs xs h p q path met. twins k n m (omega (arith, kn)) (omega (arith, km)) bs xs h p q path met) p q path met) bs xs h
