-- Composites are trees of few calls, so the lifted deck is not too deep.
use Rattle.std.proofs.Common.{◌≡◌, ◌<◌, ◌≤◌, ◌∙◌, ◌+◌, ℕ, zero, suc, List, [], ◌∷◌, length, map, true, Some, refl, sym, ap, subst, arith, inl, inr}
use Rattle.std.specs.Prelude.{Contains, slice_get, flat_map, zip}
use Rattle.std.specs.List.{AllByRecursion, AllZip}
use Rattle.gl_match.proofs.Lists.{Once, in_cons, in_none, from_filter, from_flat_map}
use Rattle.gl_text.specs.LogicalLines.{same_text}
use Rattle.gl_text.specs.Cards.{Device as Card, Call}
use Rattle.gl_text.specs.Decks.{Body, dev_at, call_at, Sub, is_in, find_sub, callees}
use Rattle.gl_text.specs.Flattening.{at_depth, is_none_left}
use Rattle.gl_match.specs.Graph.{Device}
use Rattle.gl_base.specs.TypeNames.{classes_of}
use Rattle.gl_base.specs.BaseCircuit.{Source, nets_of, type_in}
use Rattle.gl_base.specs.Reports.{name_at}
use Rattle.gl_base.proofs.OnceLaws as onces
use Rattle.gl_base.proofs.TextLaws.{exact, itself}
use Rattle.gl_lifting.specs.Replacement.{Origin, base, made, Part, Slot, Composite}
use Rattle.gl_lifting.specs.Variants.{variant_of}
use Rattle.gl_lifting.specs.LiftedDecks.{slot_card}
use Rattle.gl_lifting.specs.Suited.{SuitsCall, SuitsCard, IsSuited, SuitsOrigin}
use Rattle.gl_lifting.proofs.VariantLaws.{IsBefore}
use Rattle.gl_lifting.proofs.CalledVariantLaws.{stands_in}
use Rattle.gl_lifting.proofs.FlatCardLaws.{one_key}
use Rattle.gl_lifting.proofs.SuitedStageLaws.{find_in}
use Rattle.gl_lifting.proofs.RankLaws.{reached, reached_less, reached_some, AreStaged}
use Rattle.gl_lifting.proofs.ExpandLaws.{part_card, composite_cards, composite_sub, Calls, TreeAt, Tree}

-- a device of the last circuit, by where it comes from: an original device, or a composite that is a tree of so many calls, with a net that the deck has for each port
pub record TopCall (s : Source) (cards : List Card) (cs : List Composite) (n number : ℕ) (nets : List ℕ) : Type 0 where
  pub composite : Composite
  pub stands : Contains cs composite
  pub number_is : composite.number ≡ number
  pub ports_are : length nets ≡ length composite.cell.head.ports
  pub within : AllByRecursion (λ net. net < length (nets_of cards)) nets
  pub parts : AllZip (Tree s cards cs n) composite.cell.cards composite.parts

abbrev pub SlotTree : Source → List Card → List Composite → ℕ → List ℕ → Origin → Type 0
SlotTree s cards cs n nets (base dev) = dev < length cards
SlotTree s cards cs n nets (made number) = TopCall s cards cs n number nets

-- a device card has a node for each place of its type
abbrev pub Placed : Source → Body → Type 0
Placed s (dev_at line d) = length d.nodes ≡ length (classes_of (type_in s d))
Placed s (call_at line c) = Unit {0}

-- ---- trees

module _ (s : Source) (cards : List Card) (cells : List Sub) (cs : List Composite) (sizes : List ℕ) (suited : (place : ℕ) (c : Composite) → slice_get cs place ≡ Some c → IsSuited s cards cells cs place c) (staged : AreStaged sizes cs)
    (numbered : (place : ℕ) (c : Composite) → slice_get cs place ≡ Some c → c.number ≡ suc place) (placed : (place : ℕ) (c : Composite) → slice_get cs place ≡ Some c → AllByRecursion (Placed s) c.cell.cards) where
  -- what is so of cards that suit parts made before
  all_cards : (Q : Body → Part → Type 0) (place size : ℕ) → ((b : Body) (p : Part) → SuitsCard s cards cs place b p → Placed s b → IsBefore size p.origin → Q b p) → (bs : List Body) (ps : List Part) → AllZip (SuitsCard s cards cs place) bs ps → AllByRecursion (Placed s) bs → AllByRecursion (λ (p : Part). IsBefore size p.origin) ps → AllZip Q bs ps
  all_cards Q place size f [] [] h k g = tt
  all_cards Q place size f [] (p ∷ ps) h k g = absurd h
  all_cards Q place size f (b ∷ bs) [] h k g = absurd h
  all_cards Q place size f (b ∷ bs) (p ∷ ps) h k g = (f b p h.0 k.0 g.0, all_cards Q place size f bs ps h.1 k.1 g.1)

  -- the composite of an X card's part was reached by fewer rounds, and by one at least
  lower : (place size : ℕ) → Contains sizes size → size ≤ place → (c : Call) (p : Part) (h : SuitsCall cs place c p) → IsBefore size p.origin → (reached h.place sizes < reached place sizes) × (0 < reached h.place sizes)
  lower place size round low c p h before =
      let made_before : (0 < suc h.place) × (suc h.place ≤ size) = subst (IsBefore size) h.origin_is before in
      let own = staged h.place h.composite h.stands in
      (reached_less h.place place size sizes (omega (arith, made_before.1)) low round, reached_some h.place own.size sizes own.low own.round)

  card_alone : (place size : ℕ) → Contains sizes size → size ≤ place → reached place sizes ≤ 1 → (b : Body) (p : Part) → SuitsCard s cards cs place b p → Placed s b → IsBefore size p.origin → Tree s cards cs zero b p
  card_alone place size round low le (dev_at line d) p h k before = record { suits = h; places = k }
  card_alone place size round low le (call_at line c) p h k before = let l = lower place size round low c p h before in omega (arith, le, l.0, l.1)

  card_above : (n place size : ℕ) → ((place : ℕ) (c : Composite) → slice_get cs place ≡ Some c → reached place sizes ≤ suc n → AllZip (Tree s cards cs n) c.cell.cards c.parts) → Contains sizes size → size ≤ place → reached place sizes ≤ suc (suc n)
      → (b : Body) (p : Part) → SuitsCard s cards cs place b p → Placed s b → IsBefore size p.origin → Tree s cards cs (suc n) b p
  card_above n place size deeper round low le (dev_at line d) p h k before = record { suits = h; places = k }
  card_above n place size deeper round low le (call_at line c) p h k before =
      let l = lower place size round low c p h before in record {
        composite = h.composite;
        stands = stands_in cs h.place h.composite h.stands;
        origin_is = h.origin_is ∙ ap made (sym (numbered h.place h.composite h.stands));
        name_is = h.name_is;
        ports_are = h.ports_are;
        turn_below = h.turn_below;
        parts = deeper h.place h.composite h.stands (omega (arith, le, l.0));
      }

  -- a composite is a tree of as many calls as rounds that reach it, but one
  pub tree : (n place : ℕ) (c : Composite) → slice_get cs place ≡ Some c → reached place sizes ≤ suc n → AllZip (Tree s cards cs n) c.cell.cards c.parts
  tree zero place c at le = let g = staged place c at in all_cards (Tree s cards cs zero) place g.size (card_alone place g.size g.round g.low le) c.cell.cards c.parts (suited place c at).parts_suit (placed place c at) g.parts
  tree (suc n) place c at le = let g = staged place c at in all_cards (Tree s cards cs (suc n)) place g.size (card_above n place g.size (tree n) g.round g.low le) c.cell.cards c.parts (suited place c at).parts_suit (placed place c at) g.parts

  -- what a device of the last circuit comes from is one
  pub slot_tree : (n : ℕ) → ((place : ℕ) → reached place sizes ≤ suc n) → (nets : List ℕ) (o : Origin) → SuitsOrigin cards cs nets o → SlotTree s cards cs n nets o
  slot_tree n le nets (base dev) h = h
  slot_tree n le nets (made number) h = record {
    composite = h.composite;
    stands = stands_in cs h.place h.composite h.stands;
    number_is = numbered h.place h.composite h.stands ∙ sym h.number_is;
    ports_are = h.ports_are;
    within = h.within;
    parts = tree n h.place h.composite h.stands (le h.place);
  }

-- ---- depth

module _ (s : Source) (cards : List Card) (cs : List Composite) (names : List (List ℕ)) (numbers : List ℕ) (subs : List Sub) (once : Once (map (λ (t : Sub). t.head.name) subs))
    (found : (c : Composite) → Contains cs c → find_sub subs (name_at names (variant_of numbers c.number)) ≡ Some (composite_sub s cards names numbers c)) where
  -- the subcircuit of a name that a composite has is the composite's
  one_sub : (c : Composite) → Contains cs c → (t : Sub) → Contains subs t → t.head.name ≡ name_at names (variant_of numbers c.number) → t ≡ composite_sub s cards names numbers c
  one_sub c at t there same = one_key (λ (x : Sub). x.head.name) subs t (composite_sub s cards names numbers c) once there (find_in (λ (x : Sub). same_text x.head.name (name_at names (variant_of numbers c.number))) subs (composite_sub s cards names numbers c) (found c at)) same

  -- what the cards of a tree call
  called : (Inner : Call → Part → Type 0) → (bs : List Body) (ps : List Part) → AllZip (TreeAt s cards Inner) bs ps → (name : List ℕ) → Contains (callees (map (part_card s cards names numbers) (zip bs ps))) name
      → (c : Call) × (p : Part) × Inner c p × ((k : ℕ) → p.origin ≡ made k → name ≡ name_at names (variant_of numbers k))
  called Inner [] ps h name there = absurd (in_none name there)
  called Inner (b ∷ bs) [] h name there = absurd (in_none name there)
  called Inner (dev_at line d ∷ bs) (p ∷ ps) h name there = called Inner bs ps h.1 name (subst (λ (o : Origin). Contains (callees (part_card s cards names numbers (dev_at line d, record { turn = p.turn; origin = o }) ∷ map (part_card s cards names numbers) (zip bs ps))) name) h.0.suits.origin_is there)
  called Inner (call_at line c ∷ bs) (p ∷ ps) h name there = by p.origin refl (called Inner bs ps h.1 name) there where
    by : (o : Origin) → p.origin ≡ o → (Contains (callees (map (part_card s cards names numbers) (zip bs ps))) name → (c : Call) × (p : Part) × Inner c p × ((k : ℕ) → p.origin ≡ made k → name ≡ name_at names (variant_of numbers k)))
        → Contains (callees (part_card s cards names numbers (call_at line c, record { turn = p.turn; origin = o }) ∷ map (part_card s cards names numbers) (zip bs ps))) name
        → (c : Call) × (p : Part) × Inner c p × ((k : ℕ) → p.origin ≡ made k → name ≡ name_at names (variant_of numbers k))
    by (base dev) e later there = later there
    by (made number) e later there = elim (in_cons (name_at names (variant_of numbers number)) (callees (map (part_card s cards names numbers) (zip bs ps))) name there) [
      | inl here ↦ (c, p, h.0, λ k is. sym here ∙ ap (λ m. name_at names (variant_of numbers m)) (one number k (sym e ∙ is)))
      | inr behind ↦ later behind
    ] where
      one : (m k : ℕ) → made m ≡ made k → m ≡ k
      one m k e = cc

  -- what the cards of the last circuit call
  slots_call : (stem : List ℕ) (n : ℕ) (slots : List Slot) → AllByRecursion (λ (t : Slot). SlotTree s cards cs n t.device.nets t.origin) slots → (name : List ℕ) → Contains (callees (map (slot_card stem cards names numbers) slots)) name
      → (c : Composite) × Contains cs c × (name ≡ name_at names (variant_of numbers c.number)) × AllZip (Tree s cards cs n) c.cell.cards c.parts
  slots_call stem n [] h name there = absurd (in_none name there)
  slots_call stem n (t ∷ ts) h name there = by t.device t.origin h.0 (slots_call stem n ts h.1 name) there where
    by : (d : Device) (o : Origin) → SlotTree s cards cs n d.nets o → (Contains (callees (map (slot_card stem cards names numbers) ts)) name → (c : Composite) × Contains cs c × (name ≡ name_at names (variant_of numbers c.number)) × AllZip (Tree s cards cs n) c.cell.cards c.parts)
        → Contains (callees (slot_card stem cards names numbers (record { device = d; origin = o }) ∷ map (slot_card stem cards names numbers) ts)) name → (c : Composite) × Contains cs c × (name ≡ name_at names (variant_of numbers c.number)) × AllZip (Tree s cards cs n) c.cell.cards c.parts
    by d (base dev) g later there = later there
    by d (made number) g later there = elim (in_cons (name_at names (variant_of numbers number)) (callees (map (slot_card stem cards names numbers) ts)) name there) [
      | inl here ↦ (g.composite, g.stands, sym here ∙ ap (λ m. name_at names (variant_of numbers m)) (sym g.number_is), g.parts)
      | inr behind ↦ later behind
    ]

  -- what so many X cards lead to is a composite's, a tree of as many calls less
  deep : (stem : List ℕ) (d : ℕ) (slots : List Slot) → AllByRecursion (λ (t : Slot). SlotTree s cards cs d t.device.nets t.origin) slots → (n : ℕ) (t : Sub) → Contains (at_depth subs (map (slot_card stem cards names numbers) slots) n) t
      → (m : ℕ) × (n + m ≡ d) × (c : Composite) × Contains cs c × (t ≡ composite_sub s cards names numbers c) × AllZip (Tree s cards cs m) c.cell.cards c.parts
  deep stem d slots h zero t there =
      let f = from_filter (λ (x : Sub). is_in x.head.name (callees (map (slot_card stem cards names numbers) slots))) subs t there in
      let r = slots_call stem d slots h t.head.name (onces.there same_text exact itself (callees (map (slot_card stem cards names numbers) slots)) t.head.name f.1) in
      (d, omega arith, r.0, r.1, one_sub r.0 r.1 t f.0 r.2, r.3)
  deep stem d slots h (suc n) t there =
      let above = at_depth subs (map (slot_card stem cards names numbers) slots) n in
      let f = from_filter (λ (x : Sub). is_in x.head.name (flat_map (λ (u : Sub). callees u.cards) above)) subs t there in
      let g = from_flat_map (λ (u : Sub). callees u.cards) above t.head.name (onces.there same_text exact itself (flat_map (λ (u : Sub). callees u.cards) above) t.head.name f.1) in
      let u = deep stem d slots h n g.0 g.1 in
      below u.0 u.1 t f.0 u.2 u.5 (subst (λ (x : Sub). Contains (callees x.cards) t.head.name) u.4 g.2)
    where
      below : (m : ℕ) → n + m ≡ d → (t : Sub) → Contains subs t → (c : Composite) → AllZip (Tree s cards cs m) c.cell.cards c.parts → Contains (callees (composite_cards s cards names numbers c)) t.head.name
          → (m : ℕ) × (suc n + m ≡ d) × (c : Composite) × Contains cs c × (t ≡ composite_sub s cards names numbers c) × AllZip (Tree s cards cs m) c.cell.cards c.parts
      below zero e t at c parts there = absurd (called (λ c q. ⊥) c.cell.cards c.parts parts t.head.name there).2
      below (suc m) e t at c parts there =
          let r = called (Calls cs (Tree s cards cs m)) c.cell.cards c.parts parts t.head.name there in
          (m, omega (arith, e), r.2.composite, r.2.stands, one_sub r.2.composite r.2.stands t at (r.3 r.2.composite.number r.2.origin_is), r.2.parts)

  -- so nothing is left behind more X cards than the trees have calls
  pub none_deep : (stem : List ℕ) (d n : ℕ) (slots : List Slot) → AllByRecursion (λ (t : Slot). SlotTree s cards cs d t.device.nets t.origin) slots → d < n → is_none_left (at_depth subs (map (slot_card stem cards names numbers) slots) n) ≡ true
  none_deep stem d n slots h lt = go (at_depth subs (map (slot_card stem cards names numbers) slots) n) (deep stem d slots h n) where
    go : (ts : List Sub) → ((t : Sub) → Contains ts t → (m : ℕ) × (n + m ≡ d) × (c : Composite) × Contains cs c × (t ≡ composite_sub s cards names numbers c) × AllZip (Tree s cards cs m) c.cell.cards c.parts) → is_none_left ts ≡ true
    go [] f = refl
    go (t ∷ ts) f = absurd (let r = f t (0, omega arith, refl) in omega (arith, lt, r.1))
