-- How many devices composites have: as many as their parts, so the flattened lifted deck has as many as the original.
use Rattle.std.proofs.Common.{◌≡◌, ◌≤◌, ◌∙◌, ℕ, zero, suc, List, [], ◌∷◌, map, Some, refl, sym, ap, arith}
use Rattle.std.specs.Prelude.{Contains, find, sum_by, zip}
use Rattle.std.specs.Option.{unwrap_or, option_map}
use Rattle.std.specs.List.{AllZip}
use Rattle.std.proofs.lemmas.List.Sums.{sum_by-cons}
use Rattle.gl_match.proofs.Lists.{in_head, in_tail}
use Rattle.gl_text.specs.LogicalLines.{same_text}
use Rattle.gl_text.specs.Cards.{Device as Card}
use Rattle.gl_text.specs.Decks.{Body, dev_at, call_at, Sub, find_sub}
use Rattle.gl_text.specs.Flattening.{size_of, sizes, one_device}
use Rattle.gl_base.specs.BaseCircuit.{Source}
use Rattle.gl_base.specs.Reports.{name_at}
use Rattle.gl_lifting.specs.Replacement.{Origin, base, made, Part, Slot, Composite}
use Rattle.gl_lifting.specs.Variants.{variant_of}
use Rattle.gl_lifting.specs.LiftedDecks.{slot_card}
use Rattle.gl_lifting.proofs.Weights.{weight, part_weight, made_weight}
use Rattle.gl_lifting.proofs.StageLaws.{parts_weight}
use Rattle.gl_lifting.proofs.CountLaws.{size_found}
use Rattle.gl_lifting.proofs.ExpandLaws.{part_card, composite_sub, Tree}

-- what a subcircuit of a name counts, through at most so many X cards
abbrev pub count_of : List Sub → ℕ → List ℕ → ℕ
count_of subs n name = unwrap_or (option_map (λ (s : List ℕ × ℕ). s.1) (find (λ (s : List ℕ × ℕ). same_text s.0 name) (sizes one_device subs n))) 0

-- how many devices a device of a circuit stands for: an original one for itself, a composite for those of its variant
abbrev pub leaves : List Sub → List (List ℕ) → List ℕ → ℕ → Origin → ℕ
leaves subs names numbers n (base dev) = 1
leaves subs names numbers n (made number) = count_of subs n (name_at names (variant_of numbers number))

module _ (s : Source) (cards : List Card) (cs : List Composite) (names : List (List ℕ)) (numbers : List ℕ) (subs : List Sub)
    (found : (c : Composite) → Contains cs c → find_sub subs (name_at names (variant_of numbers c.number)) ≡ Some (composite_sub s cards names numbers c)) where
  -- a card counts as many as its part stands for
  card_leaves : (n : ℕ) (b : Body) (p : Part) → size_of one_device (sizes one_device subs n) (part_card s cards names numbers (b, p)) ≡ leaves subs names numbers n p.origin
  card_leaves n b p = by p.origin where
    by : (o : Origin) → size_of one_device (sizes one_device subs n) (part_card s cards names numbers (b, record { turn = p.turn; origin = o })) ≡ leaves subs names numbers n o
    by (base dev) = refl
    by (made number) = omega arith

  -- all cards
  cards_leaves : (Q : Body → Part → Type 0) (n : ℕ) (bs : List Body) (ps : List Part) → AllZip Q bs ps → sum_by (size_of one_device (sizes one_device subs n)) (map (part_card s cards names numbers) (zip bs ps)) ≡ part_weight (leaves subs names numbers n) ps
  cards_leaves Q n [] [] h = refl
  cards_leaves Q n [] (p ∷ ps) h = absurd h
  cards_leaves Q n (b ∷ bs) [] h = absurd h
  cards_leaves Q n (b ∷ bs) (p ∷ ps) h =
      omega (arith, sum_by-cons (size_of one_device (sizes one_device subs n)) (part_card s cards names numbers (b, p)) (map (part_card s cards names numbers) (zip bs ps)), card_leaves n b p, cards_leaves Q n bs ps h.1)

  -- a composite stands for what its parts stand for, through one call less
  pub composite_leaves : (Q : Body → Part → Type 0) (n : ℕ) (c : Composite) → Contains cs c → AllZip Q c.cell.cards c.parts → leaves subs names numbers (suc n) (made c.number) ≡ part_weight (leaves subs names numbers n) c.parts
  composite_leaves Q n c at h =
      ap (λ o. unwrap_or o 0) (size_found one_device (sizes one_device subs n) subs (name_at names (variant_of numbers c.number)) ∙ ap (option_map (λ (t : Sub). sum_by (size_of one_device (sizes one_device subs n)) t.cards)) (found c at))
      ∙ cards_leaves Q n c.cell.cards c.parts h

  -- what is so of trees at two numbers of calls, through all parts
  same_parts : (Q : Body → Part → Type 0) (n m : ℕ) → ((b : Body) (p : Part) → Q b p → leaves subs names numbers n p.origin ≡ leaves subs names numbers m p.origin) → (bs : List Body) (ps : List Part) → AllZip Q bs ps → part_weight (leaves subs names numbers n) ps ≡ part_weight (leaves subs names numbers m) ps
  same_parts Q n m f [] [] h = refl
  same_parts Q n m f [] (p ∷ ps) h = absurd h
  same_parts Q n m f (b ∷ bs) [] h = absurd h
  same_parts Q n m f (b ∷ bs) (p ∷ ps) h = omega (arith, f b p h.0, same_parts Q n m f bs ps h.1)

  -- more calls than a tree has make no difference
  card_same : (k n m : ℕ) → k ≤ n → k ≤ m → (b : Body) (p : Part) → Tree s cards cs k b p → leaves subs names numbers n p.origin ≡ leaves subs names numbers m p.origin
  card_same zero n m kn km (dev_at line d) p h = ap (leaves subs names numbers n) h.suits.origin_is ∙ sym (ap (leaves subs names numbers m) h.suits.origin_is)
  card_same zero n m kn km (call_at line c) p h = absurd h
  card_same (suc k) n m kn km (dev_at line d) p h = ap (leaves subs names numbers n) h.suits.origin_is ∙ sym (ap (leaves subs names numbers m) h.suits.origin_is)
  card_same (suc k) zero m kn km (call_at line c) p h = absurd (omega (arith, kn))
  card_same (suc k) (suc n) zero kn km (call_at line c) p h = absurd (omega (arith, km))
  card_same (suc k) (suc n) (suc m) kn km (call_at line c) p h =
      let Q = Tree s cards cs k in
      let t = h.composite in
      ap (leaves subs names numbers (suc n)) h.origin_is ∙ composite_leaves Q n t h.stands h.parts
      ∙ same_parts Q n m (card_same k n m (omega (arith, kn)) (omega (arith, km))) t.cell.cards t.parts h.parts
      ∙ sym (ap (leaves subs names numbers (suc m)) h.origin_is ∙ composite_leaves Q m t h.stands h.parts)

  -- so a composite stands for what its parts stand for
  one_leaves : (k n : ℕ) → k ≤ n → (c : Composite) → Contains cs c → AllZip (Tree s cards cs k) c.cell.cards c.parts → leaves subs names numbers (suc n) (made c.number) ≡ part_weight (leaves subs names numbers (suc n)) c.parts
  one_leaves k n kn c at h = composite_leaves (Tree s cards cs k) n c at h ∙ same_parts (Tree s cards cs k) n (suc n) (card_same k n (suc n) kn (omega (arith, kn))) c.cell.cards c.parts h

  -- and all of them
  pub all_leaves : (k n : ℕ) → k ≤ n → (ds : List Composite) → ((c : Composite) → Contains ds c → Contains cs c × AllZip (Tree s cards cs k) c.cell.cards c.parts) → made_weight (leaves subs names numbers (suc n)) ds ≡ parts_weight (leaves subs names numbers (suc n)) ds
  all_leaves k n kn [] h = refl
  all_leaves k n kn (c ∷ ds) h = let g = h c (in_head c ds) in omega (arith, one_leaves k n kn c g.0 g.1, all_leaves k n kn ds (λ d at. h d (in_tail c ds d at)))

  -- the cards of a circuit count what its devices stand for
  pub slot_leaves : (stem : List ℕ) (n : ℕ) (t : Slot) → size_of one_device (sizes one_device subs n) (slot_card stem cards names numbers t) ≡ leaves subs names numbers n t.origin
  slot_leaves stem n t = by t.origin where
    by : (o : Origin) → size_of one_device (sizes one_device subs n) (slot_card stem cards names numbers (record { device = t.device; origin = o })) ≡ leaves subs names numbers n o
    by (base dev) = refl
    by (made number) = omega arith

  pub slots_leaves : (stem : List ℕ) (n : ℕ) (slots : List Slot) → sum_by (size_of one_device (sizes one_device subs n)) (map (slot_card stem cards names numbers) slots) ≡ weight (leaves subs names numbers n) slots
  slots_leaves stem n [] = refl
  slots_leaves stem n (t ∷ ts) = omega (arith, sum_by-cons (size_of one_device (sizes one_device subs n)) (slot_card stem cards names numbers t) (map (slot_card stem cards names numbers) ts), slot_leaves stem n t, slots_leaves stem n ts)
