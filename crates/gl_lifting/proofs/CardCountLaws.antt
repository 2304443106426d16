-- How many cards composites have: one more than their parts, so the lifted deck expands to a card for each original device and for each composite.
use Rattle.std.proofs.Common.{◌≡◌, ◌≤◌, ◌∙◌, ◌+◌, ℕ, zero, suc, List, [], ◌∷◌, length, map, Some, refl, sym, ap, arith}
use Rattle.std.specs.Prelude.{Contains, find, sum_by, zip}
use Rattle.std.specs.Option.{unwrap_or, option_map}
use Rattle.std.specs.List.{AllZip}
use Rattle.std.proofs.lemmas.List.{length-map}
use Rattle.std.proofs.lemmas.List.Sums.{sum_by-cons}
use Rattle.gl_match.proofs.Lists.{in_head, in_tail}
use Rattle.gl_text.specs.LogicalLines.{same_text}
use Rattle.gl_text.specs.Cards.{Device as Card}
use Rattle.gl_text.specs.Decks.{Body, dev_at, call_at, Sub, find_sub}
use Rattle.gl_text.specs.Flattening.{Flat, size_of, sizes, one, count, flat_card}
use Rattle.gl_base.specs.BaseCircuit.{Source}
use Rattle.gl_base.specs.Libraries.{Library}
use Rattle.gl_base.specs.Reports.{name_at}
use Rattle.gl_base.specs.Rounds.{cards_of}
use Rattle.gl_lifting.specs.Runs.{run_of}
use Rattle.gl_lifting.specs.Replacement.{Origin, base, made, Part, Slot, Composite}
use Rattle.gl_lifting.specs.Histories.{History}
use Rattle.gl_lifting.specs.Variants.{variant_of, variants_of, variant_names}
use Rattle.gl_lifting.specs.LiftedDecks.{slot_card, top_name, lifted_deck}
use Rattle.gl_lifting.specs.OutLimits.{expanded_cards}
use Rattle.gl_lifting.specs.Lifted.{Options}
use Rattle.gl_lifting.specs.Chain.{IsLawfulOf}
use Rattle.gl_lifting.specs.Suited.{HasSuited}
use Rattle.gl_lifting.specs.Counting.{HasCardsOf}
use Rattle.gl_lifting.proofs.Weights.{weight, part_weight, made_weight}
use Rattle.gl_lifting.proofs.StageLaws.{parts_weight}
use Rattle.gl_lifting.proofs.CountLaws.{size_found}
use Rattle.gl_lifting.proofs.ExpandLaws.{part_card, composite_sub, Tree}
use Rattle.gl_lifting.proofs.ManyLaws.{history_weight}
use Rattle.gl_lifting.proofs.ThreeLinkLaws.{cells_told}
use Rattle.gl_lifting.proofs.FourthLinkLaws.{expanded}
use Rattle.gl_lifting.proofs.LiftedFactLaws as facts

-- what a subcircuit of a name counts in cards, through at most so many X cards
abbrev cards_below : List Sub → ℕ → List ℕ → ℕ
cards_below subs n name = unwrap_or (option_map (λ (s : List ℕ × ℕ). s.1) (find (λ (s : List ℕ × ℕ). same_text s.0 name) (sizes one subs n))) 0

-- how many cards a device of a circuit stands for: an original one for itself, a composite for its X card and the cards of its variant
abbrev stood : List Sub → List (List ℕ) → List ℕ → ℕ → Origin → ℕ
stood subs names numbers n (base dev) = 1
stood subs names numbers n (made number) = 1 + cards_below subs n (name_at names (variant_of numbers number))

module _ (s : Source) (cards : List Card) (cs : List Composite) (names : List (List ℕ)) (numbers : List ℕ) (subs : List Sub)
    (found : (c : Composite) → Contains cs c → find_sub subs (name_at names (variant_of numbers c.number)) ≡ Some (composite_sub s cards names numbers c)) where
  card_stood : (n : ℕ) (b : Body) (p : Part) → size_of one (sizes one subs n) (part_card s cards names numbers (b, p)) ≡ stood subs names numbers n p.origin
  card_stood n b p = by p.origin where
    by : (o : Origin) → size_of one (sizes one subs n) (part_card s cards names numbers (b, record { turn = p.turn; origin = o })) ≡ stood subs names numbers n o
    by (base dev) = refl
    by (made number) = refl

  cards_stood : (Q : Body → Part → Type 0) (n : ℕ) (bs : List Body) (ps : List Part) → AllZip Q bs ps → sum_by (size_of one (sizes one subs n)) (map (part_card s cards names numbers) (zip bs ps)) ≡ part_weight (stood subs names numbers n) ps
  cards_stood Q n [] [] h = refl
  cards_stood Q n [] (p ∷ ps) h = absurd h
  cards_stood Q n (b ∷ bs) [] h = absurd h
  cards_stood Q n (b ∷ bs) (p ∷ ps) h =
      omega (arith, sum_by-cons (size_of one (sizes one subs n)) (part_card s cards names numbers (b, p)) (map (part_card s cards names numbers) (zip bs ps)), card_stood n b p, cards_stood Q n bs ps h.1)

  -- a composite stands for one card more than its parts stand for, through one call less
  composite_stood : (Q : Body → Part → Type 0) (n : ℕ) (c : Composite) → Contains cs c → AllZip Q c.cell.cards c.parts → stood subs names numbers (suc n) (made c.number) ≡ 1 + part_weight (stood subs names numbers n) c.parts
  composite_stood Q n c at h =
      ap (λ o. 1 + unwrap_or o 0) (size_found one (sizes one subs n) subs (name_at names (variant_of numbers c.number)) ∙ ap (option_map (λ (t : Sub). sum_by (size_of one (sizes one subs n)) t.cards)) (found c at))
      ∙ ap (λ k. 1 + k) (cards_stood Q n c.cell.cards c.parts h)

  same_stood : (Q : Body → Part → Type 0) (n m : ℕ) → ((b : Body) (p : Part) → Q b p → stood subs names numbers n p.origin ≡ stood subs names numbers m p.origin) → (bs : List Body) (ps : List Part) → AllZip Q bs ps → part_weight (stood subs names numbers n) ps ≡ part_weight (stood subs names numbers m) ps
  same_stood Q n m f [] [] h = refl
  same_stood Q n m f [] (p ∷ ps) h = absurd h
  same_stood Q n m f (b ∷ bs) [] h = absurd h
  same_stood Q n m f (b ∷ bs) (p ∷ ps) h = omega (arith, f b p h.0, same_stood Q n m f bs ps h.1)

  -- more calls than a tree has make no difference
  deeper_same : (k n m : ℕ) → k ≤ n → k ≤ m → (b : Body) (p : Part) → Tree s cards cs k b p → stood subs names numbers n p.origin ≡ stood subs names numbers m p.origin
  deeper_same zero n m kn km (dev_at line d) p h = ap (stood subs names numbers n) h.suits.origin_is ∙ sym (ap (stood subs names numbers m) h.suits.origin_is)
  deeper_same zero n m kn km (call_at line c) p h = absurd h
  deeper_same (suc k) n m kn km (dev_at line d) p h = ap (stood subs names numbers n) h.suits.origin_is ∙ sym (ap (stood subs names numbers m) h.suits.origin_is)
  deeper_same (suc k) zero m kn km (call_at line c) p h = absurd (omega (arith, kn))
  deeper_same (suc k) (suc n) zero kn km (call_at line c) p h = absurd (omega (arith, km))
  deeper_same (suc k) (suc n) (suc m) kn km (call_at line c) p h =
      let Q = Tree s cards cs k in
      let t = h.composite in
      ap (stood subs names numbers (suc n)) h.origin_is ∙ composite_stood Q n t h.stands h.parts
      ∙ ap (λ x. 1 + x) (same_stood Q n m (deeper_same k n m (omega (arith, kn)) (omega (arith, km))) t.cell.cards t.parts h.parts)
      ∙ sym (ap (stood subs names numbers (suc m)) h.origin_is ∙ composite_stood Q m t h.stands h.parts)

  one_stood : (k n : ℕ) → k ≤ n → (c : Composite) → Contains cs c → AllZip (Tree s cards cs k) c.cell.cards c.parts → stood subs names numbers (suc n) (made c.number) ≡ 1 + part_weight (stood subs names numbers (suc n)) c.parts
  one_stood k n kn c at h = composite_stood (Tree s cards cs k) n c at h ∙ ap (λ x. 1 + x) (same_stood (Tree s cards cs k) n (suc n) (deeper_same k n (suc n) kn (omega (arith, kn))) c.cell.cards c.parts h)

  -- all composites stand for one card each more than their parts
  all_stood : (k n : ℕ) → k ≤ n → (ds : List Composite) → ((c : Composite) → Contains ds c → Contains cs c × AllZip (Tree s cards cs k) c.cell.cards c.parts) → made_weight (stood subs names numbers (suc n)) ds ≡ length ds + parts_weight (stood subs names numbers (suc n)) ds
  all_stood k n kn [] h = refl
  all_stood k n kn (c ∷ ds) h = let g = h c (in_head c ds) in omega (arith, one_stood k n kn c g.0 g.1, all_stood k n kn ds (λ d at. h d (in_tail c ds d at)))

  slot_stood : (stem : List ℕ) (n : ℕ) (t : Slot) → size_of one (sizes one subs n) (slot_card stem cards names numbers t) ≡ stood subs names numbers n t.origin
  slot_stood stem n t = by t.origin where
    by : (o : Origin) → size_of one (sizes one subs n) (slot_card stem cards names numbers (record { device = t.device; origin = o })) ≡ stood subs names numbers n o
    by (base dev) = refl
    by (made number) = refl

  slots_stood : (stem : List ℕ) (n : ℕ) (slots : List Slot) → sum_by (size_of one (sizes one subs n)) (map (slot_card stem cards names numbers) slots) ≡ weight (stood subs names numbers n) slots
  slots_stood stem n [] = refl
  slots_stood stem n (t ∷ ts) = omega (arith, sum_by-cons (size_of one (sizes one subs n)) (slot_card stem cards names numbers t) (map (slot_card stem cards names numbers) ts), slot_stood stem n t, slots_stood stem n ts)

-- of a lawful history of bytes
pub cards_counted : (deck_bytes library_bytes : List ℕ) (o : Options) (flat : Flat) (library : Library) (h : History) (stem : List ℕ) (is : IsLawfulOf deck_bytes library_bytes o flat library h stem) → HasSuited (run_of flat library o.keep).source flat library h → HasCardsOf flat (run_of flat library o.keep) h stem
cards_counted deck_bytes library_bytes o flat library h stem is suited =
    let run = run_of flat library o.keep in
    let cards = cards_of flat in
    let cs = h.last.composites in
    let vs = variants_of cards cs in
    let names = variant_names (top_name flat) vs.different in
    let deck = lifted_deck stem flat run.source h in
    let found = facts.found deck_bytes library_bytes o flat library h stem is suited in
    let g = stood deck.subs names vs.numbers 32 in
    let whole = history_weight g (λ d. refl) run h (cells_told library_bytes library is.library_is) is.lawful in
    let trees = all_stood run.source cards cs names vs.numbers deck.subs found 15 31 (omega arith) cs (λ c at. (at, facts.trees deck_bytes library_bytes o flat library h stem is suited c at)) in
    let slots = slots_stood run.source cards cs names vs.numbers deck.subs found stem 32 h.last.slots in
    let weighed : weight g h.last.slots ≡ length cards + length cs = omega (arith, whole, trees, length-map flat.devices flat_card) in
    ap (count one deck.subs) (expanded deck_bytes library_bytes o flat library h stem is suited) ∙ slots ∙ weighed
