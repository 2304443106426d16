-- The cards of the last circuit: fine, of different names, and each X card finds its variant.
use Rattle.std.proofs.Common.{◌≡◌, ◌≤◌, ◌<◌, ◌^◌, ℕ, List, [], ◌∷◌, ◌++◌, length, map, get_or, None, Some, sym, ap, ◌∙◌, subst, arith, inl, inr}
use Rattle.std.specs.Prelude.{Contains, slice_get, zip, decimal}
use Rattle.std.specs.List.{AllByRecursion}
use Rattle.std.proofs.lemmas.Bool.{cases_lt}
use Rattle.std.proofs.lemmas.Fmt.{decimal_injective}
use Rattle.std.proofs.lemmas.List.{append_cancel_left, length-map}
use Rattle.std.proofs.lemmas.List.Elements.{Contains-append_left, Contains-get_or}
use Rattle.std.proofs.lemmas.Option.{slice_get_within}
use Rattle.gl_match.proofs.Lists.{Once, in_map, get_map}
use Rattle.gl_match.specs.Graph.{Device}
use Rattle.gl_text.specs.LogicalLines.{NAME}
use Rattle.gl_text.specs.Cards.{Device as Card, dev, Kind, caller, by_byte, kinds, first_byte}
use Rattle.gl_text.specs.Decks.{Sub, callees, body_name}
use Rattle.gl_text.specs.Flattening.{Flat, top_ports}
use Rattle.gl_printed.specs.ReadCards.{IsFine}
use Rattle.gl_printed.specs.ReadDecks.{body_card, FindsSub}
use Rattle.gl_printed.proofs.Each.{each_to}
use Rattle.gl_base.specs.BaseCircuit.{Source, nets_of}
use Rattle.gl_base.specs.Rails.{all_rails}
use Rattle.gl_base.specs.Reports.{name_at}
use Rattle.gl_base.specs.RoundReports.{instance_name}
use Rattle.gl_base.specs.Rounds.{cards_of}
use Rattle.gl_base.specs.Stems.{IsStem, StandsIn, names_in, stem_with}
use Rattle.gl_base.proofs.OnceLaws.{once_apart}
use Rattle.gl_lifting.specs.Replacement.{Origin, base, made, Slot, Composite}
use Rattle.gl_lifting.specs.Variants.{Variant, Variants, card_at, variant_of}
use Rattle.gl_lifting.specs.LiftedDecks.{slot_card, variant_sub}
use Rattle.gl_lifting.specs.Suited.{SuitsOrigin, IsMade}
use Rattle.gl_lifting.proofs.TurnedNameLaws.{each_get, each_mapped}
use Rattle.gl_lifting.proofs.FlatCardLaws.{at_each, once_by_place, from_mapped}
use Rattle.gl_lifting.proofs.FineLiftedLaws.{call_fine, instance_part, instance_letter}
use Rattle.gl_lifting.proofs.GoodVariantLaws.{Fits}
use Rattle.gl_lifting.proofs.CalledVariantLaws.{rank, rank_at, variant_found, stands_in}
use Rattle.gl_text.specs.WayBack.{IsName}

-- the card past the end
abbrev no_card : Card
no_card = record { name = []; nodes = []; model = None; tail = [] }

module _ (stem : List ℕ) (cards : List Card) (composites : List Composite) (vs : Variants) (names : List (List ℕ))
    (fits : (i : ℕ) (c : Composite) → i < length composites → slice_get composites i ≡ Some c → Fits vs i c)
    (many : length names ≡ length vs.different) (once : Once names) where
  -- what an X card of the last circuit calls
  abbrev Called : ℕ → Type 0
  Called number = (v : Variant) × (slice_get vs.different (variant_of vs.numbers number) ≡ Some v) × ((c : Composite) × (v.cell ≡ c.cell) × (length v.cell.head.ports ≡ length c.cell.head.ports))

  -- the variant that an X card of the last circuit calls
  called : (nets : List ℕ) (number : ℕ) → (m : IsMade cards composites nets number) → (v : Variant) × (slice_get vs.different (variant_of vs.numbers number) ≡ Some v) × (v.cell ≡ m.composite.cell)
  called nets number m =
      let f = fits m.place m.composite (slice_get_within composites m.place m.composite m.stands) m.stands in
      (f.variant, ap (λ n. slice_get vs.different (variant_of vs.numbers n)) m.number_is ∙ f.stands, f.cell_is)

  -- a card of the last circuit is fine
  pub slot_fine : (underscores : ℕ) → stem ≡ stem_with underscores → length composites < 2 ^ 64 → ((n : ℕ) → 0 < n → n ≤ length composites → length (instance_name stem n) ≤ NAME) → AllByRecursion (λ (c : Card). IsFine (dev c)) cards → AllByRecursion IsName (nets_of cards) → AllByRecursion IsName names
      → ((c : Composite) → Contains composites c → length c.cell.head.ports ≤ 64) → (d : Device) (o : Origin) → SuitsOrigin cards composites d.nets o → IsFine (body_card (slot_card stem cards names vs.numbers (record { device = d; origin = o })))
  slot_fine underscores stem-is low short fine nets parts ports d (base number) h = each_get (λ (c : Card). IsFine (dev c)) cards number no_card fine h
  slot_fine underscores stem-is low short fine nets parts ports d (made number) h =
      let place = slice_get_within composites h.place h.composite h.stands in
      let within : number ≤ length composites = omega (arith, place, h.number_is) in
      let c = called d.nets number h in
      let lt = slice_get_within vs.different (variant_of vs.numbers number) c.0 c.1 in
      let few = ports h.composite (in_composites h.place h.composite h.stands) in
      call_fine (instance_name stem number) (map (name_at (nets_of cards)) d.nets) (name_at names (variant_of vs.numbers number))
      (subst (λ t. (dot : Kind) → by_byte (kinds dot) (first_byte (instance_name t number)) ≡ caller) (sym stem-is) (instance_letter underscores number))
      (subst (λ t. IsName (instance_name t number)) (sym stem-is) (instance_part underscores number (omega (arith, within, low)) (subst (λ t. length (instance_name t number) ≤ NAME) stem-is (short number (omega (arith, h.number_is)) within))))
      (each_mapped IsName (name_at (nets_of cards)) d.nets (each_to (λ net. net < length (nets_of cards)) (λ net. IsName (name_at (nets_of cards) net)) (λ net lt. each_get IsName (nets_of cards) net [] nets lt) d.nets h.within))
      (each_get IsName names (variant_of vs.numbers number) [] parts (omega (arith, lt, many)))
      (omega (arith, few, h.ports_are, length-map d.nets (name_at (nets_of cards))))
    where
      in_composites : (i : ℕ) (c : Composite) → slice_get composites i ≡ Some c → Contains composites c
      in_composites i c e = stands_in composites i c e

  -- an X card finds its variant
  pub slot_finds : (s : Source) (more : List Sub) (d : Device) (o : Origin) → SuitsOrigin cards composites d.nets o → FindsSub (map (variant_sub s names) (zip names vs.different) ++ more) (slot_card stem cards names vs.numbers (record { device = d; origin = o }))
  slot_finds s more d (base number) h = tt
  slot_finds s more d (made number) h =
      let c = called d.nets number h in (
        variant_sub s names (name_at names (variant_of vs.numbers number), c.0),
        record { found = variant_found s cards names vs.different many once more (variant_of vs.numbers number) c.0 c.1; as_many = length-map d.nets (name_at (nets_of cards)) ∙ h.ports_are ∙ sym (ap (λ (t : Sub). length t.head.ports) c.2) },
      )

  -- the variants that are called are those of names
  pub slots_low : (s : Source) (more : List Sub) (slots : List Slot) → AllByRecursion (λ (t : Slot). SuitsOrigin cards composites t.device.nets t.origin) slots → AllByRecursion (λ n. rank names n < length names) (callees (map (slot_card stem cards names vs.numbers) slots))
  slots_low s more [] h = tt
  slots_low s more (t ∷ ts) h = go t.device t.origin h.0 (slots_low s more ts h.1) where
    go : (d : Device) (o : Origin) → SuitsOrigin cards composites d.nets o → AllByRecursion (λ n. rank names n < length names) (callees (map (slot_card stem cards names vs.numbers) ts)) → AllByRecursion (λ n. rank names n < length names) (callees (slot_card stem cards names vs.numbers (record { device = d; origin = o }) ∷ map (slot_card stem cards names vs.numbers) ts))
    go d (base number) g later = later
    go d (made number) g later =
        let c = called d.nets number g in
        let lt = slice_get_within vs.different (variant_of vs.numbers number) c.0 c.1 in
        let at = rank_at s cards names vs.different many once more (variant_of vs.numbers number) (omega (arith, lt, many)) in
        (omega (arith, at, lt, many), later)

-- ---- names

module _ (flat : Flat) (stem : List ℕ) (stem_is : IsStem (names_in flat) stem) (once : Once (map (λ (c : Card). c.name) (cards_of flat))) where
  -- the devices of the flat deck
  abbrev cards : List Card
  cards = cards_of flat

  -- a name with the stem is no card's
  not_old : (i n : ℕ) → i < length cards → (card_at cards i).name ≡ instance_name stem n → ⊥
  not_old i n lt e =
      let name = (card_at cards i).name in
      let ns = map (λ (c : Card). c.name) cards in
      let nets = nets_of cards in
      let rails = all_rails flat.rails in
      let there : Contains (names_in flat) name = Contains-append_left ((ns ++ nets) ++ rails) (top_ports flat.top) name (Contains-append_left (ns ++ nets) rails name (Contains-append_left ns nets name (in_map (λ (c : Card). c.name) cards (card_at cards i) (in_cards i lt)))) in
      subst (λ x. StandsIn stem x → ⊥) there.2 (stem_is.unused there.0 name there.1) ([], decimal n, e)
    where
      in_cards : (k : ℕ) → k < length cards → Contains cards (card_at cards k)
      in_cards k lt = Contains-get_or cards k no_card lt

  -- the name at a place is that of the card there
  name_at_place : (i : ℕ) → i < length cards → get_or (map (λ (c : Card). c.name) cards) i [] ≡ (card_at cards i).name
  name_at_place i lt = get_map (λ (c : Card). c.name) cards i no_card [] lt

  -- devices of one name are one
  pub one_device : (i j : ℕ) → i < length cards → j < length cards → (card_at cards i).name ≡ (card_at cards j).name → i ≡ j
  one_device i j li lj e =
      let ns = map (λ (c : Card). c.name) cards in
      let long = length-map cards (λ (c : Card). c.name) in
      elim (cases_lt i j) [
        | inl before ↦ absurd (once_apart ns [] i j once before (omega (arith, lj, long)) (name_at_place i li ∙ e ∙ sym (name_at_place j lj)))
        | inr late ↦ elim (cases_lt j i) [
          | inl behind ↦ absurd (once_apart ns [] j i once behind (omega (arith, li, long)) (name_at_place j lj ∙ sym e ∙ sym (name_at_place i li)))
          | inr same ↦ omega (arith, late, same)
        ]
      ]

  -- cards of one name come from one origin
  pub one_origin : (composites : List Composite) → length composites < 2 ^ 64 → (names : List (List ℕ)) (numbers : List ℕ) (d e : Device) (o p : Origin) → SuitsOrigin cards composites d.nets o → SuitsOrigin cards composites e.nets p
      → body_name (slot_card stem cards names numbers (record { device = d; origin = o })) ≡ body_name (slot_card stem cards names numbers (record { device = e; origin = p })) → o ≡ p
  one_origin composites low names numbers d e (base i) (base j) ho hp same = ap base (one_device i j ho hp same)
  one_origin composites low names numbers d e (base i) (made n) ho hp same = absurd (not_old i n ho same)
  one_origin composites low names numbers d e (made m) (base j) ho hp same = absurd (not_old j m hp (sym same))
  one_origin composites low names numbers d e (made m) (made n) ho hp same =
      let lm = slice_get_within composites ho.place ho.composite ho.stands in
      let ln = slice_get_within composites hp.place hp.composite hp.stands in
      ap made (decimal_injective m n (omega (arith, lm, ho.number_is, low)) (omega (arith, ln, hp.number_is, low)) (append_cancel_left stem (decimal m) (decimal n) same))

  -- no two cards of the last circuit have one name
  pub slots_apart : (composites : List Composite) → length composites < 2 ^ 64 → (names : List (List ℕ)) (numbers : List ℕ) (slots : List Slot) → AllByRecursion (λ (t : Slot). SuitsOrigin cards composites t.device.nets t.origin) slots
      → ((i j : ℕ) (t u : Slot) → slice_get slots i ≡ Some t → slice_get slots j ≡ Some u → t.origin ≡ u.origin → i ≡ j) → Once (map body_name (map (slot_card stem cards names numbers) slots))
  slots_apart composites low names numbers slots suits apart = once_by_place (map body_name (map (slot_card stem cards names numbers) slots)) (λ i j a b ea eb same.
      let x = from_mapped body_name (map (slot_card stem cards names numbers) slots) i a ea in
      let y = from_mapped body_name (map (slot_card stem cards names numbers) slots) j b eb in
      let t = from_mapped (slot_card stem cards names numbers) slots i x.0 x.1 in
      let u = from_mapped (slot_card stem cards names numbers) slots j y.0 y.1 in
      apart i j t.0 u.0 t.1 u.1 (one_origin composites low names numbers t.0.device u.0.device t.0.origin u.0.origin
      (at_each (λ (t : Slot). SuitsOrigin cards composites t.device.nets t.origin) slots i t.0 suits t.1) (at_each (λ (t : Slot). SuitsOrigin cards composites t.device.nets t.origin) slots j u.0 suits u.1)
      (ap body_name t.2 ∙ x.2 ∙ same ∙ sym y.2 ∙ sym (ap body_name u.2))))
