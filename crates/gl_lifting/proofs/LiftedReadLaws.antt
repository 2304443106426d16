-- The lifted deck of suited parts is a deck as it is read.
use Rattle.std.proofs.Common.{◌≡◌, ◌≤◌, ◌<◌, ◌+◌, ◌^◌, ℕ, List, [], ◌∷◌, ◌++◌, length, map, Option, None, Some, refl, sym, ap, ◌∙◌, subst, arith, inl, inr}
use Rattle.std.specs.Prelude.{Contains, zip, option_map}
use Rattle.std.specs.List.{AllByRecursion}
use Rattle.std.proofs.lemmas.Option.{slice_get-get_or}
use Rattle.gl_match.proofs.Lists.{Once, once_append, in_cons, in_none}
use Rattle.gl_text.specs.LogicalLines.{NAME}
use Rattle.gl_text.specs.Cards.{Device as Card, Head, dev}
use Rattle.gl_text.specs.Decks.{Body, Sub, callees, body_name}
use Rattle.gl_text.specs.Levels.{Down}
use Rattle.gl_text.specs.Flattening.{Flat}
use Rattle.gl_printed.specs.ReadCards.{IsFine}
use Rattle.gl_printed.specs.ReadDecks.{body_card, FindsSub, IsReadSub, IsReadDeck, AllDiffer}
use Rattle.gl_printed.specs.FlatDecks.{flat_cards, deck_of, subs_around, top_without}
use Rattle.gl_printed.proofs.Each.{each_append, each_to}
use Rattle.gl_base.specs.BaseCircuit.{Source}
use Rattle.gl_base.specs.Libraries.{Library}
use Rattle.gl_base.specs.RoundReports.{instance_name}
use Rattle.gl_base.specs.Rounds.{cards_of}
use Rattle.gl_base.specs.Stems.{IsStem, names_in}
use Rattle.gl_base.proofs.TextLaws.{never_twice}
use Rattle.gl_lifting.specs.Replacement.{Slot, Composite}
use Rattle.gl_lifting.specs.Histories.{History}
use Rattle.gl_lifting.specs.Variants.{Variants, variants_of, variant_names}
use Rattle.gl_lifting.specs.LiftedDecks.{slot_card, top_name, variant_sub, lifted_deck}
use Rattle.gl_lifting.specs.Suited.{SuitsOrigin, HasSuited}
use Rattle.gl_lifting.proofs.NamesApartLaws as apart_are
use Rattle.gl_lifting.proofs.GoodVariantLaws.{Whole}
use Rattle.gl_lifting.proofs.TurnedNameLaws.{each_mapped}
use Rattle.gl_lifting.proofs.FlatCardLaws.{in_each, cards_apart, nets_parts}
use Rattle.gl_lifting.proofs.CalledVariantLaws.{rank, rank_absent, each_variant, variant_down}
use Rattle.gl_lifting.proofs.TopCardLaws.{slot_fine, slot_finds, slots_low, slots_apart}
use Rattle.gl_lifting.proofs.LimitLaws.{heads_are, finds_within}
use Rattle.gl_lifting.proofs.ReadVariantLaws as variants
use Rattle.gl_text.specs.WayBack.{IsName}

module _ (s : Source) (flat : Flat) (stem : List ℕ) (library : Library) (h : History)
    (flat_read : IsReadDeck (deck_of flat)) (library_read : IsReadDeck library.deck) (few_ports : AllByRecursion (λ (t : Sub). length t.head.ports ≤ 64) library.deck.subs)
    (suited : HasSuited s flat library h) (stem_is : IsStem (names_in flat) stem) (short : (n : ℕ) → 0 < n → n ≤ length h.last.composites → length (instance_name stem n) ≤ NAME)
    (written : AllByRecursion (λ (t : Sub). length t.head.name ≤ NAME) (lifted_deck stem flat s h).subs) where
  abbrev cards : List Card
  cards = cards_of flat

  abbrev cells : List Sub
  cells = library.deck.subs

  abbrev composites : List Composite
  composites = h.last.composites

  abbrev vs : Variants
  vs = variants_of (cards_of flat) h.last.composites

  abbrev names : List (List ℕ)
  names = variant_names (top_name flat) (variants_of (cards_of flat) h.last.composites).different

  abbrev slots : List Body
  slots = map (slot_card stem (cards_of flat) (variant_names (top_name flat) (variants_of (cards_of flat) h.last.composites).different) (variants_of (cards_of flat) h.last.composites).numbers) h.last.slots

  abbrev more : List Sub
  more = subs_around flat.top slots

  abbrev subs : List Sub
  subs = map (variant_sub s names) (zip names vs.different) ++ subs_around flat.top slots

  -- ---- what is known of the variants

  whole : Whole s cards cells composites (length composites) vs
  whole = variants.whole s flat stem library h flat_read library_read few_ports suited stem_is short written

  low : length vs.different + 2 < 2 ^ 64
  low = variants.low s flat stem library h flat_read library_read few_ports suited stem_is short written

  many : length names ≡ length vs.different
  many = variants.many s flat stem library h flat_read library_read few_ports suited stem_is short written

  once : Once names
  once = variants.once s flat stem library h flat_read library_read few_ports suited stem_is short written

  fine : AllByRecursion (λ (c : Card). IsFine (dev c)) cards
  fine = variants.fine s flat stem library h flat_read library_read few_ports suited stem_is short written

  name_parts : AllByRecursion IsName names
  name_parts = variants.name_parts s flat stem library h flat_read library_read few_ports suited stem_is short written

  -- ---- the last circuit

  -- the cards of the last circuit are fine
  slots_fine : AllByRecursion (λ b. IsFine (body_card b)) slots
  slots_fine = each_mapped (λ b. IsFine (body_card b)) (slot_card stem cards names vs.numbers) h.last.slots (each_to (λ (t : Slot). SuitsOrigin cards composites t.device.nets t.origin) (λ (t : Slot). IsFine (body_card (slot_card stem cards names vs.numbers t)))
      (λ t g. slot_fine stem cards composites vs names whole.fits many once stem_is.underscores stem_is.stem_is (omega (arith, suited.few)) short fine (nets_parts cards fine) name_parts ports_of t.device t.origin g) h.last.slots suited.slots)
    where
      ports_of : (c : Composite) → Contains composites c → length c.cell.head.ports ≤ 64
      ports_of c at = in_each (λ (t : Sub). length t.head.ports ≤ 64) cells c.cell few_ports (suited.composites at.0 c (slice_get-get_or composites at.0 c at.1 ∙ ap Some at.2)).cell_in

  -- each finds its variant
  slots_find : AllByRecursion (FindsSub subs) slots
  slots_find = each_mapped (FindsSub subs) (slot_card stem cards names vs.numbers) h.last.slots (each_to (λ (t : Slot). SuitsOrigin cards composites t.device.nets t.origin) (λ (t : Slot). FindsSub subs (slot_card stem cards names vs.numbers t))
      (λ t g. slot_finds stem cards composites vs names whole.fits many once s more t.device t.origin g) h.last.slots suited.slots)

  -- their names differ
  slots_differ : AllDiffer (map body_name slots)
  slots_differ = never_twice (map body_name slots) (slots_apart flat stem stem_is (cards_apart flat flat_read) composites (omega (arith, suited.few)) names vs.numbers h.last.slots suited.slots suited.apart)

  -- they call variants that have names
  calls_low : AllByRecursion (λ n. rank names n < length names) (callees slots)
  calls_low = slots_low stem cards composites vs names whole.fits many once s more h.last.slots suited.slots

  -- ---- the top

  -- the top's name is no variant's
  top_absent : (head : Head) → flat.top ≡ Some head → Contains names head.name → ⊥
  top_absent head e = subst (λ t. Contains (variant_names t vs.different) head.name → ⊥) (sym (ap (λ t. option_map (λ (x : Head). x.name) t) e)) (apart_are.not_top head.name vs.different low)

  -- the top's calls go down
  down_top : (t : Option Head) → flat.top ≡ t → AllByRecursion (λ (x : Sub). AllByRecursion (λ n. rank names n < rank names x.head.name) (callees x.cards)) (subs_around t slots)
  down_top None e = tt
  down_top (Some head) e = (subst (λ m. AllByRecursion (λ n. rank names n < m) (callees slots)) (sym (rank_absent names head.name (top_absent head e))) calls_low, tt)

  -- all calls go down
  down : Down (rank names) subs
  down = each_append (λ (x : Sub). AllByRecursion (λ n. rank names n < rank names x.head.name) (callees x.cards)) (map (variant_sub s names) (zip names vs.different)) more
      (each_variant (λ (x : Sub). AllByRecursion (λ n. rank names n < rank names x.head.name) (callees x.cards)) s names names vs.different (λ i name v en ev. variant_down s cards names vs.different many once more cells i name v en (whole.good i v ev)))
      (down_top flat.top refl)

  -- the top is a subcircuit as it is read
  read_top : (t : Option Head) → flat.top ≡ t → AllByRecursion (IsReadSub subs) (subs_around t slots)
  read_top None e = tt
  read_top (Some head) e =
      let r = (subst (λ t. AllByRecursion (IsReadSub (deck_of flat).subs) (subs_around t (flat_cards flat.devices))) e flat_read.subs).0 in (
        record {
          head = r.head;
          ports_differ = r.ports_differ;
          no_zero = r.no_zero;
          cards = slots_fine;
          names_differ = slots_differ;
          calls = finds_within (rank names) subs head.name down slots slots_find (subst (λ m. AllByRecursion (λ n. rank names n < m) (callees slots)) (sym (rank_absent names head.name (top_absent head e))) calls_low);
        },
        tt,
      )

  -- the names of subcircuits differ
  heads_differ : (t : Option Head) → flat.top ≡ t → Once (names ++ map (λ (x : Sub). x.head.name) (subs_around t slots))
  heads_differ None e = once_append names [] once tt (λ x a b. in_none x b)
  heads_differ (Some head) e = once_append names (head.name ∷ []) once ((λ x. in_none head.name x), tt) (λ x a b. elim (in_cons head.name [] x b) [
    | inl same ↦ top_absent head e (subst (λ y. Contains names y) (sym same) a)
    | inr later ↦ in_none x later
  ])

  -- what holds of the last circuit's cards holds of those at the top
  top_each : (P : Body → Type 0) (t : Option Head) → AllByRecursion P slots → AllByRecursion P (top_without t slots)
  top_each P None g = g
  top_each P (Some head) g = tt

  -- their names differ
  top_differs : (t : Option Head) → AllDiffer (map body_name (top_without t slots))
  top_differs None = slots_differ
  top_differs (Some head) = refl

  -- the whole lifted deck
  pub lifted_read : IsReadDeck (lifted_deck stem flat s h)
  lifted_read = record {
    title = flat_read.title;
    globals = flat_read.globals;
    globals_differ = flat_read.globals_differ;
    no_zero = flat_read.no_zero;
    models = flat_read.models;
    models_differ = flat_read.models_differ;
    subs = each_append (IsReadSub subs) (map (variant_sub s names) (zip names vs.different)) more (each_variant (IsReadSub subs) s names names vs.different (variants.read_variant s flat stem library h flat_read library_read few_ports suited stem_is short written down)) (read_top flat.top refl);
    subs_differ = never_twice (map (λ (x : Sub). x.head.name) subs) (subst Once (sym (heads_are s names names vs.different more many)) (heads_differ flat.top refl));
    top = top_each (λ b. IsFine (body_card b)) flat.top slots_fine;
    top_differ = top_differs flat.top;
    top_calls = top_each (FindsSub subs) flat.top slots_find;
    passed = flat_read.passed;
  }
