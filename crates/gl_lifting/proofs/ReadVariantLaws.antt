-- The variants of a lifted deck are subcircuits as they are read.
use Rattle.std.proofs.Common.{◌≡◌, ◌≤◌, ◌<◌, ◌+◌, ◌^◌, ℕ, List, [], ◌∷◌, ◌++◌, length, map, None, Some, refl, sym, ap, ◌∙◌, subst, arith}
use Rattle.std.specs.Prelude.{slice_get, zip, option_to_list}
use Rattle.std.specs.List.{AllByRecursion, AllZip}
use Rattle.std.proofs.lemmas.Option.{slice_get_within}
use Rattle.gl_match.proofs.Lists.{Once}
use Rattle.gl_match.specs.Turns.{turn_at}
use Rattle.gl_text.specs.LogicalLines.{NAME}
use Rattle.gl_text.specs.Cards.{Device as Card, dev}
use Rattle.gl_text.specs.Decks.{Body, dev_at, call_at, Sub, has_twice, body_name}
use Rattle.gl_text.specs.Levels.{Down}
use Rattle.gl_text.specs.Flattening.{Flat}
use Rattle.gl_printed.specs.ReadCards.{IsFine}
use Rattle.gl_printed.specs.ReadDecks.{body_card, FindsSubWithin, IsReadSub, IsReadDeck}
use Rattle.gl_printed.specs.FlatDecks.{deck_of, subs_around}
use Rattle.gl_printed.proofs.Each.{each_left}
use Rattle.gl_printed.proofs.PrintedFields.{Short}
use Rattle.gl_base.specs.TypeNames.{of_cell, classes_of, port_classes}
use Rattle.gl_base.specs.BaseCircuit.{Source, type_in}
use Rattle.gl_base.specs.Libraries.{Library}
use Rattle.gl_base.specs.Reports.{name_at}
use Rattle.gl_base.specs.RoundReports.{instance_name}
use Rattle.gl_base.specs.Rounds.{cards_of}
use Rattle.gl_base.specs.Stems.{IsStem, names_in}
use Rattle.gl_base.proofs.TextLaws.{once_from}
use Rattle.gl_lifting.specs.Replacement.{Composite}
use Rattle.gl_lifting.specs.Histories.{History}
use Rattle.gl_lifting.specs.Variants.{Carried, sized, built, Variant, Variants, card_at, variants_of, variant_names}
use Rattle.gl_lifting.specs.LiftedDecks.{slot_card, top_name, variant_card, variant_sub, lifted_deck}
use Rattle.gl_lifting.specs.Suited.{HasSuited}
use Rattle.gl_lifting.proofs.NamesApartLaws as apart_are
use Rattle.gl_lifting.proofs.GoodVariantLaws.{Carries, Whole}
use Rattle.gl_lifting.proofs.WholeVariantLaws.{all_whole}
use Rattle.gl_lifting.proofs.TurnedNameLaws.{each_get, turned_names, turned_long, type_places, cell_places, models_both}
use Rattle.gl_lifting.proofs.FlatCardLaws.{in_each, one_key, zip_both, cards_fine}
use Rattle.gl_lifting.proofs.FineLiftedLaws.{device_fine, call_fine, call_parts, head_parts, head_fine}
use Rattle.gl_lifting.proofs.CalledVariantLaws.{rank, each_card, card_finds, stands_in}
use Rattle.gl_lifting.proofs.LimitLaws.{parts_behind, of_heads, each_by_place}
use Rattle.gl_text.specs.WayBack.{IsName}

-- a variant's cards have the names of its cell's
names_kept : (s : Source) (names : List (List ℕ)) (Q : Body → Carried → Type 0) (bs : List Body) (xs : List Carried) → AllZip Q bs xs → map body_name (map (variant_card s names) (zip bs xs)) ≡ map body_name bs
names_kept s names Q [] [] h = refl
names_kept s names Q [] (x ∷ xs) h = absurd h
names_kept s names Q (b ∷ bs) [] h = absurd h
names_kept s names Q (b ∷ bs) (x ∷ xs) h = one b x (names_kept s names Q bs xs h.1) where
  one : (b : Body) (x : Carried) → map body_name (map (variant_card s names) (zip bs xs)) ≡ map body_name bs → body_name (variant_card s names (b, x)) ∷ map body_name (map (variant_card s names) (zip bs xs)) ≡ body_name b ∷ map body_name bs
  one (dev_at line d) (sized t m a) e = ap (λ ns. d.name ∷ ns) e
  one (dev_at line d) (built t v) e = ap (λ ns. d.name ∷ ns) e
  one (call_at line c) (sized t m a) e = ap (λ ns. c.name ∷ ns) e
  one (call_at line c) (built t v) e = ap (λ ns. c.name ∷ ns) e

-- the card past the end
abbrev no_card : Card
no_card = record { name = []; nodes = []; model = None; tail = [] }

module _ (s : Source) (flat : Flat) (stem : List ℕ) (library : Library) (h : History)
    (flat_read : IsReadDeck (deck_of flat)) (library_read : IsReadDeck library.deck) (few_ports : AllByRecursion (λ (t : Sub). length t.head.ports ≤ 64) library.deck.subs)
    (suited : HasSuited s flat library h) (stem_is : IsStem (names_in flat) stem) (short : (n : ℕ) → 0 < n → n ≤ length h.last.composites → length (instance_name stem n) ≤ NAME)
    (written : AllByRecursion (λ (t : Sub). length t.head.name ≤ NAME) (lifted_deck stem flat s h).subs) where
  abbrev cards : List Card
  cards = cards_of flat

  abbrev cells : List Sub
  cells = library.deck.subs

  abbrev composites : List Composite
  composites = h.last.composites

  abbrev vs : Variants
  vs = variants_of (cards_of flat) h.last.composites

  abbrev names : List (List ℕ)
  names = variant_names (top_name flat) (variants_of (cards_of flat) h.last.composites).different

  abbrev slots : List Body
  slots = map (slot_card stem (cards_of flat) (variant_names (top_name flat) (variants_of (cards_of flat) h.last.composites).different) (variants_of (cards_of flat) h.last.composites).numbers) h.last.slots

  -- ---- the parts

  -- the variants are whole
  pub whole : Whole s cards cells composites (length composites) vs
  whole = all_whole s cards cells composites (λ a b. one_key (λ (t : Sub). t.head.name) cells a b (once_from (map (λ (t : Sub). t.head.name) cells) library_read.subs_differ)) suited.composites

  -- they are not too many
  pub low : length vs.different + 2 < 2 ^ 64
  low = omega (arith, whole.few, suited.few)

  -- each has a name
  pub many : length names ≡ length vs.different
  many = apart_are.many (top_name flat) vs.different

  -- names differ
  pub once : Once names
  once = apart_are.names_once (top_name flat) vs.different low

  -- the devices of the flat deck are fine
  pub fine : AllByRecursion (λ (c : Card). IsFine (dev c)) cards
  fine = cards_fine flat flat_read

  -- a variant's cell is as it is read
  cell_read : (i : ℕ) (v : Variant) → slice_get vs.different i ≡ Some v → IsReadSub cells v.cell
  cell_read i v e = in_each (IsReadSub cells) cells v.cell library_read.subs (whole.good i v e).cell_in

  -- it has few ports
  cell_ports : (i : ℕ) (v : Variant) → slice_get vs.different i ≡ Some v → length v.cell.head.ports ≤ 64
  cell_ports i v e = in_each (λ (t : Sub). length t.head.ports ≤ 64) cells v.cell few_ports (whole.good i v e).cell_in

  -- the names of variants are names
  pub name_parts : AllByRecursion IsName names
  name_parts = parts_behind (top_name flat) [] vs.different (omega (arith, low))
      (each_by_place (λ (v : Variant). IsName v.cell.head.name) vs.different (λ i v e. (head_parts v.cell.head (cell_read i v e).head).0))
      (of_heads Short s names names vs.different many (each_left (λ (t : Sub). length t.head.name ≤ NAME) (map (variant_sub s names) (zip names vs.different)) (subs_around flat.top slots) written))

  -- ---- variants

  -- a variant's card is fine
  card_fine : (i : ℕ) (b : Body) (x : Carried) → Carries s cards vs.different i b x × IsFine (body_card b) → IsFine (body_card (variant_card s names (b, x)))
  card_fine i (dev_at line d) x (g, f) =
      let e = card_at cards g.dev in
      let classes = classes_of (type_in s d) in
      let ef : IsFine (dev e) = each_get (λ (c : Card). IsFine (dev c)) cards g.dev no_card fine g.within in
      subst (λ y. IsFine (body_card (variant_card s names (dev_at line d, y)))) (sym g.is)
      (device_fine d _ e f ef
      (turned_names IsName classes g.turn d.nodes g.turn_below (type_places s d f.is_read.kind) (each_left IsName d.nodes (option_to_list d.model) f.is_read.names.1))
      (turned_long (turn_at classes g.turn) d.nodes) (models_both s e d g.type_is))
  card_fine i (call_at line c) x (g, f) =
      let classes = classes_of (of_cell c.sub (port_classes (length c.nodes))) in
      let lt = slice_get_within vs.different g.number g.variant g.stands in
      let own = call_parts c f in
      subst (λ y. IsFine (body_card (variant_card s names (call_at line c, y)))) (sym g.is)
      (call_fine c.name _ (name_at names g.number) f.is_read.letter own.0
      (turned_names IsName classes g.turn c.nodes g.turn_below (cell_places c.sub (length c.nodes)) (each_left IsName c.nodes (c.sub ∷ []) own.1))
      (each_get IsName names g.number [] name_parts (omega (arith, lt, many)))
      (omega (arith, turned_long (turn_at classes g.turn) c.nodes, g.ports_are, cell_ports g.number g.variant g.stands)))

  abbrev more : List Sub
  more = subs_around flat.top slots

  abbrev subs : List Sub
  subs = map (variant_sub s names) (zip names vs.different) ++ subs_around flat.top slots

  -- a variant is a subcircuit as it is read
  pub read_variant : Down (rank names) subs → (i : ℕ) (name : List ℕ) (v : Variant) → slice_get names i ≡ Some name → slice_get vs.different i ≡ Some v → IsReadSub subs (variant_sub s names (name, v))
  read_variant down i name v en ev =
      let r = cell_read i v ev in
      let g = whole.good i v ev in
      let name_part = in_each IsName names name name_parts (stands_in names i name en) in
      record {
        head = head_fine name v.cell.head.ports name_part (head_parts v.cell.head r.head).1 (cell_ports i v ev);
        ports_differ = r.ports_differ;
        no_zero = r.no_zero;
        cards = each_card (λ b. IsFine (body_card b)) (λ b x. Carries s cards vs.different i b x × IsFine (body_card b)) s names (card_fine i) v.cell.cards v.cards (zip_both (Carries s cards vs.different i) (λ b. IsFine (body_card b)) v.cell.cards v.cards g.carries r.cards);
        names_differ = ap has_twice (names_kept s names (Carries s cards vs.different i) v.cell.cards v.cards g.carries) ∙ r.names_differ;
        calls = each_card (FindsSubWithin subs name) (Carries s cards vs.different i) s names (card_finds s cards names vs.different many once more cells i name en down whole.good) v.cell.cards v.cards g.carries;
      }
