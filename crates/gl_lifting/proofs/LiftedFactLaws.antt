-- What is known of the lifted deck of a lawful history of bytes whose parts suit: its subcircuits are found, its composites are trees of few calls.
use Rattle.std.proofs.Common.{◌≡◌, ◌≤◌, ◌<◌, ◌+◌, ◌^◌, ◌∙◌, ℕ, suc, List, [], ◌∷◌, ◌++◌, length, get_or, map, Option, None, Some, false, refl, sym, ap, subst, arith, inl, inr}
use Rattle.std.specs.Prelude.{Contains, slice_get, zip, option_map}
use Rattle.std.specs.List.{AllByRecursion, AllZip}
use Rattle.std.proofs.lemmas.Bool.{false_from_ne_true}
use Rattle.std.proofs.lemmas.List.{length-map}
use Rattle.std.proofs.lemmas.Option.{slice_get_within, slice_get-get_or, get_or_from_slice_get, same_Some as some_is}
use Rattle.gl_match.proofs.Lists.{Once, once_append, in_cons, in_none}
use Rattle.gl_text.specs.LogicalLines.{same_text}
use Rattle.gl_text.specs.Cards.{Device as Card, Head}
use Rattle.gl_text.specs.Decks.{Body, Sub, find_sub}
use Rattle.gl_text.specs.Flattening.{Flat}
use Rattle.gl_printed.specs.ReadDecks.{IsReadDeck}
use Rattle.gl_printed.proofs.Each.{each_to}
use Rattle.gl_base.specs.BaseCircuit.{Source}
use Rattle.gl_base.specs.Libraries.{Library}
use Rattle.gl_base.specs.Reports.{name_at}
use Rattle.gl_base.specs.Rounds.{cards_of}
use Rattle.gl_base.proofs.TextLaws.{exact, once_from}
use Rattle.gl_lifting.specs.Runs.{Run, run_of}
use Rattle.gl_lifting.specs.Replacement.{Slot, Composite}
use Rattle.gl_lifting.specs.Histories.{History}
use Rattle.gl_lifting.specs.Variants.{Variant, Variants, variant_of, variant_by, variants_of, variant_names}
use Rattle.gl_printed.specs.FlatDecks.{subs_around}
use Rattle.gl_lifting.specs.LiftedDecks.{slot_card, top_name, variant_sub}
use Rattle.gl_lifting.specs.Lifted.{Options}
use Rattle.gl_lifting.specs.Chain.{IsLawfulOf}
use Rattle.gl_lifting.specs.Suited.{SuitsOrigin, HasSuited}
use Rattle.gl_lifting.proofs.NamesApartLaws as apart_are
use Rattle.gl_lifting.proofs.OrderLaws.{numbers_run_on, cells_are_known}
use Rattle.gl_lifting.proofs.NamedLaws.{variants_found}
use Rattle.gl_lifting.proofs.GoodVariantLaws.{Whole}
use Rattle.gl_lifting.proofs.WholeVariantLaws.{all_whole}
use Rattle.gl_lifting.proofs.CalledVariantLaws.{variant_found, each_variant, stands_in}
use Rattle.gl_lifting.proofs.FlatCardLaws.{one_key, once_by_place, from_mapped}
use Rattle.gl_lifting.proofs.LimitLaws.{heads_are}
use Rattle.gl_lifting.proofs.ReadBytesLaws.{read_libraries}
use Rattle.gl_lifting.proofs.RankLaws.{reached, reached_length, sizes_before, history_staged}
use Rattle.gl_lifting.proofs.LibraryLaws.{library_clear, IsClear}
use Rattle.gl_lifting.proofs.CellFactLaws.{find_own, cards_placed}
use Rattle.gl_lifting.proofs.ExpandLaws.{composite_sub, sub_is, Tree}
use Rattle.gl_lifting.proofs.TreeLaws.{SlotTree, Placed, tree, slot_tree}

module _ (deck_bytes library_bytes : List ℕ) (o : Options) (flat : Flat) (library : Library) (h : History) (stem : List ℕ) (is : IsLawfulOf deck_bytes library_bytes o flat library h stem) (suited : HasSuited (run_of flat library o.keep).source flat library h) where
  abbrev run : Run
  run = run_of flat library o.keep

  abbrev s : Source
  s = (run_of flat library o.keep).source

  abbrev cards : List Card
  cards = cards_of flat

  abbrev cells : List Sub
  cells = library.deck.subs

  abbrev cs : List Composite
  cs = h.last.composites

  abbrev vs : Variants
  vs = variants_of (cards_of flat) h.last.composites

  abbrev names : List (List ℕ)
  names = variant_names (top_name flat) (variants_of (cards_of flat) h.last.composites).different

  abbrev bodies : List Body
  bodies = map (slot_card stem (cards_of flat) (variant_names (top_name flat) (variants_of (cards_of flat) h.last.composites).different) (variants_of (cards_of flat) h.last.composites).numbers) h.last.slots

  abbrev subs : List Sub
  subs = map (variant_sub s names) (zip names vs.different) ++ subs_around flat.top bodies

  pub library_read : IsReadDeck library.deck
  library_read = (read_libraries library_bytes library is.library_is).0

  pub clear : IsClear library
  clear = library_clear library_bytes library is.library_is

  cells_once : Once (map (λ (t : Sub). t.head.name) cells)
  cells_once = once_from (map (λ (t : Sub). t.head.name) cells) library_read.subs_differ

  whole : Whole s cards cells cs (length cs) vs
  whole = all_whole s cards cells cs (λ a b. one_key (λ (t : Sub). t.head.name) cells a b cells_once) suited.composites

  few : length vs.different + 2 < 2 ^ 64
  few = omega (arith, whole.few, suited.few)

  many : length names ≡ length vs.different
  many = apart_are.many (top_name flat) vs.different

  once : Once names
  once = apart_are.names_once (top_name flat) vs.different few

  -- a composite stands at a place
  at_place : (c : Composite) (at : Contains cs c) → slice_get cs at.0 ≡ Some c
  at_place c at = slice_get-get_or cs at.0 c at.1 ∙ ap Some at.2

  -- its number is one more
  pub numbered : (place : ℕ) (c : Composite) → slice_get cs place ≡ Some c → c.number ≡ suc place
  numbered place c at =
      let r = numbers_run_on run h is.lawful place c (slice_get_within cs place c at) in
      let same = ap (λ (x : Composite). x.number) (get_or_from_slice_get cs place c c at) in
      omega (arith, r, same)

  -- composites of one number are one
  pub one_number : (c d : Composite) → Contains cs c → Contains cs d → c.number ≡ d.number → c ≡ d
  one_number c d ac ad same =
      let place : ac.0 ≡ ad.0 = omega (arith, same, numbered ac.0 c (at_place c ac), numbered ad.0 d (at_place d ad)) in
      some_is c d (sym (at_place c ac) ∙ ap (slice_get cs) place ∙ at_place d ad)

  -- there are not too many
  pub low : (c : Composite) → Contains cs c → c.number < 2 ^ 64
  low c at = omega (arith, numbered at.0 c (at_place c at), at.1, suited.few)

  -- the subcircuit of its variant is found
  pub found : (c : Composite) → Contains cs c → find_sub subs (name_at names (variant_of vs.numbers c.number)) ≡ Some (composite_sub s cards names vs.numbers c)
  found c at =
      let i = at.0 in
      let stands = at_place c at in
      let f = whole.fits i c at.1 stands in
      let n : variant_of vs.numbers c.number ≡ get_or vs.numbers i 0 = ap (λ k. get_or (0 ∷ vs.numbers) k 0) (numbered i c stands) in
      let next : get_or vs.numbers i 0 ≡ variant_of vs.numbers (i + 1) = ap (λ k. get_or (0 ∷ vs.numbers) k 0) (let e : suc i ≡ i + 1 = omega arith in e) in
      let link = variants_found cards run h library_read.subs_differ is.lawful i c f.variant at.1 at.2 in
      let v : f.variant ≡ variant_by cards vs.numbers c = sym (get_or_from_slice_get vs.different (get_or vs.numbers i 0) f.variant f.variant f.stands) ∙ ap (λ k. get_or vs.different k f.variant) next ∙ link in
      let g = variant_found s cards names vs.different many once (subs_around flat.top bodies) (get_or vs.numbers i 0) f.variant f.stands in
      ap (λ k. find_sub subs (name_at names k)) n ∙ g ∙ ap (λ k. Some (variant_sub s names (name_at names k, f.variant))) (sym n)
      ∙ ap (λ (w : Variant). Some (variant_sub s names (name_at names (variant_of vs.numbers c.number), w))) v ∙ ap Some (sub_is s cards names vs.numbers c)

  -- its cell is one of the library, which is found by its name
  pub cell_in : (c : Composite) → Contains cs c → Contains cells c.cell
  cell_in c at = cells_are_known run h is.lawful c at

  pub known : (c : Composite) → Contains cs c → find_sub cells c.cell.head.name ≡ Some c.cell
  known c at = find_own cells c.cell cells_once (cell_in c at)

  -- no place is reached by more rounds than there are
  few_rounds : (place : ℕ) → reached place (sizes_before h.rounds) ≤ 16
  few_rounds place = omega (arith, reached_length place (sizes_before h.rounds), length-map h.rounds (λ r. length r.before.composites), is.lawful.levels, clear.levels)

  placed : (place : ℕ) (c : Composite) → slice_get cs place ≡ Some c → AllByRecursion (Placed s) c.cell.cards
  placed place c at = cards_placed library library_read clear c.cell (cell_in c (stands_in cs place c at)) s

  -- composites are trees
  pub trees : (c : Composite) → Contains cs c → AllZip (Tree s cards cs 15) c.cell.cards c.parts
  trees c at = tree s cards cells cs (sizes_before h.rounds) suited.composites (history_staged run h is.lawful) numbered placed 15 at.0 c (at_place c at) (few_rounds at.0)

  -- and so is what the last circuit's devices come from
  pub slots_trees : AllByRecursion (λ (t : Slot). SlotTree s cards cs 15 t.device.nets t.origin) h.last.slots
  slots_trees = each_to (λ (t : Slot). SuitsOrigin cards cs t.device.nets t.origin) (λ (t : Slot). SlotTree s cards cs 15 t.device.nets t.origin)
      (λ t g. slot_tree s cards cells cs (sizes_before h.rounds) suited.composites (history_staged run h is.lawful) numbered placed 15 few_rounds t.device.nets t.origin g) h.last.slots suited.slots

  -- each comes from something else
  pub origins_once : Once (map (λ (t : Slot). t.origin) h.last.slots)
  origins_once = once_by_place (map (λ (t : Slot). t.origin) h.last.slots) (λ i j a b ea eb same.
      let x = from_mapped (λ (t : Slot). t.origin) h.last.slots i a ea in
      let y = from_mapped (λ (t : Slot). t.origin) h.last.slots j b eb in
      suited.apart i j x.0 y.0 x.1 y.1 (x.2 ∙ same ∙ sym y.2))

  -- the top's name is no variant's
  pub top_absent : (head : Head) → flat.top ≡ Some head → Contains names head.name → ⊥
  top_absent head e = subst (λ t. Contains (variant_names t vs.different) head.name → ⊥) (sym (ap (λ t. option_map (λ (x : Head). x.name) t) e)) (apart_are.not_top head.name vs.different few)

  heads_differ : (t : Option Head) → flat.top ≡ t → Once (names ++ map (λ (x : Sub). x.head.name) (subs_around t bodies))
  heads_differ None e = once_append names [] once tt (λ x a b. in_none x b)
  heads_differ (Some head) e = once_append names (head.name ∷ []) once ((λ x. in_none head.name x), tt) (λ x a b. elim (in_cons head.name [] x b) [
    | inl same ↦ top_absent head e (subst (λ y. Contains names y) (sym same) a)
    | inr later ↦ in_none x later
  ])

  -- no two subcircuits have one name
  pub subs_once : Once (map (λ (t : Sub). t.head.name) subs)
  subs_once = subst Once (sym (heads_are s names names vs.different (subs_around flat.top bodies) many)) (heads_differ flat.top refl)

  -- no variant has the top's name
  pub variants_other : (head : Head) → flat.top ≡ Some head → AllByRecursion (λ (x : Sub). same_text x.head.name head.name ≡ false) (map (variant_sub s names) (zip names vs.different))
  variants_other head e = each_variant (λ (x : Sub). same_text x.head.name head.name ≡ false) s names names vs.different (λ i name v en ev.
      false_from_ne_true (same_text name head.name) (λ on. top_absent head e (subst (λ x. Contains names x) (exact name head.name on) (stands_in names i name en))))
