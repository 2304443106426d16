-- What is known of the cells of a library that was read: each is found by its name, and flattened as a top it has no clash.
use Rattle.std.proofs.Common.{◌≡◌, ◌∙◌, ℕ, List, [], ◌∷◌, ◌++◌, map, cond, false, Some, None, codes, refl, sym, ap, subst, inl, inr}
use Rattle.std.specs.Prelude.{Contains, flat_map}
use Rattle.std.specs.List.{AllByRecursion}
use Rattle.std.proofs.lemmas.Bool.{false_from_ne_true}
use Rattle.std.proofs.lemmas.List.Elements.{Contains-append_right}
use Rattle.gl_match.proofs.Lists.{Once, in_cons, in_none, in_map, from_map}
use Rattle.gl_text.specs.LogicalLines.{same_text}
use Rattle.gl_text.specs.Cards.{first_byte}
use Rattle.gl_text.specs.Decks.{Body, dev_at, call_at, Sub, find_sub, body_name}
use Rattle.gl_text.specs.Flattening.{Net, FlatDevice, Bearer, net, top_net, net_name, device_name, bearers, top_place, flat_devices, first_clash}
use Rattle.gl_printed.specs.ReadCards.{IsFine}
use Rattle.gl_printed.specs.ReadDecks.{body_card, IsReadSub, IsReadDeck}
use Rattle.gl_printed.proofs.Each.{each_to}
use Rattle.gl_printed.proofs.FlatClashes.{all_differ_flat}
use Rattle.gl_base.specs.BaseCircuit.{Source}
use Rattle.gl_base.specs.Libraries.{Library, clash_of_cell}
use Rattle.gl_base.proofs.TextLaws.{exact, itself, once_from}
use Rattle.gl_lifting.proofs.TurnedNameLaws.{type_places}
use Rattle.gl_lifting.proofs.FlatCardLaws.{in_each}
use Rattle.gl_lifting.proofs.ClashLaws.{Agree, agree_by}
use Rattle.gl_lifting.proofs.TreeLaws.{Placed}
use Rattle.gl_lifting.proofs.LibraryLaws.{Begins, devices_begin, IsClear}

-- a subcircuit is found by its own name
pub find_own : (xs : List Sub) (t : Sub) → Once (map (λ (x : Sub). x.head.name) xs) → Contains xs t → find_sub xs t.head.name ≡ Some t
find_own [] t once at = absurd (in_none t at)
find_own (x ∷ xs) t once at = elim (in_cons x xs t at) [
  | inl same ↦ ap (λ (y : Sub). find_sub (x ∷ xs) y.head.name) (sym same) ∙ ap (λ b. cond b (Some x) (find_sub xs x.head.name)) (itself x.head.name) ∙ ap Some same
  | inr later ↦
      let off : same_text x.head.name t.head.name ≡ false = false_from_ne_true (same_text x.head.name t.head.name) (λ e. once.0 (subst (λ n. Contains (map (λ (y : Sub). y.head.name) xs) n) (sym (exact x.head.name t.head.name e)) (in_map (λ (y : Sub). y.head.name) xs t later))) in
      ap (λ b. cond b (Some x) (find_sub xs t.head.name)) off ∙ find_own xs t once.1 later
]

nets_twice : (ns : List (List ℕ)) → map net (map top_net ns) ≡ map (λ n. net (top_net n)) ns
nets_twice [] = refl
nets_twice (n ∷ ns) = ap (λ xs. net (top_net n) ∷ xs) (nets_twice ns)

-- nets of the top of one name are one
pub tops_agree : (ns : List (List ℕ)) → Agree (map (λ n. net (top_net n)) ns)
tops_agree ns m n hm hn e =
    let a = from_map (λ n. net (top_net n)) ns (net m) hm in
    let b = from_map (λ n. net (top_net n)) ns (net n) hn in
    let x = net_is (top_net a.0) m a.2 in
    let y = net_is (top_net b.0) n b.2 in
    sym x ∙ ap top_net (ap net_name x ∙ e ∙ sym (ap net_name y)) ∙ y
  where
    net_is : (m n : Net) → net m ≡ net n → m ≡ n
    net_is m n e = cc

module _ (library : Library) (library_read : IsReadDeck library.deck) (clear : IsClear library) (t : Sub) (inside : Contains library.deck.subs t) where
  -- the cell's flat devices, as a top
  abbrev own_devices : List FlatDevice
  own_devices = flat_devices library.deck.globals library.deck.subs 32 top_place t.cards

  no_clash : clash_of_cell library.deck.globals library.deck.subs t ≡ None
  no_clash = in_each (λ (x : Sub). clash_of_cell library.deck.globals library.deck.subs x ≡ None) library.deck.subs t clear.clashes inside

  read : IsReadSub library.deck.subs t
  read = in_each (IsReadSub library.deck.subs) library.deck.subs t library_read.subs inside

  -- device names differ
  pub names_once : Once (map device_name own_devices)
  names_once =
      let tops = codes "0" ∷ library.deck.globals ++ t.head.ports in
      once_from (map device_name own_devices) (all_differ_flat (map top_net tops) own_devices (ap (λ (bs : List Bearer). first_clash bs (flat_map bearers own_devices)) (nets_twice tops) ∙ no_clash))

  -- nets of one name are one
  pub nets_agree : Agree (flat_map bearers own_devices)
  nets_agree =
      let tops = map (λ n. net (top_net n)) (codes "0" ∷ library.deck.globals ++ t.head.ports) in
      let all = agree_by (flat_map bearers own_devices) tops (tops_agree (codes "0" ∷ library.deck.globals ++ t.head.ports)) no_clash in
      λ m n hm hn. all m n (Contains-append_right tops (flat_map bearers own_devices) (net m) hm) (Contains-append_right tops (flat_map bearers own_devices) (net n) hn)

  -- ways begin with an x, and device cards do not
  pub begin : (e : FlatDevice) → Contains own_devices e → ((x : List ℕ) (xs : List (List ℕ)) → e.path ≡ x ∷ xs → first_byte x ≡ 120) × (first_byte e.card.name ≡ 120 → ⊥)
  begin e at =
      let b = in_each Begins own_devices e (devices_begin library.deck.globals library.deck.subs library.deck.subs library_read.subs 32 top_place t.cards tt read.cards) at in
      ((λ x xs p. (subst (λ (w : List (List ℕ)). AllByRecursion (λ y. first_byte y ≡ 120) w) p b.way).0), b.card)

  -- device cards have a node for each place of their types
  pub cards_placed : (s : Source) → AllByRecursion (Placed s) t.cards
  cards_placed s = each_to (λ b. IsFine (body_card b)) (Placed s) (λ b f. one b f) t.cards read.cards where
    one : (b : Body) → IsFine (body_card b) → Placed s b
    one (dev_at line d) f = type_places s d f.is_read.kind
    one (call_at line c) f = tt

-- the names of a cell's cards differ
pub cards_named : (library : Library) → IsReadDeck library.deck → (t : Sub) → Contains library.deck.subs t → Once (map body_name t.cards)
cards_named library read t inside = once_from (map body_name t.cards) (in_each (IsReadSub library.deck.subs) library.deck.subs t read.subs inside).names_differ
