-- The text of a flat deck reads back.
use Rattle.std.proofs.Common.{◌≡◌, ◌+◌, ℕ, List, [], ◌∷◌, ◌++◌, length, map, ltb, true, false, Option, Some, None, Result, Ok, refl, sym, ap, ◌∙◌, subst, flat_map, codes, append-nil}
use Rattle.std.specs.List.{AllByRecursion}
use Rattle.gl_text.specs.LogicalLines.{NAME, Fault, long_flat_name, long_text}
use Rattle.gl_fault.specs.Refusals.{first_some, when, or_else, ◌>>=◌}
use Rattle.gl_text.specs.Cards.{Head, dev, model, subckt, ends, global, passed, ended}
use Rattle.gl_text.specs.Decks.{Body, dev_at, Sub, Deck, body_line, sub_text, line_of, has_twice, is_in, find_sub, read_deck, deck_text, body_name}
use Rattle.gl_text.specs.Flattening.{DEPTH, TEXT, FlatDevice, Flat, Bearer, net, top_net, top_ports, top_place, flat_devices, bearers, bearer_name, first_clash, chosen, device_name, flat_card, around, flat_text, flatten, flat_of}
use Rattle.gl_printed.specs.ReadCards.{IsFine}
use Rattle.gl_printed.specs.ReadDecks.{body_card, AllDiffer, FindsSub, FindsSubWithin, IsReadSub, IsReadDeck, unnumbered_body, unnumbered}
use Rattle.gl_printed.specs.FlatDecks.{AreRails, flat_cards, subs_around, top_without, deck_of, FlatReadsBack}
use Rattle.gl_lists.proofs.Each.{each_both, each_map, each_true}
use Rattle.gl_fault.proofs.FirstLaws.{or_else_ok, bind_ok}
use Rattle.gl_printed.proofs.ReadDeckLaws.{read_fine}
use Rattle.gl_printed.proofs.ReadBackLaws.{read_back}
use Rattle.gl_printed.proofs.FlatAlike.{Chosen, behind_chosen, choice, faults_flat, finish_flat, flatten_is, pick, pick_is}
use Rattle.gl_printed.proofs.FlatDevices.{IsFlatDevice, all_flat, found_sub}
use Rattle.gl_printed.proofs.FlatNames.{flat_fine}
use Rattle.gl_printed.proofs.FlatClashes.{IsShort, all_differ_flat, all_short}

-- ---- the text

lines_are : (ds : List FlatDevice) → flat_map (λ d. line_of (dev (flat_card d))) ds ≡ flat_map body_line (flat_cards ds)
lines_are [] = refl
lines_are (d ∷ ds) = ap (λ t. line_of (dev (flat_card d)) ++ t) (lines_are ds)

middle : (front : List ℕ) (top : Option Head) (ds : List FlatDevice) → front ++ around top (flat_map (λ d. line_of (dev (flat_card d))) ds) ≡ front ++ flat_map sub_text (subs_around top (flat_cards ds)) ++ flat_map body_line (top_without top (flat_cards ds))
middle front None ds = ap (λ t. front ++ t) (lines_are ds) ∙ ap (λ t. t ++ flat_map body_line (flat_cards ds)) (sym (append-nil front))
middle front (Some h) ds =
    let s : Sub = record { line = 0; head = h; cards = flat_cards ds } in
    ap (λ t. front ++ (line_of (subckt h) ++ t ++ line_of (ends (Some h.name)))) (lines_are ds) ∙ ap (λ t. front ++ t) (sym (append-nil (sub_text s))) ∙ sym (append-nil (front ++ (sub_text s ++ [])))

pub flat_text_is : (f : Flat) → flat_text f ≡ deck_text (deck_of f)
flat_text_is f =
    let front = f.title ++ 10 ∷ flat_map (λ n. line_of (global (n ∷ []))) f.rails ++ flat_map (λ m. line_of (model m)) f.models in
    ap (λ t. t ++ flat_map (λ x. line_of (passed x)) f.passed ++ line_of ended) (middle front f.top f.devices)

-- ---- what the flattening tells

abbrev flat_with : Deck → List (List ℕ) → Option Head → List FlatDevice → Flat
flat_with d rails head devices = record { title = d.title; rails = rails; models = d.models; top = head; devices = devices; passed = d.passed }

record IsFlattened (d : Deck) (rails : List (List ℕ)) (head : Option Head) (devices : List FlatDevice) (flat : Flat) : Type 0 where
  is_it : flat_with d rails head devices ≡ flat
  short : AllByRecursion IsShort devices
  differ : has_twice (map device_name devices) ≡ false

finished_flat : (d : Deck) (rails : List (List ℕ)) (head : Option Head) (devices : List FlatDevice) (flat : Flat) → finish_flat d.title rails d.models d.passed head devices ≡ Ok flat → IsFlattened d rails head devices flat
unfolding finish_flat
finished_flat d rails head devices flat h =
    let f = flat_with d rails head devices in
    let names = flat_map bearers devices in
    let long = when (ltb TEXT (length (flat_text f))) (long_text (TEXT + 1)) in
    let lengths = first_some (map (λ b. when (ltb NAME (length (bearer_name b))) (long_flat_name (length (bearer_name b)))) names) in
    let clashes = first_clash (map (λ n. net (top_net n)) (codes "0" ∷ rails ++ top_ports head)) names in
    let a = bind_ok (or_else long f) (λ x. or_else lengths x >>= λ y. or_else clashes y) flat h in
    let b = or_else_ok long f a.0 a.1 in
    let c = bind_ok (or_else lengths a.0) (λ y. or_else clashes y) flat a.2 in
    let e = or_else_ok lengths a.0 c.0 c.1 in
    let g = or_else_ok clashes c.0 flat c.2 in
    record { is_it = b.1 ∙ e.1 ∙ g.1; short = all_short devices e.0; differ = all_differ_flat (map top_net (codes "0" ∷ rails ++ top_ports head)) devices (by rails head names ∙ g.0) } where
      by : (rs : List (List ℕ)) (top : Option Head) (bs : List Bearer) → first_clash (map net (map top_net (codes "0" ∷ rs ++ top_ports top))) bs ≡ first_clash (map (λ n. net (top_net n)) (codes "0" ∷ rs ++ top_ports top)) bs
      by rs top bs = ap (λ ns. first_clash ns bs) (twice (codes "0" ∷ rs ++ top_ports top)) where
        twice : (ns : List (List ℕ)) → map net (map top_net ns) ≡ map (λ n. net (top_net n)) ns
        twice [] = refl
        twice (n ∷ ns) = ap (λ xs. net (top_net n) ∷ xs) (twice ns)

-- ---- the chosen cards

-- the head of a top, where there is one, is that of a subcircuit as it is read
HeadIs : List Sub → Option Head → Type 0
HeadIs subs None = Unit {0}
HeadIs subs (Some h) = (s : Sub) × IsReadSub subs s × (s.head ≡ h)

record IsChosen (subs : List Sub) (c : Chosen) : Type 0 where
  head : HeadIs subs c.0
  cards : AllByRecursion (λ b. IsFine (body_card b)) c.1

ok_chosen : (subs : List Sub) (x y : Chosen) → IsChosen subs x → (r : Result Chosen Fault) → r ≡ Ok x → r ≡ Ok y → IsChosen subs y
ok_chosen subs x y h r e f = let g : x ≡ y = cc in subst (IsChosen subs) g h

picked_chosen : (d : Deck) → IsReadDeck d → (name : List ℕ) (o : Option Sub) (top : List Body) (c : Chosen) → find_sub d.subs name ≡ o → pick name o top ≡ Ok c → IsChosen d.subs c
unfolding pick HeadIs
picked_chosen d h name None top c e f = absurd cc
picked_chosen d h name (Some s) [] c e f = let i = found_sub d.subs d.subs h.subs name s e in
    ok_chosen d.subs (choice (Some s.head) s.cards) c (record { head = (s, i, refl); cards = i.cards }) (pick name (Some s) []) refl f
picked_chosen d h name (Some s) (b ∷ bs) c e f = absurd cc

chosen_fine : (d : Deck) → IsReadDeck d → (top : Option (List ℕ)) (c : Chosen) → chosen d top ≡ Ok c → IsChosen d.subs c
unfolding HeadIs
chosen_fine d h None c e = ok_chosen d.subs (choice None d.top) c (record { head = tt; cards = h.top }) (chosen d None) refl e
chosen_fine d h (Some name) c e = picked_chosen d h name (find_sub d.subs name) d.top c refl (sym (pick_is d name) ∙ e)

-- ---- the flat deck as a deck

body_names : (ds : List FlatDevice) → map body_name (flat_cards ds) ≡ map device_name ds
body_names [] = refl
body_names (d ∷ ds) = ap (λ xs. device_name d ∷ xs) (body_names ds)

none_call : (subs : List Sub) (ds : List FlatDevice) → AllByRecursion (FindsSub subs) (flat_cards ds)
none_call subs ds = each_map (FindsSub subs) (λ d. dev_at 0 (flat_card d)) ds (each_true (λ d. FindsSub subs (dev_at 0 (flat_card d))) (λ d. tt) ds)

none_inner : (subs : List Sub) (name : List ℕ) (ds : List FlatDevice) → AllByRecursion (FindsSubWithin subs name) (flat_cards ds)
none_inner subs name ds = each_map (FindsSubWithin subs name) (λ d. dev_at 0 (flat_card d)) ds (each_true (λ d. FindsSubWithin subs name (dev_at 0 (flat_card d))) (λ d. tt) ds)

cards_fine : (ds : List FlatDevice) → AllByRecursion IsFlatDevice ds → AllByRecursion IsShort ds → AllByRecursion (λ b. IsFine (body_card b)) (flat_cards ds)
cards_fine ds h s = each_map (λ b. IsFine (body_card b)) (λ d. dev_at 0 (flat_card d)) ds (each_both IsFlatDevice IsShort (λ d. IsFine (dev (flat_card d))) (λ d i j. flat_fine d i j.name j.nets) ds h s)

flat_read : (d : Deck) (rails : List (List ℕ)) (head : Option Head) (ds : List FlatDevice) → IsReadDeck d → AreRails rails → HeadIs d.subs head → AllByRecursion (λ b. IsFine (body_card b)) (flat_cards ds) → AllDiffer (map body_name (flat_cards ds))
    → IsReadDeck (deck_of (flat_with d rails head ds))
unfolding HeadIs
flat_read d rails None ds h r i f n = record {
  title = h.title;
  globals = r.fine;
  globals_differ = r.differ;
  no_zero = r.no_zero;
  models = h.models;
  models_differ = h.models_differ;
  subs = tt;
  subs_differ = refl;
  top = f;
  top_differ = n;
  top_calls = none_call [] ds;
  passed = h.passed;
}
flat_read d rails (Some head) ds h r i f n =
    let s : Sub = record { line = 0; head = head; cards = flat_cards ds } in
    let own : IsFine (subckt head) = subst (λ x. IsFine (subckt x)) i.2 i.1.head in
    let one : IsReadSub (s ∷ []) s = record {
      head = own;
      ports_differ = subst (λ (x : Head). AllDiffer x.ports) i.2 i.1.ports_differ;
      no_zero = subst (λ (x : Head). is_in (codes "0") x.ports ≡ false) i.2 i.1.no_zero;
      cards = f;
      names_differ = n;
      calls = none_inner (s ∷ []) head.name ds;
    } in
    record {
      title = h.title;
      globals = r.fine;
      globals_differ = r.differ;
      no_zero = r.no_zero;
      models = h.models;
      models_differ = h.models_differ;
      subs = (one, tt);
      subs_differ = refl;
      top = tt;
      top_differ = refl;
      top_calls = tt;
      passed = h.passed;
    }

-- the flat deck of a deck as it is read is one
pub flat_fine_deck : (deck : Deck) (rails : List (List ℕ)) (top : Option (List ℕ)) (flat : Flat) → IsReadDeck deck → AreRails rails → flatten deck rails top ≡ Ok flat → IsReadDeck (deck_of flat)
unfolding behind_chosen
flat_fine_deck d rails top flat h r e =
    let a = bind_ok (chosen d top) (behind_chosen DEPTH d rails) flat (sym (flatten_is d rails top) ∙ e) in
    let c = a.0 in
    let i = chosen_fine d h top c a.1 in
    let b = bind_ok (or_else (first_some (faults_flat DEPTH d.subs c.1)) c) (λ x. finish_flat d.title rails d.models d.passed x.0 (flat_devices rails d.subs DEPTH top_place x.1)) flat a.2 in
    let o = or_else_ok (first_some (faults_flat DEPTH d.subs c.1)) c b.0 b.1 in
    let ds = flat_devices rails d.subs DEPTH top_place c.1 in
    let g : finish_flat d.title rails d.models d.passed c.0 ds ≡ Ok flat = subst (λ x. finish_flat d.title rails d.models d.passed x.0 (flat_devices rails d.subs DEPTH top_place x.1) ≡ Ok flat) (sym o.1) b.2 in
    let k = finished_flat d rails c.0 ds flat g in
    subst (λ x. IsReadDeck (deck_of x)) k.is_it (flat_read d rails c.0 ds h r i.head (cards_fine ds (all_flat rails d.subs d.subs h.subs DEPTH c.1 i.cards) k.short) (ap has_twice (body_names ds) ∙ k.differ))

-- ---- the way back

cards_bare_flat : (ds : List FlatDevice) → map unnumbered_body (flat_cards ds) ≡ flat_cards ds
cards_bare_flat [] = refl
cards_bare_flat (d ∷ ds) = ap (λ xs. dev_at 0 (flat_card d) ∷ xs) (cards_bare_flat ds)

flat_bare : (f : Flat) → unnumbered (deck_of f) ≡ deck_of f
flat_bare f = by f.top where
  by : (top : Option Head) → unnumbered (deck_of (record f { top = top })) ≡ deck_of (record f { top = top })
  by None = ap (λ cs. record { title = f.title; globals = f.rails; models = f.models; subs = []; top = cs; passed = f.passed }) (cards_bare_flat f.devices)
  by (Some h) = ap (λ cs. record { title = f.title; globals = f.rails; models = f.models; subs = record { line = 0; head = h; cards = cs } ∷ []; top = []; passed = f.passed }) (cards_bare_flat f.devices)

pub flat_again : (top : Option (List ℕ)) (bytes : List ℕ) (flat : Flat) → flat_of top bytes ≡ Ok flat → FlatReadsBack flat
flat_again top bytes flat h =
    let a = bind_ok (read_deck true bytes) (λ deck. flatten deck deck.globals top) flat h in
    let d = a.0 in
    let i = read_fine true bytes d a.1 in
    let r = read_back (deck_of flat) (flat_fine_deck d d.globals top flat i (record { fine = i.globals; differ = i.globals_differ; no_zero = i.no_zero }) a.2) in
    record { again = r.again; is_read = ap (read_deck true) (flat_text_is flat) ∙ r.is_read; is_same = r.is_same ∙ flat_bare flat }
