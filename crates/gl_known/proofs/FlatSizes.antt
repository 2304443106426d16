-- The cards of a flat deck and their places are bounded by its text.
use Rattle.std.proofs.Common.{◌≡◌, ◌≤◌, ◌+◌, ℕ, List, [], ◌∷◌, ◌++◌, length, map, ltb, true, Option, Some, None, Ok, refl, sym, ap, ◌∙◌, subst, arith, ltb-false, flat_map, codes}
use Rattle.std.specs.Prelude.{sum_by}
use Rattle.std.specs.List.{AllByRecursion}
use Rattle.std.proofs.lemmas.List.Elements.{All-from_recursion}
use Rattle.gl_text.specs.LogicalLines.{NAME, long_flat_name, long_text}
use Rattle.gl_fault.specs.Refusals.{first_some, when, or_else, ◌>>=◌}
use Rattle.gl_text.specs.Cards.{Device, Head, Model, IsDeviceCard}
use Rattle.gl_text.specs.Decks.{Body, dev_at, call_at, Sub, Deck, deck_text}
use Rattle.gl_text.specs.Flattening.{DEPTH, TEXT, FlatDevice, Flat, net, top_net, top_ports, top_place, flat_devices, bearers, bearer_name, first_clash, chosen, flat_card, flat_text, flatten}
use Rattle.gl_printed.specs.ReadCards.{IsFine}
use Rattle.gl_printed.specs.ReadDecks.{body_card, IsReadDeck, unnumbered_body, unnumbered_sub, unnumbered}
use Rattle.gl_printed.specs.FlatDecks.{AreRails, flat_cards, deck_of}
use Rattle.gl_fault.proofs.FirstLaws.{or_else_ok, when_none, bind_ok}
use Rattle.gl_printed.proofs.ReadBackLaws.{read_back}
use Rattle.gl_printed.proofs.FlatAlike.{behind_chosen, faults_flat, finish_flat, flatten_is}
use Rattle.gl_printed.proofs.FlatDeckLaws.{flat_text_is, flat_fine_deck}
use Rattle.gl_known.specs.Known.{body_size, sub_size, deck_size, IsKnownFlat}
use Rattle.gl_known.proofs.Totals.{total, total_is}
use Rattle.gl_known.proofs.DecksRead.{deck_read}

-- ---- the text

finished : (title : List ℕ) (rails : List (List ℕ)) (models : List Model) (passed : List (List ℕ)) (head : Option Head) (devices : List FlatDevice) (flat : Flat) → finish_flat title rails models passed head devices ≡ Ok flat → length (flat_text flat) ≤ TEXT
unfolding finish_flat
finished title rails models passed head devices flat h =
    let f : Flat = record { title = title; rails = rails; models = models; top = head; devices = devices; passed = passed } in
    let names = flat_map bearers devices in
    let long = when (ltb TEXT (length (flat_text f))) (long_text (TEXT + 1)) in
    let lengths = first_some (map (λ b. when (ltb NAME (length (bearer_name b))) (long_flat_name (length (bearer_name b)))) names) in
    let clashes = first_clash (map (λ n. net (top_net n)) (codes "0" ∷ rails ++ top_ports head)) names in
    let a = bind_ok (or_else long f) (λ x. or_else lengths x >>= λ y. or_else clashes y) flat h in
    let b = or_else_ok long f a.0 a.1 in
    let c = bind_ok (or_else lengths a.0) (λ y. or_else clashes y) flat a.2 in
    let e = or_else_ok lengths a.0 c.0 c.1 in
    let g = or_else_ok clashes c.0 flat c.2 in
    let small = ltb-false TEXT (length (flat_text f)) (when_none (ltb TEXT (length (flat_text f))) (long_text (TEXT + 1)) b.0) in
    subst (λ x. length (flat_text x) ≤ TEXT) (b.1 ∙ e.1 ∙ g.1) small

text_short : (d : Deck) (rails : List (List ℕ)) (top : Option (List ℕ)) (flat : Flat) → flatten d rails top ≡ Ok flat → length (flat_text flat) ≤ TEXT
unfolding behind_chosen
text_short d rails top flat h =
    let a = bind_ok (chosen d top) (behind_chosen DEPTH d rails) flat (sym (flatten_is d rails top) ∙ h) in
    let c = a.0 in
    let b = bind_ok (or_else (first_some (faults_flat DEPTH d.subs c.1)) c) (λ x. finish_flat d.title rails d.models d.passed x.0 (flat_devices rails d.subs DEPTH top_place x.1)) flat a.2 in
    finished d.title rails d.models d.passed b.0.0 (flat_devices rails d.subs DEPTH top_place b.0.1) flat b.2

-- ---- sizes see no line numbers

same_body : (b : Body) → body_size (unnumbered_body b) ≡ body_size b
same_body (dev_at line d) = refl
same_body (call_at line c) = refl

same_bodies : (bs : List Body) → total body_size (map unnumbered_body bs) ≡ total body_size bs
same_bodies [] = refl
same_bodies (b ∷ bs) = let h = same_body b in let t = same_bodies bs in omega arith

same_sub : (s : Sub) → sub_size (unnumbered_sub s) ≡ sub_size s
same_sub s = let a = total_is body_size (map unnumbered_body s.cards) in let b = total_is body_size s.cards in let c = same_bodies s.cards in omega arith

same_subs : (ss : List Sub) → total sub_size (map unnumbered_sub ss) ≡ total sub_size ss
same_subs [] = refl
same_subs (s ∷ ss) = let h = same_sub s in let t = same_subs ss in omega arith

same_size : (d : Deck) → deck_size (unnumbered d) ≡ deck_size d
same_size d =
    let a = total_is sub_size (map unnumbered_sub d.subs) in let b = total_is sub_size d.subs in let c = same_subs d.subs in
    let e = total_is body_size (map unnumbered_body d.top) in let f = total_is body_size d.top in let g = same_bodies d.top in
    omega arith

-- ---- the flat deck as a deck

abbrev place_size : Device → ℕ
place_size d = length d.nodes + 1

flat_places : (ds : List FlatDevice) → total place_size (map flat_card ds) ≡ total body_size (flat_cards ds)
flat_places [] = refl
flat_places (d ∷ ds) = let t = flat_places ds in omega arith

places_in : (f : Flat) → sum_by body_size (flat_cards f.devices) ≤ deck_size (deck_of f)
places_in f = by f.top where
  by : (top : Option Head) → sum_by body_size (flat_cards f.devices) ≤ deck_size (deck_of (record f { top = top }))
  by None = omega arith
  by (Some h) = let s : Sub = record { line = 0; head = h; cards = flat_cards f.devices } in let a = total_is sub_size (s ∷ []) in omega arith

cards_all : (ds : List FlatDevice) → AllByRecursion (λ b. IsFine (body_card b)) (flat_cards ds) → AllByRecursion IsDeviceCard (map flat_card ds)
cards_all [] h = tt
cards_all (d ∷ ds) h = (h.0.is_read.kind, cards_all ds h.1)

cards_in : (f : Flat) → IsReadDeck (deck_of f) → AllByRecursion (λ b. IsFine (body_card b)) (flat_cards f.devices)
cards_in f h = by f.top h where
  by : (top : Option Head) → IsReadDeck (deck_of (record f { top = top })) → AllByRecursion (λ b. IsFine (body_card b)) (flat_cards f.devices)
  by None i = i.top
  by (Some head) i = i.subs.0.cards

pub flat_known : (deck : Deck) (rails : List (List ℕ)) (top : Option (List ℕ)) (flat : Flat) → IsReadDeck deck → AreRails rails → flatten deck rails top ≡ Ok flat → IsKnownFlat flat
flat_known deck rails top flat i r h =
    let fine = flat_fine_deck deck rails top flat i r h in
    let back = read_back (deck_of flat) fine in
    let short = text_short deck rails top flat h in
    let same = ap length (flat_text_is flat) in
    let known = deck_read true (deck_text (deck_of flat)) back.again back.is_read in
    let small = known.small in
    let size = sym (same_size back.again) ∙ ap deck_size back.is_same ∙ same_size (deck_of flat) in
    let places = places_in flat in
    let all = flat_places flat.devices in
    let a = total_is place_size (map flat_card flat.devices) in
    let b = total_is body_size (flat_cards flat.devices) in
    record { cards = All-from_recursion IsDeviceCard (map flat_card flat.devices) (cards_all flat.devices (cards_in flat fine)); places = omega arith }
