-- A flat deck flattens again, and its text to itself.
use Rattle.std.proofs.Common.{◌≡◌, ◌≤◌, ◌+◌, ℕ, List, ◌∷◌, ◌++◌, length, map, ltb, true, Option, None, Result, Ok, refl, sym, ap, ◌∙◌, subst, flat_map, option_map, codes}
use Rattle.gl_text.specs.LogicalLines.{Fault, long_text}
use Rattle.gl_fault.specs.Refusals.{first_some, when, or_else, ◌>>=◌}
use Rattle.gl_text.specs.Cards.{Head}
use Rattle.gl_text.specs.Decks.{Deck, deck_text, read_deck}
use Rattle.gl_text.specs.Flattening.{DEPTH, DEVICES, TEXT, FlatDevice, Flat, top_ports, top_place, flat_devices, bearers, first_clash, chosen, flat_text, flatten, flat_of, flat_job}
use Rattle.gl_printed.specs.FlatDecks.{flat_cards, subs_around, deck_of}
use Rattle.gl_printed.specs.ReadDecks.{unnumbered}
use Rattle.gl_printed.proofs.DistinctNames.{head_name}
use Rattle.gl_fault.proofs.FirstLaws.{or_else_ok, bind_ok}
use Rattle.gl_printed.proofs.ReadDeckLaws.{read_fine}
use Rattle.gl_printed.proofs.ReadBackLaws.{read_back}
use Rattle.gl_printed.proofs.FlatAlike.{Chosen, choice, behind_chosen, faults_flat, finish_flat, flatten_is, alike}
use Rattle.gl_printed.proofs.FlatDeckLaws.{flat_text_is, flat_fine_deck}
use Rattle.gl_flat.proofs.GivenFlats.{given}
use Rattle.gl_flat.proofs.StepLaws.{none_refuses}
use Rattle.gl_steady.proofs.AtTop.{at_top, all_at_top}
use Rattle.gl_steady.proofs.TopDevices.{text_stays, devices_at_top, none_exceeds}
use Rattle.gl_steady.proofs.TopNames.{long, lengths_stay, top_bearer, no_clash_stays}
use Rattle.gl_steady.proofs.TopChoices.{chosen_named, chosen_again}

-- ---- the flat deck

abbrev finish_of : Flat → List FlatDevice → Result Flat Fault
finish_of f ds = finish_flat f.title f.rails f.models f.passed f.top ds

-- what passes passes at the top too
finished_again : (f flat : Flat) → finish_of f f.devices ≡ Ok flat → (finish_of f (map at_top f.devices) ≡ Ok (all_at_top f)) × (f ≡ flat)
unfolding finish_flat
finished_again f flat h =
    let text = λ (g : Flat). when (ltb TEXT (length (flat_text g))) (long_text (TEXT + 1)) in
    let tops = codes "0" ∷ f.rails ++ top_ports f.top in
    let names = flat_map bearers f.devices in
    let lengths = first_some (map long names) in
    let clashes = first_clash (map top_bearer tops) names in
    let a = bind_ok (or_else (text f) f) (λ x. or_else lengths x >>= λ y. or_else clashes y) flat h in
    let b = or_else_ok (text f) f a.0 a.1 in
    let c = bind_ok (or_else lengths a.0) (λ y. or_else clashes y) flat a.2 in
    let e = or_else_ok lengths a.0 c.0 c.1 in
    let g = or_else_ok clashes c.0 flat c.2 in
    let lifted = flat_map bearers (map at_top f.devices) in (
      none_refuses (all_at_top f) (text (all_at_top f)) (first_some (map long lifted)) (first_clash (map top_bearer tops) lifted)
          (ap (λ t. when (ltb TEXT (length t)) (long_text (TEXT + 1))) (text_stays f) ∙ b.0) (ap first_some (lengths_stay f.devices) ∙ e.0) (no_clash_stays tops f.devices g.0),
      b.1 ∙ e.1 ∙ g.1,
    )

behind_again : (depth : ℕ) (f : Flat) → length f.devices ≤ DEVICES → finish_of f (map at_top f.devices) ≡ Ok (all_at_top f) → behind_chosen depth (deck_of f) f.rails (choice f.top (flat_cards f.devices)) ≡ Ok (all_at_top f)
unfolding behind_chosen
behind_again depth f few h =
    let subs = subs_around f.top (flat_cards f.devices) in
    let c = choice f.top (flat_cards f.devices) in
    ap (λ o. or_else o c >>= λ (x : Chosen). finish_of (record f { top = x.0 }) (flat_devices f.rails subs depth top_place x.1)) (none_exceeds depth subs f.devices few)
    ∙ ap (finish_of f) (devices_at_top f.rails subs depth f.devices) ∙ h

-- the deck of a flat deck that passes, with the top of its name, comes to it with its devices at the top
deck_again : (f : Flat) (top : Option (List ℕ)) → option_map head_name f.top ≡ top → length f.devices ≤ DEVICES → finish_of f (map at_top f.devices) ≡ Ok (all_at_top f) → flatten (deck_of f) f.rails top ≡ Ok (all_at_top f)
deck_again f top named few h = flatten_is (deck_of f) f.rails top ∙ ap (λ r. r >>= behind_chosen DEPTH (deck_of f) f.rails) (chosen_again f top named) ∙ behind_again DEPTH f few h

carried : (f flat : Flat) (top : Option (List ℕ)) → f ≡ flat → option_map head_name f.top ≡ top → finish_of f (map at_top f.devices) ≡ Ok (all_at_top f) → length flat.devices ≤ DEVICES → flatten (deck_of flat) flat.rails top ≡ Ok (all_at_top flat)
carried f flat top same named h few =
    deck_again flat top (subst (λ (x : Flat). option_map head_name x.top ≡ top) same named) few (subst (λ (x : Flat). finish_of x (map at_top x.devices) ≡ Ok (all_at_top x)) same h)

abbrev of_devices : Deck → List (List ℕ) → Option Head → List FlatDevice → Flat
of_devices d rails head ds = record { title = d.title; rails = rails; models = d.models; top = head; devices = ds; passed = d.passed }

-- a flat deck is again one, with its devices at the top
pub flatten_again : (deck : Deck) (rails : List (List ℕ)) (top : Option (List ℕ)) (flat : Flat) → flatten deck rails top ≡ Ok flat → flatten (deck_of flat) flat.rails top ≡ Ok (all_at_top flat)
unfolding behind_chosen
flatten_again d rails top flat h =
    let a = bind_ok (chosen d top) (behind_chosen DEPTH d rails) flat (sym (flatten_is d rails top) ∙ h) in
    let faults = first_some (faults_flat DEPTH d.subs a.0.1) in
    let b = bind_ok (or_else faults a.0) (λ x. finish_flat d.title rails d.models d.passed x.0 (flat_devices rails d.subs DEPTH top_place x.1)) flat a.2 in
    let same = (or_else_ok faults a.0 b.0 b.1).1 in
    let f = of_devices d rails b.0.0 (flat_devices rails d.subs DEPTH top_place b.0.1) in
    let k = finished_again f flat b.2 in
    let named : option_map head_name b.0.0 ≡ top = subst (λ (x : Chosen). option_map head_name x.0 ≡ top) same (chosen_named d top a.0 a.1) in
    carried f flat top k.1 named k.0 (given d rails top flat h).few

-- ---- its text

-- the flat deck of a flat text, by the deck that is read from it
read_again : (flat : Flat) (again : Deck) (top : Option (List ℕ)) → read_deck true (deck_text (deck_of flat)) ≡ Ok again → unnumbered again ≡ unnumbered (deck_of flat) → flatten (deck_of flat) flat.rails top ≡ Ok (all_at_top flat) → flat_of top (flat_text flat) ≡ Ok (all_at_top flat)
read_again flat again top read same h =
    let rails : again.globals ≡ flat.rails = ap (λ (x : Deck). x.globals) same in
    ap (λ x. x >>= λ y. flatten y y.globals top) (ap (read_deck true) (flat_text_is flat) ∙ read) ∙ ap (λ x. flatten again x top) rails
    ∙ alike (deck_of flat) again flat.rails top (all_at_top flat) (sym same) h

printed_again : (flat : Flat) (top : Option (List ℕ)) → flat_of top (flat_text flat) ≡ Ok (all_at_top flat) → flat_job top (flat_text flat) ≡ Ok (flat_text flat)
printed_again flat top h = ap (λ x. x >>= λ g. Ok (flat_text g)) h ∙ ap (λ t. Ok t) (text_stays flat)

-- a flat text flattens to itself
pub text_again : (top : Option (List ℕ)) (bytes text : List ℕ) → flat_job top bytes ≡ Ok text → flat_job top text ≡ Ok text
text_again top bytes text h =
    let a = bind_ok (flat_of top bytes) (λ f. Ok (flat_text f)) text h in
    let flat = a.0 in
    let e : flat_text flat ≡ text = (or_else_ok {F = Fault} None (flat_text flat) text a.2).1 in
    let b = bind_ok (read_deck true bytes) (λ deck. flatten deck deck.globals top) flat a.1 in
    let d = b.0 in
    let i = read_fine true bytes d b.1 in
    let r = read_back (deck_of flat) (flat_fine_deck d d.globals top flat i (record { fine = i.globals; differ = i.globals_differ; no_zero = i.no_zero }) b.2) in
    subst (λ t. flat_job top t ≡ Ok t) e (printed_again flat top (read_again flat r.again top r.is_read r.is_same (flatten_again d d.globals top flat b.2)))
