-- What a flat deck has of its deck.
use Rattle.std.proofs.Common.{◌≡◌, ◌≤◌, ◌+◌, ℕ, List, ◌∷◌, ◌++◌, length, map, ltb, ltb-false, Option, Ok, sym, ap, subst, ◌∙◌, flat_map, codes}
use Rattle.gl_text.specs.LogicalLines.{NAME, long_flat_name, long_text}
use Rattle.gl_fault.specs.Refusals.{first_some, when, or_else, ◌>>=◌}
use Rattle.gl_text.specs.Cards.{Head, Model}
use Rattle.gl_text.specs.Decks.{Deck}
use Rattle.gl_text.specs.Flattening.{DEPTH, TEXT, FlatDevice, Flat, net, top_net, top_ports, top_place, flat_devices, bearers, bearer_name, first_clash, chosen, flat_text, flatten}
use Rattle.gl_lift.specs.FlatParts.{IsFlatOf}
use Rattle.gl_fault.proofs.FirstLaws.{or_else_ok, when_none, bind_ok}
use Rattle.gl_printed.proofs.FlatAlike.{behind_chosen, faults_flat, finish_flat, flatten_is}

finished : (title : List ℕ) (rails : List (List ℕ)) (models : List Model) (passed : List (List ℕ)) (head : Option Head) (devices : List FlatDevice) (flat : Flat) → finish_flat title rails models passed head devices ≡ Ok flat
    → (record { title = title; rails = rails; models = models; top = head; devices = devices; passed = passed } ≡ flat) × (length (flat_text flat) ≤ TEXT)
unfolding finish_flat
finished title rails models passed head devices flat h =
    let f : Flat = record { title = title; rails = rails; models = models; top = head; devices = devices; passed = passed } in
    let names = flat_map bearers devices in
    let long = when (ltb TEXT (length (flat_text f))) (long_text (TEXT + 1)) in
    let lengths = first_some (map (λ b. when (ltb NAME (length (bearer_name b))) (long_flat_name (length (bearer_name b)))) names) in
    let clashes = first_clash (map (λ n. net (top_net n)) (codes "0" ∷ rails ++ top_ports head)) names in
    let a = bind_ok (or_else long f) (λ x. or_else lengths x >>= λ y. or_else clashes y) flat h in
    let b = or_else_ok long f a.0 a.1 in
    let c = bind_ok (or_else lengths a.0) (λ y. or_else clashes y) flat a.2 in
    let e = or_else_ok lengths a.0 c.0 c.1 in
    let g = or_else_ok clashes c.0 flat c.2 in
    let is = b.1 ∙ e.1 ∙ g.1 in
    let small = ltb-false TEXT (length (flat_text f)) (when_none (ltb TEXT (length (flat_text f))) (long_text (TEXT + 1)) b.0) in
    (is, subst (λ x. length (flat_text x) ≤ TEXT) is small)

pub flat_parts : (deck : Deck) (rails : List (List ℕ)) (top : Option (List ℕ)) (flat : Flat) → flatten deck rails top ≡ Ok flat → IsFlatOf deck rails flat
unfolding behind_chosen
flat_parts d rails top flat h =
    let a = bind_ok (chosen d top) (behind_chosen DEPTH d rails) flat (sym (flatten_is d rails top) ∙ h) in
    let c = a.0 in
    let b = bind_ok (or_else (first_some (faults_flat DEPTH d.subs c.1)) c) (λ x. finish_flat d.title rails d.models d.passed x.0 (flat_devices rails d.subs DEPTH top_place x.1)) flat a.2 in
    let is = finished d.title rails d.models d.passed b.0.0 (flat_devices rails d.subs DEPTH top_place b.0.1) flat b.2 in
    record { rails_are = sym (ap (λ (f : Flat). f.rails) is.0); models_are = sym (ap (λ (f : Flat). f.models) is.0); short = is.1 }
