-- A flattened deck's device names differ.
use Rattle.std.proofs.Common.{◌≡◌, ◌∙◌, ◌+◌, ℕ, List, [], ◌∷◌, ◌++◌, length, map, ltb, false, Option, None, Ok, refl, sym, ap, flat_map, codes, subst}
use Rattle.gl_text.specs.LogicalLines.{NAME, long_flat_name, long_text}
use Rattle.gl_text.specs.Cards.{Head, Model, Device as Card}
use Rattle.gl_text.specs.Decks.{Deck, has_twice}
use Rattle.gl_text.specs.Flattening.{DEPTH, TEXT, FlatDevice, Flat, net, top_net, top_ports, top_place, flat_devices, bearers, bearer_name, first_clash, chosen, device_name, flat_card, flat_text, flatten}
use Rattle.gl_printed.proofs.FlatAlike.{behind_chosen, faults_flat, finish_flat, flatten_is}
use Rattle.gl_printed.proofs.FlatClashes.{all_differ_flat}
use Rattle.gl_lifting.specs.Renaming.{names_of_devices}
use Rattle.gl_fault.specs.Refusals.{first_some, when, or_else, ◌>>=◌}
use Rattle.gl_fault.proofs.FirstLaws.{or_else_ok, bind_ok}

-- names of cards are names of devices
pub names_are : (ds : List FlatDevice) → map device_name ds ≡ map (λ c. c.name) (map flat_card ds)
names_are [] = refl
names_are (d ∷ ds) = ap (λ ns. device_name d ∷ ns) (names_are ds)

nets_twice : (ns : List (List ℕ)) → map net (map top_net ns) ≡ map (λ n. net (top_net n)) ns
nets_twice [] = refl
nets_twice (n ∷ ns) = ap (λ xs. net (top_net n) ∷ xs) (nets_twice ns)

-- where no names clash, the devices' differ
pub clashless_differ : (tops : List (List ℕ)) (ds : List FlatDevice) → first_clash (map (λ n. net (top_net n)) tops) (flat_map bearers ds) ≡ None → has_twice (map (λ (c : Card). c.name) (map flat_card ds)) ≡ false
clashless_differ tops ds e = ap has_twice (sym (names_are ds)) ∙ all_differ_flat (map top_net tops) ds (ap (λ ns. first_clash ns (flat_map bearers ds)) (nets_twice tops) ∙ e)

-- of what is finished
finished_differ : (title : List ℕ) (rails : List (List ℕ)) (models : List Model) (passed : List (List ℕ)) (head : Option Head) (devices : List FlatDevice) (flat : Flat) → finish_flat title rails models passed head devices ≡ Ok flat → has_twice (names_of_devices flat) ≡ false
unfolding finish_flat
finished_differ title rails models passed head devices flat h =
    let f : Flat = record { title = title; rails = rails; models = models; top = head; devices = devices; passed = passed } in
    let names = flat_map bearers devices in
    let long = when (ltb TEXT (length (flat_text f))) (long_text (TEXT + 1)) in
    let lengths = first_some (map (λ b. when (ltb NAME (length (bearer_name b))) (long_flat_name (length (bearer_name b)))) names) in
    let clashes = first_clash (map (λ n. net (top_net n)) (codes "0" ∷ rails ++ top_ports head)) names in
    let a = bind_ok (or_else long f) (λ x. or_else lengths x >>= λ y. or_else clashes y) flat h in
    let b = or_else_ok long f a.0 a.1 in
    let c = bind_ok (or_else lengths a.0) (λ y. or_else clashes y) flat a.2 in
    let e = or_else_ok lengths a.0 c.0 c.1 in
    let g = or_else_ok clashes c.0 flat c.2 in
    let is_it : f ≡ flat = b.1 ∙ e.1 ∙ g.1 in
    let apart = all_differ_flat (map top_net (codes "0" ∷ rails ++ top_ports head)) devices (ap (λ ns. first_clash ns names) (nets_twice (codes "0" ∷ rails ++ top_ports head)) ∙ g.0) in
    subst (λ (x : Flat). has_twice (names_of_devices x) ≡ false) is_it (ap has_twice (sym (names_are devices)) ∙ apart)

-- of what is flattened
pub flat_names_differ : (deck : Deck) (rails : List (List ℕ)) (top : Option (List ℕ)) (flat : Flat) → flatten deck rails top ≡ Ok flat → has_twice (names_of_devices flat) ≡ false
unfolding behind_chosen
flat_names_differ d rails top flat h =
    let a = bind_ok (chosen d top) (behind_chosen DEPTH d rails) flat (sym (flatten_is d rails top) ∙ h) in
    let c = a.0 in
    let b = bind_ok (or_else (first_some (faults_flat DEPTH d.subs c.1)) c) (λ x. finish_flat d.title rails d.models d.passed x.0 (flat_devices rails d.subs DEPTH top_place x.1)) flat a.2 in
    finished_differ d.title rails d.models d.passed b.0.0 (flat_devices rails d.subs DEPTH top_place b.0.1) flat b.2
