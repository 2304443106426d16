-- What is known where a flat deck is given: it has few devices, and no names clash.
use Rattle.std.proofs.Common.{◌≡◌, ◌≤◌, ◌+◌, ℕ, List, [], ◌∷◌, ◌++◌, length, map, ltb, false, not, Option, None, Ok, sym, ap, ◌∙◌, subst, flat_map, codes, sum_by, ltb-false}
use Rattle.gl_lists.proofs.Zips.{map_map}
use Rattle.gl_text.specs.LogicalLines.{NAME, too_deep, too_many_cards, too_many_devices, long_flat_name, long_text}
use Rattle.gl_fault.specs.Refusals.{first_some, when, or_else, ◌>>=◌}
use Rattle.gl_text.specs.Cards.{Head}
use Rattle.gl_text.specs.Decks.{Body, Sub, Deck, has_twice}
use Rattle.gl_text.specs.Flattening.{DEPTH, CARDS, DEVICES, TEXT, FlatDevice, Flat, net, top_net, top_ports, top_place, flat_devices, bearers, bearer_name, device_name, first_clash, chosen, flat_text, flatten, size_of, sizes, one, one_device, at_depth, is_none_left}
use Rattle.gl_fault.proofs.FirstLaws.{none_first, when_none, or_else_ok, bind_ok}
use Rattle.gl_printed.proofs.FlatAlike.{behind_chosen, faults_flat, finish_flat, flatten_is}
use Rattle.gl_printed.proofs.FlatClashes.{all_differ_flat}
use Rattle.gl_flat.specs.Steps.{flat_with}
use Rattle.gl_flat.proofs.CountLaws.{devices_count}

-- no names clash among devices
abbrev NoClash : Flat → Type 0
NoClash flat = first_clash (map net (map top_net (codes "0" ∷ flat.rails ++ top_ports flat.top))) (flat_map bearers flat.devices) ≡ None

pub record IsGiven (flat : Flat) : Type 0 where
  pub few : length flat.devices ≤ DEVICES
  pub clash : NoClash flat

finished : (d : Deck) (rails : List (List ℕ)) (head : Option Head) (devices : List FlatDevice) (flat : Flat) → finish_flat d.title rails d.models d.passed head devices ≡ Ok flat
    → (flat_with d rails head devices ≡ flat) × (first_clash (map net (map top_net (codes "0" ∷ rails ++ top_ports head))) (flat_map bearers devices) ≡ None)
unfolding finish_flat
finished d rails head devices flat h =
    let f = flat_with d rails head devices in
    let names = flat_map bearers devices in
    let long = when (ltb TEXT (length (flat_text f))) (long_text (TEXT + 1)) in
    let lengths = first_some (map (λ b. when (ltb NAME (length (bearer_name b))) (long_flat_name (length (bearer_name b)))) names) in
    let clashes = first_clash (map (λ n. net (top_net n)) (codes "0" ∷ rails ++ top_ports head)) names in
    let a = bind_ok (or_else long f) (λ x. or_else lengths x >>= λ y. or_else clashes y) flat h in
    let b = or_else_ok long f a.0 a.1 in
    let c = bind_ok (or_else lengths a.0) (λ y. or_else clashes y) flat a.2 in
    let e = or_else_ok lengths a.0 c.0 c.1 in
    let g = or_else_ok clashes c.0 flat c.2 in
    (b.1 ∙ e.1 ∙ g.1, ap (λ ns. first_clash ns names) (map_map net top_net (codes "0" ∷ rails ++ top_ports head)) ∙ g.0)

-- as few devices as are counted, through any number of X cards
few_devices : (depth : ℕ) (rails : List (List ℕ)) (subs : List Sub) (cs : List Body) → first_some (faults_flat depth subs cs) ≡ None → length (flat_devices rails subs depth top_place cs) ≤ DEVICES
unfolding faults_flat
few_devices depth rails subs cs h =
    let devices = sum_by (size_of one_device (sizes one_device subs depth)) cs in
    let deep = when (not (is_none_left (at_depth subs cs depth))) (too_deep (DEPTH + 1)) in
    let many_cards = when (ltb CARDS (sum_by (size_of one (sizes one subs depth)) cs)) (too_many_cards (CARDS + 1)) in
    let many_devices = when (ltb DEVICES devices) (too_many_devices (DEVICES + 1)) in
    let a = none_first deep (many_cards ∷ many_devices ∷ []) h in
    let b = none_first many_cards (many_devices ∷ []) a.1 in
    let c = none_first many_devices [] b.1 in
    subst (λ n. n ≤ DEVICES) (sym (devices_count rails subs depth top_place cs)) (ltb-false DEVICES devices (when_none (ltb DEVICES devices) (too_many_devices (DEVICES + 1)) c.0))

pub given : (deck : Deck) (rails : List (List ℕ)) (top : Option (List ℕ)) (flat : Flat) → flatten deck rails top ≡ Ok flat → IsGiven flat
unfolding behind_chosen
given d rails top flat e =
    let a = bind_ok (chosen d top) (behind_chosen DEPTH d rails) flat (sym (flatten_is d rails top) ∙ e) in
    let c = a.0 in
    let b = bind_ok (or_else (first_some (faults_flat DEPTH d.subs c.1)) c) (λ x. finish_flat d.title rails d.models d.passed x.0 (flat_devices rails d.subs DEPTH top_place x.1)) flat a.2 in
    let o = or_else_ok (first_some (faults_flat DEPTH d.subs c.1)) c b.0 b.1 in
    let ds = flat_devices rails d.subs DEPTH top_place c.1 in
    let g : finish_flat d.title rails d.models d.passed c.0 ds ≡ Ok flat = subst (λ x. finish_flat d.title rails d.models d.passed x.0 (flat_devices rails d.subs DEPTH top_place x.1) ≡ Ok flat) (sym o.1) b.2 in
    let k = finished d rails c.0 ds flat g in
    subst IsGiven k.0 (record { few = few_devices DEPTH rails d.subs c.1 o.0; clash = k.1 })

-- the names of devices differ
pub devices_differ : (flat : Flat) → IsGiven flat → has_twice (map device_name flat.devices) ≡ false
devices_differ flat h = all_differ_flat (map top_net (codes "0" ∷ flat.rails ++ top_ports flat.top)) flat.devices h.clash
