-- A deck is flattened, where nothing refuses it.
use Rattle.std.proofs.Common.{◌≡◌, ◌≤◌, ◌∙◌, ℕ, List, [], ◌∷◌, ◌++◌, length, map, ltb, true, Option, None, Ok, codes, refl, ap}
use Rattle.std.specs.Prelude.{flat_map, sum_by}
use Rattle.std.specs.List.{AllByRecursion}
use Rattle.std.proofs.lemmas.Bool.{le-ltb}
use Rattle.gl_text.specs.LogicalLines.{NAME, long_flat_name}
use Rattle.gl_text.specs.Cards.{Head, Model}
use Rattle.gl_text.specs.Decks.{Body, Deck}
use Rattle.gl_text.specs.Flattening.{DEPTH, CARDS, DEVICES, TEXT, FlatDevice, Flat, Bearer, net, top_net, top_place, top_ports, bearers, bearer_name, first_clash, flat_devices, size_of, sizes, one, one_device, at_depth, is_none_left, chosen, flat_text, flatten}
use Rattle.gl_printed.proofs.FlatAlike.{behind_chosen, faults_flat, finish_flat, flatten_is, choice}
use Rattle.gl_fault.specs.Refusals.{first_some, when, ◌>>=◌}

-- no name is too long
none_long : (bs : List Bearer) → AllByRecursion (λ b. length (bearer_name b) ≤ NAME) bs → first_some (map (λ b. when (ltb NAME (length (bearer_name b))) (long_flat_name (length (bearer_name b)))) bs) ≡ None
none_long [] h = refl
none_long (b ∷ bs) h = rw (le-ltb NAME (length (bearer_name b)) h.0) (none_long bs h.1)

-- what is finished
finished : (title : List ℕ) (rails : List (List ℕ)) (models : List Model) (passed : List (List ℕ)) (head : Option Head) (devices : List FlatDevice)
    → length (flat_text (record { title = title; rails = rails; models = models; top = head; devices = devices; passed = passed })) ≤ TEXT → AllByRecursion (λ b. length (bearer_name b) ≤ NAME) (flat_map bearers devices)
    → first_clash (map (λ n. net (top_net n)) (codes "0" ∷ rails ++ top_ports head)) (flat_map bearers devices) ≡ None
    → finish_flat title rails models passed head devices ≡ Ok (record { title = title; rails = rails; models = models; top = head; devices = devices; passed = passed })
unfolding finish_flat
finished title rails models passed head devices text short clash =
    let f : Flat = record { title = title; rails = rails; models = models; top = head; devices = devices; passed = passed } in
    rw (le-ltb TEXT (length (flat_text f)) text, none_long (flat_map bearers devices) short, clash) refl

-- what follows the choice of cards, at every depth
behind : (depth : ℕ) (d : Deck) (rails : List (List ℕ)) (head : Option Head) (cs : List Body) → is_none_left (at_depth d.subs cs depth) ≡ true → sum_by (size_of one (sizes one d.subs depth)) cs ≤ CARDS → sum_by (size_of one_device (sizes one_device d.subs depth)) cs ≤ DEVICES
    → behind_chosen depth d rails (choice head cs) ≡ finish_flat d.title rails d.models d.passed head (flat_devices rails d.subs depth top_place cs)
unfolding behind_chosen faults_flat
behind depth d rails head cs deep cards devices =
    rw (deep, le-ltb CARDS (sum_by (size_of one (sizes one d.subs depth)) cs) cards, le-ltb DEVICES (sum_by (size_of one_device (sizes one_device d.subs depth)) cs) devices) refl

-- the whole
pub flattened : (d : Deck) (rails : List (List ℕ)) (top : Option (List ℕ)) (head : Option Head) (cs : List Body) → chosen d top ≡ Ok (head, cs) → is_none_left (at_depth d.subs cs DEPTH) ≡ true → sum_by (size_of one (sizes one d.subs DEPTH)) cs ≤ CARDS → sum_by (size_of one_device (sizes one_device d.subs DEPTH)) cs ≤ DEVICES
    → length (flat_text (record { title = d.title; rails = rails; models = d.models; top = head; devices = flat_devices rails d.subs DEPTH top_place cs; passed = d.passed })) ≤ TEXT
    → AllByRecursion (λ b. length (bearer_name b) ≤ NAME) (flat_map bearers (flat_devices rails d.subs DEPTH top_place cs))
    → first_clash (map (λ n. net (top_net n)) (codes "0" ∷ rails ++ top_ports head)) (flat_map bearers (flat_devices rails d.subs DEPTH top_place cs)) ≡ None
    → flatten d rails top ≡ Ok (record { title = d.title; rails = rails; models = d.models; top = head; devices = flat_devices rails d.subs DEPTH top_place cs; passed = d.passed })
flattened d rails top head cs chosen_is deep cards devices text short clash =
    flatten_is d rails top ∙ ap (λ r. r >>= behind_chosen DEPTH d rails) chosen_is ∙ behind DEPTH d rails head cs deep cards devices ∙ finished d.title rails d.models d.passed head (flat_devices rails d.subs DEPTH top_place cs) text short clash
