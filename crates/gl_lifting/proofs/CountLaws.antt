-- The flat devices of cards are as many as are counted; a flat deck has no more than it may.
use Rattle.std.proofs.Common.{◌≡◌, ◌≤◌, ◌∙◌, ◌+◌, ℕ, zero, suc, List, [], ◌∷◌, ◌++◌, length, map, ltb, Bool, true, false, Option, Some, None, Ok, codes, refl, sym, ap, subst, arith, length-append}
use Rattle.std.specs.Prelude.{find, flat_map, sum_by, not}
use Rattle.std.specs.Option.{unwrap_or, option_map}
use Rattle.std.proofs.lemmas.Bool.{ltb-false}
use Rattle.std.proofs.lemmas.List.Sums.{sum_by-cons}
use Rattle.gl_text.specs.LogicalLines.{NAME, too_deep, too_many_cards, too_many_devices, long_text, long_flat_name, same_text}
use Rattle.gl_text.specs.Cards.{Head, Model}
use Rattle.gl_text.specs.Decks.{Body, dev_at, call_at, Sub, Deck, find_sub}
use Rattle.gl_text.specs.Flattening.{DEPTH, CARDS, DEVICES, TEXT, net, top_net, bearers, bearer_name, first_clash, top_ports, flat_text, FlatDevice, Place, Flat, top_place, inside, devices_of, flat_devices, size_of, sizes, one, one_device, at_depth, is_none_left, chosen, flatten}
use Rattle.gl_printed.proofs.FlatAlike.{behind_chosen, faults_flat, finish_flat, flatten_is}
use Rattle.gl_fault.specs.Refusals.{first_some, when, or_else, ◌>>=◌}
use Rattle.gl_fault.proofs.FirstLaws.{none_first, when_none, or_else_ok, bind_ok}

-- what a subcircuit's row says of a name is what the subcircuit of the name counts
pub size_found : (own : Body → ℕ) (below : List (List ℕ × ℕ)) (subs : List Sub) (name : List ℕ)
    → option_map (λ (s : List ℕ × ℕ). s.1) (find (λ (s : List ℕ × ℕ). same_text s.0 name) (map (λ (s : Sub). (s.head.name, sum_by (size_of own below) s.cards)) subs)) ≡ option_map (λ (s : Sub). sum_by (size_of own below) s.cards) (find_sub subs name)
size_found own below [] name = refl
size_found own below (s ∷ ss) name = by (same_text s.head.name name) refl (size_found own below ss name) where
  row : Sub → List ℕ × ℕ
  row t = (t.head.name, sum_by (size_of own below) t.cards)

  by : (b : Bool) → same_text s.head.name name ≡ b → option_map (λ (s : List ℕ × ℕ). s.1) (find (λ (s : List ℕ × ℕ). same_text s.0 name) (map (λ (s : Sub). (s.head.name, sum_by (size_of own below) s.cards)) ss)) ≡ option_map (λ (s : Sub). sum_by (size_of own below) s.cards) (find_sub ss name)
      → option_map (λ (s : List ℕ × ℕ). s.1) (find (λ (s : List ℕ × ℕ). same_text s.0 name) (map (λ (s : Sub). (s.head.name, sum_by (size_of own below) s.cards)) (s ∷ ss))) ≡ option_map (λ (s : Sub). sum_by (size_of own below) s.cards) (find_sub (s ∷ ss) name)
  by true e later = rw e refl
  by false e later = rw e later

-- one card
pub card_counts : (rails : List (List ℕ)) (subs : List Sub) (f : Place → List Body → List FlatDevice) (n : ℕ) → ((p : Place) (bs : List Body) → length (f p bs) ≡ sum_by (size_of one_device (sizes one_device subs n)) bs)
    → (place : Place) (b : Body) → length (devices_of rails subs f place b) ≡ size_of one_device (sizes one_device subs (suc n)) b
card_counts rails subs f n inner place (dev_at line d) = refl
card_counts rails subs f n inner place (call_at line c) = by (find_sub subs c.sub) refl where
  by : (o : Option Sub) → find_sub subs c.sub ≡ o → length (devices_of rails subs f place (call_at line c)) ≡ size_of one_device (sizes one_device subs (suc n)) (call_at line c)
  by None e =
      let counted : unwrap_or (option_map (λ (s : List ℕ × ℕ). s.1) (find (λ (s : List ℕ × ℕ). same_text s.0 c.sub) (sizes one_device subs (suc n)))) 0 ≡ 0 = ap (λ x. unwrap_or x 0) (size_found one_device (sizes one_device subs n) subs c.sub ∙ ap (option_map (λ (s : Sub). sum_by (size_of one_device (sizes one_device subs n)) s.cards)) e) in
      rw e (omega (arith, counted))
  by (Some t) e =
      let counted : unwrap_or (option_map (λ (s : List ℕ × ℕ). s.1) (find (λ (s : List ℕ × ℕ). same_text s.0 c.sub) (sizes one_device subs (suc n)))) 0 ≡ sum_by (size_of one_device (sizes one_device subs n)) t.cards = ap (λ x. unwrap_or x 0) (size_found one_device (sizes one_device subs n) subs c.sub ∙ ap (option_map (λ (s : Sub). sum_by (size_of one_device (sizes one_device subs n)) s.cards)) e) in
      rw e (omega (arith, counted, inner (inside rails place c t) t.cards))

-- cards
cards_count : (f : Body → List FlatDevice) (g : Body → ℕ) → ((b : Body) → length (f b) ≡ g b) → (bs : List Body) → length (flat_map f bs) ≡ sum_by g bs
cards_count f g h [] = refl
cards_count f g h (b ∷ bs) = omega (arith, length-append (f b) (flat_map f bs), h b, cards_count f g h bs, sum_by-cons g b bs)

-- where nothing is below, only devices count
card_alone : (rails : List (List ℕ)) (subs : List Sub) (place : Place) (b : Body) → length (devices_of rails subs (λ p c. []) place b) ≡ size_of one_device (sizes one_device subs zero) b
card_alone rails subs place (dev_at line d) = refl
card_alone rails subs place (call_at line c) = by (find_sub subs c.sub) refl where
  by : (o : Option Sub) → find_sub subs c.sub ≡ o → length (devices_of rails subs (λ p c. []) place (call_at line c)) ≡ 0
  by None e = rw e refl
  by (Some t) e = rw e refl

-- the flat devices of cards, through at most so many X cards
pub devices_count : (rails : List (List ℕ)) (subs : List Sub) (n : ℕ) (place : Place) (bs : List Body) → length (flat_devices rails subs n place bs) ≡ sum_by (size_of one_device (sizes one_device subs n)) bs
devices_count rails subs zero place bs = cards_count (devices_of rails subs (λ p c. []) place) (size_of one_device (sizes one_device subs zero)) (card_alone rails subs place) bs
devices_count rails subs (suc n) place bs = cards_count (devices_of rails subs (flat_devices rails subs n) place) (size_of one_device (sizes one_device subs (suc n))) (card_counts rails subs (flat_devices rails subs n) n (devices_count rails subs n) place) bs

-- ---- a flat deck

-- what follows the choice of cards leaves no more devices than there may be
behind_few : (d : Deck) (rails : List (List ℕ)) (c : Option Head × List Body) (flat : Flat) → behind_chosen DEPTH d rails c ≡ Ok flat → sum_by (size_of one_device (sizes one_device d.subs DEPTH)) c.1 ≤ DEVICES
unfolding behind_chosen faults_flat
behind_few d rails c flat h =
    let b = bind_ok (or_else (first_some (faults_flat DEPTH d.subs c.1)) c) (λ x. finish_flat d.title rails d.models d.passed x.0 (flat_devices rails d.subs DEPTH top_place x.1)) flat h in
    let none = (or_else_ok (first_some (faults_flat DEPTH d.subs c.1)) c b.0 b.1).0 in
    let deep = none_first (when (not (is_none_left (at_depth d.subs c.1 DEPTH))) (too_deep (DEPTH + 1))) _ none in
    let cards = none_first (when (ltb CARDS (sum_by (size_of one (sizes one d.subs DEPTH)) c.1)) (too_many_cards (CARDS + 1))) _ deep.1 in
    let devices = none_first (when (ltb DEVICES (sum_by (size_of one_device (sizes one_device d.subs DEPTH)) c.1)) (too_many_devices (DEVICES + 1))) [] cards.1 in
    ltb-false DEVICES (sum_by (size_of one_device (sizes one_device d.subs DEPTH)) c.1) (when_none (ltb DEVICES (sum_by (size_of one_device (sizes one_device d.subs DEPTH)) c.1)) (too_many_devices (DEVICES + 1)) devices.0)

-- what a flat deck is flattened from: its top's head and the cards, of which there are not too many
pub record IsFlatOf (d : Deck) (rails : List (List ℕ)) (top : Option (List ℕ)) (flat : Flat) : Type 0 where
  pub head : Option Head
  pub cards : List Body
  pub chosen_is : chosen d top ≡ Ok (head, cards)
  pub flat_is : record { title = d.title; rails = rails; models = d.models; top = head; devices = flat_devices rails d.subs DEPTH top_place cards; passed = d.passed } ≡ flat
  pub few : sum_by (size_of one_device (sizes one_device d.subs DEPTH)) cards ≤ DEVICES

-- what is finished is the flat deck of the devices
finished_is : (title : List ℕ) (rails : List (List ℕ)) (models : List Model) (passed : List (List ℕ)) (head : Option Head) (devices : List FlatDevice) (flat : Flat) → finish_flat title rails models passed head devices ≡ Ok flat
    → record { title = title; rails = rails; models = models; top = head; devices = devices; passed = passed } ≡ flat
unfolding finish_flat
finished_is title rails models passed head devices flat h =
    let f : Flat = record { title = title; rails = rails; models = models; top = head; devices = devices; passed = passed } in
    let names = flat_map bearers devices in
    let long = when (ltb TEXT (length (flat_text f))) (long_text (TEXT + 1)) in
    let lengths = first_some (map (λ b. when (ltb NAME (length (bearer_name b))) (long_flat_name (length (bearer_name b)))) names) in
    let clashes = first_clash (map (λ n. net (top_net n)) (codes "0" ∷ rails ++ top_ports head)) names in
    let a = bind_ok (or_else long f) (λ x. or_else lengths x >>= λ y. or_else clashes y) flat h in
    let b = or_else_ok long f a.0 a.1 in
    let c = bind_ok (or_else lengths a.0) (λ y. or_else clashes y) flat a.2 in
    let e = or_else_ok lengths a.0 c.0 c.1 in
    b.1 ∙ e.1 ∙ (or_else_ok clashes c.0 flat c.2).1

-- of whatever is flattened
pub flat_of_deck : (d : Deck) (rails : List (List ℕ)) (top : Option (List ℕ)) (flat : Flat) → flatten d rails top ≡ Ok flat → IsFlatOf d rails top flat
unfolding behind_chosen
flat_of_deck d rails top flat h =
    let a = bind_ok (chosen d top) (behind_chosen DEPTH d rails) flat (sym (flatten_is d rails top) ∙ h) in
    let c = a.0 in
    let b = bind_ok (or_else (first_some (faults_flat DEPTH d.subs c.1)) c) (λ x. finish_flat d.title rails d.models d.passed x.0 (flat_devices rails d.subs DEPTH top_place x.1)) flat a.2 in
    let same = (or_else_ok (first_some (faults_flat DEPTH d.subs c.1)) c b.0 b.1).1 in
    record {
      head = c.0;
      cards = c.1;
      chosen_is = a.1;
      flat_is = finished_is d.title rails d.models d.passed c.0 (flat_devices rails d.subs DEPTH top_place c.1) flat (subst (λ x. finish_flat d.title rails d.models d.passed x.0 (flat_devices rails d.subs DEPTH top_place x.1) ≡ Ok flat) (sym same) b.2);
      few = behind_few d rails c flat a.2;
    }

-- a flat deck has no more devices than it may
pub flat_few : (d : Deck) (rails : List (List ℕ)) (top : Option (List ℕ)) (flat : Flat) → flatten d rails top ≡ Ok flat → length flat.devices ≤ DEVICES
flat_few d rails top flat h =
    let f = flat_of_deck d rails top flat h in
    subst (λ (x : Flat). length x.devices ≤ DEVICES) f.flat_is (subst (λ n. n ≤ DEVICES) (sym (devices_count rails d.subs DEPTH top_place f.cards)) f.few)
