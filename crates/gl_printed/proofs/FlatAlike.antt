-- Flattening sees no line numbers.
use Rattle.std.proofs.Common.{◌≡◌, ◌+◌, ℕ, zero, suc, List, [], ◌∷◌, ◌++◌, length, map, ltb, not, Option, Some, None, Result, Ok, Err, refl, sym, ap, ◌∙◌, subst, filter, find, flat_map, fold, option_map, codes, sum_by, unwrap_or, ◌↔◌}
use Rattle.gl_text.specs.LogicalLines.{NAME, Fault, long_flat_name, too_many_cards, too_many_devices, too_deep, no_top, top_devices, long_text, same_text}
use Rattle.gl_fault.specs.Refusals.{first_some, when, or_else, ◌>>=◌}
use Rattle.gl_text.specs.Cards.{Head, Model}
use Rattle.gl_text.specs.Decks.{Body, dev_at, call_at, Sub, Deck, is_in, find_sub, callees}
use Rattle.gl_text.specs.Flattening.{DEPTH, CARDS, DEVICES, TEXT, FlatDevice, Place, Flat, top_place, top_net, inside, devices_of, flat_devices, size_of, sizes, one, one_device, at_depth, net, bearers, bearer_name, first_clash, chosen, top_ports, is_none_left, line_of_body, flat_text, flatten}
use Rattle.gl_printed.specs.ReadDecks.{unnumbered_body, unnumbered_sub, unnumbered}
use Rattle.gl_printed.proofs.Renumbered.{all_callees_bare, callees_bare, filter_bare, find_bare}

-- ---- devices

abbrev Inner : Type 0
Inner = Place → List Body → List FlatDevice

device_bare : (rails : List (List ℕ)) (subs : List Sub) (f g : Inner) → ((p : Place) (cs : List Body) → f p (map unnumbered_body cs) ≡ g p cs) → (place : Place) (b : Body)
    → devices_of rails (map unnumbered_sub subs) f place (unnumbered_body b) ≡ devices_of rails subs g place b
device_bare rails subs f g h place (dev_at line d) = refl
device_bare rails subs f g h place (call_at line c) = by (find_sub subs c.sub) refl where
  by : (o : Option Sub) → find_sub subs c.sub ≡ o → devices_of rails (map unnumbered_sub subs) f place (call_at 0 c) ≡ devices_of rails subs g place (call_at line c)
  by None e = rw (find_bare subs c.sub, e) refl
  by (Some t) e = rw (find_bare subs c.sub, e) (h (inside rails place c t) t.cards)

cards_bare : (f g : Body → List FlatDevice) → ((b : Body) → f (unnumbered_body b) ≡ g b) → (cs : List Body) → flat_map f (map unnumbered_body cs) ≡ flat_map g cs
cards_bare f g h [] = refl
cards_bare f g h (b ∷ cs) = ap (λ xs. xs ++ flat_map f (map unnumbered_body cs)) (h b) ∙ ap (λ xs. g b ++ xs) (cards_bare f g h cs)

devices_bare : (rails : List (List ℕ)) (subs : List Sub) (depth : ℕ) (place : Place) (cs : List Body) → flat_devices rails (map unnumbered_sub subs) depth place (map unnumbered_body cs) ≡ flat_devices rails subs depth place cs
devices_bare rails subs zero place cs = cards_bare (devices_of rails (map unnumbered_sub subs) (λ p c. []) place) (devices_of rails subs (λ p c. []) place) (device_bare rails subs (λ p c. []) (λ p c. []) (λ p c. refl) place) cs
devices_bare rails subs (suc depth) place cs = cards_bare (devices_of rails (map unnumbered_sub subs) (flat_devices rails (map unnumbered_sub subs) depth) place) (devices_of rails subs (flat_devices rails subs depth) place)
    (device_bare rails subs (flat_devices rails (map unnumbered_sub subs) depth) (flat_devices rails subs depth) (devices_bare rails subs depth) place) cs

-- ---- counts

abbrev Blind : (Body → ℕ) → Type 0
Blind own = (b : Body) → own (unnumbered_body b) ≡ own b

below_of : List (List ℕ × ℕ) → List ℕ → ℕ
below_of below name = unwrap_or (option_map (λ (s : List ℕ × ℕ). s.1) (find (λ (s : List ℕ × ℕ). same_text s.0 name) below)) 0

size_bare : (own : Body → ℕ) → Blind own → (below : List (List ℕ × ℕ)) → Blind (size_of own below)
unfolding below_of
size_bare own h below (dev_at line d) = h (dev_at line d)
size_bare own h below (call_at line c) = ap (λ n. n + below_of below c.sub) (h (call_at line c))

sum_bare : (own : Body → ℕ) → Blind own → (a : ℕ) (cs : List Body) → fold (λ n b. n + own b) a (map unnumbered_body cs) ≡ fold (λ n b. n + own b) a cs
sum_bare own h a [] = refl
sum_bare own h a (b ∷ cs) = ap (λ n. fold (λ m x. m + own x) (a + n) (map unnumbered_body cs)) (h b) ∙ sum_bare own h (a + own b) cs

abbrev row : (Body → ℕ) → List (List ℕ × ℕ) → Sub → List ℕ × ℕ
row own below s = (s.head.name, sum_by (size_of own below) s.cards)

abbrev pair : List ℕ → ℕ → List ℕ × ℕ
pair name n = (name, n)

rows_bare : (own : Body → ℕ) → Blind own → (below : List (List ℕ × ℕ)) (ss : List Sub) → map (row own below) (map unnumbered_sub ss) ≡ map (row own below) ss
rows_bare own h below [] = refl
rows_bare own h below (s ∷ ss) = ap (λ n. pair s.head.name n ∷ map (row own below) (map unnumbered_sub ss)) (sum_bare (size_of own below) (size_bare own h below) 0 s.cards)
    ∙ ap (λ xs. row own below s ∷ xs) (rows_bare own h below ss)

sizes_bare : (own : Body → ℕ) → Blind own → (subs : List Sub) (depth : ℕ) → sizes own (map unnumbered_sub subs) depth ≡ sizes own subs depth
sizes_bare own h subs zero = refl
sizes_bare own h subs (suc depth) = ap (λ below. map (row own below) (map unnumbered_sub subs)) (sizes_bare own h subs depth) ∙ rows_bare own h (sizes own subs depth) subs

counts_bare : (own : Body → ℕ) → Blind own → (subs : List Sub) (depth : ℕ) (cs : List Body) → sum_by (size_of own (sizes own (map unnumbered_sub subs) depth)) (map unnumbered_body cs) ≡ sum_by (size_of own (sizes own subs depth)) cs
counts_bare own h subs depth cs = ap (λ below. sum_by (size_of own below) (map unnumbered_body cs)) (sizes_bare own h subs depth) ∙ sum_bare (size_of own (sizes own subs depth)) (size_bare own h (sizes own subs depth)) 0 cs

one_blind : Blind one
one_blind (dev_at line d) = refl
one_blind (call_at line c) = refl

device_blind : Blind one_device
device_blind (dev_at line d) = refl
device_blind (call_at line c) = refl

-- ---- depths

depth_bare : (subs : List Sub) (cs : List Body) (n : ℕ) → at_depth (map unnumbered_sub subs) (map unnumbered_body cs) n ≡ map unnumbered_sub (at_depth subs cs n)
depth_bare subs cs zero = ap (λ names. filter (λ (s : Sub). is_in s.head.name names) (map unnumbered_sub subs)) (callees_bare cs) ∙ filter_bare (callees cs) subs
depth_bare subs cs (suc n) =
    let above = at_depth subs cs n in
    ap (λ ss. filter (λ (s : Sub). is_in s.head.name (flat_map (λ (t : Sub). callees t.cards) ss)) (map unnumbered_sub subs)) (depth_bare subs cs n)
    ∙ ap (λ names. filter (λ (s : Sub). is_in s.head.name names) (map unnumbered_sub subs)) (all_callees_bare above) ∙ filter_bare (flat_map (λ (t : Sub). callees t.cards) above) subs

none_left_bare : (ss : List Sub) → is_none_left (map unnumbered_sub ss) ≡ is_none_left ss
none_left_bare [] = refl
none_left_bare (s ∷ ss) = refl

-- ---- the whole

-- what follows once the devices are known
unfoldable pub finish_flat : List ℕ → List (List ℕ) → List Model → List (List ℕ) → Option Head → List FlatDevice → Result Flat Fault
finish_flat title rails models passed head devices =
    let flat : Flat = record { title = title; rails = rails; models = models; top = head; devices = devices; passed = passed } in
    or_else (when (ltb TEXT (length (flat_text flat))) (long_text (TEXT + 1))) flat >>= λ flat.
    let names = flat_map bearers devices in
    or_else (first_some (map (λ b. when (ltb NAME (length (bearer_name b))) (long_flat_name (length (bearer_name b)))) names)) flat >>= λ flat.
    or_else (first_clash (map (λ n. net (top_net n)) (codes "0" ∷ rails ++ top_ports head)) names) flat

unfoldable pub faults_flat : ℕ → List Sub → List Body → List (Option Fault)
faults_flat depth subs cs = when (not (is_none_left (at_depth subs cs depth))) (too_deep (DEPTH + 1))
    ∷ when (ltb CARDS (sum_by (size_of one (sizes one subs depth)) cs)) (too_many_cards (CARDS + 1))
    ∷ when (ltb DEVICES (sum_by (size_of one_device (sizes one_device subs depth)) cs)) (too_many_devices (DEVICES + 1)) ∷ []

abbrev pub Chosen : Type 0
Chosen = Option Head × List Body

abbrev pub choice : Option Head → List Body → Chosen
choice head cs = (head, cs)

unfoldable pub behind_chosen : ℕ → Deck → List (List ℕ) → Chosen → Result Flat Fault
behind_chosen depth d rails c = or_else (first_some (faults_flat depth d.subs c.1)) c >>= λ x. finish_flat d.title rails d.models d.passed x.0 (flat_devices rails d.subs depth top_place x.1)

pub flatten_is : (d : Deck) (rails : List (List ℕ)) (top : Option (List ℕ)) → flatten d rails top ≡ (chosen d top >>= behind_chosen DEPTH d rails)
unfolding finish_flat faults_flat behind_chosen
flatten_is d rails top = refl

faults_bare : (depth : ℕ) (subs : List Sub) (cs : List Body) → faults_flat depth (map unnumbered_sub subs) (map unnumbered_body cs) ≡ faults_flat depth subs cs
unfolding faults_flat
faults_bare depth subs cs =
    let a = ap is_none_left (depth_bare subs cs depth) ∙ none_left_bare (at_depth subs cs depth) in
    let b = counts_bare one one_blind subs depth cs in
    let c = counts_bare one_device device_blind subs depth cs in
    rw (a, b, c) refl

behind_bare : (depth : ℕ) (d : Deck) (rails : List (List ℕ)) (head : Option Head) (cs : List Body) → behind_chosen depth (unnumbered d) rails (choice head (map unnumbered_body cs)) ≡ behind_chosen depth d rails (choice head cs)
unfolding behind_chosen
behind_bare depth d rails head cs = ap (λ os. or_else (first_some os) (choice head (map unnumbered_body cs)) >>= next) (faults_bare depth d.subs cs) ∙ by (first_some (faults_flat depth d.subs cs)) where
  next : Chosen → Result Flat Fault
  next x = finish_flat d.title rails d.models d.passed x.0 (flat_devices rails (map unnumbered_sub d.subs) depth top_place x.1)

  by : (o : Option Fault) → (or_else o (choice head (map unnumbered_body cs)) >>= next) ≡ (or_else o (choice head cs) >>= λ x. finish_flat d.title rails d.models d.passed x.0 (flat_devices rails d.subs depth top_place x.1))
  by None = ap (finish_flat d.title rails d.models d.passed head) (devices_bare rails d.subs depth top_place cs)
  by (Some f) = refl

-- ---- the chosen cards

unfoldable pub pick : List ℕ → Option Sub → List Body → Result Chosen Fault
pick name None top = Err (no_top name)
pick name (Some s) [] = Ok (choice (Some s.head) s.cards)
pick name (Some s) (card ∷ cards) = Err (top_devices (line_of_body card))

pub pick_is : (d : Deck) (name : List ℕ) → chosen d (Some name) ≡ pick name (find_sub d.subs name) d.top
unfolding pick
pick_is d name = refl

-- both come to the flat deck, or neither does
Both : Deck → List (List ℕ) → Flat → Result Chosen Fault → Result Chosen Fault → Type 0
Both d rails flat r s = ((r >>= behind_chosen DEPTH d rails) ≡ Ok flat) ↔ ((s >>= behind_chosen DEPTH (unnumbered d) rails) ≡ Ok flat)

ok_both : (d : Deck) (rails : List (List ℕ)) (flat : Flat) (head : Option Head) (cs : List Body) → Both d rails flat (Ok (choice head cs)) (Ok (choice head (map unnumbered_body cs)))
unfolding Both
ok_both d rails flat head cs = let e = behind_bare DEPTH d rails head cs in ((λ h. e ∙ h), (λ h. sym e ∙ h))

err_both : (d : Deck) (rails : List (List ℕ)) (flat : Flat) (f g : Fault) → Both d rails flat (Err f) (Err g)
unfolding Both
err_both d rails flat f g = ((λ h. absurd cc), (λ h. absurd cc))

pick_both : (d : Deck) (rails : List (List ℕ)) (flat : Flat) (name : List ℕ) (o : Option Sub) (top : List Body) → Both d rails flat (pick name o top) (pick name (option_map unnumbered_sub o) (map unnumbered_body top))
unfolding pick
pick_both d rails flat name None top = err_both d rails flat (no_top name) (no_top name)
pick_both d rails flat name (Some s) [] = ok_both d rails flat (Some s.head) s.cards
pick_both d rails flat name (Some s) (b ∷ bs) = err_both d rails flat (top_devices (line_of_body b)) (top_devices (line_of_body (unnumbered_body b)))

chosen_both : (d : Deck) (rails : List (List ℕ)) (flat : Flat) (top : Option (List ℕ)) → Both d rails flat (chosen d top) (chosen (unnumbered d) top)
chosen_both d rails flat None = ok_both d rails flat None d.top
chosen_both d rails flat (Some name) = subst (λ r. Both d rails flat r (chosen (unnumbered d) (Some name))) (sym (pick_is d name))
    (subst (λ r. Both d rails flat (pick name (find_sub d.subs name) d.top) r) (sym (pick_is (unnumbered d) name ∙ ap (λ o. pick name o (map unnumbered_body d.top)) (find_bare d.subs name)))
    (pick_both d rails flat name (find_sub d.subs name) d.top))

there : (d : Deck) (rails : List (List ℕ)) (top : Option (List ℕ)) (flat : Flat) → flatten d rails top ≡ Ok flat → flatten (unnumbered d) rails top ≡ Ok flat
unfolding Both
there d rails top flat h = flatten_is (unnumbered d) rails top ∙ (chosen_both d rails flat top).0 (sym (flatten_is d rails top) ∙ h)

back : (d : Deck) (rails : List (List ℕ)) (top : Option (List ℕ)) (flat : Flat) → flatten (unnumbered d) rails top ≡ Ok flat → flatten d rails top ≡ Ok flat
unfolding Both
back d rails top flat h = flatten_is d rails top ∙ (chosen_both d rails flat top).1 (sym (flatten_is (unnumbered d) rails top) ∙ h)

-- decks that are the same, line numbers aside, flatten alike
pub alike : (d e : Deck) (rails : List (List ℕ)) (top : Option (List ℕ)) (flat : Flat) → unnumbered d ≡ unnumbered e → flatten d rails top ≡ Ok flat → flatten e rails top ≡ Ok flat
alike d e rails top flat s h = back e rails top flat (subst (λ x. flatten x rails top ≡ Ok flat) s (there d rails top flat h))
