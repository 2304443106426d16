-- Devices at the top whose names hold no dot: their names differ where those of the cards do.
use Rattle.std.proofs.Common.{◌≡◌, ℕ, zero, suc, List, [], ◌∷◌, ◌++◌, Bool, true, false, cond, Option, Some, None, refl, sym, ap, ◌∙◌, map, flat_map}
use Rattle.std.specs.Prelude.{◌||◌}
use Rattle.std.specs.List.{AllByRecursion}
use Rattle.std.proofs.lemmas.Bool.{or_parts}
use Rattle.std.proofs.lemmas.Grind.{flat_map-append}
use Rattle.gl_text.specs.LogicalLines.{same_text}
use Rattle.gl_text.specs.Cards.{Device, first_byte}
use Rattle.gl_text.specs.Decks.{Body, dev_at, call_at, Sub, find_sub, is_in, has_twice}
use Rattle.gl_text.specs.Flattening.{Net, FlatDevice, Place, Bearer, device, net, path_text, device_name, bearers, top_place, net_of, inside, devices_of, flat_devices}
use Rattle.gl_printed.specs.ReadDecks.{AllDiffer, body_name}
use Rattle.gl_printed.proofs.PickedCards.{each_flat}
use Rattle.gl_flat.specs.SeenNames.{has_dot, is_below, plain_names}
use Rattle.gl_flat.proofs.DotLaws.{or_true, device_dot}

-- ---- names without a dot, list by list

named_both : (b : Bool) (n : List ℕ) (xs ys zs : List (List ℕ)) → zs ≡ xs ++ ys → cond b zs (n ∷ zs) ≡ cond b xs (n ∷ xs) ++ ys
named_both true n xs ys zs e = e
named_both false n xs ys zs e = ap (λ t. n ∷ t) e

plain_both : (bs cs : List Bearer) → plain_names (bs ++ cs) ≡ plain_names bs ++ plain_names cs
plain_both [] cs = refl
plain_both (device n ∷ bs) cs = named_both (has_dot n) n (plain_names bs) (plain_names cs) (plain_names (bs ++ cs)) (plain_both bs cs)
plain_both (net m ∷ bs) cs = plain_both bs cs

nets_none : (ms : List Net) (bs : List Bearer) → plain_names (map net ms ++ bs) ≡ plain_names bs
nets_none [] bs = refl
nets_none (m ∷ ms) bs = nets_none ms bs

abbrev plain_of : List FlatDevice → List (List ℕ)
plain_of ds = plain_names (flat_map bearers ds)

plain_of_both : (ds es : List FlatDevice) → plain_of (ds ++ es) ≡ plain_of ds ++ plain_of es
plain_of_both ds es = ap plain_names (flat_map-append bearers ds es) ∙ plain_both (flat_map bearers ds) (flat_map bearers es)

-- ---- devices behind X cards

abbrev IsBehind : FlatDevice → Type 0
IsBehind d = is_below d.path ≡ true

dotted_by : (path : List (List ℕ)) (card : Device) (nets : List Net) → is_below path ≡ true → has_dot (device_name (record { path = path; card = card; nets = nets })) ≡ true
dotted_by [] card nets h = absurd cc
dotted_by (x ∷ xs) card nets h = device_dot (first_byte card.name) (path_text (x ∷ xs) ++ card.name)

none_plain : (ds : List FlatDevice) → AllByRecursion IsBehind ds → plain_of ds ≡ []
none_plain [] h = refl
none_plain (d ∷ ds) h =
    let rest = plain_names (map net d.nets ++ flat_map bearers ds) in
    ap (λ b. cond b rest (device_name d ∷ rest)) (dotted_by d.path d.card d.nets h.0) ∙ nets_none d.nets (flat_map bearers ds) ∙ none_plain ds h.1

below_more : (path : List (List ℕ)) (n : List ℕ) → is_below (path ++ n ∷ []) ≡ true
below_more [] n = refl
below_more (x ∷ xs) n = refl

abbrev GoesDown : (Place → List Body → List FlatDevice) → Type 0
GoesDown inner = (p : Place) (cs : List Body) → is_below p.path ≡ true → AllByRecursion IsBehind (inner p cs)

card_behind : (rails : List (List ℕ)) (subs : List Sub) (inner : Place → List Body → List FlatDevice) → GoesDown inner → (p : Place) (b : Body) → is_below p.path ≡ true → AllByRecursion IsBehind (devices_of rails subs inner p b)
card_behind rails subs inner g p (dev_at line d) h = (h, tt)
card_behind rails subs inner g p (call_at line c) h = by (find_sub subs c.sub) refl where
  by : (o : Option Sub) → find_sub subs c.sub ≡ o → AllByRecursion IsBehind (devices_of rails subs inner p (call_at line c))
  by None e = rw e tt
  by (Some t) e = rw e (g (inside rails p c t) t.cards (below_more p.path c.name))

every : (cs : List Body) (P : Body → Type 0) → ((b : Body) → P b) → AllByRecursion P cs
every [] P h = tt
every (c ∷ cs) P h = (h c, every cs P h)

devices_behind : (rails : List (List ℕ)) (subs : List Sub) (depth : ℕ) → GoesDown (flat_devices rails subs depth)
devices_behind rails subs zero p cs h =
    let f = devices_of rails subs (λ q c. []) p in
    each_flat IsBehind f cs (every cs (λ b. AllByRecursion IsBehind (f b)) (λ b. card_behind rails subs (λ q c. []) (λ q c i. tt) p b h))
devices_behind rails subs (suc depth) p cs h =
    let f = devices_of rails subs (flat_devices rails subs depth) p in
    each_flat IsBehind f cs (every cs (λ b. AllByRecursion IsBehind (f b)) (λ b. card_behind rails subs (flat_devices rails subs depth) (devices_behind rails subs depth) p b h))

-- ---- a card gives its own name, or none

data GivesName (xs : List (List ℕ)) (name : List ℕ) : Type 0 where
  no_name : xs ≡ [] → GivesName xs name
  own_name : xs ≡ name ∷ [] → GivesName xs name

one_by : (b : Bool) (d : Device) (ms : List Net) → has_dot d.name ≡ b → GivesName (plain_names (device d.name ∷ map net ms ++ [])) d.name
one_by true d ms e = no_name (ap (λ c. cond c (plain_names (map net ms ++ [])) (d.name ∷ plain_names (map net ms ++ []))) e ∙ nets_none ms [])
one_by false d ms e = own_name (ap (λ c. cond c (plain_names (map net ms ++ [])) (d.name ∷ plain_names (map net ms ++ []))) e ∙ ap (λ t. d.name ∷ t) (nets_none ms []))

card_gives : (rails : List (List ℕ)) (subs : List Sub) (inner : Place → List Body → List FlatDevice) → GoesDown inner → (b : Body) → GivesName (plain_of (devices_of rails subs inner top_place b)) (body_name b)
card_gives rails subs inner g (dev_at line d) = one_by (has_dot d.name) d (map (net_of rails top_place) d.nodes) refl
card_gives rails subs inner g (call_at line c) = by (find_sub subs c.sub) refl where
  by : (o : Option Sub) → find_sub subs c.sub ≡ o → GivesName (plain_of (devices_of rails subs inner top_place (call_at line c))) c.name
  by None e = rw e (no_name refl)
  by (Some t) e = rw e (no_name (none_plain (inner (inside rails top_place c t) t.cards) (g (inside rails top_place c t) t.cards refl)))

-- ---- all cards

in_by : (n name : List ℕ) (xs rest names : List (List ℕ)) → GivesName xs name → (is_in n rest ≡ true → is_in n names ≡ true) → is_in n (xs ++ rest) ≡ true → is_in n (name ∷ names) ≡ true
in_by n name xs rest names (no_name e) r h = ap (λ c. same_text n name || c) (r (sym (ap (λ t. is_in n (t ++ rest)) e) ∙ h)) ∙ or_true (same_text n name)
in_by n name xs rest names (own_name e) r h = by (same_text n name) (sym (ap (λ t. is_in n (t ++ rest)) e) ∙ h) where
  by : (b : Bool) → (b || is_in n rest) ≡ true → (b || is_in n names) ≡ true
  by true k = refl
  by false k = r k

in_names : (g : Body → List (List ℕ)) → ((b : Body) → GivesName (g b) (body_name b)) → (cs : List Body) (n : List ℕ) → is_in n (flat_map g cs) ≡ true → is_in n (map body_name cs) ≡ true
in_names g k [] n h = h
in_names g k (c ∷ cs) n h = in_by n (body_name c) (g c) (flat_map g cs) (map body_name cs) (k c) (in_names g k cs n) h

not_in : (b : Bool) (n : List ℕ) (rest names : List (List ℕ)) → is_in n rest ≡ b → (is_in n rest ≡ true → is_in n names ≡ true) → is_in n names ≡ false → is_in n rest ≡ false
not_in true n rest names e r h = let k : true ≡ false = sym (r e) ∙ h in absurd cc
not_in false n rest names e r h = e

differ_by : (name : List ℕ) (xs rest names : List (List ℕ)) → GivesName xs name → is_in name names ≡ false → (is_in name rest ≡ true → is_in name names ≡ true) → has_twice rest ≡ false → has_twice (xs ++ rest) ≡ false
differ_by name xs rest names (no_name e) f r h = ap (λ t. has_twice (t ++ rest)) e ∙ h
differ_by name xs rest names (own_name e) f r h =
    ap (λ t. has_twice (t ++ rest)) e ∙ ap (λ c. c || has_twice rest) (not_in (is_in name rest) name rest names refl r f) ∙ h

all_differ : (g : Body → List (List ℕ)) → ((b : Body) → GivesName (g b) (body_name b)) → (cs : List Body) → has_twice (map body_name cs) ≡ false → has_twice (flat_map g cs) ≡ false
all_differ g k [] h = refl
all_differ g k (c ∷ cs) h =
    let a = or_parts (is_in (body_name c) (map body_name cs)) (has_twice (map body_name cs)) h in
    differ_by (body_name c) (g c) (flat_map g cs) (map body_name cs) (k c) a.0 (in_names g k cs (body_name c)) (all_differ g k cs a.1)

plain_cards : (f : Body → List FlatDevice) (cs : List Body) → plain_of (flat_map f cs) ≡ flat_map (λ b. plain_of (f b)) cs
plain_cards f [] = refl
plain_cards f (c ∷ cs) = plain_of_both (f c) (flat_map f cs) ∙ ap (λ t. plain_of (f c) ++ t) (plain_cards f cs)

by_cards : (rails : List (List ℕ)) (subs : List Sub) (inner : Place → List Body → List FlatDevice) → GoesDown inner → (cs : List Body) → AllDiffer (map body_name cs) → AllDiffer (plain_of (flat_map (devices_of rails subs inner top_place) cs))
by_cards rails subs inner g cs h =
    let f = devices_of rails subs inner top_place in
    ap has_twice (plain_cards f cs) ∙ all_differ (λ b. plain_of (f b)) (card_gives rails subs inner g) cs h

-- the names without a dot of all devices of cards whose names differ
pub plain_differ : (rails : List (List ℕ)) (subs : List Sub) (depth : ℕ) (cs : List Body) → AllDiffer (map body_name cs) → AllDiffer (plain_names (flat_map bearers (flat_devices rails subs depth top_place cs)))
plain_differ rails subs zero cs h = by_cards rails subs (λ q c. []) (λ q c i. tt) cs h
plain_differ rails subs (suc depth) cs h = by_cards rails subs (flat_devices rails subs depth) (devices_behind rails subs depth) cs h
