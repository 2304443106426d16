-- Names of nets that are seen one after the other, and their numbers.
use Rattle.std.proofs.Common.{◌≡◌, ◌<◌, ◌≤◌, ◌+◌, ◌^◌, ℕ, suc, List, [], ◌∷◌, ◌++◌, length, take, drop, get_or, Bool, true, false, not, cond, Option, Some, None, Result, Ok, Err, refl, sym, ap, ◌∙◌, subst, map, flat_map, arith}
use Rattle.std.specs.Prelude.{◌||◌, is_some}
use Rattle.std.specs.List.{list_any, position_or_len, AllByRecursion}
use Rattle.std.specs.Map.{lookup}
use Rattle.std.specs.Cmp.Lexicographic.{nat_list_eq_equiv}
use Rattle.std.proofs.lemmas.Grind.{flat_map-append}
use Rattle.std.proofs.lemmas.List.{take_more, take-append-drop, map-append, length-append, length-map}
use Rattle.std.proofs.lemmas.List.Folds.{list_any-append}
use Rattle.std.proofs.lemmas.List.Sums.{fold-append}
use Rattle.indexmap.specs.IndexMap.{insert_entry}
use Rattle.indexmap.specs.IndexSet.{insert_key, insert_all}
use Rattle.gl_text.specs.LogicalLines.{Fault, name_clash, same_text}
use Rattle.gl_fault.specs.Refusals.{◌>>=◌}
use Rattle.gl_text.specs.Decks.{is_in, once}
use Rattle.gl_text.specs.Flattening.{Net, FlatDevice, device, net, net_name, device_name, bearers}
use Rattle.gl_printed.proofs.Each.{each_left, each_right}
use Rattle.gl_deck.proofs.GlobalLaws.{all_keys, keys_once}
use Rattle.gl_base.specs.BaseCircuit.{net_number}
use Rattle.gl_flat.specs.Kept.{KeptDevice, kept}
use Rattle.gl_flat.specs.SeenNames.{Seen, nothing_seen, has_dot, net_names, same_net, takes_top_name, with_device, with_net, seen_with, seen_all}
use Rattle.gl_flat.proofs.ClashLaws.{none_here, inserted_by, key_by}
use Rattle.gl_flat.proofs.NumberLaws.{one_more}
use Rattle.gl_flat.proofs.SeenLaws.{seen_both, flat_more}

-- ---- the names that a table has

abbrev key : List ℕ × Net → List ℕ
key e = e.0

has_by : (b : Bool) (n : List ℕ) (v : Net) (es : List (List ℕ × Net)) (o : Option Net) → cond b (Some v) (lookup (same_text n) es) ≡ o → (lookup (same_text n) es ≡ o → is_in n (map key es) ≡ is_some o) → (b || is_in n (map key es)) ≡ is_some o
has_by true n v es o h r = ap is_some h
has_by false n v es o h r = r h

lookup_has : (n : List ℕ) (es : List (List ℕ × Net)) (o : Option Net) → lookup (same_text n) es ≡ o → is_in n (map key es) ≡ is_some o
lookup_has n [] o h = ap is_some h
lookup_has n (e ∷ es) o h = has_by (same_text n e.0) n e.1 es o h (lookup_has n es o)

keys_new : (n : List ℕ) (v : Net) (es : List (List ℕ × Net)) → lookup (same_text n) es ≡ None → map key (insert_entry same_text es n v) ≡ map key es ++ n ∷ []
keys_new n v [] h = refl
keys_new n v (e ∷ es) h =
    let a = none_here n e es (same_text n e.0) h in
    ap (map key) (inserted_by n e.0 v e.1 es (same_text n e.0) a.0) ∙ ap (λ t. e.0 ∷ t) (keys_new n v es a.1)

key_there : (n : List ℕ) (ks : List (List ℕ)) (b : Bool) → b ≡ true → cond b ks (ks ++ n ∷ []) ≡ ks
key_there n ks true e = refl
key_there n ks false e = absurd cc

-- ---- a name more

abbrev fits : Seen → Result Seen Fault
fits s = Ok s

fits_same : (s u : Seen) → fits s ≡ fits u → s ≡ u
fits_same s u e = cc

one_ok : (r : Result Seen Fault) (u : Seen) → (r >>= λ t. Ok t) ≡ Ok u → r ≡ Ok u
one_ok (Ok t) u e = e
one_ok (Err f) u e = absurd cc

new_by : (b : Bool) (s u : Seen) (m : Net) → lookup (same_text (net_name m)) s.nets ≡ None → cond b (Err (name_clash (net_name m))) (Ok (record s { nets = insert_entry same_text s.nets (net_name m) m })) ≡ Ok u
    → net_names u ≡ insert_key same_text (net_names s) (net_name m)
new_by true s u m h e = absurd cc
new_by false s u m h e =
    ap net_names (sym (fits_same (record s { nets = insert_entry same_text s.nets (net_name m) m }) u e)) ∙ keys_new (net_name m) m s.nets h
    ∙ sym (key_by (net_name m) (net_names s) (is_in (net_name m) (net_names s)) (lookup_has (net_name m) s.nets None h))

known_by : (b : Bool) (s u : Seen) (m k : Net) → lookup (same_text (net_name m)) s.nets ≡ Some k → cond b (Ok s) (Err (name_clash (net_name m))) ≡ Ok u → net_names u ≡ insert_key same_text (net_names s) (net_name m)
known_by true s u m k h e = ap net_names (sym (fits_same s u e)) ∙ sym (key_there (net_name m) (net_names s) (is_in (net_name m) (net_names s)) (lookup_has (net_name m) s.nets (Some k) h))
known_by false s u m k h e = absurd cc

named_by : (o : Option Net) (s u : Seen) (m : Net) → lookup (same_text (net_name m)) s.nets ≡ o → with_net s m o ≡ Ok u → net_names u ≡ insert_key same_text (net_names s) (net_name m)
named_by None s u m h e = new_by (takes_top_name s m) s u m h e
named_by (Some k) s u m h e = known_by (same_net m k) s u m k h e

-- a net adds its flat name
pub net_named : (s u : Seen) (m : Net) → seen_all s (net m ∷ []) ≡ Ok u → net_names u ≡ insert_key same_text (net_names s) (net_name m)
net_named s u m e = named_by (lookup (same_text (net_name m)) s.nets) s u m refl (one_ok (seen_with s (net m)) u e)

device_by : (b : Bool) (s u : Seen) (n : List ℕ) → cond b (Err (name_clash n)) (Ok (record s { devices = insert_key same_text s.devices n })) ≡ Ok u → net_names u ≡ net_names s
device_by true s u n e = absurd cc
device_by false s u n e = ap net_names (sym (fits_same (record s { devices = insert_key same_text s.devices n }) u e))

plain_or_by : (b : Bool) (s u : Seen) (n : List ℕ) → cond b (with_device s n) (Ok s) ≡ Ok u → net_names u ≡ net_names s
plain_or_by true s u n e = device_by (is_in n s.devices) s u n e
plain_or_by false s u n e = ap net_names (sym (fits_same s u e))

-- a device adds none
pub device_named : (s u : Seen) (n : List ℕ) → seen_all s (device n ∷ []) ≡ Ok u → net_names u ≡ net_names s
device_named s u n e = plain_or_by (has_dot n) s u n (one_ok (seen_with s (device n)) u e)

nets_by : (r : Result Seen Fault) (s u : Seen) (m : Net) (ms : List Net) → seen_with s (net m) ≡ r → (r >>= λ t. seen_all t (map net ms)) ≡ Ok u → ((t : Seen) → seen_all t (map net ms) ≡ Ok u → net_names u ≡ insert_all same_text (net_names t) (map net_name ms))
    → net_names u ≡ insert_all same_text (net_names s) (map net_name (m ∷ ms))
nets_by (Ok t) s u m ms f e r = r t e ∙ ap (λ ks. insert_all same_text ks (map net_name ms)) (net_named s t m (ap (λ x. x >>= fits) f))
nets_by (Err g) s u m ms f e r = absurd cc

pub nets_named : (ms : List Net) (s u : Seen) → seen_all s (map net ms) ≡ Ok u → net_names u ≡ insert_all same_text (net_names s) (map net_name ms)
nets_named [] s u e = ap net_names (sym (fits_same s u e))
nets_named (m ∷ ms) s u e = nets_by (seen_with s (net m)) s u m ms refl e (λ t. nets_named ms t u)

bearers_by : (r : Result Seen Fault) (s u : Seen) (d : FlatDevice) → seen_with s (device (device_name d)) ≡ r → (r >>= λ t. seen_all t (map net d.nets)) ≡ Ok u → net_names u ≡ insert_all same_text (net_names s) (map net_name d.nets)
bearers_by (Ok t) s u d f e = nets_named d.nets t u e ∙ ap (λ ks. insert_all same_text ks (map net_name d.nets)) (device_named s t (device_name d) (ap (λ x. x >>= fits) f))
bearers_by (Err g) s u d f e = absurd cc

pub bearers_named : (d : FlatDevice) (s u : Seen) → seen_all s (bearers d) ≡ Ok u → net_names u ≡ insert_all same_text (net_names s) (map net_name d.nets)
bearers_named d s u e = bearers_by (seen_with s (device (device_name d))) s u d refl e

abbrev names : FlatDevice → List (List ℕ)
names d = map net_name d.nets

both_ok : (r : Result Seen Fault) (k : Seen → Result Seen Fault) (u : Seen) → (r >>= k) ≡ Ok u → (t : Seen) × (r ≡ Ok t) × (k t ≡ Ok u)
both_ok (Ok t) k u e = (t, refl, e)
both_ok (Err f) k u e = absurd cc

pub devices_named : (ds : List FlatDevice) (s u : Seen) → seen_all s (flat_map bearers ds) ≡ Ok u → net_names u ≡ insert_all same_text (net_names s) (flat_map names ds)
devices_named [] s u e = ap net_names (sym (fits_same s u e))
devices_named (d ∷ ds) s u e =
    let h = both_ok (seen_all s (bearers d)) (λ v. seen_all v (flat_map bearers ds)) u (sym (seen_both s (bearers d) (flat_map bearers ds)) ∙ e) in
    devices_named ds h.0 u h.2 ∙ ap (λ ks. insert_all same_text ks (flat_map names ds)) (bearers_named d s h.0 h.1) ∙ sym (fold-append (insert_key same_text) (net_names s) (names d) (flat_map names ds))

-- ---- numbers stay

in_by : (b : Bool) (n x : List ℕ) (ks : List (List ℕ)) → is_in n ks ≡ true → is_in n (cond b ks (ks ++ x ∷ [])) ≡ true
in_by true n x ks h = h
in_by false n x ks h = list_any-append (same_text n) ks (x ∷ []) ∙ ap (λ c. c || (same_text n x || false)) h

in_more : (n x : List ℕ) (ks : List (List ℕ)) → is_in n ks ≡ true → is_in n (insert_key same_text ks x) ≡ true
in_more n x ks h = in_by (is_in x ks) n x ks h

in_all : (xs : List (List ℕ)) (n : List ℕ) (ks : List (List ℕ)) → is_in n ks ≡ true → is_in n (insert_all same_text ks xs) ≡ true
in_all [] n ks h = h
in_all (x ∷ xs) n ks h = in_all xs n (insert_key same_text ks x) (in_more n x ks h)

or_true : (a : Bool) → (a || (true || false)) ≡ true
or_true true = refl
or_true false = refl

new_in : (b : Bool) (n : List ℕ) (ks : List (List ℕ)) → is_in n ks ≡ b → is_in n (cond b ks (ks ++ n ∷ [])) ≡ true
new_in true n ks e = e
new_in false n ks e = list_any-append (same_text n) ks (n ∷ []) ∙ ap (λ c. is_in n ks || (c || false)) (nat_list_eq_equiv.refl n) ∙ or_true (is_in n ks)

pub there : (n : List ℕ) (ks : List (List ℕ)) → is_in n (insert_key same_text ks n) ≡ true
there n ks = new_in (is_in n ks) n ks refl

all_in : (ns ks : List (List ℕ)) → AllByRecursion (λ n. is_in n (insert_all same_text ks ns) ≡ true) ns
all_in [] ks = tt
all_in (n ∷ ns) ks = (in_all ns n (insert_key same_text ks n) (there n ks), all_in ns (insert_key same_text ks n))

stays_by : (b : Bool) (p : List ℕ → Bool) (ks ms : List (List ℕ)) → (b || list_any p ks) ≡ true → (list_any p ks ≡ true → position_or_len p (ks ++ ms) ≡ position_or_len p ks)
    → cond (not b) (1 + position_or_len p (ks ++ ms)) 0 ≡ cond (not b) (1 + position_or_len p ks) 0
stays_by true p ks ms h r = refl
stays_by false p ks ms h r = ap (λ i. 1 + i) (r h)

position_stays : (p : List ℕ → Bool) (ks ms : List (List ℕ)) → list_any p ks ≡ true → position_or_len p (ks ++ ms) ≡ position_or_len p ks
position_stays p [] ms h = absurd cc
position_stays p (k ∷ ks) ms h = stays_by (p k) p ks ms h (position_stays p ks ms)

below_by : (b : Bool) (p : List ℕ → Bool) (ks : List (List ℕ)) → (b || list_any p ks) ≡ true → (list_any p ks ≡ true → position_or_len p ks < length ks) → cond (not b) (1 + position_or_len p ks) 0 < suc (length ks)
below_by true p ks h r = omega arith
below_by false p ks h r = let l = r h in omega (arith, l)

position_below : (p : List ℕ → Bool) (ks : List (List ℕ)) → list_any p ks ≡ true → position_or_len p ks < length ks
position_below p [] h = absurd cc
position_below p (k ∷ ks) h = below_by (p k) p ks h (position_below p ks)

number_by : (b : Bool) (n x : List ℕ) (ks : List (List ℕ)) → is_in n ks ≡ true → net_number (cond b ks (ks ++ x ∷ [])) n ≡ net_number ks n
number_by true n x ks h = refl
number_by false n x ks h = position_stays (same_text n) ks (x ∷ []) h

stays : (xs : List (List ℕ)) (n : List ℕ) (ks : List (List ℕ)) → is_in n ks ≡ true → net_number (insert_all same_text ks xs) n ≡ net_number ks n
stays [] n ks h = refl
stays (x ∷ xs) n ks h = stays xs n (insert_key same_text ks x) (in_more n x ks h) ∙ number_by (is_in x ks) n x ks h

numbers_stay : (ms : List Net) (ks xs : List (List ℕ)) → AllByRecursion (λ n. is_in n ks ≡ true) (map net_name ms) → map (λ m. net_number (insert_all same_text ks xs) (net_name m)) ms ≡ map (λ m. net_number ks (net_name m)) ms
numbers_stay [] ks xs h = refl
numbers_stay (m ∷ ms) ks xs h =
    ap (λ k. k ∷ map (λ n. net_number (insert_all same_text ks xs) (net_name n)) ms) (stays xs (net_name m) ks h.0) ∙ ap (λ t. net_number ks (net_name m) ∷ t) (numbers_stay ms ks xs h.1)

abbrev with_nodes : FlatDevice → List ℕ → KeptDevice
with_nodes d nodes = record { name = device_name d; nets = nodes; model = d.card.model; tail = d.card.tail }

devices_stay : (ds : List FlatDevice) (ks xs : List (List ℕ)) → AllByRecursion (λ n. is_in n ks ≡ true) (flat_map names ds) → map (kept (insert_all same_text ks xs)) ds ≡ map (kept ks) ds
devices_stay [] ks xs h = refl
devices_stay (d ∷ ds) ks xs h =
    ap (λ nodes. with_nodes d nodes ∷ map (kept (insert_all same_text ks xs)) ds) (numbers_stay d.nets ks xs (each_left (λ n. is_in n ks ≡ true) (names d) (flat_map names ds) h))
    ∙ ap (λ t. kept ks d ∷ t) (devices_stay ds ks xs (each_right (λ n. is_in n ks ≡ true) (names d) (flat_map names ds) h))

-- ---- one net more, and one device more

pub net_numbered : (s t u : Seen) (ms : List Net) (i : ℕ) (m : Net) (old new : List ℕ) (k : ℕ) → i < length ms → m ≡ get_or ms i m → seen_all s (map net (take i ms)) ≡ Ok t → seen_all t (net m ∷ []) ≡ Ok u
    → old ≡ map (λ n. net_number (net_names t) (net_name n)) (take i ms) → new ≡ old ++ k ∷ [] → k ≡ net_number (net_names u) (net_name m) → new ≡ map (λ n. net_number (net_names u) (net_name n)) (take (i + 1) ms)
net_numbered s t u ms i m old new k lt e f g o h w =
    let number : List (List ℕ) → Net → ℕ = λ (ks : List (List ℕ)) (n : Net). net_number ks (net_name n) in
    let fronts : net_names t ≡ insert_all same_text (net_names s) (map net_name (take i ms)) = nets_named (take i ms) s t f in
    let all = subst (λ (ks : List (List ℕ)). AllByRecursion (λ n. is_in n ks ≡ true) (map net_name (take i ms))) (sym fronts) (all_in (map net_name (take i ms)) (net_names s)) in
    let stay : map (number (net_names u)) (take i ms) ≡ map (number (net_names t)) (take i ms) = ap (λ ks. map (number ks) (take i ms)) (net_named t u m g) ∙ numbers_stay (take i ms) (net_names t) (net_name m ∷ []) all in
    one_more (number (net_names u)) ms i m old new k lt e (o ∙ sym stay) h w

pub device_numbered : (s t u : Seen) (ds : List FlatDevice) (i : ℕ) (d : FlatDevice) (old new : List KeptDevice) (k : KeptDevice) → i < length ds → d ≡ get_or ds i d
    → seen_all s (flat_map bearers (take i ds)) ≡ Ok t → seen_all t (bearers d) ≡ Ok u → old ≡ map (kept (net_names t)) (take i ds) → new ≡ old ++ k ∷ [] → k ≡ kept (net_names u) d → new ≡ map (kept (net_names u)) (take (i + 1) ds)
device_numbered s t u ds i d old new k lt e f g o h w =
    let fronts : net_names t ≡ insert_all same_text (net_names s) (flat_map names (take i ds)) = devices_named (take i ds) s t f in
    let all = subst (λ (ks : List (List ℕ)). AllByRecursion (λ n. is_in n ks ≡ true) (flat_map names (take i ds))) (sym fronts) (all_in (flat_map names (take i ds)) (net_names s)) in
    let stay : map (kept (net_names u)) (take i ds) ≡ map (kept (net_names t)) (take i ds) = ap (λ ks. map (kept ks) (take i ds)) (bearers_named d t u g) ∙ devices_stay (take i ds) (net_names t) (names d) all in
    one_more (kept (net_names u)) ds i d old new k lt e (o ∙ sym stay) h w

-- ---- numbers fit

grows : (ks xs : List (List ℕ)) → length ks ≤ length (insert_all same_text ks xs)
grows ks xs = let a = ap length (all_keys ks xs) ∙ length-append ks _ in omega (arith, a)

front_fits : (ks xs ys : List (List ℕ)) → length (insert_all same_text ks (xs ++ ys)) < 2 ^ 32 → length (insert_all same_text ks xs) < 2 ^ 32
front_fits ks xs ys h =
    let a = grows (insert_all same_text ks xs) ys in
    let b = ap length (fold-append (insert_key same_text) ks xs ys) in
    omega (arith, a, b, h)

-- the number of a net that was added
pub number_fits : (s u : Seen) (m : Net) (k : ℕ) → length (insert_all same_text (net_names s) (net_name m ∷ [])) < 2 ^ 32 → seen_all s (net m ∷ []) ≡ Ok u → k ≡ net_number (net_names u) (net_name m) → k < 2 ^ 32
number_fits s u m k h e w =
    let named = net_named s u m e in
    let l = position_below (same_text (net_name m)) (net_names u) (ap (is_in (net_name m)) named ∙ there (net_name m) (net_names s)) in
    let n = ap length named in
    omega (arith, h, l, n, w)

-- the next net has room
pub net_fits : (s t : Seen) (ms : List Net) (i : ℕ) (m : Net) → i < length ms → m ≡ get_or ms i m → seen_all s (map net (take i ms)) ≡ Ok t → length (insert_all same_text (net_names s) (map net_name ms)) < 2 ^ 32
    → length (insert_all same_text (net_names t) (net_name m ∷ [])) < 2 ^ 32
net_fits s t ms i m lt e f h =
    let more : map net_name (take (i + 1) ms) ≡ map net_name (take i ms) ++ net_name m ∷ [] = ap (map net_name) (take_more ms i m lt ∙ ap (λ z. take i ms ++ z ∷ []) (sym e)) ∙ map-append net_name (take i ms) (m ∷ []) in
    let all : map net_name ms ≡ map net_name (take (i + 1) ms) ++ map net_name (drop (i + 1) ms) = ap (map net_name) (sym (take-append-drop (i + 1) ms)) ∙ map-append net_name (take (i + 1) ms) (drop (i + 1) ms) in
    let front = front_fits (net_names s) (map net_name (take (i + 1) ms)) (map net_name (drop (i + 1) ms)) (subst (λ (xs : List (List ℕ)). length (insert_all same_text (net_names s) xs) < 2 ^ 32) all h) in
    let same : insert_all same_text (net_names t) (net_name m ∷ []) ≡ insert_all same_text (net_names s) (map net_name (take (i + 1) ms)) =
    ap (λ ks. insert_all same_text ks (net_name m ∷ [])) (nets_named (take i ms) s t f) ∙ sym (fold-append (insert_key same_text) (net_names s) (map net_name (take i ms)) (net_name m ∷ [])) ∙ ap (insert_all same_text (net_names s)) (sym more) in
    subst (λ (ks : List (List ℕ)). length ks < 2 ^ 32) (sym same) front

-- and the next device
pub device_fits : (s t : Seen) (ds : List FlatDevice) (i : ℕ) (d : FlatDevice) → i < length ds → d ≡ get_or ds i d → seen_all s (flat_map bearers (take i ds)) ≡ Ok t
    → length (insert_all same_text (net_names s) (flat_map names ds)) < 2 ^ 32 → length (insert_all same_text (net_names t) (names d)) < 2 ^ 32
device_fits s t ds i d lt e f h =
    let more : flat_map names (take (i + 1) ds) ≡ flat_map names (take i ds) ++ names d = flat_more names ds i d lt e in
    let all : flat_map names ds ≡ flat_map names (take (i + 1) ds) ++ flat_map names (drop (i + 1) ds) = ap (flat_map names) (sym (take-append-drop (i + 1) ds)) ∙ flat_map-append names (take (i + 1) ds) (drop (i + 1) ds) in
    let front = front_fits (net_names s) (flat_map names (take (i + 1) ds)) (flat_map names (drop (i + 1) ds)) (subst (λ (xs : List (List ℕ)). length (insert_all same_text (net_names s) xs) < 2 ^ 32) all h) in
    let same : insert_all same_text (net_names t) (names d) ≡ insert_all same_text (net_names s) (flat_map names (take (i + 1) ds)) =
    ap (λ ks. insert_all same_text ks (names d)) (devices_named (take i ds) s t f) ∙ sym (fold-append (insert_key same_text) (net_names s) (flat_map names (take i ds)) (names d)) ∙ ap (insert_all same_text (net_names s)) (sym more) in
    subst (λ (ks : List (List ℕ)). length ks < 2 ^ 32) (sym same) front

-- a new net has the next number
after_by : (b : Bool) (p : List ℕ → Bool) (ks : List (List ℕ)) (n : List ℕ) → (b || list_any p ks) ≡ false → (list_any p ks ≡ false → position_or_len p (ks ++ n ∷ []) ≡ length ks) → cond (not b) (1 + position_or_len p (ks ++ n ∷ [])) 0 ≡ suc (length ks)
after_by true p ks n h r = absurd cc
after_by false p ks n h r = let e = r h in omega (arith, e)

position_after : (p : List ℕ → Bool) (ks : List (List ℕ)) (n : List ℕ) → p n ≡ true → list_any p ks ≡ false → position_or_len p (ks ++ n ∷ []) ≡ length ks
position_after p [] n e h = ap (λ b. cond (not b) 1 0) e
position_after p (k ∷ ks) n e h = after_by (p k) p ks n h (position_after p ks n e)

pub number_new : (es more : List (List ℕ × Net)) (n : List ℕ) (v : Net) (k : ℕ) → k ≡ length es → lookup (same_text n) es ≡ None → more ≡ insert_entry same_text es n v → k ≡ net_number (map key more) n
number_new es more n v k l none h =
    let named = ap (map key) h ∙ keys_new n v es none in
    l ∙ sym (length-map es key) ∙ sym (position_after (same_text n) (map key es) n (nat_list_eq_equiv.refl n) (lookup_has n es None none)) ∙ ap (λ ks. net_number ks n) (sym named)

-- the names behind those of the top are those of the devices' nets
pub names_of_all : (s u : Seen) (tops : List (List ℕ)) (ds : List FlatDevice) → s ≡ nothing_seen tops → seen_all s (flat_map bearers ds) ≡ Ok u → net_names u ≡ once (flat_map names ds)
names_of_all s u tops ds e f = devices_named ds s u f ∙ ap (λ t. insert_all same_text (net_names t) (flat_map names ds)) e ∙ keys_once (flat_map names ds)
