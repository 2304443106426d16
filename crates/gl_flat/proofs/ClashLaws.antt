-- Names that are seen clash exactly where an earlier device or other net has the name.
use Rattle.std.proofs.Common.{◌≡◌, ℕ, List, [], ◌∷◌, ◌++◌, Bool, true, false, cond, not, Option, Some, None, Result, Ok, Err, refl, sym, ap, ◌∙◌, map}
use Rattle.std.specs.Prelude.{◌||◌, ◌&&◌, codes}
use Rattle.std.specs.List.{list_any}
use Rattle.std.specs.Map.{lookup}
use Rattle.std.specs.Cmp.Lexicographic.{nat_list_eq_equiv}
use Rattle.std.proofs.lemmas.List.Folds.{list_any-append}
use Rattle.std.proofs.lemmas.Option.{same_Some}
use Rattle.indexmap.specs.IndexMap.{insert_entry}
use Rattle.indexmap.specs.IndexSet.{insert_key}
use Rattle.gl_lists.proofs.Bools.{and_not_itself}
use Rattle.gl_fault.proofs.FirstLaws.{only}
use Rattle.gl_text.specs.LogicalLines.{Fault, name_clash, same_text}
use Rattle.gl_fault.specs.Refusals.{first_some, when, ◌>>=◌, IsFound, IsRefusal}
use Rattle.std.proofs.lemmas.Bool.{or_parts}
use Rattle.gl_text.specs.Decks.{is_in, has_twice, once}
use Rattle.gl_text.specs.Flattening.{Net, Bearer, device, net, net_name, top_net, bearer_name, same_path, clash, first_clash}
use Rattle.gl_printed.specs.ReadDecks.{AllDiffer}
use Rattle.gl_text.proofs.Names.{exact}
use Rattle.gl_flat.proofs.DotLaws.{no_more, or_true}
use Rattle.gl_flat.proofs.SoundLaws.{tops_once}
use Rattle.gl_flat.specs.SeenNames.{Seen, nothing_seen, has_dot, plain_names, same_net, is_below, takes_top_name, with_net, with_device, seen_with, seen_all}

-- ---- truth values

turned : (a b : Bool) → (a || b) ≡ (b || (a || false))
turned true true = refl
turned true false = refl
turned false true = refl
turned false false = refl

again : (a b : Bool) → (a || b) ≡ ((a || b) || (a || false))
again true b = refl
again false true = refl
again false false = refl

and_true : (a : Bool) → (a && true) ≡ a
and_true true = refl
and_true false = refl

-- ---- the same net

both_true : (a b : Bool) → (a && b) ≡ true → (a ≡ true) × (b ≡ true)
both_true true b e = (refl, e)
both_true false b e = absurd cc

paths_exact : (xs ys : List (List ℕ)) → same_path xs ys ≡ true → xs ≡ ys
paths_exact [] [] e = refl
paths_exact [] (y ∷ ys) e = absurd cc
paths_exact (x ∷ xs) [] e = absurd cc
paths_exact (x ∷ xs) (y ∷ ys) e =
    let h = both_true (same_text x y) (same_path xs ys) e in
    ap (λ z. z ∷ xs) (exact x y h.0) ∙ ap (λ zs. y ∷ zs) (paths_exact xs ys h.1)

pub nets_exact : (m n : Net) → same_net m n ≡ true → m ≡ n
nets_exact m n e =
    let h = both_true (same_path m.path n.path) (same_text m.name n.name) e in
    ap (λ p. record m { path = p }) (paths_exact m.path n.path h.0) ∙ ap (λ x. record n { name = x }) (exact m.name n.name h.1)

-- ---- tables

pub none_here : (n : List ℕ) (e : List ℕ × Net) (es : List (List ℕ × Net)) (b : Bool) → cond b (Some e.1) (lookup (same_text n) es) ≡ None → (b ≡ false) × (lookup (same_text n) es ≡ None)
none_here n e es true h = absurd cc
none_here n e es false h = (refl, h)

swapped : (q n k : List ℕ) (v w : Net) (o : Option Net) (a b : Bool) → same_text q k ≡ a → same_text q n ≡ b → same_text n k ≡ false → cond a (Some w) (cond b (Some v) o) ≡ cond b (Some v) (cond a (Some w) o)
swapped q n k v w o false b e f g = refl
swapped q n k v w o true false e f g = refl
swapped q n k v w o true true e f g =
    let h : true ≡ false = sym (nat_list_eq_equiv.refl k) ∙ ap (λ x. same_text x k) (sym (exact q k e)) ∙ ap (λ x. same_text x k) (exact q n f) ∙ g in
    absurd cc

pub inserted_by : (n k : List ℕ) (v w : Net) (es : List (List ℕ × Net)) (b : Bool) → b ≡ false → cond b ((k, v) ∷ es) ((k, w) ∷ insert_entry same_text es n v) ≡ (k, w) ∷ insert_entry same_text es n v
inserted_by n k v w es true e = absurd cc
inserted_by n k v w es false e = refl

-- what a table finds behind a name that it did not have
found_more : (es : List (List ℕ × Net)) (n q : List ℕ) (v : Net) → lookup (same_text n) es ≡ None → lookup (same_text q) (insert_entry same_text es n v) ≡ cond (same_text q n) (Some v) (lookup (same_text q) es)
found_more [] n q v h = refl
found_more (e ∷ es) n q v h =
    let a = none_here n e es (same_text n e.0) h in
    ap (lookup (same_text q)) (inserted_by n e.0 v e.1 es (same_text n e.0) a.0)
    ∙ ap (λ o. cond (same_text q e.0) (Some e.1) o) (found_more es n q v a.1)
    ∙ swapped q n e.0 v e.1 (lookup (same_text q) es) (same_text q e.0) (same_text q n) refl refl a.0

-- ---- what is known of the names before

abbrev differs : Net → Option Net → Bool
differs m None = false
differs m (Some k) = not (same_net m k)

record Knows (s : Seen) (before : List Bearer) : Type 0 where
  pub devices : (n : List ℕ) → has_dot n ≡ true → is_in n s.devices ≡ list_any (clash (device n)) before
  pub nets : (m : Net) → (differs m (lookup (same_text (net_name m)) s.nets) || takes_top_name s m) ≡ list_any (clash (net m)) before
  pub own : (m : Net) → lookup (same_text (net_name m)) s.nets ≡ Some m → takes_top_name s m ≡ false

apart : (x b : Bearer) (before : List Bearer) → clash x b ≡ false → list_any (clash x) before ≡ list_any (clash x) (before ++ b ∷ [])
apart x b before e = sym (list_any-append (clash x) before (b ∷ []) ∙ ap (λ c. list_any (clash x) before || (c || false)) e ∙ no_more (list_any (clash x) before))

new_by : (s : Seen) (before : List Bearer) (m k : Net) (b : Bool) → Knows s before → lookup (same_text (net_name m)) s.nets ≡ None → same_text (net_name k) (net_name m) ≡ b
    → (differs k (cond b (Some m) (lookup (same_text (net_name k)) s.nets)) || takes_top_name s k) ≡ (list_any (clash (net k)) before || ((b && not (same_net k m)) || false))
new_by s before m k true h none e =
    let there : differs k (lookup (same_text (net_name k)) s.nets) ≡ false = ap (λ n. differs k (lookup (same_text n) s.nets)) (exact (net_name k) (net_name m) e) ∙ ap (differs k) none in
    turned (not (same_net k m)) (takes_top_name s k) ∙ ap (λ c. c || (not (same_net k m) || false)) (sym (ap (λ d. d || takes_top_name s k) there) ∙ h.nets k)
new_by s before m k false h none e = h.nets k ∙ sym (no_more (list_any (clash (net k)) before))

own_by : (s : Seen) (before : List Bearer) (m k : Net) (b : Bool) → Knows s before → takes_top_name s m ≡ false → cond b (Some m) (lookup (same_text (net_name k)) s.nets) ≡ Some k → takes_top_name s k ≡ false
own_by s before m k true h t e = ap (takes_top_name s) (sym (same_Some m k e)) ∙ t
own_by s before m k false h t e = h.own k e

knows_new : (s : Seen) (before : List Bearer) (m : Net) → Knows s before → lookup (same_text (net_name m)) s.nets ≡ None → takes_top_name s m ≡ false → Knows (record s { nets = insert_entry same_text s.nets (net_name m) m }) (before ++ net m ∷ [])
knows_new s before m h none t = record {
  devices = λ n e. h.devices n e ∙ apart (device n) (net m) before refl;
  nets = λ k. ap (λ o. differs k o || takes_top_name s k) (found_more s.nets (net_name m) (net_name k) m none) ∙ new_by s before m k (same_text (net_name k) (net_name m)) h none refl ∙ sym (list_any-append (clash (net k)) before (net m ∷ []));
  own = λ k e. own_by s before m k (same_text (net_name k) (net_name m)) h t (sym (found_more s.nets (net_name m) (net_name k) m none) ∙ e);
}

same_by : (s : Seen) (before : List Bearer) (m k : Net) (b : Bool) → Knows s before → lookup (same_text (net_name m)) s.nets ≡ Some m → same_text (net_name k) (net_name m) ≡ b
    → (differs k (lookup (same_text (net_name k)) s.nets) || takes_top_name s k) ≡ (list_any (clash (net k)) before || ((b && not (same_net k m)) || false))
same_by s before m k true h there e =
    let found = lookup (same_text (net_name k)) s.nets in
    let known : differs k found ≡ not (same_net k m) = ap (λ n. differs k (lookup (same_text n) s.nets)) (exact (net_name k) (net_name m) e) ∙ ap (differs k) there in
    again (differs k found) (takes_top_name s k) ∙ ap (λ c. c || (differs k found || false)) (h.nets k) ∙ ap (λ d. list_any (clash (net k)) before || (d || false)) known
same_by s before m k false h there e = h.nets k ∙ sym (no_more (list_any (clash (net k)) before))

knows_same : (s : Seen) (before : List Bearer) (m : Net) → Knows s before → lookup (same_text (net_name m)) s.nets ≡ Some m → Knows s (before ++ net m ∷ [])
knows_same s before m h there = record {
  devices = λ n e. h.devices n e ∙ apart (device n) (net m) before refl;
  nets = λ k. same_by s before m k (same_text (net_name k) (net_name m)) h there refl ∙ sym (list_any-append (clash (net k)) before (net m ∷ []));
  own = h.own;
}

pub key_by : (n : List ℕ) (ks : List (List ℕ)) (b : Bool) → b ≡ false → cond b ks (ks ++ n ∷ []) ≡ ks ++ n ∷ []
key_by n ks true e = absurd cc
key_by n ks false e = refl

knows_device : (s : Seen) (before : List Bearer) (n : List ℕ) → Knows s before → is_in n s.devices ≡ false → Knows (record s { devices = insert_key same_text s.devices n }) (before ++ device n ∷ [])
knows_device s before n h none = record {
  devices = λ k e. ap (is_in k) (key_by n s.devices (is_in n s.devices) none) ∙ list_any-append (same_text k) s.devices (n ∷ []) ∙ ap (λ c. c || (same_text k n || false)) (h.devices k e) ∙ sym (list_any-append (clash (device k)) before (device n ∷ []));
  nets = λ m. h.nets m ∙ apart (net m) (device n) before refl;
  own = h.own;
}

-- ---- one name more

data Judged (s : Seen) (before : List Bearer) (b : Bearer) : Type 0 where
  clashing : seen_with s b ≡ Err (name_clash (bearer_name b)) → list_any (clash b) before ≡ true → Judged s before b
  fitting : (t : Seen) → seen_with s b ≡ Ok t → list_any (clash b) before ≡ false → Knows t (before ++ b ∷ []) → Judged s before b

device_by : (s : Seen) (before : List Bearer) (n : List ℕ) (b : Bool) → Knows s before → has_dot n ≡ true → is_in n s.devices ≡ b → Judged s before (device n)
device_by s before n true h d e =
    clashing (ap (λ c. cond c (with_device s n) (Ok s)) d ∙ ap (λ c. cond c (Err (name_clash n)) (Ok (record s { devices = insert_key same_text s.devices n }))) e) (sym (h.devices n d) ∙ e)
device_by s before n false h d e =
    fitting (record s { devices = insert_key same_text s.devices n }) (ap (λ c. cond c (with_device s n) (Ok s)) d ∙ ap (λ c. cond c (Err (name_clash n)) (Ok (record s { devices = insert_key same_text s.devices n }))) e)
    (sym (h.devices n d) ∙ e) (knows_device s before n h e)

dotted_apart : (k n : List ℕ) (b : Bool) → same_text k n ≡ b → has_dot k ≡ true → has_dot n ≡ false → b ≡ false
dotted_apart k n true e f g = let h : true ≡ false = sym f ∙ ap has_dot (exact k n e) ∙ g in h
dotted_apart k n false e f g = refl

knows_plain : (s : Seen) (before : List Bearer) (n : List ℕ) → Knows s before → has_dot n ≡ false → Knows s (before ++ device n ∷ [])
knows_plain s before n h d = record {
  devices = λ k e. h.devices k e ∙ apart (device k) (device n) before (dotted_apart k n (same_text k n) refl e d);
  nets = λ m. h.nets m ∙ apart (net m) (device n) before refl;
  own = h.own;
}

-- a device whose name holds no dot, and that no other has
plain_by : (s : Seen) (before : List Bearer) (n : List ℕ) → Knows s before → has_dot n ≡ false → list_any (clash (device n)) before ≡ false → Judged s before (device n)
plain_by s before n h d f = fitting s (ap (λ c. cond c (with_device s n) (Ok s)) d) f (knows_plain s before n h d)

known_by : (s : Seen) (before : List Bearer) (m k : Net) (b : Bool) → Knows s before → lookup (same_text (net_name m)) s.nets ≡ Some k → same_net m k ≡ b → Judged s before (net m)
known_by s before m k true h e f =
    let there : lookup (same_text (net_name m)) s.nets ≡ Some m = e ∙ ap (λ j. Some j) (sym (nets_exact m k f)) in
    fitting s (ap (with_net s m) e ∙ ap (λ c. cond c (Ok s) (Err (name_clash (net_name m)))) f)
    (sym (h.nets m) ∙ ap (λ o. differs m o || takes_top_name s m) e ∙ ap (λ c. not c || takes_top_name s m) f ∙ h.own m there)
    (knows_same s before m h there)
known_by s before m k false h e f =
    clashing (ap (with_net s m) e ∙ ap (λ c. cond c (Ok s) (Err (name_clash (net_name m)))) f)
    (sym (h.nets m) ∙ ap (λ o. differs m o || takes_top_name s m) e ∙ ap (λ c. not c || takes_top_name s m) f)

none_by : (s : Seen) (before : List Bearer) (m : Net) (b : Bool) → Knows s before → lookup (same_text (net_name m)) s.nets ≡ None → takes_top_name s m ≡ b → Judged s before (net m)
none_by s before m true h e f =
    clashing (ap (with_net s m) e ∙ ap (λ c. cond c (Err (name_clash (net_name m))) (Ok (record s { nets = insert_entry same_text s.nets (net_name m) m }))) f)
    (sym (h.nets m) ∙ ap (λ o. differs m o || takes_top_name s m) e ∙ f)
none_by s before m false h e f =
    fitting (record s { nets = insert_entry same_text s.nets (net_name m) m })
    (ap (with_net s m) e ∙ ap (λ c. cond c (Err (name_clash (net_name m))) (Ok (record s { nets = insert_entry same_text s.nets (net_name m) m }))) f)
    (sym (h.nets m) ∙ ap (λ o. differs m o || takes_top_name s m) e ∙ f)
    (knows_new s before m h e f)

net_by : (s : Seen) (before : List Bearer) (m : Net) (o : Option Net) → Knows s before → lookup (same_text (net_name m)) s.nets ≡ o → Judged s before (net m)
net_by s before m None h e = none_by s before m (takes_top_name s m) h e refl
net_by s before m (Some k) h e = known_by s before m k (same_net m k) h e refl

-- none before has its name, if it is a device's without a dot
abbrev Fits : List Bearer → Bearer → Type 0
Fits before (device n) = has_dot n ≡ false → list_any (clash (device n)) before ≡ false
Fits before (net m) = Unit {0}

dotted_or_plain : (s : Seen) (before : List Bearer) (n : List ℕ) (b : Bool) → has_dot n ≡ b → Knows s before → Fits before (device n) → Judged s before (device n)
dotted_or_plain s before n true d h f = device_by s before n (is_in n s.devices) h d refl
dotted_or_plain s before n false d h f = plain_by s before n h d (f d)

judged : (s : Seen) (before : List Bearer) (b : Bearer) → Knows s before → Fits before b → Judged s before b
judged s before (device n) h f = dotted_or_plain s before n (has_dot n) refl h f
judged s before (net m) h f = net_by s before m (lookup (same_text (net_name m)) s.nets) h refl

-- of some names, none before has one that is a device's without a dot
abbrev AllFit : List Bearer → List Bearer → Type 0
AllFit before [] = Unit {0}
AllFit before (b ∷ bs) = Fits before b × AllFit (before ++ b ∷ []) bs

abbrev NoneHas : List (List ℕ) → List Bearer → Type 0
NoneHas names before = (n : List ℕ) → is_in n names ≡ true → list_any (clash (device n)) before ≡ false

other_name : (n k : List ℕ) (ks : List (List ℕ)) (b : Bool) → same_text k n ≡ b → is_in k ks ≡ true → is_in n ks ≡ false → b ≡ false
other_name n k ks true e f g = let h : true ≡ false = sym f ∙ ap (λ x. is_in x ks) (exact k n e) ∙ g in h
other_name n k ks false e f g = refl

none_more : (before : List Bearer) (n : List ℕ) (ks : List (List ℕ)) → NoneHas (n ∷ ks) before → is_in n ks ≡ false → NoneHas ks (before ++ device n ∷ [])
none_more before n ks h g k f = sym (apart (device k) (device n) before (other_name n k ks (same_text k n) refl f g)) ∙ h k (ap (λ c. same_text k n || c) f ∙ or_true (same_text k n))

no_dot_by : (b : Bool) (n k : List ℕ) (ks : List (List ℕ)) → has_dot n ≡ b → (is_in k ks ≡ true → has_dot k ≡ false) → is_in k (cond b ks (n ∷ ks)) ≡ true → has_dot k ≡ false
no_dot_by true n k ks d r h = r h
no_dot_by false n k ks d r h = by (same_text k n) refl h where
  by : (c : Bool) → same_text k n ≡ c → (c || is_in k ks) ≡ true → has_dot k ≡ false
  by true e f = ap has_dot (exact k n e) ∙ d
  by false e f = r f

no_dots : (bs : List Bearer) (k : List ℕ) → is_in k (plain_names bs) ≡ true → has_dot k ≡ false
no_dots [] k h = absurd cc
no_dots (device n ∷ bs) k h = no_dot_by (has_dot n) n k (plain_names bs) refl (no_dots bs k) h
no_dots (net m ∷ bs) k h = no_dots bs k h

plain_other : (k n : List ℕ) (b : Bool) → same_text k n ≡ b → has_dot k ≡ false → has_dot n ≡ true → b ≡ false
plain_other k n true e f g = let h : true ≡ false = sym g ∙ sym (ap has_dot (exact k n e)) ∙ f in h
plain_other k n false e f g = refl

dotted_more : (before : List Bearer) (n : List ℕ) (bs : List Bearer) → has_dot n ≡ true → NoneHas (plain_names bs) before → NoneHas (plain_names bs) (before ++ device n ∷ [])
dotted_more before n bs d h k f = sym (apart (device k) (device n) before (plain_other k n (same_text k n) refl (no_dots bs k f) d)) ∙ h k f

plain_fits : (b : Bool) (before : List Bearer) (n : List ℕ) (bs : List Bearer) → has_dot n ≡ b → NoneHas (cond b (plain_names bs) (n ∷ plain_names bs)) before → has_twice (cond b (plain_names bs) (n ∷ plain_names bs)) ≡ false
    → ((us : List Bearer) → NoneHas (plain_names bs) us → has_twice (plain_names bs) ≡ false → AllFit us bs) → AllFit before (device n ∷ bs)
plain_fits true before n bs d h t r = (λ e. let f : true ≡ false = sym d ∙ e in absurd cc, r (before ++ device n ∷ []) (dotted_more before n bs d h) t)
plain_fits false before n bs d h t r =
    let a = or_parts (is_in n (plain_names bs)) (has_twice (plain_names bs)) t in
    (λ e. h n (ap (λ c. c || is_in n (plain_names bs)) (nat_list_eq_equiv.refl n)), r (before ++ device n ∷ []) (none_more before n (plain_names bs) h a.0) a.1)

all_fit : (bs before : List Bearer) → NoneHas (plain_names bs) before → has_twice (plain_names bs) ≡ false → AllFit before bs
all_fit [] before h t = tt
all_fit (device n ∷ bs) before h t = plain_fits (has_dot n) before n bs refl h t (all_fit bs)
all_fit (net m ∷ bs) before h t = (tt, all_fit bs (before ++ net m ∷ []) (λ k f. sym (apart (device k) (net m) before refl) ∙ h k f) t)

-- ---- all names

abbrev error_of : Result Seen Fault → Option Fault
error_of (Ok s) = None
error_of (Err f) = Some f

clash_by : (s : Seen) (before : List Bearer) (b : Bearer) (bs : List Bearer) → Judged s before b → ((t : Seen) → Knows t (before ++ b ∷ []) → error_of (seen_all t bs) ≡ first_clash (before ++ b ∷ []) bs) → error_of (seen_all s (b ∷ bs)) ≡ first_clash before (b ∷ bs)
clash_by s before b bs (clashing e f) r = ap (λ x. error_of (x >>= λ t. seen_all t bs)) e ∙ sym (ap (λ c. first_some (when c (name_clash (bearer_name b)) ∷ first_clash (before ++ b ∷ []) bs ∷ [])) f)
clash_by s before b bs (fitting t e f h) r =
    ap (λ x. error_of (x >>= λ u. seen_all u bs)) e ∙ r t h ∙ sym (only (first_clash (before ++ b ∷ []) bs))
    ∙ sym (ap (λ c. first_some (when c (name_clash (bearer_name b)) ∷ first_clash (before ++ b ∷ []) bs ∷ [])) f)

clash_is : (bs : List Bearer) (s : Seen) (before : List Bearer) → Knows s before → AllFit before bs → error_of (seen_all s bs) ≡ first_clash before bs
clash_is [] s before h f = refl
clash_is (b ∷ bs) s before h f = clash_by s before b bs (judged s before b h f.0) (λ t k. clash_is bs t (before ++ b ∷ []) k f.1)

-- ---- nets of the top

abbrev top : List ℕ → Bearer
top n = net (top_net n)

no_device : (n : List ℕ) (ns : List (List ℕ)) → list_any (clash (device n)) (map top ns) ≡ false
no_device n [] = refl
no_device n (m ∷ ms) = no_device n ms

top_clashes : (path : List (List ℕ)) (name : List ℕ) (ns : List (List ℕ))
    → list_any (clash (net (record { path = path; name = name }))) (map top ns) ≡ (is_below path && is_in (net_name (record { path = path; name = name })) ns)
top_clashes [] name [] = refl
top_clashes [] name (n ∷ ns) = ap (λ c. c || list_any (clash (net (record { path = []; name = name }))) (map top ns)) (and_not_itself (same_text name n)) ∙ top_clashes [] name ns
top_clashes (x ∷ xs) name [] = refl
top_clashes (x ∷ xs) name (n ∷ ns) =
    ap (λ c. c || list_any (clash (net (record { path = x ∷ xs; name = name }))) (map top ns)) (and_true (same_text (net_name (record { path = x ∷ xs; name = name })) n))
    ∙ ap (λ c. same_text (net_name (record { path = x ∷ xs; name = name })) n || c) (top_clashes (x ∷ xs) name ns)

-- nothing but names of the top, in any list that has the same names
knows_tops : (tops names : List (List ℕ)) → ((n : List ℕ) → is_in n tops ≡ is_in n names) → Knows (nothing_seen tops) (map top names)
knows_tops tops names h = record {
  devices = λ n e. sym (no_device n names);
  nets = λ m. ap (λ c. is_below m.path && c) (h (net_name m)) ∙ sym (top_clashes m.path m.name names);
  own = λ m e. absurd cc;
}

-- names of the top are none of devices
tops_fit : (tops : List (List ℕ)) (bs : List Bearer) → AllDiffer (plain_names bs) → AllFit (map top tops) bs
tops_fit tops bs h = all_fit bs (map top tops) (λ n e. no_device n tops) h

-- names of the top count, and not their order
pub same_tops : (tops names : List (List ℕ)) (bs : List Bearer) → AllDiffer (plain_names bs) → ((n : List ℕ) → is_in n tops ≡ is_in n names) → first_clash (map top tops) bs ≡ first_clash (map top names) bs
same_tops tops names bs p h =
    sym (clash_is bs (nothing_seen tops) (map top tops) (knows_tops tops tops (λ n. refl)) (tops_fit tops bs p)) ∙ clash_is bs (nothing_seen tops) (map top names) (knows_tops tops names h) (tops_fit names bs p)

-- the nets of the top by the tables of a scene
pub clash_same : (keys own rails ports : List (List ℕ)) (bs : List Bearer) → AllDiffer (plain_names bs) → keys ≡ once rails → own ≡ once ports
    → first_clash (map top (codes "0" ∷ keys ++ own)) bs ≡ first_clash (map top (codes "0" ∷ rails ++ ports)) bs
clash_same keys own rails ports bs p e f =
    ap (λ ks. first_clash (map top (codes "0" ∷ ks ++ own)) bs) e ∙ ap (λ ks. first_clash (map top (codes "0" ∷ once rails ++ ks)) bs) f
    ∙ same_tops (codes "0" ∷ once rails ++ once ports) (codes "0" ∷ rails ++ ports) bs p (λ n. tops_once n rails ports)

some_found : (o : Option Fault) (r : Result Seen Fault) (w : Option Fault) → error_of r ≡ w → IsRefusal o r → IsFound o w
some_found None r w e h = tt
some_found (Some f) r w e h = sym e ∙ ap error_of h

-- behind names of the top there is no clash
pub none_clash : (tops : List (List ℕ)) (bs : List Bearer) (t : Seen) → AllDiffer (plain_names bs) → seen_all (nothing_seen tops) bs ≡ Ok t → first_clash (map top tops) bs ≡ None
none_clash tops bs t p e = sym (clash_is bs (nothing_seen tops) (map top tops) (knows_tops tops tops (λ n. refl)) (tops_fit tops bs p)) ∙ ap error_of e

-- or this one is the first
pub found_clash : (o : Option Fault) (tops : List (List ℕ)) (bs : List Bearer) → AllDiffer (plain_names bs) → IsRefusal o (seen_all (nothing_seen tops) bs) → IsFound o (first_clash (map top tops) bs)
found_clash o tops bs p h = some_found o (seen_all (nothing_seen tops) bs) (first_clash (map top tops) bs) (clash_is bs (nothing_seen tops) (map top tops) (knows_tops tops tops (λ n. refl)) (tops_fit tops bs p)) h
