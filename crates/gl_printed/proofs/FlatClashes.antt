-- Where no flat names clash, the names of flat devices differ; where none is too long, each is short.
use Rattle.std.proofs.Common.{◌≡◌, ◌≤◌, ℕ, List, [], ◌∷◌, ◌++◌, length, map, ltb, false, Option, None, refl, sym, ap, ◌∙◌, flat_map, ltb-false, append_assoc, append-nil}
use Rattle.std.specs.Prelude.{◌||◌}
use Rattle.std.specs.List.{AllByRecursion, list_any}
use Rattle.gl_text.specs.LogicalLines.{NAME, Fault, long_flat_name, name_clash, same_text}
use Rattle.gl_fault.specs.Refusals.{first_some, when}
use Rattle.gl_text.specs.Decks.{is_in, has_twice}
use Rattle.gl_text.specs.Flattening.{Net, FlatDevice, Bearer, device, net, net_name, device_name, bearers, bearer_name, clash, first_clash}
use Rattle.gl_lists.proofs.Each.{each_left, each_right, each_to, each_unmap}
use Rattle.gl_fault.proofs.FirstLaws.{none_first, when_none}
use Rattle.gl_printed.proofs.NamesTwice.{twice_more}

-- ---- lengths

short_by : (bs : List Bearer) → first_some (map (λ b. when (ltb NAME (length (bearer_name b))) (long_flat_name (length (bearer_name b)))) bs) ≡ None → AllByRecursion (λ b. length (bearer_name b) ≤ NAME) bs
short_by [] h = tt
short_by (b ∷ bs) h =
    let f : Bearer → Option Fault = λ x. when (ltb NAME (length (bearer_name x))) (long_flat_name (length (bearer_name x))) in
    let a = none_first (f b) (map f bs) h in
    (ltb-false NAME (length (bearer_name b)) (when_none (ltb NAME (length (bearer_name b))) (long_flat_name (length (bearer_name b))) a.0), short_by bs a.1)

each_unflat : {X Y : Type 0} (P : Y → Type 0) (f : X → List Y) (xs : List X) → AllByRecursion P (flat_map f xs) → AllByRecursion (λ x. AllByRecursion P (f x)) xs
each_unflat P f [] h = tt
each_unflat P f (x ∷ xs) h = (each_left P (f x) (flat_map f xs) h, each_unflat P f xs (each_right P (f x) (flat_map f xs) h))

pub record IsShort (d : FlatDevice) : Type 0 where
  pub name : length (device_name d) ≤ NAME
  pub nets : AllByRecursion (λ n. length (net_name n) ≤ NAME) d.nets

pub all_short : (ds : List FlatDevice) → first_some (map (λ b. when (ltb NAME (length (bearer_name b))) (long_flat_name (length (bearer_name b)))) (flat_map bearers ds)) ≡ None → AllByRecursion IsShort ds
all_short ds h = each_to (λ d. AllByRecursion (λ b. length (bearer_name b) ≤ NAME) (bearers d)) IsShort (λ d i. record { name = i.0; nets = each_unmap (λ b. length (bearer_name b) ≤ NAME) net d.nets i.1 }) ds
    (each_unflat (λ b. length (bearer_name b) ≤ NAME) bearers ds (short_by (flat_map bearers ds) h))

-- ---- names

-- the names of devices among bearers
device_names : List Bearer → List (List ℕ)
device_names [] = []
device_names (device n ∷ bs) = n ∷ device_names bs
device_names (net n ∷ bs) = device_names bs

names_append : (ds bs : List Bearer) → device_names (ds ++ bs) ≡ device_names ds ++ device_names bs
unfolding device_names
names_append [] bs = refl
names_append (device n ∷ cs) bs = ap (λ xs. n ∷ xs) (names_append cs bs)
names_append (net n ∷ cs) bs = names_append cs bs

clashes : (n : List ℕ) (bs : List Bearer) → list_any (clash (device n)) bs ≡ is_in n (device_names bs)
unfolding device_names
clashes n [] = refl
clashes n (device m ∷ bs) = ap (λ t. same_text n m || t) (clashes n bs)
clashes n (net m ∷ bs) = clashes n bs

differ_by : (bs before : List Bearer) → has_twice (device_names before) ≡ false → first_clash before bs ≡ None → has_twice (device_names (before ++ bs)) ≡ false
unfolding device_names
differ_by [] before t h = ap (λ xs. has_twice (device_names xs)) (append-nil before) ∙ t
differ_by (b ∷ bs) before t h =
    let a = none_first (when (list_any (clash b) before) (name_clash (bearer_name b))) (first_clash (before ++ b ∷ []) bs ∷ []) h in
    let c = none_first (first_clash (before ++ b ∷ []) bs) [] a.1 in
    ap (λ xs. has_twice (device_names xs)) (sym (append_assoc before (b ∷ []) bs)) ∙ differ_by bs (before ++ b ∷ []) (ap has_twice (names_append before (b ∷ [])) ∙ one b (when_none (list_any (clash b) before) (name_clash (bearer_name b)) a.0)) c.0 where
      one : (x : Bearer) → list_any (clash x) before ≡ false → has_twice (device_names before ++ device_names (x ∷ [])) ≡ false
      one (device n) e = twice_more (device_names before) n t (sym (clashes n before) ∙ e)
      one (net n) e = ap has_twice (append-nil (device_names before)) ∙ t

nets_none : (ns : List Net) (bs : List Bearer) → device_names (map net ns ++ bs) ≡ device_names bs
unfolding device_names
nets_none [] bs = refl
nets_none (n ∷ ns) bs = nets_none ns bs

names_of : (ds : List FlatDevice) → device_names (flat_map bearers ds) ≡ map device_name ds
unfolding device_names
names_of [] = refl
names_of (d ∷ ds) = ap (λ xs. device_name d ∷ xs) (nets_none d.nets (flat_map bearers ds) ∙ names_of ds)

rails_none : (ns : List Net) → device_names (map net ns) ≡ []
unfolding device_names
rails_none [] = refl
rails_none (n ∷ ns) = rails_none ns

-- where no names clash, those of devices differ
pub all_differ_flat : (ns : List Net) (ds : List FlatDevice) → first_clash (map net ns) (flat_map bearers ds) ≡ None → has_twice (map device_name ds) ≡ false
unfolding device_names
all_differ_flat ns ds h = ap has_twice (sym (names_of ds) ∙ sym (nets_none ns (flat_map bearers ds))) ∙ differ_by (flat_map bearers ds) (map net ns) (ap has_twice (rails_none ns)) h
