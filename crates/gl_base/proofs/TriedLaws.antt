-- A list that passes the test by trying all maps is the complete list.
use Rattle.std.proofs.Common.{◌≡◌, ℕ, List, [], ◌∷◌, length, map, true, false, Bool, Ordering, refl, sym, subst, inl, inr}
use Rattle.std.specs.Prelude.{not, Contains, ◌||◌, ◌&&◌}
use Rattle.std.specs.List.{AllByRecursion, AllZip, list_all, range_with_len}
use Rattle.std.specs.List.Sorted.{IsStrictlySortedBy}
use Rattle.std.specs.Ordering.{eq_by_cmp, is_eq, is_lt, ordering_reverse}
use Rattle.std.specs.declared.cmp.Ordering.TheVariants.{Less, Equal, Greater}
use Rattle.std.proofs.lemmas.Bool.{and_parts, or_cases, not-true}
use Rattle.std.proofs.lemmas.List.Elements.{All-contains}
use Rattle.gl_match.specs.declared.spot.Spot.{Spot}
use Rattle.gl_match.specs.Graph.{Device, Circuit, Pattern, shape_at}
use Rattle.gl_match.specs.Turns.{turns_of}
use Rattle.gl_match.specs.LegalMaps.{Suits, IsSought}
use Rattle.gl_match.specs.LegalTests.{suits, all_zip, is_legal}
use Rattle.gl_match.specs.Keys.{Key, key_of, key_cmp, map_cmp}
use Rattle.gl_match.specs.Listing.{Instance, IsInstance, Listed}
use Rattle.gl_lists.proofs.Membership.{in_map, in_flat_map, in_filter, in_head, in_tail, in_range}
use Rattle.gl_match.proofs.Says.{all_says, all_zip_says}
use Rattle.gl_match.proofs.LegalTestLaws.{suits_if, legal_says, legal_if}
use Rattle.gl_match.proofs.ListingLaws.{keys_exact, key_total}
use Rattle.gl_base.specs.Tried.{spots_near, spots_of, maps_of, legal_maps, ascends, has_key, is_instance, is_listed_by, is_listed}
use Rattle.gl_lists.proofs.Orders.{is_less, is_equal}

-- a spot that suits is among the spots
pub in_spots : (c : Circuit) (part : Device) (s : Spot) → Suits c part s → Contains (spots_of c part) s
in_spots c part s h =
    let turns = length (turns_of (shape_at c part.kind)) in
    let spot_at : ℕ → ℕ → Spot = λ dev turn. record { dev = dev; turn = turn } in
    in_filter (suits c part) (spots_near c part) s
    (in_flat_map (λ dev. map (spot_at dev) (range_with_len 0 turns)) (range_with_len 0 (length c.devices)) s.dev s (in_range (length c.devices) s.dev h.device)
    (in_map (spot_at s.dev) (range_with_len 0 turns) s.turn (in_range turns s.turn h.turn)))
    (suits_if c part s h)

-- a map whose spots suit is among the maps
in_maps : (c : Circuit) (parts : List Device) (m : List Spot) → AllZip (Suits c) parts m → Contains (maps_of c parts) m
in_maps c [] [] h = in_head [] []
in_maps c [] (s ∷ m) h = absurd h
in_maps c (part ∷ parts) [] h = absurd h
in_maps c (part ∷ parts) (s ∷ m) h =
    in_flat_map (λ (spot : Spot). map (λ rest. spot ∷ rest) (maps_of c parts)) (spots_of c part) s (s ∷ m) (in_spots c part s h.0)
    (in_map (λ rest. s ∷ rest) (maps_of c parts) m (in_maps c parts m h.1))

in_legal : (c : Circuit) (p : Pattern) (m : List Spot) → IsSought c p m → Contains (legal_maps c p) m
in_legal c p m h = in_filter (is_legal c p) (maps_of c p.devices) m (in_maps c p.devices m h.consistent.suit) (legal_if c p m h)

same_key : (k l : Key) → eq_by_cmp key_cmp k l ≡ true → k ≡ l
same_key k l e = keys_exact k l (is_equal (key_cmp k l) e)

all_less : (k : Key) (ks : List Key) → list_all (λ l. is_lt (key_cmp k l)) ks ≡ true → AllByRecursion (λ l. key_cmp k l ≡ Less) ks
all_less k [] e = tt
all_less k (l ∷ ks) e =
    let parts = and_parts (is_lt (key_cmp k l)) (list_all (λ l. is_lt (key_cmp k l)) ks) e in
    (is_less (key_cmp k l) parts.0, all_less k ks parts.1)

ascend : (ks : List Key) → ascends ks ≡ true → IsStrictlySortedBy key_cmp ks
unfolding IsStrictlySortedBy
ascend [] e = tt
ascend (k ∷ ks) e =
    let parts = and_parts (list_all (λ l. is_lt (key_cmp k l)) ks) (ascends ks) e in
    (all_less k ks parts.0, ascend ks parts.1)

has : (keys : List Key) (k : Key) → has_key keys k ≡ true → Contains keys k
has [] k e = absurd cc
has (l ∷ keys) k e =
    elim (or_cases (eq_by_cmp key_cmp k l) (has_key keys k) e) [
      | inl on ↦ subst (λ x. Contains (l ∷ keys) x) (sym (same_key k l on)) (in_head l keys)
      | inr on ↦ in_tail l keys k (has keys k on)
    ]

-- equal keys pass the test
self_equal : (k l : Key) → k ≡ l → eq_by_cmp key_cmp k l ≡ true
self_equal k l e = subst (λ x. eq_by_cmp key_cmp k x ≡ true) e (keys_same k)
  where
    by : (o : Ordering) → o ≡ ordering_reverse o → is_eq o ≡ true
    by Less e = absurd cc
    by Equal e = refl
    by Greater e = absurd cc

    keys_same : (k : Key) → eq_by_cmp key_cmp k k ≡ true
    keys_same k = by (key_cmp k k) (key_total.antisymm k k)

-- where the legal maps are among these
module _ (c : Circuit) (p : Pattern) (legal : List (List Spot)) (known : (m : List Spot) → IsSought c p m → Contains legal m) where
  -- the key of each legal map is among keys that hold all of them
  key_of_all : (keys : List Key) → list_all (λ m. has_key keys (key_of c p m)) legal ≡ true → (m : List Spot) → IsSought c p m → Contains keys (key_of c p m)
  key_of_all keys e m h =
      let P : List Spot → Type 0 = λ n. Contains keys (key_of c p n) in
      All-contains P legal m (all_says (λ n. has_key keys (key_of c p n)) P (λ n t. has keys (key_of c p n) t) legal e) (known m h)

  one_instance : (i : Instance) → is_instance c p legal i ≡ true → IsInstance c p i
  one_instance i e =
      let none : List Spot → Bool = λ m. not (eq_by_cmp key_cmp (key_of c p m) i.key) || not (is_lt (map_cmp m i.least)) in
      let parts = and_parts (is_legal c p i.least && eq_by_cmp key_cmp (key_of c p i.least) i.key) (list_all none legal) e in
      let first = and_parts (is_legal c p i.least) (eq_by_cmp key_cmp (key_of c p i.least) i.key) parts.0 in
      record {
        legal = legal_says c p i.least first.0;
        key_is = same_key (key_of c p i.least) i.key first.1;
        least_is = λ m h k.
            let t : none m ≡ true = All-contains (λ n. none n ≡ true) legal m (all_says none (λ n. none n ≡ true) (λ n t. t) legal parts.1) (known m h) in
            elim (or_cases (not (eq_by_cmp key_cmp (key_of c p m) i.key)) (not (is_lt (map_cmp m i.least))) t) [
              | inl other ↦
                  let off : eq_by_cmp key_cmp (key_of c p m) i.key ≡ false = not-true (eq_by_cmp key_cmp (key_of c p m) i.key) other in
                  let on : eq_by_cmp key_cmp (key_of c p m) i.key ≡ true = self_equal (key_of c p m) i.key k in
                  absurd cc
              | inr off ↦ not-true (is_lt (map_cmp m i.least)) off
            ];
      }

  pub listed_by : (items : List Instance) → is_listed_by c p legal items ≡ true → Listed c p items
  listed_by items e =
      let keys : List Key = map (λ (i : Instance). i.key) items in
      let all : Bool = list_all (λ m. has_key keys (key_of c p m)) legal in
      let parts = and_parts (ascends keys && all) (list_all (is_instance c p legal) items) e in
      let first = and_parts (ascends keys) all parts.0 in
      record {
        ascend = ascend keys first.0;
        all = key_of_all keys first.1;
        each = all_says (is_instance c p legal) (IsInstance c p) one_instance items parts.1;
      }

listed_is : (c : Circuit) (p : Pattern) (items : List Instance) → is_listed c p items ≡ true → Listed c p items
listed_is c p items e = listed_by c p (legal_maps c p) (in_legal c p) items e

pub lists_are : (c : Circuit) (patterns : List Pattern) (lists : List (List Instance)) → all_zip (is_listed c) patterns lists ≡ true → AllZip (Listed c) patterns lists
lists_are c patterns lists e = all_zip_says (is_listed c) (Listed c) (listed_is c) patterns lists e
