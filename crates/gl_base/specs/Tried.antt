-- Lists of instances, computed by trying all maps, and whether a list is complete.
use Rattle.std.specs.Prelude.{not, ◌&&◌, ◌||◌, Bool, true, List, [], ◌∷◌, length, map, filter, flat_map, fold, if◌then◌else◌}
use Rattle.std.specs.List.{range_with_len, list_any, list_all}
use Rattle.std.specs.Ordering.{is_lt, eq_by_cmp}
use Rattle.gl_match.specs.declared.spot.Spot.{Spot}
use Rattle.gl_match.specs.Graph.{Device, Circuit, Pattern, shape_at}
use Rattle.gl_match.specs.Turns.{turns_of}
use Rattle.gl_match.specs.LegalTests.{is_legal, suits}
use Rattle.gl_match.specs.Keys.{Key, key_of, key_cmp, map_cmp}
use Rattle.gl_match.specs.Listing.{Instance}

-- ---- all legal maps

-- all spots of devices with the turns of a part's type
abbrev pub spots_near : Circuit → Device → List Spot
spots_near c part = flat_map (λ dev. map (λ turn. record { dev = dev; turn = turn }) (range_with_len 0 (length (turns_of (shape_at c part.kind))))) (range_with_len 0 (length c.devices))

-- the spots of a part's type, in ascending order
abbrev pub spots_of : Circuit → Device → List Spot
spots_of c part = filter (suits c part) (spots_near c part)

-- the maps of parts to spots of their types, in ascending order
abbrev pub maps_of : Circuit → List Device → List (List Spot)
maps_of c [] = [] ∷ []
maps_of c (part ∷ parts) = let behind = maps_of c parts in flat_map (λ spot. map (λ rest. spot ∷ rest) behind) (spots_of c part)

-- those that are legal
abbrev pub legal_maps : Circuit → Pattern → List (List Spot)
legal_maps c p = filter (is_legal c p) (maps_of c p.devices)

-- an instance among others with ascending keys; one of its key that stands there stays
abbrev pub put : List Instance → Instance → List Instance
put [] i = i ∷ []
put (j ∷ js) i = if is_lt (key_cmp i.key j.key) then i ∷ j ∷ js else if is_lt (key_cmp j.key i.key) then j ∷ put js i else j ∷ js

-- each key once, in ascending order, with its least map
abbrev pub instances_of : Circuit → Pattern → List Instance
instances_of c p = fold put [] (map (λ m. record { key = key_of c p m; least = m }) (legal_maps c p))

-- ---- whether a list is complete

-- each key is less than those behind it
abbrev pub ascends : List Key → Bool
ascends [] = true
ascends (k ∷ ks) = list_all (λ l. is_lt (key_cmp k l)) ks && ascends ks

-- a key stands in a list
abbrev pub has_key : List Key → Key → Bool
has_key keys k = list_any (eq_by_cmp key_cmp k) keys

-- the instance is one of the legal maps of its key, and none of them is less
abbrev pub is_instance : Circuit → Pattern → List (List Spot) → Instance → Bool
is_instance c p legal i = is_legal c p i.least && eq_by_cmp key_cmp (key_of c p i.least) i.key
    && list_all (λ m. not (eq_by_cmp key_cmp (key_of c p m) i.key) || not (is_lt (map_cmp m i.least))) legal

-- the list is complete, where these are the legal maps
abbrev pub is_listed_by : Circuit → Pattern → List (List Spot) → List Instance → Bool
is_listed_by c p legal items = let keys = map (λ (i : Instance). i.key) items in
    ascends keys && list_all (λ m. has_key keys (key_of c p m)) legal && list_all (is_instance c p legal) items

-- the list is complete, by trying all maps
abbrev pub is_listed : Circuit → Pattern → List Instance → Bool
is_listed c p items = is_listed_by c p (legal_maps c p) items
