-- Every legal map is among the maps that are tried.
use Rattle.std.proofs.Common.{◌≡◌, ◌≢◌, ℕ, List, [], ◌∷◌, ◌++◌, length, map, eqb, true, refl, sym, subst, arith}
use Rattle.std.specs.Prelude.{not, Contains, ◌&&◌}
use Rattle.std.specs.List.{AllZip, flat_map, list_all}
use Rattle.std.proofs.lemmas.Bool.{and_from, not_from_false, ne_eqb}
use Rattle.std.proofs.lemmas.List.{append-nil, append_assoc, length-append}
use Rattle.gl_match.specs.declared.spot.Spot.{Spot}
use Rattle.gl_match.specs.Graph.{Device, Circuit, Pattern, role_at}
use Rattle.gl_match.specs.LegalMaps.{Suits, Agree, GoesHome, StaysInside, IsConsistent, IsSought, pairs_of}
use Rattle.gl_match.specs.LegalTests.{suits, agree, goes_home, stays_inside, all_zip, all_pairs, is_consistent, is_closed}
use Rattle.gl_match.proofs.Lists.{in_map, in_flat_map, in_filter, in_head}
use Rattle.gl_match.proofs.Says.{all_if, all_zip_if, all_pairs_if}
use Rattle.gl_match.proofs.LegalTestLaws.{suits_if, agree_if, home_if, inside_if}
use Rattle.gl_lifting.specs.TriedHistories.{grown, grown_by, tried_maps}
use Rattle.gl_base.specs.Tried.{spots_of}
use Rattle.gl_match.proofs.Fronts.{consistent_front}
use Rattle.gl_base.proofs.TriedLaws.{in_spots}

-- what is consistent passes the test
consistent_if : (c : Circuit) (p : Pattern) (parts : List Device) (m : List Spot) → IsConsistent c p parts m → is_consistent c p parts m ≡ true
consistent_if c p parts m h =
    let pairs = pairs_of c parts m in
    let apart = λ (s t : Spot). not (eqb s.dev t.dev) in
    let home = λ (pair : ℕ × ℕ). goes_home c (role_at p pair.0) pair.1 in
    let one = all_zip_if (suits c) (Suits c) (suits_if c) parts m h.suit in
    let two = all_pairs_if apart (λ (s t : Spot). s.dev ≢ t.dev) (λ s t g. not_from_false (eqb s.dev t.dev) (ne_eqb s.dev t.dev g)) m h.differ in
    let three = all_pairs_if (agree p) (Agree p) (agree_if p) pairs h.one_to_one in
    let four = all_if home (λ pair. GoesHome c (role_at p pair.0) pair.1) (λ pair. home_if c (role_at p pair.0) pair.1) pairs h.home in
    and_from (all_zip (suits c) parts m && all_pairs apart m && all_pairs (agree p) pairs) (list_all home pairs)
    (and_from (all_zip (suits c) parts m && all_pairs apart m) (all_pairs (agree p) pairs) (and_from (all_zip (suits c) parts m) (all_pairs apart m) one two) three) four

-- ---- the maps that are grown

one_more : {X : Type 0} (xs : List X) (y : X) (ys : List X) → xs ++ y ∷ [] ++ ys ≡ xs ++ y ∷ ys
one_more xs y ys = append_assoc xs (y ∷ []) ys

in_grown : (c : Circuit) (p : Pattern) (before parts : List Device) (done rest : List Spot) (maps : List (List Spot)) → length before ≡ length done → IsConsistent c p (before ++ parts) (done ++ rest) → AllZip (Suits c) parts rest → Contains maps done → Contains (grown_by c p before maps parts) (done ++ rest)
in_grown c p before [] done [] maps e h z there = subst (Contains maps) (sym (append-nil done)) there
in_grown c p before [] done (s ∷ rest) maps e h z there = absurd z
in_grown c p before (part ∷ parts) done [] maps e h z there = absurd z
in_grown c p before (part ∷ parts) done (s ∷ rest) maps e h z there =
    let parts' = before ++ part ∷ [] in
    let spots' = done ++ s ∷ [] in
    let whole : IsConsistent c p (parts' ++ parts) (spots' ++ rest) =
    subst (λ (ms : List Spot). IsConsistent c p (parts' ++ parts) ms) (sym (one_more done s rest)) (subst (λ (ps : List Device). IsConsistent c p ps (done ++ s ∷ rest)) (sym (one_more before part parts)) h) in
    let long : length parts' ≡ length spots' = omega (arith, e, length-append before (part ∷ []), length-append done (s ∷ [])) in
    let new : Contains (grown c p before part maps) spots' =
    in_filter (is_consistent c p parts') (flat_map (λ m. map (λ spot. m ++ spot ∷ []) (spots_of c part)) maps) spots'
    (in_flat_map (λ m. map (λ spot. m ++ spot ∷ []) (spots_of c part)) maps done spots' there (in_map (λ spot. done ++ spot ∷ []) (spots_of c part) s (in_spots c part s z.0)))
    (consistent_if c p parts' spots' (consistent_front c p parts' parts spots' rest long whole)) in
    subst (Contains (grown_by c p parts' (grown c p before part maps) parts)) (one_more done s rest) (in_grown c p parts' parts spots' rest (grown c p before part maps) long whole z.1 new)

pub in_tried : (c : Circuit) (p : Pattern) (m : List Spot) → IsSought c p m → Contains (tried_maps c p) m
in_tried c p m h =
    let pairs = pairs_of c p.devices m in
    let inside = λ (pair : ℕ × ℕ). stays_inside c m (role_at p pair.0) pair.1 in
    in_filter (is_closed c p) (grown_by c p [] ([] ∷ []) p.devices) m
    (in_grown c p [] p.devices [] m ([] ∷ []) refl h.consistent h.consistent.suit (in_head [] []))
    (all_if inside (λ pair. StaysInside c m (role_at p pair.0) pair.1) (λ pair. inside_if c m (role_at p pair.0) pair.1) pairs h.closed)
