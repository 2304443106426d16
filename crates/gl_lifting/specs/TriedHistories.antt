-- Histories that are computed by trying maps card by card: on small rows, what the definitions of lifting say can be read off.
use Rattle.std.specs.Prelude.{ℕ, suc, Bool, List, [], ◌∷◌, ◌++◌, length, map, filter, flat_map, fold, ◌&&◌, true}
use Rattle.std.specs.List.{range_with_len}
use Rattle.gl_match.specs.declared.spot.Spot.{Spot}
use Rattle.gl_match.specs.Graph.{Device, Circuit, Pattern}
use Rattle.gl_match.specs.LegalTests.{is_consistent, is_closed, all_zip}
use Rattle.gl_match.specs.Keys.{key_of}
use Rattle.gl_match.specs.Listing.{Instance}
use Rattle.gl_match.specs.Choice.{sets_of}
use Rattle.gl_match.specs.Picks.{picks_of}
use Rattle.gl_lifting.specs.Runs.{Run, pattern_in, searched_at}
use Rattle.gl_lifting.specs.Histories.{Stage, Round, History, circuit_at, first_stage, stage_behind, levels_of}
use Rattle.gl_base.specs.Tried.{spots_of, put, is_listed_by}

-- ---- lists

-- maps of some parts with each spot for one more part that stays consistent
abbrev pub grown : Circuit → Pattern → List Device → Device → List (List Spot) → List (List Spot)
grown c p parts part maps = filter (is_consistent c p (parts ++ part ∷ [])) (flat_map (λ m. map (λ spot. m ++ spot ∷ []) (spots_of c part)) maps)

-- the consistent maps of all parts, in ascending order
abbrev pub grown_by : Circuit → Pattern → List Device → List (List Spot) → List Device → List (List Spot)
grown_by c p before maps [] = maps
grown_by c p before maps (part ∷ parts) = grown_by c p (before ++ part ∷ []) (grown c p before part maps) parts

-- the legal maps, in ascending order
abbrev pub tried_maps : Circuit → Pattern → List (List Spot)
tried_maps c p = filter (is_closed c p) (grown_by c p [] ([] ∷ []) p.devices)

-- each key once, in ascending order, with its least map
abbrev pub tried_list : Circuit → Pattern → List Instance
tried_list c p = fold put [] (map (λ m. record { key = key_of c p m; least = m }) (tried_maps c p))

-- ---- rounds

-- the round of a level behind a stage
abbrev pub tried_round : Run → ℕ → Stage → Round
tried_round run level stage = let c = circuit_at run stage in let lists = map (λ cell. tried_list c (pattern_in run cell)) (searched_at run level) in
    record { before = stage; lists = lists; picks = picks_of (suc (length stage.composites)) (sets_of lists) }

-- a history with one round more
abbrev pub with_round : Run → History → ℕ → History
with_round run h level = let r = tried_round run level h.last in record { rounds = h.rounds ++ r ∷ []; last = stage_behind run (searched_at run level) r }

-- the history of a run
abbrev pub tried_history : Run → History
tried_history run = fold (with_round run) (record { rounds = []; last = first_stage run }) (range_with_len 0 (levels_of run.library.cells))

-- ---- whether the lists are complete

-- the list is complete, by the maps that are tried
abbrev pub is_complete : Circuit → Pattern → List Instance → Bool
is_complete c p items = is_listed_by c p (tried_maps c p) items

-- the lists of the round of a level behind a stage are complete
abbrev pub is_round_complete : Run → ℕ → Stage → Bool
is_round_complete run level stage = all_zip (is_complete (circuit_at run stage)) (map (pattern_in run) (searched_at run level)) (tried_round run level stage).lists

-- the same of the rounds of some levels behind a history
abbrev pub are_complete : Run → History → List ℕ → Bool
are_complete run h [] = true
are_complete run h (level ∷ levels) = is_round_complete run level h.last && are_complete run (with_round run h level) levels

-- all lists of a run's tried history are complete
abbrev pub is_tried_complete : Run → Bool
is_tried_complete run = are_complete run (record { rounds = []; last = first_stage run }) (range_with_len 0 (levels_of run.library.cells))
