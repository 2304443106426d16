-- The picks of a list that goes on.
use Rattle.std.proofs.Common.{◌≡◌, ◌∙◌, ◌+◌, ◌<◌, ◌++◌, ◌∷◌, [], ℕ, List, take, get_or, length, refl, ap}
use Rattle.std.specs.Prelude.{fold}
use Rattle.std.proofs.lemmas.List.{take_more}
use Rattle.std.proofs.lemmas.List.Sums.{fold_more}
use Rattle.gl_match.specs.Picks.{chosen_after, chosen_after_all, pick_after, picks_after, picks_by_list}

pub picks_push : (first : ℕ) (chosen sets : List (List ℕ)) (set : List ℕ) → picks_after first chosen (sets ++ set ∷ []) ≡ picks_after first chosen sets ++ pick_after first (chosen_after_all first chosen sets) set ∷ []
picks_push first chosen [] set = refl
picks_push first chosen (s ∷ ss) set = ap (λ ps. pick_after first chosen s ∷ ps) (picks_push first (chosen_after first chosen s) ss set)

pub picks_more : (first : ℕ) (chosen sets : List (List ℕ)) (i : ℕ) → i < length sets → picks_after first chosen (take (i + 1) sets) ≡ picks_after first chosen (take i sets) ++ pick_after first (chosen_after_all first chosen (take i sets)) (get_or sets i []) ∷ []
picks_more first chosen sets i lt = ap (picks_after first chosen) (take_more sets i [] lt) ∙ picks_push first chosen (take i sets) (get_or sets i [])

pub lists_push : (first : ℕ) (chosen : List (List ℕ)) (lists : List (List (List ℕ))) (sets : List (List ℕ)) → picks_by_list first chosen (lists ++ sets ∷ []) ≡ picks_by_list first chosen lists ++ picks_after first (fold (chosen_after_all first) chosen lists) sets ∷ []
lists_push first chosen [] sets = refl
lists_push first chosen (l ∷ ls) sets = ap (λ ps. picks_after first chosen l ∷ ps) (lists_push first (chosen_after_all first chosen l) ls sets)

pub lists_more : (first : ℕ) (chosen : List (List ℕ)) (lists : List (List (List ℕ))) (i : ℕ) → i < length lists → picks_by_list first chosen (take (i + 1) lists) ≡ picks_by_list first chosen (take i lists) ++ picks_after first (fold (chosen_after_all first) chosen (take i lists)) (get_or lists i []) ∷ []
lists_more first chosen lists i lt = ap (picks_by_list first chosen) (take_more lists i [] lt) ∙ lists_push first chosen (take i lists) (get_or lists i [])

pub chosen_more : (first : ℕ) (chosen sets : List (List ℕ)) (i : ℕ) → i < length sets → chosen_after_all first chosen (take (i + 1) sets) ≡ chosen_after first (chosen_after_all first chosen (take i sets)) (get_or sets i [])
chosen_more first chosen sets i lt = fold_more (chosen_after first) chosen sets i [] lt

pub chosen_by_list_more : (first : ℕ) (chosen : List (List ℕ)) (lists : List (List (List ℕ))) (i : ℕ) → i < length lists → fold (chosen_after_all first) chosen (take (i + 1) lists) ≡ chosen_after_all first (fold (chosen_after_all first) chosen (take i lists)) (get_or lists i [])
chosen_by_list_more first chosen lists i lt = fold_more (chosen_after_all first) chosen lists i [] lt
