-- The stem of the names of chosen instances. This project's own.
use Rattle.std.specs.Prelude.{◌≡◌, ℕ, zero, suc, ◌+◌, ◌≤◌, ◌==◌, ◌&&◌, ◌||◌, Bool, true, false, List, [], ◌∷◌, ◌++◌, map, replicate, codes, if◌then◌else◌, All}
use Rattle.std.specs.List.{list_any}
use Rattle.gl_text.specs.Cards.{Device as Card}
use Rattle.gl_text.specs.Flattening.{Flat, flat_card, top_ports}
use Rattle.gl_base.specs.Rails.{all_rails}
use Rattle.gl_base.specs.BaseCircuit.{nets_of}

-- a text stands somewhere in another
abbrev pub StandsIn : List ℕ → List ℕ → Type 0
StandsIn part whole = (before : List ℕ) × (behind : List ℕ) × (whole ≡ before ++ part ++ behind)

-- `xg` and so many underscores
abbrev pub stem_with : ℕ → List ℕ
stem_with underscores = codes "xg" ++ replicate underscores 95

-- a text stands in none of the names
abbrev pub IsUnused : List (List ℕ) → List ℕ → Type 0
IsUnused names text = All (λ name. ¬ StandsIn text name) names

-- the stem: it stands in no name, and has the fewest underscores with which it does not
pub record IsStem (names : List (List ℕ)) (stem : List ℕ) : Type 0 where
  pub underscores : ℕ
  pub stem_is : stem ≡ stem_with underscores
  pub unused : IsUnused names stem
  pub fewest : (n : ℕ) → IsUnused names (stem_with n) → underscores ≤ n

-- the names that devices, nets, rails and the top's ports of a flat deck have
abbrev pub names_in : Flat → List (List ℕ)
names_in f = let cards = map flat_card f.devices in map (λ (c : Card). c.name) cards ++ nets_of cards ++ all_rails f.rails ++ top_ports f.top

-- ---- computed

-- a text stands at the front of another
abbrev pub is_front : List ℕ → List ℕ → Bool
is_front [] whole = true
is_front (a ∷ rest) [] = false
is_front (a ∷ rest) (b ∷ bs) = (a == b) && is_front rest bs

-- a text stands somewhere in another
abbrev pub stands_in : List ℕ → List ℕ → Bool
stands_in part [] = is_front part []
stands_in part (b ∷ bs) = is_front part (b ∷ bs) || stands_in part bs

-- the first stem in no name, from some underscores on; at most so many more are tried
abbrev pub stem_from : List (List ℕ) → ℕ → ℕ → List ℕ
stem_from names zero underscores = stem_with underscores
stem_from names (suc more) underscores = if list_any (stands_in (stem_with underscores)) names then stem_from names more (underscores + 1) else stem_with underscores

-- the first stem in no name, from no underscore to nine
abbrev pub stem_of : List (List ℕ) → List ℕ
stem_of names = stem_from names 9 0
