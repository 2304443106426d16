-- Ranks of subcircuits: numbers by which no call goes up, and tables in which no subcircuit leads back to itself.
use Rattle.std.specs.Prelude.{◌≡◌, ◌<◌, false, ℕ, ◌≤◌, List, Option, Some, None, IfSome, IsSome, slice_index}
use Rattle.std.specs.List.{AllByRecursion}
use Rattle.gl_text.specs.Decks.{Sub, Body, callees, find_sub, reaches}
use Rattle.gl_text.specs.Levels.{Down}
use Rattle.gl_deck.specs.Places.{place_in}

-- the rank at a place
abbrev pub rank_at : List ℕ → Option ℕ → ℕ
rank_at ranks None = 0
rank_at ranks (Some place) = slice_index ranks place

-- the rank of the subcircuit of a name, 0 where there is none
abbrev pub rank_in : List Sub → List ℕ → List ℕ → ℕ
rank_in subs ranks name = rank_at ranks (place_in subs name)

-- what these cards call has at most this rank
abbrev pub AtMost : (List ℕ → ℕ) → ℕ → List Body → Type 0
AtMost rank most cards = AllByRecursion (λ n. rank n ≤ most) (callees cards)

-- what a subcircuit calls has at most its own rank
abbrev pub NoneUp : (List ℕ → ℕ) → List Sub → Type 0
NoneUp rank subs = AllByRecursion (λ (s : Sub). AtMost rank (rank s.head.name) s.cards) subs

-- these are such ranks, by the places of the subcircuits
abbrev pub AreRanks : List Sub → List ℕ → Type 0
AreRanks subs ranks = NoneUp (rank_in subs ranks) subs

-- what a subcircuit calls does not lead back to it
abbrev pub NoneBack : List Sub → Type 0
NoneBack subs = AllByRecursion (λ (s : Sub). AllByRecursion (λ n. IfSome (find_sub subs n) (λ t. reaches subs t s.head.name ≡ false)) (callees s.cards)) subs

-- what a subcircuit calls is there
abbrev pub AllThere : List Sub → Type 0
AllThere subs = AllByRecursion (λ (s : Sub). AllByRecursion (λ n. IsSome (find_sub subs n)) (callees s.cards)) subs

-- there is a rank by which each call goes down, and which is below a bound for each subcircuit
pub record HasRank (subs : List Sub) (bound : ℕ) : Type 0 where
  pub rank : List ℕ → ℕ
  pub down : Down rank subs
  pub below : AllByRecursion (λ (s : Sub). rank s.head.name < bound) subs
