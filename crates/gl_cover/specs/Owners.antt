-- Which chosen instance has each device, as the choice keeps it. This project's own.
use Rattle.std.specs.Prelude.{◌≡◌, ℕ, ◌+◌, List, length, Option, None, Some, nat_le, slice_index_or, fold, if◌then◌else◌}
use Rattle.std.specs.List.{filter_map}
use Rattle.gl_match.specs.Graph.{is_in}
use Rattle.gl_match.specs.Picks.{first_that}

-- the number at a device, none past the end
abbrev pub owner_at : List (Option ℕ) → ℕ → Option ℕ
owner_at owners dev = slice_index_or owners dev None

-- the lesser of a number found before and one more
abbrev pub lesser_number : Option ℕ → ℕ → Option ℕ
lesser_number None k = Some k
lesser_number (Some old) k = Some (if nat_le old k then old else k)

-- the least number that stands at a device of a set
abbrev pub least_owner : List (Option ℕ) → List ℕ → Option ℕ
least_owner owners set = fold lesser_number None (filter_map (owner_at owners) set)

-- at each device stands the number of the chosen one that has it, and the next number follows those of the chosen ones
pub record Keeps (first : ℕ) (chosen : List (List ℕ)) (owners : List (Option ℕ)) (next : ℕ) : Type 0 where
  pub owners_are : (dev : ℕ) → owner_at owners dev ≡ first_that (λ set. is_in set dev) first chosen
  pub next_is : next ≡ first + length chosen
