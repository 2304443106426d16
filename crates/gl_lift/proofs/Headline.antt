-- What is so of each round of a history.
use Rattle.std.proofs.Common.{◌≡◌, ℕ, suc, List, [], ◌∷◌}
use Rattle.gl_match.specs.declared.role.Pick.{Pick}
use Rattle.gl_match.specs.Graph.{Circuit, Pattern}
use Rattle.gl_match.specs.Listing.{Instance}
use Rattle.gl_match.specs.Choice.{IsChoice, IsChosen, Meet, joined, sets_of}
use Rattle.gl_base.specs.Rounds.{IsRound}
use Rattle.gl_lifting.specs.Runs.{Run, searched_at}
use Rattle.gl_lifting.specs.Histories.{Stage, Round, History, IsHistory, AreRounds, Follow, stage_behind}
use Rattle.gl_lift.specs.Lifting.{AreComplete, AreChoice, AreApart}

-- what may be said of a round
abbrev Saying : Type 1
Saying = Circuit → ℕ → List Pattern → List (List Instance) → List (List Pick) → Type 0

-- what follows of each round from what is said of it
follow_so : (Said Then : Saying) (so : (c : Circuit) (first : ℕ) (patterns : List Pattern) (lists : List (List Instance)) (picks : List (List Pick)) → Said c first patterns lists picks → Then c first patterns lists picks)
    (run : Run) (level : ℕ) (stage : Stage) (rounds : List Round) (last : Stage) → Follow Said run level stage rounds last → Follow Then run level stage rounds last
follow_so Said Then so run level stage [] last h = h
follow_so Said Then so run level stage (r ∷ rounds) last h = (
  record { begins = h.0.begins; said = so _ _ _ r.lists r.picks h.0.said },
  follow_so Said Then so run (suc level) (stage_behind run (searched_at run level) r) rounds last h.1,
)

rounds_so : (Said Then : Saying) (so : (c : Circuit) (first : ℕ) (patterns : List Pattern) (lists : List (List Instance)) (picks : List (List Pick)) → Said c first patterns lists picks → Then c first patterns lists picks)
    (run : Run) (h : History) → AreRounds Said run h → AreRounds Then run h
rounds_so Said Then so run h is = record { levels = is.levels; follow = follow_so Said Then so run 0 _ h.rounds h.last is.follow }

-- the lists are complete
pub all_complete : (run : Run) (h : History) → IsHistory run h → AreRounds AreComplete run h
all_complete run h is = rounds_so IsRound AreComplete (λ c first patterns lists picks r. r.complete) run h is

-- the picks are the choice
pub all_choice : (run : Run) (h : History) → IsHistory run h → AreRounds AreChoice run h
all_choice run h is = rounds_so IsRound AreChoice (λ c first patterns lists picks r. r.choice) run h is

-- no two chosen instances of a choice have a device in common
abbrev pub ChosenAreApart : Type 0
ChosenAreApart = (first : ℕ) (lists : List (List (List ℕ))) (picks : List (List Pick)) → IsChoice first lists picks → (i j k l : ℕ) → IsChosen (joined picks) i k → IsChosen (joined picks) j l → Meet (joined lists) i j → i ≡ j

pub all_apart : ChosenAreApart → (run : Run) (h : History) → IsHistory run h → AreRounds AreApart run h
all_apart are run h is = rounds_so IsRound AreApart (λ c first patterns lists picks r. are first (sets_of lists) picks r.choice) run h is
