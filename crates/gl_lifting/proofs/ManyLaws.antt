-- Over all rounds the devices of the last circuit stand for as many as there were at first, where each composite stands for what its parts stand for.
use Rattle.std.proofs.Common.{◌≡◌, ◌+◌, ℕ, suc, List, [], ◌∷◌, ◌++◌, length, map, refl, ap, arith}
use Rattle.std.specs.List.{enumerate_from}
use Rattle.std.proofs.lemmas.List.{length-map}
use Rattle.gl_match.specs.Graph.{Device}
use Rattle.gl_base.specs.BaseCircuit.{nets_of, device_of}
use Rattle.gl_lifting.specs.Runs.{Run, searched_at, first_circuit}
use Rattle.gl_lifting.specs.Replacement.{Origin, base, Composite}
use Rattle.gl_lifting.specs.Histories.{Stage, Round, History, IsLawfulRound, IsLawful, Follow, first_stage, composites_of, stage_behind}
use Rattle.gl_lifting.proofs.Weights.{weight, made_weight}
use Rattle.gl_lifting.proofs.StageLaws.{parts_weight, stage_weight, moved_well}
use Rattle.gl_lifting.proofs.StandLaws.{IsTold, round_stands}

-- the weights of two lists of composites add up
made-append : (g : Origin → ℕ) (xs ys : List Composite) → made_weight g (xs ++ ys) ≡ made_weight g xs + made_weight g ys
made-append g [] ys = omega arith
made-append g (x ∷ xs) ys = omega (arith, made-append g xs ys)

-- what a stage weighs beside its composites stays
rounds_weigh : (g : Origin → ℕ) (w : ℕ) (run : Run) (level : ℕ) (stage last : Stage) (rounds : List Round) → IsTold run → stage_weight g stage ≡ w + made_weight g stage.composites → Follow IsLawfulRound run level stage rounds last → stage_weight g last ≡ w + made_weight g last.composites
rounds_weigh g w run level stage last [] told e h =
    let a = ap (stage_weight g) h in
    let b = ap (λ (s : Stage). made_weight g s.composites) h in
    omega (arith, a, b, e)
rounds_weigh g w run level stage last (r ∷ rounds) told e h =
    let cells = searched_at run level in
    let new = composites_of run cells r in
    let behind = stage_behind run cells r in
    let most = (moved_well run level stage r h.0).none_new g in
    let least = round_stands run level stage r g told h.0 in
    let more = made-append g r.before.composites new in
    let old = ap (λ (s : Stage). made_weight g s.composites) h.0.begins in
    rounds_weigh g w run (suc level) behind last rounds told (omega (arith, most, least, more, old, e)) h.1

-- at first each device stands for itself
first_weigh : (g : Origin → ℕ) → ((d : ℕ) → g (base d) ≡ 1) → (k : ℕ) (devices : List Device) → weight g (map (λ (n : ℕ × Device). record { device = n.1; origin = base n.0 }) (enumerate_from k devices)) ≡ length devices
first_weigh g one k [] = refl
first_weigh g one k (d ∷ ds) = omega (arith, one k, first_weigh g one (k + 1) ds)

-- so at last, whatever composites stand for
pub history_weight : (g : Origin → ℕ) → ((d : ℕ) → g (base d) ≡ 1) → (run : Run) (h : History) → IsTold run → IsLawful run h → stage_weight g h.last ≡ length run.source.devices + made_weight g h.last.composites
history_weight g one run h told lawful =
    let devices = (first_circuit run).devices in
    let at_first = first_weigh g one 0 devices in
    let long : length devices ≡ length run.source.devices = length-map run.source.devices (device_of run.source (nets_of run.source.devices)) in
    rounds_weigh g (length run.source.devices) run 0 (first_stage run) h.last h.rounds told (omega (arith, at_first, long)) lawful.follow

-- and where each composite stands for what its parts stand for
pub history_weighs : (g : Origin → ℕ) → ((d : ℕ) → g (base d) ≡ 1) → (run : Run) (h : History) → IsTold run → IsLawful run h → made_weight g h.last.composites ≡ parts_weight g h.last.composites → weight g h.last.slots ≡ length run.source.devices
history_weighs g one run h told lawful same =
    let last = history_weight g one run h told lawful in
    omega (arith, last, same)
