use Rattle.std.proofs.Common.{◌≡◌, ◌∙◌, ◌++◌, ◌∷◌, [], suc, List, map, sym, ap, subst, arith}
use Rattle.gl_match.specs.Graph.{Circuit}
use Rattle.gl_history.specs.Plain.{RoundCell, Round, Lifted, origin_value}
use Rattle.gl_history.specs.Reached.{AreFound, behind}
use Rattle.gl_history.proofs.lift.lift_level.Goals as goal

pub left_by-requires-clause-found : goal.left_by-requires-clause-found
left_by-requires-clause-found c =
    let before = c.args.before in
    let inside = c.before-2.inside in
    let view = c.before-2.view_is in
    let level = c.args.level in
    let cells = c.args.cells.now in
    let last : inside.last ≡ before.last = ap (λ (l : Lifted). l.last) view in
    let first : c.in_ok-first.first ≡ suc before.chosen = omega (arith, c.in_ok-first.ensures.next, ap (λ (l : Lifted). l.chosen) view) in
    let searched : AreFound before.last (suc before.chosen) cells level c.in_ok-found.found.items =
    subst (λ (x : Circuit). AreFound x (suc before.chosen) cells level c.in_ok-found.found.items) last (subst (λ n. AreFound inside.last n cells level c.in_ok-found.found.items) first c.in_ok-found.ensures.found) in
    (level, subst (λ (fs : List RoundCell). AreFound before.last (suc before.chosen) cells level fs) (sym c.deref.ensures.value) searched)

pub returns : goal.returns
returns c =
    let before = c.args.before in
    let inside = c.before-2.inside in
    let view = c.before-2.view_is in
    let level = c.args.level in
    let cells = c.args.cells.now in
    let found = c.in_ok-found.found.items in
    let last : inside.last ≡ before.last = ap (λ (l : Lifted). l.last) view in
    let origins : map origin_value inside.last_origins.items ≡ before.last_origins = ap (λ (l : Lifted). l.last_origins) view in
    let first : c.in_ok-first.first ≡ suc before.chosen = omega (arith, c.in_ok-first.ensures.next, ap (λ (l : Lifted). l.chosen) view) in
    let searched : AreFound before.last (suc before.chosen) cells level found =
    subst (λ (x : Circuit). AreFound x (suc before.chosen) cells level found) last (subst (λ n. AreFound inside.last n cells level found) first c.in_ok-found.ensures.found) in
    let left = behind cells before in
    let rounds = c.in_ok-push.ensures.items
    ∙ (λ i. let r : Round = record { circuit = last i; origins = origins i; cells = found } in (view i).rounds ++ r ∷ []) in
    let circuit = c.in_ok-left.ensures.circuit ∙ ap (λ (fs : List RoundCell). (left fs).last) c.deref.ensures.value in
    let last_origins = c.in_ok-left.ensures.origins ∙ ap (λ (fs : List RoundCell). (left fs).last_origins) c.deref.ensures.value in
    let chosen = c.in_ok-left.ensures.chosen ∙ ap (λ (fs : List RoundCell). (left fs).chosen) c.deref.ensures.value in
    record {
      step = record {
        found = found;
        searched = searched;
        after_is = λ i. let l : Lifted = record { rounds = rounds i; last = circuit i; last_origins = last_origins i; chosen = chosen i } in l;
      };
    }
