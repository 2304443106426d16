use Rattle.std.proofs.Common.{rules, ◌++◌, ℕ, List, subst}
use Rattle.std.specs.Prelude.{codes, OnErr}
use Rattle.gl_desk.specs.Desk.{Gives, GivesFront}
use Rattle.gl_desk.specs.declared.slot.Slot.TheVariants.{Says}
use Rattle.gl_job.specs.Texts.{front_of}
use Rattle.gl_said.specs.Texts.{parts_text}
use Rattle.gl_job.proofs.Fronts.{gives_then_front, front_longer, on_err, err_then}
use Rattle.gl_job.proofs.says.give_line.Goals as goal

pub returns-in_err-give_parts-clause-err : goal.returns-in_err-give_parts-clause-err
returns-in_err-give_parts-clause-err g c =
    let a = g.D.Desk.shows c.args.desk.now Says in
    let b = g.D.Desk.shows c.give_part.new.desk Says in
    let d = g.D.Desk.shows c.give_parts.new.desk Says in
    let front = front_of c.args.kind in
    let parts = parts_text c.args.parts.now in
    let raw : Gives a b c.front.result.now = search rules in
    let given : Gives a b front = subst (λ (t : List ℕ). Gives a b t) c.front.ensures.front raw in
    let last : GivesFront b d parts = search rules in
    on_err c.from_residual-in_err-give_parts.result (gives_then_front a b d front (parts ++ codes "\n") given (front_longer b d parts (codes "\n") last))

pub returns-clause-err : goal.returns-clause-err
returns-clause-err g c =
    let a = g.D.Desk.shows c.args.desk.now Says in
    let b = g.D.Desk.shows c.give_part.new.desk Says in
    let d = g.D.Desk.shows c.give_parts.new.desk Says in
    let e = g.D.Desk.shows c.give_part-2.new.desk Says in
    let front = front_of c.args.kind in
    let parts = parts_text c.args.parts.now in
    let raw : Gives a b c.front.result.now = search rules in
    let given : Gives a b front = subst (λ (t : List ℕ). Gives a b t) c.front.ensures.front raw in
    let middle : Gives b d parts = search rules in
    let last : OnErr c.give_part-2.result (GivesFront d e (codes "\n")) = c.give_part-2.ensures.err in
    err_then {P = GivesFront d e (codes "\n")} {Q = GivesFront a e (front ++ (parts ++ codes "\n"))} c.give_part-2.result
    (λ p. gives_then_front a b e front (parts ++ codes "\n") given (gives_then_front b d e parts (codes "\n") middle p)) last
