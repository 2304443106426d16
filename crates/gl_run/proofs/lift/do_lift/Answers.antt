use Rattle.std.proofs.Common.{◌≡◌, ℕ, List, [], ◌∷◌, ap, ◌∙◌, subst}
use Rattle.gl_job.specs.Runs.{run_of}
use Rattle.gl_job.specs.Courses.{Writes}
use Rattle.gl_words.specs.Names.{lift_names}
use Rattle.gl_lifting.specs.LiftJobs.{Texts}
use Rattle.gl_run.specs.Jobs.{lift_course, lift_outs, texts_in_order}
use Rattle.gl_run.specs.Endings.{end_of}
use Rattle.gl_run.proofs.Courses.{lift_proper, lift_outs_proper}
use Rattle.gl_run.proofs.Finishing.{finished_all}
use Rattle.gl_run.proofs.lift.do_lift.Goals as goal

pub returns-clause-ends : goal.returns-clause-ends
returns-clause-ends g c =
    let words = lift_names c.args.words.now in
    let outs = lift_outs words in
    let end = end_of c.finish.result in
    let run = run_of g.D.Desk.shows g.D.Desk.held g.D.Desk.wants c.make_lift.new.desk c.finish.new.desk in
    let given : (c.deref.result.now ∷ c.deref-2.result.now ∷ c.deref-3.result.now ∷ []) ≡ texts_in_order c.in-Ok.texts =
    ap (λ (t : List ℕ). t ∷ c.deref-2.result.now ∷ c.deref-3.result.now ∷ []) (c.deref.ensures.value ∙ ap (λ (t : Texts). t.lifted) c.texts.view_is)
    ∙ (ap (λ (t : List ℕ). c.in-Ok.texts.lifted ∷ t ∷ c.deref-3.result.now ∷ []) (c.deref-2.ensures.value ∙ ap (λ (t : Texts). t.map) c.texts.view_is)
    ∙ ap (λ (t : List ℕ). c.in-Ok.texts.lifted ∷ c.in-Ok.texts.map ∷ t ∷ []) (c.deref-3.ensures.value ∙ ap (λ (t : Texts). t.report) c.texts.view_is)) in
    let writes : Writes outs (texts_in_order c.in-Ok.texts) [] end run = subst (λ (ts : List (List ℕ)). Writes outs ts [] end run) given c.finish.ensures.writes in
    finished_all g.D.Desk.shows g.D.Desk.held g.D.Desk.wants c.args.desk.now c.make_lift.new.desk c.finish.new.desk (lift_course words) outs (texts_in_order c.in-Ok.texts) end (lift_proper words) (lift_outs_proper words) c.make_lift.ensures.names c.finish.ensures.others c.in-Ok.ensures.made writes
