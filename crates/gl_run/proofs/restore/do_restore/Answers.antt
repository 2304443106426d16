use Rattle.std.proofs.Common.{◌≡◌, ℕ, List, [], ◌∷◌, refl, subst}
use Rattle.gl_desk.specs.declared.slot.Slot.TheVariants.{Out}
use Rattle.gl_job.specs.Runs.{run_of, opening}
use Rattle.gl_job.specs.Courses.{Writes}
use Rattle.gl_words.specs.Names.{restore_names}
use Rattle.gl_run.specs.Jobs.{restore_course}
use Rattle.gl_run.specs.Endings.{end_of}
use Rattle.gl_run.proofs.Courses.{restore_proper}
use Rattle.gl_run.proofs.Finishing.{finished}
use Rattle.gl_run.proofs.restore.do_restore.Goals as goal

pub returns-clause-ends : goal.returns-clause-ends
returns-clause-ends g c =
    let words = restore_names c.args.words.now in
    let o = opening Out words.out in
    let end = end_of c.finish.result in
    let writes : Writes (o ∷ []) (c.in-Ok.text.items ∷ []) [] end (run_of g.D.Desk.shows g.D.Desk.held g.D.Desk.wants c.make_restore.new.desk c.finish.new.desk) =
    subst (λ (t : List ℕ). Writes (o ∷ []) (t ∷ []) [] end (run_of g.D.Desk.shows g.D.Desk.held g.D.Desk.wants c.make_restore.new.desk c.finish.new.desk)) c.deref.ensures.value c.finish.ensures.writes in
    finished g.D.Desk.shows g.D.Desk.held g.D.Desk.wants c.args.desk.now c.make_restore.new.desk c.finish.new.desk (restore_course words) o c.in-Ok.text.items end (restore_proper words) refl (λ e. absurd cc) c.make_restore.ensures.names c.finish.ensures.others c.in-Ok.ensures.made writes
