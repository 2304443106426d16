use Rattle.std.proofs.Common.{ℕ, List, [], ◌∷◌, refl, subst}
use Rattle.gl_desk.specs.declared.slot.Slot.TheVariants.{Out}
use Rattle.gl_job.specs.Runs.{run_of, opening}
use Rattle.gl_job.specs.Courses.{Writes}
use Rattle.gl_words.specs.Names.{flat_names}
use Rattle.gl_run.specs.Jobs.{flat_course}
use Rattle.gl_run.specs.Endings.{end_of}
use Rattle.gl_run.proofs.Courses.{flat_proper, flat_made, flat_unmade}
use Rattle.gl_run.proofs.Finishing.{finished}
use Rattle.gl_run.proofs.flat.do_flat.Goals as goal

pub returns-clause-ends : goal.returns-clause-ends
returns-clause-ends g c =
    let words = flat_names c.args.words.now in
    let o = opening Out words.out in
    let end = end_of c.finish.result in
    let m = run_of g.D.Desk.shows g.D.Desk.held g.D.Desk.wants c.args.desk.now c.make_flat.new.desk in
    let made = flat_made words c.in-Ok.text.items m c.in-Ok.ensures.made (λ slot apart quiet. c.make_flat.ensures.others slot apart.0) in
    let writes : Writes (o ∷ []) (c.in-Ok.text.items ∷ []) [] end (run_of g.D.Desk.shows g.D.Desk.held g.D.Desk.wants c.make_flat.new.desk c.finish.new.desk) =
    subst (λ (t : List ℕ). Writes (o ∷ []) (t ∷ []) [] end (run_of g.D.Desk.shows g.D.Desk.held g.D.Desk.wants c.make_flat.new.desk c.finish.new.desk)) c.deref.ensures.value c.finish.ensures.writes in
    finished g.D.Desk.shows g.D.Desk.held g.D.Desk.wants c.args.desk.now c.make_flat.new.desk c.finish.new.desk (flat_course words) o c.in-Ok.text.items end (flat_proper words) refl (λ e. absurd cc) c.make_flat.ensures.names c.finish.ensures.others made writes

pub returns-in-Err-clause-ends : goal.returns-in-Err-clause-ends
returns-in-Err-clause-ends g c =
    let m = run_of g.D.Desk.shows g.D.Desk.held g.D.Desk.wants c.args.desk.now c.make_flat.new.desk in
    flat_unmade (flat_names c.args.words.now) (end_of c.in-Err.ending) m c.in-Err.ensures.unmade (λ slot apart quiet. c.make_flat.ensures.others slot apart.0)
