use Rattle.std.proofs.Common.{[], map, refl}
use Rattle.std.specs.Prelude.{string_bytes}
use Rattle.gl_job.specs.Runs.{run_of}
use Rattle.gl_job.proofs.Points.{memory_ends}
use Rattle.gl_run.specs.Jobs.{course_named}
use Rattle.gl_run.proofs.job.do_job.Goals as goal

pub returns-in-Err-clause-ends : goal.returns-in-Err-clause-ends
returns-in-Err-clause-ends g c =
    let r = run_of g.D.Desk.shows g.D.Desk.held g.D.Desk.wants c.args.desk.now c.args.desk.now in
    memory_ends [] (course_named (map string_bytes c.args.words.now)) r (λ slot apart quiet. refl)
