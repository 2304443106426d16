use Rattle.std.proofs.Common.{rules, refl}
use Rattle.gl_job.specs.Runs.{run_of}
use Rattle.gl_job.proofs.Outputs.{writable_behind, cut_first, written_first}
use Rattle.gl_job.proofs.writing.+write_outputs.Goals as goal

pub write_outputs-requires : goal.write_outputs-requires
write_outputs-requires g t c κs within =
    let shows = g.D.Desk.shows in
    let rest = writable_behind (shows c.args.desk.now) (shows c.write_output.new.desk) c.args.outputs.now _ c.in-len1-up.len_at_least c.requires.writable c.requires.apart c.write_output.ensures.others in
    search (rules, rest)

pub returns-in-Ok-clause-writes : goal.returns-in-Ok-clause-writes
returns-in-Ok-clause-writes g t c =
    let run = run_of g.D.Desk.shows g.D.Desk.held g.D.Desk.wants in
    let old = c.args.desk.now in
    let mid = c.write_output.new.desk in
    let new = c.write_outputs.new.desk in
    written_first (run old mid) (run mid new) (run old new) c.args.outputs.now _ _ c.in-len1-up.len_at_least c.requires.apart
    (λ slot. refl) (λ slot. refl) (λ slot. refl) c.write_output.ensures.names.same_wants
    c.in-Ok.ensures.written c.write_output.ensures.others c.write_outputs.ensures.others c.write_outputs.ensures.writes

pub returns-in-Err-clause-writes : goal.returns-in-Err-clause-writes
returns-in-Err-clause-writes g t c =
    cut_first (run_of g.D.Desk.shows g.D.Desk.held g.D.Desk.wants c.args.desk.now c.write_output.new.desk) c.args.outputs.now _ c.in-Err.stop c.in-len1-up.len_at_least c.requires.apart
    c.in-Err.ensures.cut.0 c.in-Err.ensures.cut.1 c.write_output.ensures.others
