use Rattle.std.proofs.Common.{map}
use Rattle.std.specs.Prelude.{string_bytes}
use Rattle.gl_job.specs.Runs.{run_of}
use Rattle.gl_words.specs.Jobs.{job_named}
use Rattle.gl_run.specs.Jobs.{course_of}
use Rattle.gl_run.specs.Endings.{end_of}
use Rattle.gl_run.proofs.Courses.{course_proper}
use Rattle.gl_run.proofs.Answering.{whole_ending, words_claim, no_words_claim, done_claim, complete_claim, long_claim, failed_claim, closed_claim, left_claim}
use Rattle.gl_run.proofs.job.run.Goals as goal

pub returns-clause-ending : goal.returns-clause-ending
returns-clause-ending g c =
    let job = job_named (map string_bytes c.args.words.now) in
    let r = run_of g.D.Desk.shows g.D.Desk.held g.D.Desk.wants c.args.desk.now c.say_ending.new.desk in
    let ending = whole_ending g.D.Desk.shows g.D.Desk.held g.D.Desk.wants c.args.desk.now c.do_job-ending.new.desk c.say_ending.new.desk job (end_of c.do_job-ending.result) c.status.result c.status.ensures.status c.do_job-ending.ensures.ends c.do_job-ending.ensures.says c.say_ending.ensures.others c.say_ending.ensures.line in
    ending

pub returns-clause-words : goal.returns-clause-words
returns-clause-words g c =
    let job = job_named (map string_bytes c.args.words.now) in
    let r = run_of g.D.Desk.shows g.D.Desk.held g.D.Desk.wants c.args.desk.now c.say_ending.new.desk in
    let ending = whole_ending g.D.Desk.shows g.D.Desk.held g.D.Desk.wants c.args.desk.now c.do_job-ending.new.desk c.say_ending.new.desk job (end_of c.do_job-ending.result) c.status.result c.status.ensures.status c.do_job-ending.ensures.ends c.do_job-ending.ensures.says c.say_ending.ensures.others c.say_ending.ensures.line in
    words_claim c.status.result job r ending

pub returns-clause-no_words : goal.returns-clause-no_words
returns-clause-no_words g c =
    let job = job_named (map string_bytes c.args.words.now) in
    let r = run_of g.D.Desk.shows g.D.Desk.held g.D.Desk.wants c.args.desk.now c.say_ending.new.desk in
    let ending = whole_ending g.D.Desk.shows g.D.Desk.held g.D.Desk.wants c.args.desk.now c.do_job-ending.new.desk c.say_ending.new.desk job (end_of c.do_job-ending.result) c.status.result c.status.ensures.status c.do_job-ending.ensures.ends c.do_job-ending.ensures.says c.say_ending.ensures.others c.say_ending.ensures.line in
    no_words_claim c.status.result job r ending

pub returns-clause-done : goal.returns-clause-done
returns-clause-done g c =
    let job = job_named (map string_bytes c.args.words.now) in
    let r = run_of g.D.Desk.shows g.D.Desk.held g.D.Desk.wants c.args.desk.now c.say_ending.new.desk in
    let ending = whole_ending g.D.Desk.shows g.D.Desk.held g.D.Desk.wants c.args.desk.now c.do_job-ending.new.desk c.say_ending.new.desk job (end_of c.do_job-ending.result) c.status.result c.status.ensures.status c.do_job-ending.ensures.ends c.do_job-ending.ensures.says c.say_ending.ensures.others c.say_ending.ensures.line in
    done_claim c.status.result (course_of job) r ending

pub returns-clause-complete : goal.returns-clause-complete
returns-clause-complete g c =
    let job = job_named (map string_bytes c.args.words.now) in
    let r = run_of g.D.Desk.shows g.D.Desk.held g.D.Desk.wants c.args.desk.now c.say_ending.new.desk in
    let ending = whole_ending g.D.Desk.shows g.D.Desk.held g.D.Desk.wants c.args.desk.now c.do_job-ending.new.desk c.say_ending.new.desk job (end_of c.do_job-ending.result) c.status.result c.status.ensures.status c.do_job-ending.ensures.ends c.do_job-ending.ensures.says c.say_ending.ensures.others c.say_ending.ensures.line in
    complete_claim c.status.result (course_of job) r ending

pub returns-clause-long : goal.returns-clause-long
returns-clause-long g c =
    let job = job_named (map string_bytes c.args.words.now) in
    let r = run_of g.D.Desk.shows g.D.Desk.held g.D.Desk.wants c.args.desk.now c.say_ending.new.desk in
    let ending = whole_ending g.D.Desk.shows g.D.Desk.held g.D.Desk.wants c.args.desk.now c.do_job-ending.new.desk c.say_ending.new.desk job (end_of c.do_job-ending.result) c.status.result c.status.ensures.status c.do_job-ending.ensures.ends c.do_job-ending.ensures.says c.say_ending.ensures.others c.say_ending.ensures.line in
    long_claim c.status.result (course_of job) r (course_proper job) c.requires.fresh.free ending

pub returns-clause-failed : goal.returns-clause-failed
returns-clause-failed g c =
    let job = job_named (map string_bytes c.args.words.now) in
    let r = run_of g.D.Desk.shows g.D.Desk.held g.D.Desk.wants c.args.desk.now c.say_ending.new.desk in
    let ending = whole_ending g.D.Desk.shows g.D.Desk.held g.D.Desk.wants c.args.desk.now c.do_job-ending.new.desk c.say_ending.new.desk job (end_of c.do_job-ending.result) c.status.result c.status.ensures.status c.do_job-ending.ensures.ends c.do_job-ending.ensures.says c.say_ending.ensures.others c.say_ending.ensures.line in
    failed_claim c.status.result (course_of job) r ending

pub returns-clause-closed : goal.returns-clause-closed
returns-clause-closed g c =
    let job = job_named (map string_bytes c.args.words.now) in
    let r = run_of g.D.Desk.shows g.D.Desk.held g.D.Desk.wants c.args.desk.now c.say_ending.new.desk in
    let ending = whole_ending g.D.Desk.shows g.D.Desk.held g.D.Desk.wants c.args.desk.now c.do_job-ending.new.desk c.say_ending.new.desk job (end_of c.do_job-ending.result) c.status.result c.status.ensures.status c.do_job-ending.ensures.ends c.do_job-ending.ensures.says c.say_ending.ensures.others c.say_ending.ensures.line in
    closed_claim c.status.result (course_of job) r (course_proper job) c.requires.fresh.free ending

pub returns-clause-unused : goal.returns-clause-unused
returns-clause-unused g c =
    let job = job_named (map string_bytes c.args.words.now) in
    let r = run_of g.D.Desk.shows g.D.Desk.held g.D.Desk.wants c.args.desk.now c.say_ending.new.desk in
    let ending = whole_ending g.D.Desk.shows g.D.Desk.held g.D.Desk.wants c.args.desk.now c.do_job-ending.new.desk c.say_ending.new.desk job (end_of c.do_job-ending.result) c.status.result c.status.ensures.status c.do_job-ending.ensures.ends c.do_job-ending.ensures.says c.say_ending.ensures.others c.say_ending.ensures.line in
    left_claim c.status.result (course_of job) r ending
