-- What the words of the code name.
use Rattle.gl_words.specs.declared.job.Lift.{Lift}
use Rattle.gl_words.specs.declared.job.Flat.{Flat}
use Rattle.gl_words.specs.declared.job.Restore.{Restore}
use Rattle.gl_words.specs.declared.job.Job.{Job}
use Rattle.gl_words.specs.declared.job.Job.TheVariants as jobs
use Rattle.gl_words.specs.Jobs as words

abbrev pub lift_names : Lift → words.Request
lift_names l = record {
  deck = l.deck.now;
  library = l.library.now;
  lifted = l.lifted.now;
  map = l.map.now;
  report = l.report.now;
  top = l.top;
  keep = l.keep.items;
}

abbrev pub flat_names : Flat → words.FlatRequest
flat_names f = record { deck = f.deck.now; out = f.out.now; top = f.top }

abbrev pub restore_names : Restore → words.RestoreRequest
restore_names r = record { lifted = r.lifted.now; map = r.map.now; out = r.out.now; top = r.top }

-- the job with its names as texts
abbrev pub names_of : Job → words.Job
names_of (jobs.Lift l) = words.lift (lift_names l)
names_of (jobs.Flat f) = words.flat (flat_names f)
names_of (jobs.Restore r) = words.restore (restore_names r)
