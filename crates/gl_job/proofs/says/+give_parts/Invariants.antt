use Rattle.std.proofs.Common.{length}
use Rattle.gl_job.proofs.says.+give_parts.Given as goal

abbrev pub decreases-give_parts : goal.decreases-give_parts
decreases-give_parts g l = length l.parts.now
