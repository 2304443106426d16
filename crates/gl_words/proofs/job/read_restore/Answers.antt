use Rattle.std.proofs.Common.{ap, ◌∙◌}
use Rattle.clap.specs.Words.{is_simple_and_free}
use Rattle.gl_words.proofs.Parses.{restore_is_simple}
use Rattle.gl_words.proofs.job.read_restore.Goals as goal

pub read_words-requires : goal.read_words-requires
read_words-requires c = record { simple = ap is_simple_and_free c.in_ok-command.ensures.app ∙ restore_is_simple }
