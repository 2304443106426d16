use Rattle.gl_history.proofs.HistoryLaws.{history_shown}
use Rattle.gl_history.proofs.laws.reached_shows_the_history.Goals as goal

pub returns : goal.returns
returns c = record { history = history_shown }
