use Rattle.gl_deck.proofs.RankLaws.{ranked, ranked_below}
use Rattle.gl_deck.proofs.laws.tables_have_ranks.Goals as goal

pub returns : goal.returns
returns c = record { at_most = ranked; below = ranked_below }
