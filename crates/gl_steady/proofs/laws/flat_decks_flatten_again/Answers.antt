use Rattle.std.proofs.Common.{◌∙◌, ap, Ok}
use Rattle.gl_text.specs.Flattening.{Flat}
use Rattle.gl_steady.proofs.AtTop.{plain_is}
use Rattle.gl_steady.proofs.AgainLaws.{flatten_again}
use Rattle.gl_steady.proofs.laws.flat_decks_flatten_again.Goals as goal

pub returns : goal.returns
returns c = record { again = λ deck rails top flat h. flatten_again deck rails top flat h ∙ ap (λ (f : Flat). Ok f) (plain_is flat) }
