use Rattle.std.proofs.Common.{◌∙◌, ap, sym}
use Rattle.gl_text.specs.Flattening.{flat_text}
use Rattle.gl_printed.specs.FlatDecks.{deck_of}
use Rattle.gl_steady.proofs.AtTop.{plain_is}
use Rattle.gl_steady.proofs.TopDevices.{deck_stays, text_stays}
use Rattle.gl_steady.proofs.laws.flat_decks_stay.Goals as goal

pub returns : goal.returns
returns c = record {
  deck = λ flat. ap deck_of (sym (plain_is flat)) ∙ deck_stays flat;
  text = λ flat. ap flat_text (sym (plain_is flat)) ∙ text_stays flat;
}
