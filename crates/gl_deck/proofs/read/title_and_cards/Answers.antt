use Rattle.std.proofs.Common.{◌≡◌, length, ap, arith}
use Rattle.gl_text.specs.LogicalLines.{title_of}
use Rattle.gl_deck.proofs.TitleLaws.{title_few}
use Rattle.gl_deck.proofs.read.title_and_cards.Goals as goal

pub title_fault-requires : goal.title_fault-requires
title_fault-requires c =
    let same : length c.split_title.result.0.now ≡ length (title_of c.args.bytes.now) = ap length c.split_title.ensures.title in
    let few = title_few c.args.bytes.now in
    record { few = omega (arith, same, few, c.requires.size) }
