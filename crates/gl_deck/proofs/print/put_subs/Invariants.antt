use Rattle.std.proofs.Common.{◌≡◌, ◌++◌, take}
use Rattle.std.specs.Prelude.{flat_map}
use Rattle.gl_text.specs.Decks.{sub_text}
use Rattle.gl_deck.proofs.print.put_subs.Given as goal

abbrev pub invariant-loop-sub : goal.invariant-loop-sub
invariant-loop-sub l = l.out.items ≡ l.fn.out.items ++ flat_map sub_text (take l.sub-index l.subs)
