use Rattle.std.proofs.Common.{◌≡◌, ◌++◌, take, map}
use Rattle.std.specs.Prelude.{flat_map}
use Rattle.gl_text.specs.Decks.{passed_line}
use Rattle.gl_deck.proofs.print.put_all_passed.Given as goal

abbrev pub invariant-loop-text : goal.invariant-loop-text
invariant-loop-text l = l.out.items ≡ l.fn.out.items ++ flat_map passed_line (map (λ t. t.items) (take l.text-index l.texts))
