use Rattle.std.proofs.Common.{◌≡◌, ◌++◌, take}
use Rattle.std.specs.Prelude.{flat_map}
use Rattle.gl_text.specs.Decks.{model_line}
use Rattle.gl_deck.proofs.print.put_models.Given as goal

abbrev pub invariant-loop-model : goal.invariant-loop-model
invariant-loop-model l = l.out.items ≡ l.fn.out.items ++ flat_map model_line (take l.model-index l.models)
