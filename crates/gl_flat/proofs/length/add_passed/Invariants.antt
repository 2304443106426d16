use Rattle.std.proofs.Common.{◌≡◌, take, map}
use Rattle.std.specs.Prelude.{flat_map}
use Rattle.gl_text.specs.Decks.{passed_line}
use Rattle.gl_flat.specs.Lengths.{after}
use Rattle.gl_flat.proofs.length.add_passed.Given as goal

abbrev pub invariant-loop-text : goal.invariant-loop-text
invariant-loop-text l = l.sum ≡ after l.total (flat_map passed_line (map (λ t. t.items) (take l.text-index l.texts)))
