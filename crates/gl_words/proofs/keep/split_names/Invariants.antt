use Rattle.std.proofs.Common.{◌≡◌, ◌++◌, ℕ, List, map, take}
use Rattle.gl_text.specs.LogicalLines.{folded}
use Rattle.gl_words.specs.Pieces.{onto_first, pieces}
use Rattle.gl_words.proofs.keep.split_names.Given as goal

abbrev pub invariant-loop-byte : goal.invariant-loop-byte
invariant-loop-byte l = (rest : List ℕ)
    → l.names.items ++ map folded (onto_first l.piece.items (pieces rest)) ≡ map folded (pieces (take l.byte-index l.text ++ rest))
