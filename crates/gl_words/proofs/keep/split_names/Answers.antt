use Rattle.std.proofs.Common.{rules, ◌≡◌, ◌++◌, [], ◌∷◌, ℕ, List, take, map, subst, arith}
use Rattle.std.proofs.lemmas.List.{take_all}
use Rattle.gl_text.specs.LogicalLines.{folded}
use Rattle.gl_words.specs.Pieces.{pieces}
use Rattle.gl_words.proofs.Pieces.{begin, finish}
use Rattle.gl_words.proofs.keep.split_names.Goals as goal

pub loop-byte-init : goal.loop-byte-init
loop-byte-init c = λ rest. rw (c.new-names.ensures.items, c.new-piece.ensures.items) (begin rest)

pub returns : goal.returns
returns c =
    let names = c.loop-byte.names.items in
    let piece = c.loop-byte.piece.items in
    let text = c.args.text.now in
    let whole : take c.loop-byte.byte-index text ≡ text = take_all c.loop-byte.byte-index text (omega (arith, c.loop-byte-test.false)) in
    let all = subst (λ (t : List ℕ). names ++ folded piece ∷ [] ≡ map folded (pieces t)) whole (finish names piece (take c.loop-byte.byte-index text) (c.loop-byte.invariant [])) in
    let pushed : c.push.new.self.items ≡ names ++ folded piece ∷ [] = search rules in
    record { names = rw pushed all }
