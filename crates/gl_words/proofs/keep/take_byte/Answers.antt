use Rattle.std.proofs.Common.{rules, ◌≡◌, ◌++◌, ◌∷◌, [], List, ℕ, true}
use Rattle.std.specs.Prelude.{◌==◌}
use Rattle.gl_text.specs.LogicalLines.{folded}
use Rattle.gl_words.proofs.Pieces.{comma_step}
use Rattle.gl_words.proofs.keep.take_byte.Goals as goal

pub returns-in_ok-push : goal.returns-in_ok-push
returns-in_ok-push c =
    let is : (c.args.byte == 44) ≡ true = search rules in
    let step = λ (rest : List ℕ). comma_step c.args.byte c.args.names.now.items c.args.piece.now.items rest is in
    let cleared : c.clear.new.self.items ≡ [] = search rules in
    let pushed : c.push.new.self.items ≡ c.args.names.now.items ++ folded c.args.piece.now.items ∷ [] = search rules in
    record { taken = λ rest. rw (cleared, pushed) (step rest) }
