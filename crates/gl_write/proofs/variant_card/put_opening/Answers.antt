use Rattle.std.proofs.Common.{◌∙◌, ◌++◌, ◌∷◌, [], ap}
use Rattle.gl_card.specs.Lines.{spaced_all}
use Rattle.gl_write.proofs.LineLaws.{opening_words}
use Rattle.gl_write.proofs.variant_card.put_opening.Goals as goal

pub returns : goal.returns
returns c = record {
  ok =
      let out = c.args.out.now.items in
      let a = c.in_ok-put_word.ensures.ok ∙ ap (λ w. c.put.new.out.items ++ spaced_all (w ∷ [])) c.as_bytes.ensures.bytes ∙ ap (λ t. t ++ spaced_all (c.args.name.now ∷ [])) c.in_ok-put.ensures.ok in
      let b = c.in_ok-put_words.ensures.ok ∙ ap (λ t. t ++ spaced_all c.args.ports.now) a in
      c.in_ok-put-2.ensures.ok ∙ ap (λ t. t ++ 10 ∷ []) b ∙ opening_words out c.args.name.now c.args.ports.now;
}
