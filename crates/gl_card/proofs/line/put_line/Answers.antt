use Rattle.std.proofs.Common.{◌≡◌, ◌∙◌, ◌++◌, ap, append_assoc}
use Rattle.std.specs.Prelude.{option_to_list}
use Rattle.std.specs.Option.{option_copied}
use Rattle.gl_text.specs.Cards.{spaced}
use Rattle.gl_card.specs.Lines.{spaced_all, line_of}
use Rattle.gl_card.proofs.PrintLaws.{line_is, front_of}
use Rattle.gl_card.proofs.line.put_line.Goals as goal

pub returns-clause-put : goal.returns-clause-put
returns-clause-put c =
    let p = c.args.parts.now in
    let out = c.args.line.now.items in
    let one = option_to_list (option_copied p.one) in
    let last = option_to_list (option_copied p.last) in
    let first = p.first.now in
    let a : c.put_word.new.line.items ≡ out ++ (first ++ spaced_all one) = c.in_ok-put_word.ensures.put ∙ ap (λ t. t ++ spaced_all one) c.in_ok-extend_from_slice.ensures.items ∙ append_assoc out first (spaced_all one) in
    let b : c.put_words.new.line.items ≡ out ++ (first ++ spaced_all one ++ spaced_all p.many.now) = c.in_ok-put_words.ensures.put ∙ ap (λ t. t ++ spaced_all p.many.now) a ∙ append_assoc out (first ++ spaced_all one) (spaced_all p.many.now) in
    let d : c.put_word-2.new.line.items ≡ out ++ (first ++ spaced_all one ++ spaced_all p.many.now ++ spaced_all last) = c.in_ok-put_word-2.ensures.put ∙ ap (λ t. t ++ spaced_all last) b ∙ append_assoc out (first ++ spaced_all one ++ spaced_all p.many.now) (spaced_all last) in
    c.in_ok-put_tail.ensures.put ∙ ap (λ t. t ++ spaced p.tail.now) d ∙ append_assoc out (first ++ spaced_all one ++ spaced_all p.many.now ++ spaced_all last) (spaced p.tail.now)
    ∙ ap (λ t. out ++ t) (line_is first one p.many.now last (spaced p.tail.now))

pub returns-clause-front : goal.returns-clause-front
returns-clause-front c = front_of c.args.line.now.items c.put_tail.new.line.items (line_of c.args.parts.now) (returns-clause-put c)
