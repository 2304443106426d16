use Rattle.std.proofs.Common.{◌∙◌, ◌∷◌, [], ◌++◌, ap, refl}
use Rattle.std.specs.Prelude.{codes}
use Rattle.gl_card.specs.Lines.{spaced_all}
use Rattle.gl_flat.specs.Lengths.{after}
use Rattle.gl_flat.proofs.LengthLaws.{next, head_words}
use Rattle.gl_flat.proofs.length.add_head.Goals as goal

pub returns : goal.returns
returns c =
    let t = c.args.total in
    let h = c.args.head.now in
    let a = next t (codes ".subckt") (32 ∷ c.as_bytes.result.now) (32 ∷ h.name) c.add.result c.add_word-named.result c.add.ensures.total c.add_word-named.ensures.total (ap (λ n. 32 ∷ n) (c.as_bytes.ensures.bytes ∙ c.name.ensures.name)) in
    let b = next t (codes ".subckt" ++ 32 ∷ h.name) (spaced_all c.ports.result.now) (spaced_all h.ports) c.add_word-named.result c.add_words.result a c.add_words.ensures.total (ap spaced_all c.ports.ensures.ports) in
    let d = next t ((codes ".subckt" ++ 32 ∷ h.name) ++ spaced_all h.ports) (10 ∷ []) (10 ∷ []) c.add_words.result c.add-2.result b c.add-2.ensures.total refl in
    record { total = d ∙ ap (after t) (head_words c.args.head.now) }
