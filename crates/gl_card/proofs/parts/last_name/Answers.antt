use Rattle.std.proofs.Common.{◌≡◌, ℕ, List, subst}
use Rattle.std.specs.Prelude.{IfOk}
use Rattle.gl_card.proofs.PartLaws.{last_is}
use Rattle.gl_card.proofs.parts.last_name.Goals as goal

pub returns : goal.returns
returns c =
    let e = last_is c.args.fields.now c.index-fields-fields.result c.requires.some in
    let P : List ℕ → Type 0 = λ t. IfOk c.folded.result (λ name. name ≡ t) in
    record { name = subst P e c.folded.ensures.folded }
