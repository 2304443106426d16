use Rattle.std.proofs.Common.{◌≡◌, subst, sym, ap, ◌∙◌}
use Rattle.std.proofs.lemmas.Result.{IfOk-weaker}
use Rattle.gl_base.specs.Stems.{IsStem, names_in, stem_with}
use Rattle.gl_name.proofs.NamesLaws.{stem_of_need}
use Rattle.gl_name.proofs.fewest.stem.Goals as goal

pub returns : goal.returns
returns c =
    let names = names_in c.args.flat.now in
    record {
      stem = IfOk-weaker c.with_underscores.result (λ s. s.items ≡ stem_with c.underscores_for_deck.result) (λ s. IsStem names s.items)
          (λ s is. subst (IsStem names) (sym (is ∙ ap stem_with c.underscores_for_deck.ensures.needed)) (stem_of_need names)) c.with_underscores.ensures.stem;
    }
