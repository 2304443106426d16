use Rattle.std.proofs.Common.{◌∙◌, ap, sym, subst, map, filter, flat_map}
use Rattle.gl_text.specs.Decks.{has_twice}
use Rattle.gl_text.specs.Flattening.{bearers, net, top_net}
use Rattle.gl_printed.specs.ReadDecks.{AllDiffer}
use Rattle.gl_fault.specs.Refusals.{IsFound, IsRefusal}
use Rattle.gl_flat.specs.Refusals.{fault_of}
use Rattle.gl_flat.specs.SeenNames.{Seen, may_clash, plain_names, seen_all}
use Rattle.gl_flat.specs.TopNames.{top_names}
use Rattle.gl_fault.proofs.AnswerLaws.{found_on}
use Rattle.gl_flat.proofs.ClashLaws.{none_clash, found_clash}
use Rattle.gl_flat.proofs.DotLaws.{plain_kept, plain_passed}
use Rattle.gl_flat.proofs.clash.refuse_clash.Goals as goal

pub returns-in_err-add_all-clause-refused : goal.returns-in_err-add_all-clause-refused
returns-in_err-add_all-clause-refused c =
    let o = fault_of c.in_err-add_all.field-0.0 in
    let bs = flat_map bearers c.args.devices.now in
    let tops = top_names c.args.scene.now in
    let plain : AllDiffer (plain_names (filter may_clash bs)) = ap has_twice (plain_kept bs) ∙ c.requires.plain in
    found_on fault_of c.from_residual.result c.in_err-add_all.field-0.0 _ c.from_residual.ensures.1
    (subst (IsFound o) (sym (plain_passed (map (λ n. net (top_net n)) tops) bs))
    (found_clash o tops (filter may_clash bs) plain (subst (λ (s : Seen). IsRefusal o (seen_all s (filter may_clash bs))) c.of_scene-seen.ensures.nothing c.in_err-add_all.ensures.refused)))

pub returns-clause-ok : goal.returns-clause-ok
returns-clause-ok c =
    let bs = flat_map bearers c.args.devices.now in
    let tops = top_names c.args.scene.now in
    let plain : AllDiffer (plain_names (filter may_clash bs)) = ap has_twice (plain_kept bs) ∙ c.requires.plain in
    plain_passed (map (λ n. net (top_net n)) tops) bs
    ∙ none_clash tops (filter may_clash bs) c.add_all.new.self plain (ap (λ s. seen_all s (filter may_clash bs)) (sym c.of_scene-seen.ensures.nothing) ∙ c.in_ok-add_all.ensures.ok)
