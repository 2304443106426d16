use Rattle.std.proofs.Common.{◌∙◌, ◌++◌, refl, ap}
use Rattle.std.specs.Prelude.{flat_map}
use Rattle.gl_text.specs.Cards.{ended}
use Rattle.gl_text.specs.Decks.{sub_text, body_line, line_of, global_line, model_line, passed_line}
use Rattle.gl_deck.proofs.PrintingLaws.{sections, one_more}
use Rattle.gl_deck.proofs.print.put_deck.Goals as goal

pub returns-clause-ok : goal.returns-clause-ok
returns-clause-ok c =
    let out = c.args.out.now.items in
    let d = c.args.deck.now in
    let a = one_more passed_line out _ out _ _ c.in_ok-put_text.ensures.ok c.title.ensures.title refl in
    let b = one_more (flat_map global_line) _ _ _ _ _ c.in_ok-put_globals.ensures.ok c.globals.ensures.globals a in
    let e = one_more (flat_map model_line) _ _ _ _ _ c.in_ok-put_models.ensures.ok c.models.ensures.models b in
    let f = one_more (flat_map sub_text) _ _ _ _ _ c.in_ok-put_subs.ensures.ok (c.as_slice.ensures.subs ∙ c.subs.ensures.subs) e in
    let g = one_more (flat_map body_line) _ _ _ _ _ c.in_ok-put_bodies.ensures.ok c.top.ensures.top f in
    let h = one_more (flat_map passed_line) _ _ _ _ _ c.in_ok-put_all_passed.ensures.ok c.passed.ensures.passed g in
    c.in_ok-put_text-2.ensures.ok ∙ ap (λ t. t ++ line_of ended) h
    ∙ sections out d.title (flat_map global_line d.globals) (flat_map model_line d.models) (flat_map sub_text d.subs) (flat_map body_line d.top) (flat_map passed_line d.passed) (line_of ended)
