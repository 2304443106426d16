use Rattle.std.proofs.Common.{◌∙◌, ◌++◌, refl, ap}
use Rattle.std.specs.Prelude.{flat_map}
use Rattle.gl_text.specs.Cards.{ended}
use Rattle.gl_text.specs.Decks.{line_of, global_line, model_line, passed_line}
use Rattle.gl_text.specs.Flattening.{around}
use Rattle.gl_deck.proofs.PrintingLaws.{one_more, sections}
use Rattle.gl_history.specs.Replacing.{slots_of}
use Rattle.gl_write.specs.Texts.{variants_text, slots_text}
use Rattle.gl_write.proofs.deck.put_deck.Goals as goal

pub returns-clause-ok : goal.returns-clause-ok
returns-clause-ok c = λ s.
    let out = c.args.out.now.items in
    let scene = c.args.scene.now in
    let f = scene.flat.now in
    let lift = c.args.lift.now in
    let variants = variants_text s scene.names.now c.args.variants.now in
    let top = around f.top (slots_text scene.stem.now f scene.names.now scene.numbers.now (slots_of lift.last.devices lift.last_origins)) in
    let a = one_more passed_line out _ out _ _ c.in_ok-put_text.ensures.ok c.title.ensures.title refl in
    let b = one_more (flat_map global_line) _ _ _ _ _ c.in_ok-put_globals.ensures.ok c.rails.ensures.rails a in
    let e = one_more (flat_map model_line) _ _ _ _ _ c.in_ok-put_models.ensures.ok c.models.ensures.models b in
    let v = c.in_ok-put_variants.ensures.ok s ∙ ap (λ t. t ++ variants) e in
    let g = c.in_ok-put_top.ensures.ok ∙ ap (λ t. t ++ top) v in
    let h = one_more (flat_map passed_line) _ _ _ _ _ c.in_ok-put_all_passed.ensures.ok c.passed.ensures.passed g in
    c.in_ok-put_text-2.ensures.ok ∙ ap (λ t. t ++ line_of ended) h
    ∙ sections out f.title (flat_map global_line f.rails) (flat_map model_line f.models) variants top (flat_map passed_line f.passed) (line_of ended)
