use Rattle.std.proofs.Common.{◌∙◌, ◌++◌, ℕ, List, refl, ap, map}
use Rattle.std.specs.Prelude.{flat_map}
use Rattle.gl_text.specs.Cards.{ended}
use Rattle.gl_text.specs.Decks.{line_of, global_line, model_line, passed_line}
use Rattle.gl_text.specs.Flattening.{around, flat_line}
use Rattle.gl_text.specs.PlainFlats.{plain_device}
use Rattle.gl_deck.proofs.PrintingLaws.{one_more}
use Rattle.gl_flat.specs.Kept.{device_line, kept_cards}
use Rattle.gl_flat.proofs.PrintingLaws.{sections}
use Rattle.gl_restore.proofs.TextLaws.{lines_kept}
use Rattle.gl_restore.proofs.print.put_deck.Goals as goal

pub returns-clause-ok : goal.returns-clause-ok
returns-clause-ok c =
    let out = c.args.out.now.items in
    let f = c.args.flat.now in
    let nets = map (λ n. n.now) c.args.nets.now in
    let backs = c.args.backs.now in
    let devices = around f.top (flat_map flat_line (map plain_device (kept_cards nets backs))) in
    let a = one_more passed_line out _ out _ _ c.in_ok-put_text.ensures.ok c.title.ensures.title refl in
    let b = one_more (flat_map global_line) _ _ _ _ _ c.in_ok-put_globals.ensures.ok c.rails.ensures.rails a in
    let e = one_more (flat_map model_line) _ _ _ _ _ c.in_ok-put_models.ensures.ok c.models.ensures.models b in
    let middle = c.in_ok-put_around.ensures.ok
    ∙ ap (λ top. c.put_models.new.out.items ++ around top (flat_map (device_line nets) backs)) c.top.ensures.top
    ∙ ap (λ (t : List ℕ). c.put_models.new.out.items ++ around f.top t) (lines_kept nets backs) in
    let g = middle ∙ ap (λ t. t ++ devices) e in
    let h = one_more (flat_map passed_line) _ _ _ _ _ c.in_ok-put_all_passed.ensures.ok c.passed.ensures.passed g in
    c.in_ok-put_text-2.ensures.ok ∙ ap (λ t. t ++ line_of ended) h
    ∙ sections out f.title (flat_map global_line f.rails) (flat_map model_line f.models) devices (flat_map passed_line f.passed) (line_of ended)
