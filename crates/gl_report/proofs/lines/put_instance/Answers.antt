use Rattle.std.proofs.Common.{◌≡◌, ◌++◌, ap, ◌∙◌}
use Rattle.std.specs.Prelude.{codes}
use Rattle.std.specs.Fmt.{decimal}
use Rattle.std.proofs.lemmas.Result.{IfOk-equal}
use Rattle.gl_match.specs.Listing.{Instance as Item}
use Rattle.gl_match.specs.Keys.{Key}
use Rattle.gl_text.specs.Cards.{Head}
use Rattle.gl_deck.specs.Bodies.{bodies_value}
use Rattle.gl_base.specs.Reports.{line}
use Rattle.gl_base.specs.RoundReports.{fate_words, port_words, image_words, found_words}
use Rattle.gl_report.specs.Naming.{RoundNames}
use Rattle.gl_report.specs.Pieces.{behind_blanks}
use Rattle.gl_report.proofs.LineLaws.{instance_printed, same_ports, same_images}
use Rattle.gl_report.proofs.lines.put_instance.Goals as goal

pub returns : goal.returns
returns c =
    let out = c.args.out.now.items in
    let names = c.args.names.now in
    let cell = c.args.cell.now in
    let item = c.args.item.now in
    let inside = c.names.inside in
    let binding : c.deref.result.now ≡ item.key.binding = c.deref.ensures.value ∙ (ap (λ (k : Key). k.binding) c.key.view_is ∙ ap (λ (i : Item). i.key.binding) c.item.view_is) in
    let fate : c.put_fate.new.out.items ≡ c.put_number.new.out.items ++ behind_blanks (fate_words names.run.stem c.args.pick) =
    c.in_ok-put_fate.ensures.ok ∙ ap (λ stem. c.put_number.new.out.items ++ behind_blanks (fate_words stem c.args.pick)) (ap (λ (n : RoundNames). n.run.stem) c.names.view_is) in
    let ports : c.put_ports.new.out.items ≡ c.put_fate.new.out.items ++ behind_blanks (port_words names.run.nets cell item) =
    c.in_ok-put_ports.ensures.ok ∙ ap (λ ws. c.put_fate.new.out.items ++ behind_blanks ws)
    (same_ports c.ports.result.now cell.head.ports c.items.result.now names.run.nets c.deref.result.now item.key.binding (c.ports.ensures.ports ∙ ap (λ (h : Head). h.ports) c.head.ensures.head) (c.items.ensures.items ∙ c.nets.ensures.nets ∙ ap (λ (n : RoundNames). n.run.nets) c.names.view_is) binding) in
    let images : c.put_images.new.out.items ≡ c.put.new.out.items ++ behind_blanks (image_words names.devices cell item) =
    c.in_ok-put_images.ensures.ok ∙ ap (λ ws. c.put.new.out.items ++ behind_blanks ws)
    (same_images names.devices (bodies_value c.cards.result.now) cell.cards c.deref-2.result.now item.least c.cards.ensures.cards (c.deref-2.ensures.value ∙ ap (λ (i : Item). i.least) c.item.view_is)) in
    record {
      ok = IfOk-equal c.put-2.result c.put-2.new.out.items (c.put_images.new.out.items ++ codes "\n") (out ++ line (found_words names.run names.devices cell (c.args.number, (item, c.args.pick)))) c.put-2.ensures.ok
          (instance_printed out c.put_number.new.out.items c.put_fate.new.out.items c.put_ports.new.out.items c.put.new.out.items c.put_images.new.out.items (decimal c.args.number) (fate_words names.run.stem c.args.pick) (port_words names.run.nets cell item) (image_words names.devices cell item) c.in_ok-put_number.ensures.ok fate ports c.in_ok-put.ensures.ok images);
    }
