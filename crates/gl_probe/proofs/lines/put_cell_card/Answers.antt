use Rattle.std.proofs.Common.{List, ℕ, ◌++◌, ◌∙◌, map, ap, append_assoc}
use Rattle.std.specs.Prelude.{codes}
use Rattle.std.proofs.lemmas.Result.{IfOk-equal}
use Rattle.gl_base.specs.Reports.{name_at}
use Rattle.gl_base.specs.RoundReports.{card_name}
use Rattle.gl_text.specs.Decks as decks
use Rattle.gl_deck.specs.Bodies.{body_value}
use Rattle.gl_deck.specs.declared.body.Body.{Body}
use Rattle.gl_probe.proofs.LineLaws.{names_of_cards}
use Rattle.gl_probe.proofs.lines.put_cell_card.Goals as goal

pub returns-clause-ok : goal.returns-clause-ok
returns-clause-ok c =
    let out = c.args.out.now.items in
    let name = name_at (map (λ (b : Body). card_name (body_value b)) c.cards.result.now) c.args.dev in
    let names = names_of_cards c.cards.result.now ∙ ap (λ (cards : List decks.Body). map card_name cards) c.cards.ensures.cards in
    IfOk-equal c.put_card.result c.put_card.new.out.items (c.put.new.out.items ++ name) (out ++ (codes "device:" ++ name_at (map card_name c.args.cell.now.cards) c.args.dev)) c.put_card.ensures.ok
    (ap (λ (t : List ℕ). t ++ name) c.in_ok-put.ensures.ok
    ∙ (append_assoc out (codes "device:") name
    ∙ ap (λ (ns : List (List ℕ)). out ++ (codes "device:" ++ name_at ns c.args.dev)) names))
