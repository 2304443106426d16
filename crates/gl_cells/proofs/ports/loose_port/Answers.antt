use Rattle.std.proofs.Common.{◌∙◌, ap, List, ℕ}
use Rattle.std.specs.Prelude.{find, flat_map, not}
use Rattle.gl_text.specs.Cards.{Head}
use Rattle.gl_text.specs.Decks.{Body, is_in}
use Rattle.gl_base.specs.Libraries.{nodes_of}
use Rattle.gl_deck.specs.Bodies.{bodies_value}
use Rattle.gl_cells.proofs.NameLaws.{first_lacking}
use Rattle.gl_cells.proofs.ports.loose_port.Goals as goal

pub returns : goal.returns
returns c =
    let nodes = flat_map nodes_of (bodies_value c.cards.result.now) in
    let ports = c.ports.ensures.ports ∙ ap (λ (h : Head). h.ports) c.head.ensures.head in
    record {
      loose = c.first_lacking.ensures.first
          ∙ first_lacking c.in_ok-known.known.keys nodes c.ports.result.now c.in_ok-known.ensures.nets
          ∙ ap (λ (ns : List (List ℕ)). find (λ n. not (is_in n nodes)) ns) ports
          ∙ ap (λ (cards : List Body). find (λ n. not (is_in n (flat_map nodes_of cards))) c.args.cell.now.head.ports) c.cards.ensures.cards;
    }
