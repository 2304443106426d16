use Rattle.std.proofs.Common.{◌≡◌, ◌∙◌, ℕ, List, ap, subst, flat_map}
use Rattle.std.specs.Prelude.{filter}
use Rattle.std.specs.List.{enumerate_from}
use Rattle.gl_text.specs.Decks.{once}
use Rattle.gl_base.specs.Libraries.{nodes_of}
use Rattle.gl_lifting.specs.Runs.{cell_nets}
use Rattle.gl_named.specs.Plans.{HasNames, inner_by}
use Rattle.gl_named.specs.Walks.{inner_of}
use Rattle.gl_named.proofs.SetLaws.{inner_same}
use Rattle.gl_named.proofs.plan.plan_cell.Goals as goal

pub returns : goal.returns
returns c = record {
  plan = λ names rails.
      let cell = c.args.cell.now in
      let nets : c.in_ok-nets.nets.keys ≡ cell_nets cell = c.in_ok-nets.ensures.nets ∙ ap (λ cards. once (flat_map nodes_of cards)) c.cards.ensures.cards in
      let ports : HasNames c.in_ok-ports.ports.keys cell.head.ports = subst (HasNames c.in_ok-ports.ports.keys) (c.ports.ensures.ports ∙ ap (λ h. h.ports) c.head.ensures.head) c.in_ok-ports.ensures.names in
      let listed : c.as_slice.result.now ≡ cell_nets cell = c.as_slice.ensures.keys ∙ nets in
      let inner : c.in_ok-inner.inner.items ≡ inner_of names cell.head.ports (enumerate_from 0 (cell_nets cell)) =
      c.in_ok-inner.ensures.inner
      ∙ ap (λ (ns : List (List ℕ)). filter (λ (n : ℕ × List ℕ). inner_by c.args.rails.now.keys c.in_ok-ports.ports.keys n.1) (enumerate_from 0 ns)) listed
      ∙ inner_same _ _ names cell.head.ports rails ports (enumerate_from 0 (cell_nets cell)) in
      λ i. record { cell = cell; nets = nets i; inner = inner i };
}
