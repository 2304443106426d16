use Rattle.std.proofs.Common.{◌∙◌, ◌++◌, ap, sym, subst}
use Rattle.std.specs.Prelude.{All}
use Rattle.gl_match.specs.Graph.{Circuit}
use Rattle.gl_text.specs.Flattening.{top_ports}
use Rattle.gl_graph.specs.FitCells.{IsForCircuit}
use Rattle.gl_lifting.specs.Runs.{run_of, first_circuit}
use Rattle.gl_lib.proofs.LevelLaws.{all_fit}
use Rattle.gl_lib.proofs.levels.build_levels.Goals as goal

pub returns : goal.returns
returns c =
    let p = c.args.parts.now in
    let run = run_of p.flat.now p.library.now c.args.keep.now in
    let circuit = c.in_ok-circuit.ensures.circuit in
    let cells = c.in_ok-cells.ensures.cells in
    record {
      circuit = circuit;
      pinned = ap (λ (g : Circuit). g.pinned) circuit ∙ sym c.in_ok-pinned.ensures.pins;
      cells = record { as_many = c.requires.sound.cells.as_many; each = cells };
      fits = subst (λ g. All (IsForCircuit g) c.in_ok-cells.cells.items) (sym circuit)
          (subst (All (IsForCircuit (first_circuit run))) (sym cells) (all_fit p.flat.now p.library.now c.requires.sound (top_ports p.flat.now.top ++ c.args.keep.now)));
    }
