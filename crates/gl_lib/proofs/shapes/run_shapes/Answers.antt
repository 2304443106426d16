use Rattle.std.proofs.Common.{◌≡◌, ◌≤◌, ◌∙◌, ◌++◌, List, length, map, sym, subst}
use Rattle.std.specs.Prelude.{All}
use Rattle.gl_text.specs.Decks.{Sub}
use Rattle.gl_base.specs.Libraries.{PORTS}
use Rattle.gl_base.specs.TypeNames.{classes_of}
use Rattle.gl_lifting.specs.Runs.{cell_type}
use Rattle.gl_lib.proofs.shapes.run_shapes.Goals as goal

pub shapes_of-requires : goal.shapes_of-requires
shapes_of-requires c =
    let subs : c.as_slice-cells.result.now ≡ c.args.parts.now.library.now.deck.subs = cc in
    record { few = subst (λ (ss : List Sub). All (λ (s : Sub). length s.head.ports ≤ PORTS) ss) (sym subs) c.requires.sound.cells.ports }

pub returns : goal.returns
returns c =
    let subs : c.as_slice-cells.result.now ≡ c.args.parts.now.library.now.deck.subs = cc in
    record { shapes = c.in_ok-shapes.ensures.shapes ∙ (λ i. map classes_of (c.requires.tables.kinds_are i ++ map cell_type (subs i))) }
