use Rattle.std.proofs.Common.{◌≡◌, ℕ, List, Option, Ok, ap}
use Rattle.std.specs.Prelude.{option_map}
use Rattle.gl_fault.specs.Refusals.{or_else}
use Rattle.gl_found.specs.Founds.{IsRunOf}
use Rattle.gl_lift.specs.Lifting.{of_keep, unless_unknown}
use Rattle.gl_lift.proofs.Lifts.{limit_on}
use Rattle.gl_lift.proofs.lift.texts_of_flat.Goals as goal

pub returns-in_err-texts-clause-refused : goal.returns-in_err-texts-clause-refused
returns-in_err-texts-clause-refused c =
    let is = c.in_ok-lifted.ensures.lifted in
    let flat = c.args.flat.now in
    let library = c.args.library.now in
    let keep = c.args.keep.now in
    let known : unless_unknown keep library (Ok flat) ≡ Ok flat = ap (λ (u : Option (List ℕ)). or_else (option_map of_keep u) flat) c.in_ok-lifted.ensures.known in
    let run : IsRunOf flat library c.in_ok-lifted.lifted = record { keep = keep; cells = is.cells; are_cells = is.cells_are; shown = is.shown } in
    limit_on keep library (unless_unknown keep library (Ok flat)) flat c.from_residual-in_err-texts.result c.in_err-texts.field-0.0 known c.from_residual-in_err-texts.ensures.1 (c.in_err-texts.ensures.limit run)

pub returns-clause-texts : goal.returns-clause-texts
returns-clause-texts c =
    let is = c.in_ok-lifted.ensures.lifted in
    let flat = c.args.flat.now in
    let library = c.args.library.now in
    let keep = c.args.keep.now in
    let known : unless_unknown keep library (Ok flat) ≡ Ok flat = ap (λ (u : Option (List ℕ)). or_else (option_map of_keep u) flat) c.in_ok-lifted.ensures.known in
    let run : IsRunOf flat library c.in_ok-lifted.lifted = record { keep = keep; cells = is.cells; are_cells = is.cells_are; shown = is.shown } in
    (flat, known, c.in_ok-texts.ensures.texts run)
