use Rattle.std.proofs.Common.{◌∙◌, [], ◌∷◌, ◌++◌, List, ℕ, map, ap, append_assoc}
use Rattle.std.specs.Prelude.{IfErr, codes}
use Rattle.std.specs.Fmt.{decimal}
use Rattle.std.specs.List.{zip}
use Rattle.std.proofs.Math.Path.{subst}
use Rattle.gl_text.specs.Decks.{Deck}
use Rattle.gl_base.specs.Reports.{line}
use Rattle.gl_history.specs.Plain.{Round, origin_value}
use Rattle.gl_history.specs.declared.origin.Origin as declared
use Rattle.gl_limit.specs.Bounds.{Tells}
use Rattle.gl_report.specs.Naming.{names_by}
use Rattle.gl_report.specs.Shown.{told_of}
use Rattle.gl_report.specs.Pieces.{parts_text}
use Rattle.gl_report.proofs.ListLaws.{cells_printed}
use Rattle.gl_report.proofs.report.put_round.Goals as goal

pub returns-clause-fault : goal.returns-clause-fault
returns-clause-fault c =
    let out = c.args.out.now.items in
    let names = c.args.names.now in
    let round = c.args.round.now in
    let first = line (codes "round" ∷ decimal c.args.level ∷ []) in
    let text = parts_text c.of_round-names.result (told_of c.args.level (zip c.as_slice-subs.result.now c.cells.result.now) c.deref-2.result.now) in
    let devices = c.of_round-names.ensures.devices ∙ (ap (λ (os : List declared.Origin). names_by names (map origin_value os)) c.deref.ensures.value ∙ ap (λ (r : Round). names_by names r.origins) c.round.view_is) in
    let subs = c.as_slice-subs.ensures.subs ∙ (c.subs.ensures.subs ∙ ap (λ (d : Deck). d.subs) c.deck.ensures.deck) in
    let told = c.deref-2.ensures.value ∙ ap (λ (r : Round). r.cells) c.round.view_is in
    let whole = ap (λ (t : List ℕ). t ++ text) c.in_ok-put_level.ensures.ok
    ∙ (append_assoc out first text
    ∙ ap (λ (t : List ℕ). out ++ (first ++ t)) (cells_printed names c.of_round-names.result c.args.library.now c.args.level round c.as_slice-subs.result.now c.cells.result.now c.deref-2.result.now c.of_round-names.ensures.run devices subs c.cells.ensures.cells told)) in
    subst (λ (t : List ℕ). IfErr c.put_cells.result (λ fault. Tells fault t)) whole c.put_cells.ensures.fault
