use Rattle.std.proofs.Common.{◌≡◌, ◌∙◌, ◌++◌, ℕ, List, map, ap}
use Rattle.std.proofs.Math.Path.{subst}
use Rattle.gl_history.specs.Plain.{Round, Lifted, origin_value}
use Rattle.gl_history.specs.declared.origin.Origin as declared
use Rattle.gl_limit.specs.Bounds.{Tells}
use Rattle.gl_report.specs.Shown.{shown_report, left_of}
use Rattle.gl_report.proofs.ShownLaws.{first_names, history_is, history_told}
use Rattle.gl_report.proofs.report.report_text.Goals as goal

pub returns-clause-text : goal.returns-clause-text
returns-clause-text c = λ r.
    let flat = c.args.flat.now in
    let library = c.args.library.now in
    let lifted : Lifted = c.args.lift.now in
    let names = first_names c.args.stem.now flat in
    let left = c.left-left.result in
    let count : left ≡ left_of lifted.last_origins = c.left-left.ensures.left ∙ (ap (λ (os : List declared.Origin). left_of (map origin_value os)) c.deref.ensures.value ∙ ap (λ (l : Lifted). left_of l.last_origins) c.lift.view_is) in
    let rounds : c.deref-2.result.now ≡ lifted.rounds = c.deref-2.ensures.value ∙ ap (λ (l : Lifted). l.rounds) c.lift.view_is in
    c.in_ok-put_report.ensures.ok
    ∙ (ap (λ (start : List ℕ). start ++ shown_report names library c.deref-2.result.now left) c.new-text.ensures.items
    ∙ (ap (λ (rs : List Round). shown_report names library rs left) rounds
    ∙ (ap (shown_report names library lifted.rounds) count
    ∙ history_is c.args.stem.now flat library lifted r)))

pub returns-in_err-put_report-clause-fault : goal.returns-in_err-put_report-clause-fault
returns-in_err-put_report-clause-fault c =
    let flat = c.args.flat.now in
    let library = c.args.library.now in
    let lifted : Lifted = c.args.lift.now in
    let stem = c.args.stem.now in
    let names = first_names stem flat in
    let left = c.left-left.result in
    let fault = c.in_err-put_report.field-0.0 in
    let count : left ≡ left_of lifted.last_origins = c.left-left.ensures.left ∙ (ap (λ (os : List declared.Origin). left_of (map origin_value os)) c.deref.ensures.value ∙ ap (λ (l : Lifted). left_of l.last_origins) c.lift.view_is) in
    let rounds : c.deref-2.result.now ≡ lifted.rounds = c.deref-2.ensures.value ∙ ap (λ (l : Lifted). l.rounds) c.lift.view_is in
    let shown = ap (λ (start : List ℕ). start ++ shown_report names library c.deref-2.result.now left) c.new-text.ensures.items
    ∙ (ap (λ (rs : List Round). shown_report names library rs left) rounds
    ∙ ap (shown_report names library lifted.rounds) count) in
    history_told c.from_residual.result fault stem flat library lifted c.from_residual.ensures.1 (subst (Tells fault) shown c.in_err-put_report.ensures.fault)
