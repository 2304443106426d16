use Rattle.std.proofs.Common.{◌≡◌, ◌∙◌, sym, ◌-◌, [], length, take, drop}
use Rattle.gl_text.specs.LogicalLines.{is_separator, fields_of}
use Rattle.gl_line.proofs.RunLaws.{run_is, last_run, no_run, stop_at}
use Rattle.gl_line.proofs.run.next_run.Goals as goal

pub returns-in_err-start : goal.returns-in_err-start
returns-in_err-start c =
    let none : fields_of c.args.text.now ≡ [] = no_run c.args.text.now (sym c.plain_byte.ensures.first ∙ c.in_err-start.was) in
    rw c.from_residual.ensures (record { run = none })

pub returns-in-Some : goal.returns-in-Some
returns-in-Some c =
    let xs = c.args.text.now in
    let i = c.in_ok-start.start in
    let end = stop_at is_separator (take (length xs - i) (drop i xs)) c.in-Some.len (sym c.separator.ensures.first ∙ c.in-Some.is) in
    record { run = run_is xs i c.in-Some.len (sym c.plain_byte.ensures.first ∙ c.in_ok-start.was) end.0 }

pub returns-in-None : goal.returns-in-None
returns-in-None c = record { run = last_run c.args.text.now c.in_ok-start.start (sym c.plain_byte.ensures.first ∙ c.in_ok-start.was) (sym c.separator.ensures.first ∙ c.in-None.is) }
