use Rattle.std.proofs.Common.{◌≡◌, ◌∙◌, true, false, ap, sym}
use Rattle.std.specs.Map.{keys_of, lookup}
use Rattle.indexmap.specs.IndexMap.{insert_entry}
use Rattle.gl_fault.specs.Refusals.{when}
use Rattle.gl_text.specs.LogicalLines.{same_text}
use Rattle.gl_text.specs.Decks.{is_in}
use Rattle.gl_lifting.specs.MapReading.{double_new}
use Rattle.gl_map.proofs.DoubleLaws.{looked_up, new_entry}
use Rattle.gl_map.proofs.tables.put_names.Goals as goal

pub returns-then-is_some-clause-refused : goal.returns-then-is_some-clause-refused
returns-then-is_some-clause-refused c =
    let es = c.args.table.now.entries in
    ap (λ b. when b (double_new c.args.line)) (looked_up es c.args.new.now true c.in_ok-insert.field-0 (c.in_ok-insert.ensures.old ∙ ap (λ n. lookup (same_text n) es) c.in_ok-new.ensures.bytes) (sym c.is_some.ensures ∙ c.if-is_some.true))

pub returns-clause-single : goal.returns-clause-single
returns-clause-single c =
    let es = c.args.table.now.entries in
    looked_up es c.args.new.now false c.in_ok-insert.field-0 (c.in_ok-insert.ensures.old ∙ ap (λ n. lookup (same_text n) es) c.in_ok-new.ensures.bytes) (sym c.is_some.ensures ∙ c.if-is_some.false)

pub returns-clause-put : goal.returns-clause-put
returns-clause-put c =
    let es = c.args.table.now.entries in
    let absent : is_in c.args.new.now (keys_of es) ≡ false = looked_up es c.args.new.now false c.in_ok-insert.field-0 (c.in_ok-insert.ensures.old ∙ ap (λ n. lookup (same_text n) es) c.in_ok-new.ensures.bytes) (sym c.is_some.ensures ∙ c.if-is_some.false) in
    c.in_ok-insert.ensures.entries ∙ ap (λ n. insert_entry same_text es n c.in_ok-old.old) c.in_ok-new.ensures.bytes ∙ ap (insert_entry same_text es c.args.new.now) c.in_ok-old.ensures.bytes ∙ new_entry es c.args.new.now c.args.old.now absent
