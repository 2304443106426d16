use Rattle.std.proofs.Common.{◌≡◌, ◌∙◌, ℕ, suc, List, length, cond, Some, sym, ap}
use Rattle.std.specs.Map.{lookup}
use Rattle.std.specs.Option.{option_copied}
use Rattle.gl_text.specs.LogicalLines.{same_text}
use Rattle.gl_lifting.specs.Variants.{name_behind}
use Rattle.gl_variant.specs.Names.{named_to, count_of}
use Rattle.gl_write.proofs.NamingLaws.{one_more}
use Rattle.gl_write.proofs.naming.give_name.Goals as goal

pub returns-clause-name : goal.returns-clause-name
returns-clause-name c = λ before given.
    let top = option_copied c.args.top in
    let cell = c.args.cell.now in
    let bytes = c.as_bytes.ensures.bytes in
    let here : length (named_to top c.as_bytes.result.now c.last_number-last.result) ≡ count_of cell before =
    ap (λ b. length (named_to top b c.last_number-last.result)) bytes ∙ ap (λ n. length (named_to top cell n)) c.last_number-last.ensures.last ∙ given cell in
    c.in_ok-from_vec.ensures.bytes ∙ c.in_ok-next.ensures.name (count_of cell before) here ∙ ap (λ b. name_behind top b (count_of cell before)) bytes

pub returns-clause-given : goal.returns-clause-given
returns-clause-given c = λ before v e given.
    let top = option_copied c.args.top in
    let cell = c.args.cell.now in
    let bytes = c.as_bytes.ensures.bytes in
    let number = c.in_ok-next.next.number in
    let lasts = c.args.lasts.now.entries in
    let here : length (named_to top c.as_bytes.result.now c.last_number-last.result) ≡ count_of cell before =
    ap (λ b. length (named_to top b c.last_number-last.result)) bytes ∙ ap (λ n. length (named_to top cell n)) c.last_number-last.ensures.last ∙ given cell in
    let own : length (named_to top cell number) ≡ suc (count_of cell before) = sym (ap (λ b. length (named_to top b number)) bytes) ∙ c.in_ok-next.ensures.number ∙ ap suc here in
    let more : length (named_to top v.cell.head.name number) ≡ suc (count_of v.cell.head.name before) = ap (λ b. length (named_to top b number)) e ∙ own ∙ ap (λ b. suc (count_of b before)) (sym e) in
    let key = c.in_ok-of.ensures.bytes ∙ c.as_bytes-2.ensures.bytes ∙ sym e in
    one_more top before v lasts c.insert.new.self.entries number given
    (λ other. c.in_ok-insert.ensures.updates.0 other ∙ ap (λ (k : List ℕ). cond (same_text k other) (Some number) (lookup (same_text other) lasts)) key) more
