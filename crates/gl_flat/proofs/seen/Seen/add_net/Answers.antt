use Rattle.std.proofs.Common.{rules, ◌≡◌, None}
use Rattle.std.specs.Map.{lookup}
use Rattle.indexmap.specs.IndexMap.{insert_entry}
use Rattle.gl_text.specs.LogicalLines.{same_text}
use Rattle.gl_text.specs.Flattening.{net_name}
use Rattle.gl_flat.proofs.SeenNumbers.{number_new}
use Rattle.gl_flat.proofs.seen.Seen.add_net.Goals as goal

pub returns-clause-number : goal.returns-clause-number
returns-clause-number c =
    let m = c.args.added.now in
    let es = c.self.inside.nets.entries in
    let none : lookup (same_text (net_name m)) es ≡ None = search rules in
    let inserted : c.insert-2.new.self.entries ≡ insert_entry same_text es (net_name m) m = search rules in
    number_new es c.insert-2.new.self.entries (net_name m) m c.len-number.result c.len-number.ensures.len none inserted
