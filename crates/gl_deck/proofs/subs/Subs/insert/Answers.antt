use Rattle.std.proofs.Common.{◌≡◌, ◌∙◌, List, ℕ, ap, sym, subst}
use Rattle.std.specs.Map.{keys_of, values_of}
use Rattle.indexmap.specs.IndexMap.{insert_entry}
use Rattle.gl_text.specs.LogicalLines.{same_text}
use Rattle.gl_text.specs.Decks.{Sub}
use Rattle.gl_deck.specs.Bodies.{names_of, table_of}
use Rattle.gl_deck.proofs.TableLaws.{keyed_more, table_more}
use Rattle.gl_deck.proofs.subs.Subs.insert.Goals as goal

pub invariant_of-self-2 : goal.invariant_of-self-2
invariant_of-self-2 c =
    let named = c.in_ok-name.ensures.bytes ∙ c.as_bytes.ensures.bytes ∙ c.name.ensures.name ∙ ap (λ h. h.name) c.head.ensures.head in
    let more = keyed_more c.self.inside.table.entries c.in_ok-name.name c.args.sub named c.self.invariant in
    subst (λ (es : List (List ℕ × Sub)). keys_of es ≡ names_of (values_of es)) (sym c.in_ok-insert.ensures.entries) more

pub returns-clause-inserted : goal.returns-clause-inserted
returns-clause-inserted c =
    let named = c.in_ok-name.ensures.bytes ∙ c.as_bytes.ensures.bytes ∙ c.name.ensures.name ∙ ap (λ h. h.name) c.head.ensures.head in
    let more = table_more c.self.inside.table.entries c.insert.new.self.entries c.in_ok-name.name c.args.sub c.self.invariant named c.in_ok-insert.ensures.entries in
    more ∙ ap (λ ss. insert_entry same_text (table_of ss) c.args.sub.head.name c.args.sub) c.self.view_is
