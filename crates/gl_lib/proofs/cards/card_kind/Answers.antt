use Rattle.std.proofs.Common.{◌≡◌, ◌∙◌, Some, true, ap, sym, subst}
use Rattle.gl_text.specs.Decks.{call_at, is_in, find_sub}
use Rattle.gl_printed.specs.ReadDecks.{FindsSub}
use Rattle.gl_deck.specs.Bodies.{body_value, names_of}
use Rattle.gl_base.specs.BaseCircuit.{type_number}
use Rattle.gl_lifting.specs.Runs.{run_types, card_type}
use Rattle.gl_lib.specs.Numbered.{HasType}
use Rattle.gl_lib.specs.Tables.{source_of, run_in}
use Rattle.gl_lib.proofs.RunTypes.{name_there, call_type}
use Rattle.gl_lib.proofs.cards.card_kind.Goals as goal

pub cell_kind-requires-clause-there : goal.cell_kind-requires-clause-there
cell_kind-requires-clause-there c =
    let p = c.args.parts.now in
    let subs = p.library.now.deck.subs in
    let known : FindsSub subs (call_at c.in-Call.field-0 c.in-Call.call) = subst (λ b. HasType (run_in p) (body_value b)) c.in-Call.is c.requires.known in
    subst (λ n. is_in n (names_of subs) ≡ true) (sym c.sub.ensures.sub) (name_there subs c.in-Call.call.sub known.0 known.1.found)

pub returns-in-Call : goal.returns-in-Call
returns-in-Call c =
    let p = c.args.parts.now in
    let subs = p.library.now.deck.subs in
    let types = run_types (run_in p) in
    let known : FindsSub subs (call_at c.in-Call.field-0 c.in-Call.call) = subst (λ b. HasType (run_in p) (body_value b)) c.in-Call.is c.requires.known in
    record {
      kind = c.cell_kind.ensures.kind known.0 (subst (λ n. find_sub subs n ≡ Some known.0) (sym c.sub.ensures.sub) known.1.found)
          ∙ ap (type_number types) (call_type subs c.in-Call.call known.0 known.1)
          ∙ ap (λ b. type_number types (card_type (source_of p) (body_value b))) (sym c.in-Call.is);
    }
