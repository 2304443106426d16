use Rattle.std.proofs.Common.{◌≡◌, ◌∙◌, ◌+◌, List, length, ap, sym, subst, true, arith}
use Rattle.gl_text.specs.Decks.{Sub, is_in}
use Rattle.gl_base.specs.BaseCircuit.{types_of, net_number}
use Rattle.gl_deck.specs.Bodies.{names_of}
use Rattle.gl_lib.specs.Tables.{source_of, run_in}
use Rattle.gl_lib.proofs.RunTypes.{cell_number}
use Rattle.gl_lib.proofs.RunSizes.{few_run_types}
use Rattle.gl_lib.proofs.cards.cell_kind.Goals as goal

pub cell_place-place-requires : goal.cell_place-place-requires
cell_place-place-requires c =
    let p = c.args.parts.now in
    let subs : c.subs.result.now ≡ p.library.now.deck.subs = cc in
    record { there = subst (λ (ss : List Sub). is_in c.args.name.now (names_of ss) ≡ true) (sym subs) c.requires.there }

pub returns : goal.returns
returns c =
    let p = c.args.parts.now in
    let subs : c.subs.result.now ≡ p.library.now.deck.subs = cc in
    let count : c.count.result ≡ length (types_of (source_of p)) = c.count.ensures.count ∙ ap length c.requires.tables.kinds_are in
    let place : c.cell_place-place.result ≡ net_number (names_of p.library.now.deck.subs) c.args.name.now = c.cell_place-place.ensures.place ∙ ap (λ (ss : List Sub). net_number (names_of ss) c.args.name.now) subs in
    record { kind = λ t found. (λ i. count i + place i) ∙ cell_number (run_in p) c.args.name.now t found }

pub overflow_cast-result : goal.overflow_cast-result
overflow_cast-result c =
    let p = c.args.parts.now in
    let subs : c.subs.result.now ≡ p.library.now.deck.subs = cc in
    omega (arith, ap length subs, c.cell_place-place.ensures.within, few_run_types p.flat.now p.library.now c.requires.sound)

pub overflow_add-result : goal.overflow_add-result
overflow_add-result c =
    let p = c.args.parts.now in
    let subs : c.subs.result.now ≡ p.library.now.deck.subs = cc in
    let count : c.count.result ≡ length (types_of (source_of p)) = c.count.ensures.count ∙ ap length c.requires.tables.kinds_are in
    omega (arith, count, ap length subs, c.cell_place-place.ensures.within, few_run_types p.flat.now p.library.now c.requires.sound)
