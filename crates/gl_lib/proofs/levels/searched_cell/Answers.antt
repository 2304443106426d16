use Rattle.std.proofs.Common.{◌≡◌, Some, true, sym, subst}
use Rattle.gl_text.specs.Decks.{find_sub, is_in}
use Rattle.gl_deck.specs.Bodies.{names_of}
use Rattle.gl_lib.proofs.RunTypes.{name_there}
use Rattle.gl_lib.proofs.LevelLaws.{own_found}
use Rattle.gl_lib.proofs.levels.searched_cell.Goals as goal

pub cell_kind-kind-requires-clause-there : goal.cell_kind-kind-requires-clause-there
cell_kind-kind-requires-clause-there c =
    let l = c.args.parts.now.library.now in
    let cell = c.args.cell.now in
    let named : c.name.result.now ≡ cell.head.name = cc in
    subst (λ n. is_in n (names_of l.deck.subs) ≡ true) (sym named) (name_there l.deck.subs cell.head.name cell (own_found l c.requires.sound.cells cell c.requires.inside))

pub returns : goal.returns
returns c =
    let l = c.args.parts.now.library.now in
    let cell = c.args.cell.now in
    let named : c.name.result.now ≡ cell.head.name = cc in
    let kind = c.cell_kind-kind.ensures.kind cell (subst (λ n. find_sub l.deck.subs n ≡ Some cell) (sym named) (own_found l c.requires.sound.cells cell c.requires.inside)) in
    record { cell = cc (kind, c.in_ok-pattern.ensures.pattern) }
