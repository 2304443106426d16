use Rattle.std.proofs.Common.{◌≡◌, IsSome, refl, sym, subst, arith}
use Rattle.std.proofs.lemmas.List.{length-map}
use Rattle.gl_text.specs.Decks.{Sub}
use Rattle.gl_text.specs.LogicalLines.{same_text}
use Rattle.gl_text.proofs.Names.{exact, itself}
use Rattle.gl_lists.proofs.EachOnce.{there, place_within}
use Rattle.gl_base.specs.BaseCircuit.{net_number}
use Rattle.gl_deck.specs.Bodies.{names_of}
use Rattle.gl_flat.proofs.FlatKept.{number_there}
use Rattle.gl_lib.proofs.cards.cell_place.Goals as goal

pub unwrap-requires : goal.unwrap-requires
unwrap-requires c = subst IsSome (sym (number_there (names_of c.args.cells.now) c.args.name.now c.place_of.result c.place_of.ensures.place c.requires.there)) refl

pub returns : goal.returns
returns c =
    let names = names_of c.args.cells.now in
    let name = c.args.name.now in
    let found = number_there names name c.place_of.result c.place_of.ensures.place c.requires.there in
    let lt = place_within same_text exact itself names name (there same_text exact itself names name c.requires.there) in
    let many = length-map c.args.cells.now (λ (s : Sub). s.head.name) in
    let same : c.unwrap.result ≡ net_number names name = cc (found) in
    record { place = same; within = omega (arith, lt, many, same) }
