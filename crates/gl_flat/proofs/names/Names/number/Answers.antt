use Rattle.std.proofs.Common.{IsSome, refl, sym, subst}
use Rattle.gl_flat.proofs.FlatKept.{number_there}
use Rattle.gl_flat.proofs.names.Names.number.Goals as goal

pub unwrap-requires : goal.unwrap-requires
unwrap-requires c = subst IsSome (sym (number_there c.args.self.now c.args.name.now c.find.result c.find.ensures.number c.requires.there)) refl

pub returns : goal.returns
returns c = let there = number_there c.args.self.now c.args.name.now c.find.result c.find.ensures.number c.requires.there in record { number = cc (there) }
