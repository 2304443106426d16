use Rattle.std.proofs.Common.{◌≡◌, ◌++◌, map}
use Rattle.std.specs.Prelude.{flat_map, zip}
use Rattle.gl_text.specs.Decks.{sub_text}
use Rattle.gl_base.specs.BaseCircuit.{Source}
use Rattle.gl_lifting.specs.LiftedDecks.{variant_sub}
use Rattle.gl_write.proofs.variant_card.put_variants.Given as goal

abbrev pub invariant-loop-name : goal.invariant-loop-name
invariant-loop-name l = (s : Source) → l.out.items ++ flat_map sub_text (map (variant_sub s l.names) (zip l.name-iterator.a.rest.now l.name-iterator.b.rest.now))
    ≡ l.fn.out.items ++ flat_map sub_text (map (variant_sub s l.names) (zip l.names l.variants))
