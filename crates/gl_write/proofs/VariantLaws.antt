-- The variants of what was found are those of the composites.
use Rattle.std.proofs.Common.{◌≡◌, List, [], ◌∷◌, map, refl}
use Rattle.std.specs.Prelude.{fold}
use Rattle.gl_text.specs.Cards.{Device as Card}
use Rattle.gl_lifting.specs.Runs.{Run}
use Rattle.gl_lifting.specs.Variants.{Variants, with_composite}
use Rattle.gl_found.specs.Founds.{Found, composite_by}
use Rattle.gl_write.specs.Variants.{with_found}

pub variants_same : (cards : List Card) (run : Run) (vs : Variants) (found : List Found) → fold (with_found cards run.library.deck.subs) vs found ≡ fold (with_composite cards) vs (map (composite_by run) found)
variants_same cards run vs [] = refl
variants_same cards run vs (f ∷ found) = variants_same cards run (with_found cards run.library.deck.subs vs f) found
