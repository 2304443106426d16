-- The variants of chosen instances, told by what was found. This project's own.
use Rattle.std.specs.Prelude.{ℕ, List, [], ◌∷◌, ◌++◌, map, fold}
use Rattle.std.specs.List.{position_or_len}
use Rattle.gl_text.specs.Cards.{Device as Card}
use Rattle.gl_text.specs.Decks.{Sub}
use Rattle.gl_lifting.specs.Replacement.{Part}
use Rattle.gl_lifting.specs.Variants.{Carried, carried_from, Variant, Variants, same_variant, put_variant}
use Rattle.gl_found.specs.Founds.{Found, parts_of, sub_at}

-- what a card of a cell carries, by what it was matched with
abbrev pub carried_part : List Card → List ℕ → Part → Carried
carried_part cards numbers p = carried_from cards numbers p.turn p.origin

-- the variant of a chosen instance, by those of earlier ones
abbrev pub variant_in : List Card → List Sub → List ℕ → Found → Variant
variant_in cards subs numbers f = record { cell = sub_at subs f.cell; cards = map (carried_part cards numbers) (parts_of f) }

-- variants with one more instance that has this one
abbrev pub with_variant : Variants → Variant → Variants
with_variant vs v = record { different = put_variant vs.different v; numbers = vs.numbers ++ position_or_len (same_variant v) vs.different ∷ [] }

-- variants with that of one more chosen instance
abbrev pub with_found : List Card → List Sub → Variants → Found → Variants
with_found cards subs vs f = with_variant vs (variant_in cards subs vs.numbers f)

-- the variants of chosen instances
abbrev pub variants_in : List Card → List Sub → List Found → Variants
variants_in cards subs found = fold (with_found cards subs) (record { different = []; numbers = [] }) found
