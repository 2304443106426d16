-- What of a variant is hashed.
use Rattle.std.specs.Prelude.{◌++◌}
use Rattle.std.specs.Hash as fed
use Rattle.std.specs.Hash.{HashWrites}
use Rattle.gl_lifting.specs.Variants.{Carried, sized, built, Variant}

-- of what a card carries
abbrev pub carried_hashed : Carried → HashWrites
carried_hashed (sized turn model tail) = fed.slice fed.u8 tail
carried_hashed (built turn number) = fed.u32 number

-- of a variant
abbrev pub variant_hashed : Variant → HashWrites
variant_hashed v = fed.slice fed.u8 v.cell.head.name ++ fed.slice carried_hashed v.cards
