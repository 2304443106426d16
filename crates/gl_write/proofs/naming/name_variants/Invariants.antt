use Rattle.std.proofs.Common.{◌≡◌, take}
use Rattle.std.specs.Option.{option_copied}
use Rattle.gl_lifting.specs.Variants.{variant_names}
use Rattle.gl_variant.specs.Names.{AreGiven}
use Rattle.gl_write.proofs.naming.name_variants.Given as goal

abbrev pub invariant-loop-variant : goal.invariant-loop-variant
invariant-loop-variant l = record {
  names : l.names.items ≡ variant_names (option_copied l.top) (take l.variant-index l.variants);
  given : AreGiven (option_copied l.top) (take l.variant-index l.variants) l.lasts.entries;
}
