use Rattle.std.proofs.Common.{sym, subst}
use Rattle.std.specs.Option.{option_copied}
use Rattle.gl_text.specs.Flattening.{Flat}
use Rattle.gl_lib.specs.Sources.{AreSound}
use Rattle.gl_lifts.proofs.way.written_of.Goals as goal

pub written_of_flat-requires : goal.written_of_flat-requires
written_of_flat-requires c =
    let given = c.in_ok-flat.ensures.gives in
    record { sound = subst (λ (f : Flat). AreSound f c.args.library.now) (sym given.2) (c.flat_decks_are_sound.ensures.sound c.args.deck.now c.args.library.now (option_copied c.args.top) given.0 c.requires.deck c.requires.library given.1) }
