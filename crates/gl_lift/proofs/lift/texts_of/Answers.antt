use Rattle.std.proofs.Common.{Ok, sym, subst}
use Rattle.std.specs.Prelude.{IfOk, IfErr}
use Rattle.std.specs.Option.{option_copied}
use Rattle.gl_text.specs.Flattening.{Flat}
use Rattle.gl_lib.specs.Sources.{AreSound}
use Rattle.gl_lift.specs.Lifting.{flat_deck, unless_unknown}
use Rattle.gl_lift.specs.Refusals.{AreLifted, IsNotLifted}
use Rattle.gl_lift.proofs.Lifts.{lifted_stays, refused_stays}
use Rattle.gl_lift.proofs.lift.texts_of.Goals as goal

pub texts_of_flat-requires : goal.texts_of_flat-requires
texts_of_flat-requires c =
    let given = c.in_ok-flat.ensures.gives in
    record { sound = subst (λ (f : Flat). AreSound f c.args.library.now) (sym given.2) (c.flat_decks_are_sound.ensures.sound c.args.deck c.args.library.now (option_copied c.args.top) given.0 c.requires.deck c.requires.library given.1) }

pub returns-clause-texts : goal.returns-clause-texts
returns-clause-texts c =
    let given = c.in_ok-flat.ensures.gives in
    let keep = c.args.keep.now in
    let library = c.args.library.now in
    let laws = c.plain_texts_are_texts.ensures in
    lifted_stays laws.counted laws.unknown keep library given.0 (flat_deck (option_copied c.args.top) c.args.deck library) given.1 c.texts_of_flat.result
    (subst (λ (f : Flat). IfOk c.texts_of_flat.result (AreLifted keep library (unless_unknown keep library (Ok f)))) given.2 c.texts_of_flat.ensures.texts)

pub returns-clause-refused : goal.returns-clause-refused
returns-clause-refused c =
    let given = c.in_ok-flat.ensures.gives in
    let keep = c.args.keep.now in
    let library = c.args.library.now in
    let laws = c.plain_texts_are_texts.ensures in
    refused_stays laws.counted laws.unknown keep library given.0 (flat_deck (option_copied c.args.top) c.args.deck library) given.1 c.texts_of_flat.result
    (subst (λ (f : Flat). IfErr c.texts_of_flat.result (IsNotLifted keep library (unless_unknown keep library (Ok f)))) given.2 c.texts_of_flat.ensures.refused)
