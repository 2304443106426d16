use Rattle.std.proofs.Common.{◌∙◌, ◌++◌, map, sym, ap}
use Rattle.std.specs.Prelude.{flat_map}
use Rattle.std.proofs.lemmas.List.{append-nil}
use Rattle.std.proofs.lemmas.Slice.Zip.{either_empty_from_Zip}
use Rattle.gl_text.specs.Decks.{sub_text}
use Rattle.gl_lifting.specs.LiftedDecks.{variant_sub}
use Rattle.gl_found.proofs.ZipLaws.{zip_none}
use Rattle.gl_write.proofs.variant_card.put_variants.Goals as goal

pub returns-clause-ok : goal.returns-clause-ok
returns-clause-ok c = λ s.
    let out = c.loop-name.out.items in
    let left = c.loop-name.name-iterator in
    let done = zip_none left.a.rest.now left.b.rest.now (either_empty_from_Zip left c.next.new.self c.next.result c.in-None.is c.next.ensures.steps) in
    sym (append-nil out) ∙ sym (ap (λ zs. out ++ flat_map sub_text (map (variant_sub s c.args.names.now) zs)) done) ∙ c.loop-name.invariant s
