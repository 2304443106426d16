-- The first limit that is passed, test by test.
use Rattle.std.proofs.Common.{◌≡◌, ◌∙◌, Option, Some, sym, ap, subst}
use Rattle.gl_text.specs.Decks.{deck_text}
use Rattle.gl_lifting.specs.NameMaps.{map_text}
use Rattle.gl_lifting.specs.OutLimits.{OutLimit}
use Rattle.gl_history.specs.Plain.{Lifted}
use Rattle.gl_found.specs.Founds.{IsRunOf}
use Rattle.gl_lift.specs.Counted.{IsCountedLimit, TellsLimit}
use Rattle.gl_lift.proofs.Judged.{tells_so, told_on, counted_told, counted_none}
use Rattle.gl_lift.proofs.Tests.{deck_by, name_test, card_test, lifted_test, flat_test, map_test, report_test, name_is, cards_are, flat_is, map_is, at_name, at_cards, at_lifted, at_flat, at_map, at_report, at_none}
use Rattle.gl_lift.proofs.texts.texts_under.Goals as goal

pub returns-in_err-refuse_if-clause-limit : goal.returns-in_err-refuse_if-clause-limit
returns-in_err-refuse_if-clause-limit c =
    let flat = c.args.flat.now in
    let library = c.args.library.now in
    let lifted : Lifted = c.args.lifted.now in
    let stem = c.args.stem.now in
    let names = λ (r : IsRunOf flat library lifted). name_is flat library lifted stem r c.has_long_name.result c.in_ok-written.written.has_long_name c.in_ok-names.names.map c.has_long_name.ensures.long (c.in_ok-written.ensures.long r) (c.in_ok-names.ensures.map r) in
    let fault = c.in_err-refuse_if.field-0.0 in
    told_on (λ (r : IsRunOf flat library lifted). IsCountedLimit r.keep library flat) c.from_residual-in_err-refuse_if.result fault c.from_residual-in_err-refuse_if.ensures.1
    (λ r. tells_so (λ limit. name_test flat library lifted stem r ≡ Some limit) (IsCountedLimit r.keep library flat) fault
    (λ limit h. counted_told flat library lifted r stem limit c.requires.stem (at_name flat library lifted stem r limit h)) (subst (λ (test : Option OutLimit). TellsLimit (λ limit. test ≡ Some limit) fault) (names r) c.in_err-refuse_if.ensures.judges))

pub returns-in_err-refuse_if-2-clause-limit : goal.returns-in_err-refuse_if-2-clause-limit
returns-in_err-refuse_if-2-clause-limit c =
    let flat = c.args.flat.now in
    let library = c.args.library.now in
    let lifted : Lifted = c.args.lifted.now in
    let stem = c.args.stem.now in
    let names = λ (r : IsRunOf flat library lifted). name_is flat library lifted stem r c.has_long_name.result c.in_ok-written.written.has_long_name c.in_ok-names.names.map c.has_long_name.ensures.long (c.in_ok-written.ensures.long r) (c.in_ok-names.ensures.map r) in
    let cards = λ (r : IsRunOf flat library lifted). cards_are flat library lifted stem r c.has_many_cards.result c.has_many_cards.ensures.many in
    let no_names = λ (r : IsRunOf flat library lifted). sym (names r) ∙ c.in_ok-refuse_if.ensures.judges in
    let fault = c.in_err-refuse_if-2.field-0.0 in
    told_on (λ (r : IsRunOf flat library lifted). IsCountedLimit r.keep library flat) c.from_residual-in_err-refuse_if-2.result fault c.from_residual-in_err-refuse_if-2.ensures.1
    (λ r. tells_so (λ limit. card_test flat library lifted stem r ≡ Some limit) (IsCountedLimit r.keep library flat) fault
    (λ limit h. counted_told flat library lifted r stem limit c.requires.stem (at_cards flat library lifted stem r (no_names r) limit h)) (subst (λ (test : Option OutLimit). TellsLimit (λ limit. test ≡ Some limit) fault) (cards r) c.in_err-refuse_if-2.ensures.judges))

pub returns-in_err-deck-clause-limit : goal.returns-in_err-deck-clause-limit
returns-in_err-deck-clause-limit c =
    let flat = c.args.flat.now in
    let library = c.args.library.now in
    let lifted : Lifted = c.args.lifted.now in
    let stem = c.args.stem.now in
    let names = λ (r : IsRunOf flat library lifted). name_is flat library lifted stem r c.has_long_name.result c.in_ok-written.written.has_long_name c.in_ok-names.names.map c.has_long_name.ensures.long (c.in_ok-written.ensures.long r) (c.in_ok-names.ensures.map r) in
    let cards = λ (r : IsRunOf flat library lifted). cards_are flat library lifted stem r c.has_many_cards.result c.has_many_cards.ensures.many in
    let no_names = λ (r : IsRunOf flat library lifted). sym (names r) ∙ c.in_ok-refuse_if.ensures.judges in
    let no_cards = λ (r : IsRunOf flat library lifted). sym (cards r) ∙ c.in_ok-refuse_if-2.ensures.judges in
    let fault = c.in_err-deck.field-0.0 in
    told_on (λ (r : IsRunOf flat library lifted). IsCountedLimit r.keep library flat) c.from_residual-in_err-deck.result fault c.from_residual-in_err-deck.ensures.1
    (λ r. tells_so (λ limit. lifted_test flat library lifted stem r ≡ Some limit) (IsCountedLimit r.keep library flat) fault
    (λ limit h. counted_told flat library lifted r stem limit c.requires.stem (at_lifted flat library lifted stem r (no_names r) (no_cards r) limit h)) (c.in_err-deck.ensures.judges (deck_text (deck_by flat library lifted stem r)) (c.in_ok-written.ensures.text r)))

pub returns-in_err-refuse_if-3-clause-limit : goal.returns-in_err-refuse_if-3-clause-limit
returns-in_err-refuse_if-3-clause-limit c =
    let flat = c.args.flat.now in
    let library = c.args.library.now in
    let lifted : Lifted = c.args.lifted.now in
    let stem = c.args.stem.now in
    let names = λ (r : IsRunOf flat library lifted). name_is flat library lifted stem r c.has_long_name.result c.in_ok-written.written.has_long_name c.in_ok-names.names.map c.has_long_name.ensures.long (c.in_ok-written.ensures.long r) (c.in_ok-names.ensures.map r) in
    let cards = λ (r : IsRunOf flat library lifted). cards_are flat library lifted stem r c.has_many_cards.result c.has_many_cards.ensures.many in
    let flats = λ (r : IsRunOf flat library lifted). flat_is flat library lifted stem r c.in_ok-has_long_flat.field-0 c.in_ok-names.names.map c.in_ok-names.names.flat c.in_ok-has_long_flat.ensures.long (c.in_ok-names.ensures.map r) c.in_ok-names.ensures.flat in
    let no_names = λ (r : IsRunOf flat library lifted). sym (names r) ∙ c.in_ok-refuse_if.ensures.judges in
    let no_cards = λ (r : IsRunOf flat library lifted). sym (cards r) ∙ c.in_ok-refuse_if-2.ensures.judges in
    let no_deck = λ (r : IsRunOf flat library lifted). c.in_ok-deck.ensures.judges (deck_text (deck_by flat library lifted stem r)) (c.in_ok-written.ensures.text r) in
    let fault = c.in_err-refuse_if-3.field-0.0 in
    told_on (λ (r : IsRunOf flat library lifted). IsCountedLimit r.keep library flat) c.from_residual-in_err-refuse_if-3.result fault c.from_residual-in_err-refuse_if-3.ensures.1
    (λ r. tells_so (λ limit. flat_test flat library lifted stem r ≡ Some limit) (IsCountedLimit r.keep library flat) fault
    (λ limit h. counted_told flat library lifted r stem limit c.requires.stem (at_flat flat library lifted stem r (no_names r) (no_cards r) (no_deck r) limit h)) (subst (λ (test : Option OutLimit). TellsLimit (λ limit. test ≡ Some limit) fault) (flats r) c.in_err-refuse_if-3.ensures.judges))

pub returns-in_err-map-clause-limit : goal.returns-in_err-map-clause-limit
returns-in_err-map-clause-limit c =
    let flat = c.args.flat.now in
    let library = c.args.library.now in
    let lifted : Lifted = c.args.lifted.now in
    let stem = c.args.stem.now in
    let names = λ (r : IsRunOf flat library lifted). name_is flat library lifted stem r c.has_long_name.result c.in_ok-written.written.has_long_name c.in_ok-names.names.map c.has_long_name.ensures.long (c.in_ok-written.ensures.long r) (c.in_ok-names.ensures.map r) in
    let cards = λ (r : IsRunOf flat library lifted). cards_are flat library lifted stem r c.has_many_cards.result c.has_many_cards.ensures.many in
    let flats = λ (r : IsRunOf flat library lifted). flat_is flat library lifted stem r c.in_ok-has_long_flat.field-0 c.in_ok-names.names.map c.in_ok-names.names.flat c.in_ok-has_long_flat.ensures.long (c.in_ok-names.ensures.map r) c.in_ok-names.ensures.flat in
    let maps = λ (r : IsRunOf flat library lifted). map_is flat library lifted stem r c.in_ok-names.names.map (c.in_ok-names.ensures.map r) in
    let no_names = λ (r : IsRunOf flat library lifted). sym (names r) ∙ c.in_ok-refuse_if.ensures.judges in
    let no_cards = λ (r : IsRunOf flat library lifted). sym (cards r) ∙ c.in_ok-refuse_if-2.ensures.judges in
    let no_deck = λ (r : IsRunOf flat library lifted). c.in_ok-deck.ensures.judges (deck_text (deck_by flat library lifted stem r)) (c.in_ok-written.ensures.text r) in
    let no_flat = λ (r : IsRunOf flat library lifted). sym (flats r) ∙ c.in_ok-refuse_if-3.ensures.judges in
    let fault = c.in_err-map.field-0.0 in
    told_on (λ (r : IsRunOf flat library lifted). IsCountedLimit r.keep library flat) c.from_residual-in_err-map.result fault c.from_residual-in_err-map.ensures.1
    (λ r. tells_so (λ limit. map_test flat library lifted stem r ≡ Some limit) (IsCountedLimit r.keep library flat) fault
    (λ limit h. counted_told flat library lifted r stem limit c.requires.stem (at_map flat library lifted stem r (no_names r) (no_cards r) (no_deck r) (no_flat r) limit h)) (subst (λ (test : Option OutLimit). TellsLimit (λ limit. test ≡ Some limit) fault) (maps r) c.in_err-map.ensures.judges))

pub returns-in_err-report-clause-limit : goal.returns-in_err-report-clause-limit
returns-in_err-report-clause-limit c =
    let flat = c.args.flat.now in
    let library = c.args.library.now in
    let lifted : Lifted = c.args.lifted.now in
    let stem = c.args.stem.now in
    let names = λ (r : IsRunOf flat library lifted). name_is flat library lifted stem r c.has_long_name.result c.in_ok-written.written.has_long_name c.in_ok-names.names.map c.has_long_name.ensures.long (c.in_ok-written.ensures.long r) (c.in_ok-names.ensures.map r) in
    let cards = λ (r : IsRunOf flat library lifted). cards_are flat library lifted stem r c.has_many_cards.result c.has_many_cards.ensures.many in
    let flats = λ (r : IsRunOf flat library lifted). flat_is flat library lifted stem r c.in_ok-has_long_flat.field-0 c.in_ok-names.names.map c.in_ok-names.names.flat c.in_ok-has_long_flat.ensures.long (c.in_ok-names.ensures.map r) c.in_ok-names.ensures.flat in
    let maps = λ (r : IsRunOf flat library lifted). map_is flat library lifted stem r c.in_ok-names.names.map (c.in_ok-names.ensures.map r) in
    let no_names = λ (r : IsRunOf flat library lifted). sym (names r) ∙ c.in_ok-refuse_if.ensures.judges in
    let no_cards = λ (r : IsRunOf flat library lifted). sym (cards r) ∙ c.in_ok-refuse_if-2.ensures.judges in
    let no_deck = λ (r : IsRunOf flat library lifted). c.in_ok-deck.ensures.judges (deck_text (deck_by flat library lifted stem r)) (c.in_ok-written.ensures.text r) in
    let no_flat = λ (r : IsRunOf flat library lifted). sym (flats r) ∙ c.in_ok-refuse_if-3.ensures.judges in
    let no_map = λ (r : IsRunOf flat library lifted). sym (maps r) ∙ c.in_ok-map.ensures.judges in
    let fault = c.in_err-report.field-0.0 in
    told_on (λ (r : IsRunOf flat library lifted). IsCountedLimit r.keep library flat) c.from_residual-in_err-report.result fault c.from_residual-in_err-report.ensures.1
    (λ r. tells_so (λ limit. report_test flat library lifted stem r ≡ Some limit) (IsCountedLimit r.keep library flat) fault
    (λ limit h. counted_told flat library lifted r stem limit c.requires.stem (at_report flat library lifted stem r (no_names r) (no_cards r) (no_deck r) (no_flat r) (no_map r) limit h)) (c.in_err-report.ensures.judges r))

pub returns-clause-texts : goal.returns-clause-texts
returns-clause-texts c =
    let flat = c.args.flat.now in
    let library = c.args.library.now in
    let lifted : Lifted = c.args.lifted.now in
    let stem = c.args.stem.now in
    let names = λ (r : IsRunOf flat library lifted). name_is flat library lifted stem r c.has_long_name.result c.in_ok-written.written.has_long_name c.in_ok-names.names.map c.has_long_name.ensures.long (c.in_ok-written.ensures.long r) (c.in_ok-names.ensures.map r) in
    let cards = λ (r : IsRunOf flat library lifted). cards_are flat library lifted stem r c.has_many_cards.result c.has_many_cards.ensures.many in
    let flats = λ (r : IsRunOf flat library lifted). flat_is flat library lifted stem r c.in_ok-has_long_flat.field-0 c.in_ok-names.names.map c.in_ok-names.names.flat c.in_ok-has_long_flat.ensures.long (c.in_ok-names.ensures.map r) c.in_ok-names.ensures.flat in
    let maps = λ (r : IsRunOf flat library lifted). map_is flat library lifted stem r c.in_ok-names.names.map (c.in_ok-names.ensures.map r) in
    let no_names = λ (r : IsRunOf flat library lifted). sym (names r) ∙ c.in_ok-refuse_if.ensures.judges in
    let no_cards = λ (r : IsRunOf flat library lifted). sym (cards r) ∙ c.in_ok-refuse_if-2.ensures.judges in
    let no_deck = λ (r : IsRunOf flat library lifted). c.in_ok-deck.ensures.judges (deck_text (deck_by flat library lifted stem r)) (c.in_ok-written.ensures.text r) in
    let no_flat = λ (r : IsRunOf flat library lifted). sym (flats r) ∙ c.in_ok-refuse_if-3.ensures.judges in
    let no_map = λ (r : IsRunOf flat library lifted). sym (maps r) ∙ c.in_ok-map.ensures.judges in
    λ r.
    let deck_is = c.in_ok-deck.ensures.text (deck_text (deck_by flat library lifted stem r)) (c.in_ok-written.ensures.text r) in
    let map_is = c.in_ok-map.ensures.text ∙ ap map_text (c.in_ok-names.ensures.map r) in
    let report_is = c.in_ok-report.ensures.text r in
    let none = at_none flat library lifted stem r (no_names r) (no_cards r) (no_deck r) (no_flat r) (no_map r) (c.in_ok-report.ensures.judges r) in
    counted_none flat library lifted r stem (record { lifted = c.in_ok-deck.deck.items; map = c.in_ok-map.map.items; report = c.in_ok-report.report.items }) c.requires.stem deck_is map_is report_is none
