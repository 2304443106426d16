-- The first limit that is passed, test by test; and the texts that a run has, whether or not they are built.
use Rattle.std.proofs.Common.{◌≡◌, ◌∙◌, ◌∷◌, ◌++◌, ℕ, List, length, map, Bool, true, false, Option, Some, None, refl, sym, ap, subst, nat_lt}
use Rattle.std.specs.Prelude.{◌||◌, Result, Ok, Err, IfErr, IsErrAnd, if◌then◌else◌}
use Rattle.std.proofs.lemmas.List.Folds.{list_any-append}
use Rattle.gl_text.specs.LogicalLines.{FILE}
use Rattle.gl_text.specs.Decks.{Sub, Deck, deck_text}
use Rattle.gl_text.specs.Flattening.{Flat}
use Rattle.gl_base.specs.Stems.{IsStem, names_in}
use Rattle.gl_base.specs.Libraries.{Library}
use Rattle.gl_cover.proofs.Apart.{apart}
use Rattle.gl_lifting.specs.Runs.{Run, run_of}
use Rattle.gl_lifting.specs.Histories.{History}
use Rattle.gl_lifting.specs.HistoryReports.{history_report}
use Rattle.gl_lifting.specs.LiftedDecks.{lifted_deck}
use Rattle.gl_lifting.specs.LiftJobs.{Texts}
use Rattle.gl_lifting.specs.NameMaps.{NameMap, map_of, map_text}
use Rattle.gl_lifting.specs.OutLimits.{OutLimit, of_lifted_text, limits, passed_if, first_passed}
use Rattle.gl_lifting.specs.Renaming.{new_names}
use Rattle.gl_lifting.specs.Counting.{has_longer, has_long_name, counted_limit}
use Rattle.gl_history.specs.Plain.{Lifted}
use Rattle.gl_found.specs.Founds.{IsRunOf}
use Rattle.gl_limit.specs.Bounds.{text_if_short}
use Rattle.gl_limit.specs.Limits.{limit_value}
use Rattle.gl_lift.specs.Counted.{AreCountedTexts, IsCountedLimit, TellsLimit}
use Rattle.gl_lift.specs.declared.fault.LimitFault.{LimitFault}
use Rattle.gl_lift.specs.declared.fault.LimitFault.TheVariants as faults
use Rattle.gl_lift.specs.Lifting.{AreTextsOf}
use Rattle.gl_lift.proofs.Headline.{all_complete, all_choice, all_apart}

-- ---- tests

-- a limit that is not passed is passed over
pub behind : (test : Option OutLimit) (others : List (Option OutLimit)) → test ≡ None → first_passed (test ∷ others) ≡ first_passed others
behind None others h = refl
behind (Some limit) others h = absurd cc

-- one that is passed is told
pub here : (test : Option OutLimit) (others : List (Option OutLimit)) (limit : OutLimit) → test ≡ Some limit → first_passed (test ∷ others) ≡ Some limit
here None others limit h = absurd cc
here (Some other) others limit h = h

-- a long name of the deck or of the map
pub long_names : (most : ℕ) (deck : Deck) (m : NameMap) → has_long_name most deck m ≡ (has_longer most (map (λ (s : Sub). s.head.name) deck.subs) || has_longer most (new_names m.devices ++ new_names m.nets))
long_names most deck m = list_any-append (λ name. nat_lt most (length name)) (map (λ (s : Sub). s.head.name) deck.subs) (new_names m.devices ++ new_names m.nets)

-- ---- texts

-- a text that is there is short
pub short_text : (whole given : List ℕ) → Some given ≡ text_if_short whole → (given ≡ whole) × (passed_if (nat_lt FILE (length whole)) of_lifted_text ≡ None)
short_text whole given h = by (nat_lt FILE (length whole)) h where
  by : (long : Bool) → Some given ≡ (if long then None else Some whole) → (given ≡ whole) × (passed_if long of_lifted_text ≡ None)
  by true e = absurd cc
  by false e = (cc, refl)

-- one that is not there is too long
pub long_text : (whole : List ℕ) → text_if_short whole ≡ None → passed_if (nat_lt FILE (length whole)) of_lifted_text ≡ Some of_lifted_text
long_text whole h = by (nat_lt FILE (length whole)) h where
  by : (long : Bool) → (if long then None else Some whole) ≡ None → passed_if long of_lifted_text ≡ Some of_lifted_text
  by true e = refl
  by false e = absurd cc

-- ---- faults

-- what follows of the limit that a fault tells
pub tells_so : (Is Then : OutLimit → Type 0) (fault : LimitFault) → ((limit : OutLimit) → Is limit → Then limit) → TellsLimit Is fault → TellsLimit Then fault
tells_so Is Then (faults.Passed limit) so h = so (limit_value limit) h
tells_so Is Then faults.Memory so h = tt

-- a fault that is passed on tells the same
pub told_on : {V X : Type 0} (Is : X → OutLimit → Type 0) (r : Result V LimitFault) (fault : LimitFault) → IsErrAnd r (λ e. e ≡ fault) → ((x : X) → TellsLimit (Is x) fault) → IfErr r (λ e. (x : X) → TellsLimit (Is x) e)
told_on Is (Ok value) fault h tells = absurd h
told_on Is (Err e) fault h tells = λ x. subst (TellsLimit (Is x)) (sym h) (tells x)

-- ---- the texts of a run

-- as they are defined
abbrev pub texts_by : Run → Flat → List ℕ → History → Texts
texts_by run flat stem h = record {
  lifted = deck_text (lifted_deck stem flat run.source h);
  map = map_text (map_of stem flat run.source h);
  report = history_report stem flat run.library h;
}

-- such texts are those of the run
pub told_texts : (flat : Flat) (library : Library) (lifted : Lifted) (r : IsRunOf flat library lifted) (stem : List ℕ) (texts : Texts) → IsStem (names_in flat) stem
    → texts.lifted ≡ deck_text (lifted_deck stem flat (run_of flat library r.keep).source r.shown.history)
    → texts.map ≡ map_text (map_of stem flat (run_of flat library r.keep).source r.shown.history)
    → texts.report ≡ history_report stem flat library r.shown.history → AreTextsOf (run_of flat library r.keep) flat texts
told_texts flat library lifted r stem texts is lifted_is map_is report_is =
    let run : Run = run_of flat library r.keep in
    let history = r.shown.history in
    record {
      history = history;
      history_is = r.shown.is_history;
      complete = all_complete run history r.shown.is_history;
      choice = all_choice run history r.shown.is_history;
      apart = all_apart apart run history r.shown.is_history;
      stem = stem;
      stem_is = is;
      lifted_is = lifted_is;
      map_is = map_is;
      report_is = report_is;
    }

-- the limit that is counted of a run's history
abbrev pub counted_of : (flat : Flat) (library : Library) (lifted : Lifted) (r : IsRunOf flat library lifted) → List ℕ → Option OutLimit
counted_of flat library lifted r stem =
    let run : Run = run_of flat library r.keep in
    counted_limit limits flat (lifted_deck stem flat run.source r.shown.history) (map_of stem flat run.source r.shown.history) (length r.shown.history.last.composites) (history_report stem flat library r.shown.history)

-- where one is counted, the texts pass it, though none is built
pub counted_told : (flat : Flat) (library : Library) (lifted : Lifted) (r : IsRunOf flat library lifted) (stem : List ℕ) (limit : OutLimit) → IsStem (names_in flat) stem
    → counted_of flat library lifted r stem ≡ Some limit → IsCountedLimit r.keep library flat limit
unfolding told_texts
counted_told flat library lifted r stem limit is h =
    let texts = texts_by (run_of flat library r.keep) flat stem r.shown.history in
    (texts, record { texts_are = told_texts flat library lifted r stem texts is refl refl refl; limit_is = h })

-- where none is counted, texts that are built pass none
pub counted_none : (flat : Flat) (library : Library) (lifted : Lifted) (r : IsRunOf flat library lifted) (stem : List ℕ) (texts : Texts) → IsStem (names_in flat) stem
    → texts.lifted ≡ deck_text (lifted_deck stem flat (run_of flat library r.keep).source r.shown.history)
    → texts.map ≡ map_text (map_of stem flat (run_of flat library r.keep).source r.shown.history)
    → texts.report ≡ history_report stem flat library r.shown.history
    → counted_of flat library lifted r stem ≡ None → AreCountedTexts r.keep library flat texts
unfolding told_texts
counted_none flat library lifted r stem texts is lifted_is map_is report_is h =
    let run : Run = run_of flat library r.keep in
    let deck : Deck = lifted_deck stem flat run.source r.shown.history in
    let m : NameMap = map_of stem flat run.source r.shown.history in
    record {
      texts_are = told_texts flat library lifted r stem texts is lifted_is map_is report_is;
      limit_is = ap (counted_limit limits flat deck m (length r.shown.history.last.composites)) report_is ∙ h;
    }
