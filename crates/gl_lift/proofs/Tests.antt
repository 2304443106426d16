-- The six tests of what a run's history passes, each told by what the code looks at, and the first of them.
use Rattle.std.proofs.Common.{◌≡◌, ◌∙◌, ◌+◌, ◌∷◌, ◌++◌, ℕ, List, [], length, map, Bool, Option, Some, None, sym, ap, nat_lt}
use Rattle.std.specs.Prelude.{◌||◌}
use Rattle.gl_text.specs.LogicalLines.{FILE, NAME}
use Rattle.gl_text.specs.Decks.{Sub, Deck, deck_text}
use Rattle.gl_text.specs.Flattening.{CARDS, Flat}
use Rattle.gl_base.specs.Libraries.{Library}
use Rattle.gl_base.specs.Rounds.{cards_of}
use Rattle.gl_lifting.specs.Runs.{run_of}
use Rattle.gl_lifting.specs.HistoryReports.{history_report}
use Rattle.gl_lifting.specs.LiftedDecks.{lifted_deck}
use Rattle.gl_lifting.specs.NameMaps.{NameMap, map_of, map_text}
use Rattle.gl_lifting.specs.OutLimits.{OutLimit, of_name, of_cards, of_lifted_text, of_lifted_flat, of_map_text, of_report_text, limits, passed_if, first_passed}
use Rattle.gl_lifting.specs.Renaming.{new_names}
use Rattle.gl_lifting.specs.Counting.{has_longer, has_long_name, new_length}
use Rattle.gl_history.specs.Plain.{Lifted}
use Rattle.gl_found.specs.Founds.{IsRunOf}
use Rattle.gl_lift.proofs.Judged.{behind, here, long_names, counted_of}

module _ (flat : Flat) (library : Library) (lifted : Lifted) (stem : List ℕ) (r : IsRunOf flat library lifted) where
  -- the lifted deck, the map of names and the report of the history
  abbrev pub deck_by : Deck
  deck_by = lifted_deck stem flat (run_of flat library r.keep).source r.shown.history

  abbrev pub map_by : NameMap
  map_by = map_of stem flat (run_of flat library r.keep).source r.shown.history

  -- ---- the tests

  abbrev pub name_test : Option OutLimit
  name_test = passed_if (has_long_name limits.name deck_by map_by) of_name

  abbrev pub card_test : Option OutLimit
  card_test = passed_if (nat_lt limits.cards (length (cards_of flat) + length r.shown.history.last.composites)) of_cards

  abbrev pub lifted_test : Option OutLimit
  lifted_test = passed_if (nat_lt limits.text (length (deck_text deck_by))) of_lifted_text

  abbrev pub flat_test : Option OutLimit
  flat_test = passed_if (nat_lt limits.text (new_length map_by flat)) of_lifted_flat

  abbrev pub map_test : Option OutLimit
  map_test = passed_if (nat_lt limits.text (length (map_text map_by))) of_map_text

  abbrev pub report_test : Option OutLimit
  report_test = passed_if (nat_lt limits.text (length (history_report stem flat library r.shown.history))) of_report_text

  -- ---- what the code looks at

  pub name_is : (long written : Bool) (m : NameMap) → long ≡ (written || has_longer NAME (new_names m.devices ++ new_names m.nets)) → written ≡ has_longer NAME (map (λ (s : Sub). s.head.name) deck_by.subs) → m ≡ map_by → passed_if long of_name ≡ name_test
  name_is long written m long_is written_is map_is = ap (λ (b : Bool). passed_if b of_name) (
      long_is
      ∙ ap (λ (b : Bool). b || has_longer NAME (new_names m.devices ++ new_names m.nets)) written_is
      ∙ ap (λ (m : NameMap). has_longer NAME (map (λ (s : Sub). s.head.name) deck_by.subs) || has_longer NAME (new_names m.devices ++ new_names m.nets)) map_is
      ∙ sym (long_names NAME deck_by map_by))

  pub cards_are : (many : Bool) → many ≡ nat_lt CARDS (length (cards_of flat) + lifted.chosen) → passed_if many of_cards ≡ card_test
  cards_are many many_is = ap (λ (b : Bool). passed_if b of_cards) many_is ∙ ap (λ (n : ℕ). passed_if (nat_lt CARDS (length (cards_of flat) + n)) of_cards) r.shown.chosen

  pub flat_is : (long : Bool) (m : NameMap) (f : Flat) → long ≡ nat_lt FILE (new_length m f) → m ≡ map_by → f ≡ flat → passed_if long of_lifted_flat ≡ flat_test
  flat_is long m f long_is map_is same = ap (λ (b : Bool). passed_if b of_lifted_flat) long_is
      ∙ ap (λ (m : NameMap). passed_if (nat_lt FILE (new_length m f)) of_lifted_flat) map_is
      ∙ ap (λ (f : Flat). passed_if (nat_lt FILE (new_length map_by f)) of_lifted_flat) same

  pub map_is : (m : NameMap) → m ≡ map_by → passed_if (nat_lt FILE (length (map_text m))) of_map_text ≡ map_test
  map_is m same = ap (λ (m : NameMap). passed_if (nat_lt FILE (length (map_text m))) of_map_text) same

  -- ---- the first that is passed

  pub at_name : (limit : OutLimit) → name_test ≡ Some limit → counted_of flat library lifted r stem ≡ Some limit
  at_name limit h = here name_test (card_test ∷ lifted_test ∷ flat_test ∷ map_test ∷ report_test ∷ []) limit h

  pub at_cards : name_test ≡ None → (limit : OutLimit) → card_test ≡ Some limit → counted_of flat library lifted r stem ≡ Some limit
  at_cards a limit h = behind name_test (card_test ∷ lifted_test ∷ flat_test ∷ map_test ∷ report_test ∷ []) a ∙ here card_test (lifted_test ∷ flat_test ∷ map_test ∷ report_test ∷ []) limit h

  pub at_lifted : name_test ≡ None → card_test ≡ None → (limit : OutLimit) → lifted_test ≡ Some limit → counted_of flat library lifted r stem ≡ Some limit
  at_lifted a b limit h = behind name_test (card_test ∷ lifted_test ∷ flat_test ∷ map_test ∷ report_test ∷ []) a
      ∙ (behind card_test (lifted_test ∷ flat_test ∷ map_test ∷ report_test ∷ []) b
      ∙ here lifted_test (flat_test ∷ map_test ∷ report_test ∷ []) limit h)

  pub at_flat : name_test ≡ None → card_test ≡ None → lifted_test ≡ None → (limit : OutLimit) → flat_test ≡ Some limit → counted_of flat library lifted r stem ≡ Some limit
  at_flat a b d limit h = behind name_test (card_test ∷ lifted_test ∷ flat_test ∷ map_test ∷ report_test ∷ []) a
      ∙ (behind card_test (lifted_test ∷ flat_test ∷ map_test ∷ report_test ∷ []) b
      ∙ (behind lifted_test (flat_test ∷ map_test ∷ report_test ∷ []) d
      ∙ here flat_test (map_test ∷ report_test ∷ []) limit h))

  -- where the first four are not passed, the last two are left
  counted_texts : name_test ≡ None → card_test ≡ None → lifted_test ≡ None → flat_test ≡ None → counted_of flat library lifted r stem ≡ first_passed (map_test ∷ report_test ∷ [])
  counted_texts a b d e = behind name_test (card_test ∷ lifted_test ∷ flat_test ∷ map_test ∷ report_test ∷ []) a
      ∙ (behind card_test (lifted_test ∷ flat_test ∷ map_test ∷ report_test ∷ []) b
      ∙ (behind lifted_test (flat_test ∷ map_test ∷ report_test ∷ []) d
      ∙ behind flat_test (map_test ∷ report_test ∷ []) e))

  pub at_map : name_test ≡ None → card_test ≡ None → lifted_test ≡ None → flat_test ≡ None → (limit : OutLimit) → map_test ≡ Some limit → counted_of flat library lifted r stem ≡ Some limit
  at_map a b d e limit h = counted_texts a b d e ∙ here map_test (report_test ∷ []) limit h

  pub at_report : name_test ≡ None → card_test ≡ None → lifted_test ≡ None → flat_test ≡ None → map_test ≡ None → (limit : OutLimit) → report_test ≡ Some limit → counted_of flat library lifted r stem ≡ Some limit
  at_report a b d e m limit h = counted_texts a b d e ∙ (behind map_test (report_test ∷ []) m ∙ here report_test [] limit h)

  pub at_none : name_test ≡ None → card_test ≡ None → lifted_test ≡ None → flat_test ≡ None → map_test ≡ None → report_test ≡ None → counted_of flat library lifted r stem ≡ None
  at_none a b d e m t = counted_texts a b d e ∙ (behind map_test (report_test ∷ []) m ∙ behind report_test [] t)
