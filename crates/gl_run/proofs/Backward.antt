-- What `lift` wrote when it is done leads back, and `restore` takes it.
use Rattle.std.proofs.Common.{◌≡◌, ◌⊎◌, ◌≤◌, ◌+◌, ℕ, List, [], ◌∷◌, length, Bool, true, false, Option, None, Some, Ok, refl, sym, ap, ◌∙◌, subst, inl, inr, nat_lt, arith}
use Rattle.std.proofs.lemmas.Bool.{ltb-false, le-ltb}
use Rattle.std.specs.Prelude.{Result, Err, IfSome}
use Rattle.std.specs.List.{list_any}
use Rattle.gl_fault.specs.Refusals.{or_else, ◌>>=◌}
use Rattle.gl_text.specs.LogicalLines.{FILE, Fault}
use Rattle.gl_text.specs.Decks as decks
use Rattle.gl_text.specs.Decks.{read_deck, deck_text}
use Rattle.gl_text.specs.Flattening.{Flat, flatten, flat_text, flat_of, count, one}
use Rattle.gl_text.specs.PlainFlats.{plain}
use Rattle.gl_base.specs.Libraries as libraries
use Rattle.gl_base.specs.Libraries.{read_library}
use Rattle.gl_base.specs.Rails.{run_rails}
use Rattle.gl_lifting.specs.Runs.{run_of}
use Rattle.gl_lifting.specs.LiftedDecks.{lifted_deck}
use Rattle.gl_lifting.specs.LiftJobs.{Texts}
use Rattle.gl_lifting.specs.Lifted.{Options, IsLifted, IsRestored}
use Rattle.gl_lifting.specs.NameMaps.{NameMap}
use Rattle.gl_lifting.specs.MapReading.{read_map}
use Rattle.gl_lifting.specs.OutLimits.{OutLimit, of_name, of_cards, of_lifted_text, of_lifted_flat, of_map_text, of_report_text, of_restored_text, limits, passed_if, first_passed, expanded_cards, written_names, lifted_flat as lifted_of}
use Rattle.gl_lifting.specs.Renaming.{RestoreFault, restore as restored_flat}
use Rattle.gl_lift.specs.Lifting.{flat_deck, lifted_flat, AreLiftTexts}
use Rattle.gl_lift.specs.Written.{IsWritten}
use Rattle.gl_lift.proofs.FlatParts.{flat_parts}
use Rattle.gl_lift.proofs.WrittenLaws.{known_flat}
use Rattle.gl_flat.proofs.PlainLaws.{plain_text}
use Rattle.gl_desk.specs.declared.slot.Slot.{Slot}
use Rattle.gl_desk.specs.declared.slot.Slot.TheVariants.{Deck, Library, Map, Out}
use Rattle.gl_job.specs.declared.kind.Kind.{Kind}
use Rattle.gl_job.specs.declared.kind.Kind.TheVariants as kinds
use Rattle.gl_job.specs.declared.stop.Stop.{Stop}
use Rattle.gl_job.specs.declared.stop.Stop.TheVariants as stops
use Rattle.gl_job.specs.Texts.{End, status_of, end_of_stop}
use Rattle.gl_job.specs.Runs.{Run, Opening, opening, Unread}
use Rattle.gl_job.specs.Courses.{Course, unless, input, write, Writes, Ends}
use Rattle.gl_job.specs.Runs as runs
use Rattle.gl_job.specs.Claims.{AreWritten, IsDone}
use Rattle.gl_deck.specs.Texts.{fault_text}
use Rattle.gl_cells.specs.Texts.{cell_text}
use Rattle.gl_map.specs.Texts as maps
use Rattle.gl_restore.specs.Texts as names
use Rattle.gl_restore.specs.TooLong.{text_within}
use Rattle.gl_words.specs.Jobs.{Request, RestoreRequest}
use Rattle.gl_run.specs.Jobs.{lift_text, AreThree, IsAlone, texts_in_order, lift_outs, lift_course, restore_outs, restore_course}
use Rattle.gl_run.specs.Claims.{IsEnding}
use Rattle.gl_run.specs.WayBack.{options_of, IsLiftedBy, HoldLifted, IsFailed, IsTaken}

-- ---- what was written

-- a job that is done at a point has its value
done_unless : {V E : Type 0} (kind : Kind) (text : E → List ℕ) (wanted : Result V E) (next : V → Course) (r : Run) → IsDone (unless kind text wanted next) r → (value : V) × (wanted ≡ Ok value) × IsDone (next value) r
done_unless kind text (Ok value) next r h = (value, refl, h)
done_unless kind text (Err fault) next r h = absurd h

three : (Are : Texts → Type 0) (texts : List (List ℕ)) (line : List ℕ) → AreThree Are texts line → (t : Texts) × (texts ≡ texts_in_order t) × Are t
three Are (lifted ∷ map ∷ report ∷ []) [] h = (record { lifted = lifted; map = map; report = report }, refl, h)
three Are (lifted ∷ map ∷ report ∷ []) (byte ∷ line) h = absurd h
three Are [] line h = absurd h
three Are (a ∷ []) line h = absurd h
three Are (a ∷ b ∷ []) line h = absurd h
three Are (a ∷ b ∷ c ∷ d ∷ more) line h = absurd h

-- what is written is lifted, and leads back
abbrev pub AreLiftedTexts : Type 0
AreLiftedTexts = (deck_bytes library_bytes : List ℕ) (o : Options) (texts : Texts) → (is : IsWritten deck_bytes library_bytes o texts) → IsLifted deck_bytes library_bytes o texts.lifted texts.map texts.report

abbrev pub AreRestoredTexts : Type 0
AreRestoredTexts = (deck_bytes library_bytes : List ℕ) (o : Options) (texts : Texts) → (is : IsWritten deck_bytes library_bytes o texts) → IsRestored o.top texts.lifted texts.map is.flat

pub lifted_by : AreLiftedTexts → AreRestoredTexts → (q : Request) (r : Run) → IsDone (lift_course q) r → IsLiftedBy q r
unfolding lift_course
lifted_by lifted restored q r h =
    let d = done_unless kinds.Deck fault_text (read_deck true h.0) _ r h.2 in
    let l = done_unless kinds.Library cell_text (read_library d.2.0) _ r d.2.2 in
    let f = done_unless kinds.Deck lift_text (lifted_flat q.top q.keep d.0 l.0) _ r l.2 in
    let t = three (AreLiftTexts q.keep l.0 f.0) f.2.0 f.2.1 f.2.2 in
    let written : IsWritten h.0 d.2.0 (options_of q) t.0 = record { deck = d.0; library = l.0; flat = f.0; deck_is = d.1; library_is = l.1; flat_is = f.1; texts_are = t.2 } in
    record {
      deck_bytes = h.0;
      library_bytes = d.2.0;
      texts = t.0;
      deck_read = h.1;
      library_read = d.2.1;
      given = subst (λ (texts : List (List ℕ)). AreWritten (lift_outs q) texts r) t.1 f.2.3;
      written = written;
      lifted = lifted h.0 d.2.0 (options_of q) t.0 written;
      restored = restored h.0 d.2.0 (options_of q) t.0 written;
    }

-- ---- lengths

-- where no limit is passed, none of the tests is
none_left : (test : Option OutLimit) (others : List (Option OutLimit)) → first_passed (test ∷ others) ≡ None → (test ≡ None) × (first_passed others ≡ None)
none_left None others h = (refl, h)
none_left (Some limit) others h = absurd cc

short : (size : ℕ) (limit : OutLimit) → passed_if (nat_lt FILE size) limit ≡ None → size ≤ FILE
short size limit h = ltb-false FILE size (by (nat_lt FILE size) h) where
  by : (long : Bool) → passed_if long limit ≡ None → long ≡ false
  by false e = refl
  by true e = absurd cc

-- so the lifted deck and the map are no longer than files may be
short_both : (long : Bool) (cards lifted flat map report : ℕ) → first_passed (
    passed_if long of_name
    ∷ passed_if (nat_lt limits.cards cards) of_cards
    ∷ passed_if (nat_lt limits.text lifted) of_lifted_text
    ∷ passed_if (nat_lt limits.text flat) of_lifted_flat
    ∷ passed_if (nat_lt limits.text map) of_map_text
    ∷ passed_if (nat_lt limits.text report) of_report_text ∷ []) ≡ None → (lifted ≤ FILE) × (map ≤ FILE)
short_both long cards lifted flat map report h =
    let last = passed_if (nat_lt limits.text report) of_report_text ∷ [] in
    let fifth = passed_if (nat_lt limits.text map) of_map_text ∷ last in
    let fourth = passed_if (nat_lt limits.text flat) of_lifted_flat ∷ fifth in
    let third = passed_if (nat_lt limits.text lifted) of_lifted_text ∷ fourth in
    let a = none_left (passed_if long of_name) (passed_if (nat_lt limits.cards cards) of_cards ∷ third) h in
    let b = none_left (passed_if (nat_lt limits.cards cards) of_cards) third a.1 in
    let c = none_left (passed_if (nat_lt limits.text lifted) of_lifted_text) fourth b.1 in
    let d = none_left (passed_if (nat_lt limits.text flat) of_lifted_flat) fifth c.1 in
    let e = none_left (passed_if (nat_lt limits.text map) of_map_text) last d.1 in
    (short lifted of_lifted_text c.0, short map of_map_text e.0)

pub record AreShort (texts : Texts) : Type 0 where
  pub lifted : length texts.lifted ≤ FILE
  pub map : length texts.map ≤ FILE

are_short : (deck_bytes library_bytes : List ℕ) (o : Options) (texts : Texts) → IsLifted deck_bytes library_bytes o texts.lifted texts.map texts.report → AreShort texts
are_short deck_bytes library_bytes o texts x =
    let deck : decks.Deck = lifted_deck x.stem x.flat (run_of x.flat x.library o.keep).source x.history in
    let f : Flat = lifted_of x.flat.top deck in
    let both = short_both (list_any (λ name. nat_lt limits.name (length name)) (written_names f deck)) (count one deck.subs (expanded_cards x.flat.top deck)) (length (deck_text deck)) (length (flat_text f)) (length texts.map) (length texts.report) x.within in
    record { lifted = subst (λ (t : List ℕ). length t ≤ FILE) (sym x.texts_are.lifted_is) both.0; map = both.1 }

-- a text that is short is within its limit
within : (text : List ℕ) → length text ≤ FILE → or_else (passed_if (nat_lt FILE (length text)) of_restored_text) text ≡ Ok text
within text few = ap (λ (long : Bool). or_else (passed_if long of_restored_text) text) (le-ltb FILE (length text) few)

original_within : (original : Flat) → length (flat_text original) ≤ FILE → text_within (plain original) ≡ Ok (flat_text original)
original_within original few = ap (λ (t : List ℕ). or_else (passed_if (nat_lt FILE (length t)) of_restored_text) t) (plain_text original) ∙ within (flat_text original) few

-- ---- the way back

stopped : (stop : Stop) (r : Run) (o : Opening) (bytes : List ℕ) → r.held o.slot o.word ≡ Some bytes → length bytes ≤ FILE → Unread stop r o → IsFailed (status_of (end_of_stop stop))
stopped (stops.Read slot) r o bytes held few h = inl refl
stopped (stops.LongFile slot) r o bytes held few h =
    let many = subst (λ (held : Option (List ℕ)). IfSome held (λ bytes. FILE + 1 ≤ length bytes)) held h.1.many in absurd (omega (arith, many, few))
stopped (stops.Write slot) r o bytes held few h = absurd h
stopped stops.Memory r o bytes held few h = inr (inr refl)

-- an input that holds bytes of which a value is made is taken, or a call failed
taken_input : {V E : Type 0} (opened : List Slot) (o : Opening) (kind : Kind) (text : E → List ℕ) (wanted : List ℕ → Result V E) (next : V → Course) (end : End) (r : Run) (bytes : List ℕ) (value : V)
    → r.held o.slot o.word ≡ Some bytes → length bytes ≤ FILE → wanted bytes ≡ Ok value → Ends opened (input o kind text wanted next) end r
    → IsFailed (status_of end) ⊎ Ends (o.slot ∷ opened) (next value) end r
taken_input {V} {E} opened o kind text wanted next end r bytes value held few is (inl m) = inl (inr (inr (ap status_of m.0)))
taken_input {V} {E} opened o kind text wanted next end r bytes value held few is (inr (inl s)) = inl (subst (λ (e : End). IsFailed (status_of e)) (sym s.1) (stopped s.0 r o bytes held few s.2))
taken_input {V} {E} opened o kind text wanted next end r bytes value held few is (inr (inr f)) =
    let same : f.0 ≡ bytes = subst (λ (held : Option (List ℕ)). IfSome held (λ bytes. f.0 ≡ bytes)) held f.1.same_bytes in
    inr (subst (λ (w : Result V E). Ends (o.slot ∷ opened) (unless kind text w next) end r) (ap wanted same ∙ is) f.2)

-- the end of writing a text
written_text : (q : RestoreRequest) (original : Flat) (text : List ℕ) (opened : List Slot) (end : End) (r : Run) → text ≡ flat_text original → Ends opened (write (restore_outs q) (IsAlone (λ given. given ≡ text))) end r → IsTaken q original (status_of end) r
written_text q original text opened end r is (inl m) = inr (inr (inr (ap status_of m.0)))
written_text q original text opened end r is (inr f) = by f.0 f.1 f.2 f.3 where
  by : (texts : List (List ℕ)) (line : List ℕ) → IsAlone (λ given. given ≡ text) texts line → Writes (restore_outs q) texts line end r → IsTaken q original (status_of end) r
  by [] line are writes = absurd are
  by (t ∷ []) (byte ∷ line) are writes = absurd are
  by (t ∷ u ∷ ts) line are writes = absurd are
  by (t ∷ []) [] are (inl cut) = inr (inr (inl (ap status_of cut.0)))
  by (t ∷ []) [] are (inr more) = inl (ap status_of more.1, subst (λ (given : List ℕ). runs.IsWritten r (opening Out q.out) given) (are ∙ is) more.0)

-- what comes behind the map, and behind the lifted deck
abbrev behind_map : RestoreRequest → Flat → NameMap → Course
behind_map q flat map = unless kinds.Map names.fault_text (restored_flat flat map) (λ restored. unless kinds.Limit names.limit_text (text_within restored) (λ text. write (restore_outs q) (IsAlone (λ given. given ≡ text))))

abbrev behind_deck : RestoreRequest → Flat → Course
behind_deck q flat = input (opening Map q.map) kinds.Map maps.fault_text read_map (behind_map q flat)

flat_of_is : (top : Option (List ℕ)) (lifted : List ℕ) (deck : decks.Deck) (flat : Flat) → read_deck true lifted ≡ Ok deck → flatten deck deck.globals top ≡ Ok flat → flat_of top lifted ≡ Ok flat
flat_of_is top lifted deck flat deck_is flat_is = ap (λ (d : Result decks.Deck Fault). d >>= λ deck. flatten deck deck.globals top) deck_is ∙ flat_is

module _ (q : RestoreRequest) (texts : Texts) (original : Flat) (x : IsRestored q.top texts.lifted texts.map original) (few : AreShort texts) (file : length (flat_text original) ≤ FILE) (end : End) (r : Run) (holds : HoldLifted q texts r) where
  renamed : (opened : List Slot) → Ends opened (behind_map q x.flat x.names) end r → IsTaken q original (status_of end) r
  renamed opened h =
      let a = subst (λ (w : Result Flat RestoreFault). Ends opened (unless kinds.Map names.fault_text w (λ restored. unless kinds.Limit names.limit_text (text_within restored) (λ text. write (restore_outs q) (IsAlone (λ given. given ≡ text))))) end r) x.restored h in
      let b = subst (λ (w : Result (List ℕ) OutLimit). Ends opened (unless kinds.Limit names.limit_text w (λ text. write (restore_outs q) (IsAlone (λ given. given ≡ text)))) end r) (original_within original file) a in
      written_text q original (flat_text original) opened end r refl b

  mapped : Ends (Deck ∷ []) (behind_deck q x.flat) end r → IsTaken q original (status_of end) r
  mapped h = by (taken_input (Deck ∷ []) (opening Map q.map) kinds.Map maps.fault_text read_map (behind_map q x.flat) end r texts.map x.names holds.map few.map x.names_are h) where
    by : IsFailed (status_of end) ⊎ Ends (Map ∷ Deck ∷ []) (behind_map q x.flat x.names) end r → IsTaken q original (status_of end) r
    by (inl failed) = inr failed
    by (inr more) = renamed (Map ∷ Deck ∷ []) more

  pub taken : Ends [] (restore_course q) end r → IsTaken q original (status_of end) r
  unfolding restore_course
  taken h = by (taken_input [] (opening Deck q.lifted) kinds.Deck fault_text (flat_of q.top) (behind_deck q) end r texts.lifted x.flat holds.lifted few.lifted (flat_of_is q.top texts.lifted x.deck x.flat x.deck_is x.flat_is) h) where
    by : IsFailed (status_of end) ⊎ Ends (Deck ∷ []) (behind_deck q x.flat) end r → IsTaken q original (status_of end) r
    by (inl failed) = inr failed
    by (inr more) = mapped more

pub taken_back : (q : Request) (r : Run) (x : IsLiftedBy q r) (back : RestoreRequest) (s : Run) (status : ℕ) → back.top ≡ q.top → HoldLifted back x.texts s → IsEnding status (restore_course back) s → IsTaken back x.written.flat status s
taken_back q r x back s status top holds ending =
    let original = x.written.flat in
    let restored = subst (λ (t : Option (List ℕ)). IsRestored t x.texts.lifted x.texts.map original) (sym top) x.restored in
    let few = are_short x.deck_bytes x.library_bytes (options_of q) x.texts x.lifted in
    let w = x.written in
    let flat_is = (known_flat q.keep w.library (flat_deck q.top w.deck w.library) original w.flat_is).0 in
    let file = (flat_parts w.deck (run_rails w.deck.globals w.library.deck.globals) q.top original flat_is).short in
    subst (λ (n : ℕ). IsTaken back original n s) (sym ending.status_is) (taken back x.texts original restored few file ending.end s holds ending.ends)
