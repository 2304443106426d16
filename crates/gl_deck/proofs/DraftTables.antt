-- The subcircuits of a draft, and one that closes.
use Rattle.std.proofs.Common.{◌≡◌, ◌<◌, ◌^◌, ℕ, List, length, Option, Some, None, All, sym, subst}
use Rattle.std.specs.Map.{values_of}
use Rattle.indexmap.specs.IndexMap.{insert_entry}
use Rattle.gl_text.specs.LogicalLines.{same_text}
use Rattle.gl_text.specs.Decks.{Sub}
use Rattle.gl_deck.specs.Bodies.{table_of}
use Rattle.gl_deck.specs.Calls.{PortsFit}
use Rattle.gl_deck.specs.Cards.{AreSubs}
use Rattle.gl_deck.proofs.TableLaws.{all_more, values_there}

fit_more : (old new : List Sub) (s : Sub) → table_of new ≡ insert_entry same_text (table_of old) s.head.name s → length s.head.ports < 2 ^ 32 → PortsFit old → PortsFit new
fit_more old new s e few h =
    let P : List Sub → Type 0 = λ ss. All (λ (t : Sub). length t.head.ports < 2 ^ 32) ss in
    let Q : List (List ℕ × Sub) → Type 0 = λ es. P (values_of es) in
    let more = all_more (λ (t : Sub). length t.head.ports < 2 ^ 32) (table_of old) s.head.name s few (subst P (sym (values_there old)) h) in
    subst P (values_there new) (subst Q (sym e) more)

-- what was open goes into the table
pub closed_after : (old new : List Sub) (s : Sub) (was is : Option Sub) → table_of new ≡ insert_entry same_text (table_of old) s.head.name s → was ≡ Some s → is ≡ None → AreSubs old was → AreSubs new is
closed_after old new s (Some t) None e was is h =
    let same : t ≡ s = cc in
    let fits : length s.head.ports < 2 ^ 32 = subst (λ (u : Sub). length u.head.ports < 2 ^ 32) same h.current_fits in
    record { fit = fit_more old new s e fits h.fit; current_fits = tt }
closed_after old new s None is e was none h = absurd cc
closed_after old new s (Some t) (Some u) e was is h = absurd cc

-- or the table stays
pub dropped_after : (old new : List Sub) (was is : Option Sub) → new ≡ old → is ≡ None → AreSubs old was → AreSubs new is
dropped_after old new was None e is h = record { fit = subst PortsFit (sym e) h.fit; current_fits = tt }
dropped_after old new was (Some s) e is h = absurd cc
