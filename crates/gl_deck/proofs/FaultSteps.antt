-- What refuses a card behind placed cards refuses it behind their draft.
use Rattle.std.proofs.Common.{◌≡◌, ℕ, List, [], ◌∷◌, Option, Some, None, refl, sym, ap, ◌∙◌}
use Rattle.std.specs.Prelude.{is_some, not, ◌&&◌, codes}
use Rattle.std.specs.Map.{lookup}
use Rattle.std.proofs.lemmas.Bool.{lt-ltb}
use Rattle.gl_text.specs.LogicalLines.{Fault, Line, same_text, nested_subckt, loose_ends, wrong_ends, local_card, duplicate_port, zero_port}
use Rattle.gl_fault.proofs.FirstLaws.{only, none_first}
use Rattle.gl_fault.specs.Refusals.{first_some, when}
use Rattle.gl_text.specs.Cards.{Card, dev, call, model, subckt, ends, global, ended, passed, has_parameters, has_long_tail}
use Rattle.gl_text.specs.Decks.{Sub, Placed, is_inside, is_of_top, is_in, has_twice, ports_of, nested, bad_ends, duplicate}
use Rattle.gl_deck.specs.Drafts.{Draft, scope_of, known_at, nested_in, bad_ends_in, local_in, twice_in, zero_in}
use Rattle.gl_deck.proofs.PlacedLists.{placed, IsNumbered}
use Rattle.gl_deck.proofs.NameSteps.{known_first, found_model, found_nothing, dup_here, dup_top, HasNames, dup_at}

-- ---- where a card stands

pub inside_is : (cur : Option Sub) → IsNumbered cur → is_inside (scope_of cur) ≡ is_some cur
inside_is None n = refl
inside_is (Some s) n = lt-ltb 0 s.line n

nested_same : (cur : Option Sub) (l : ℕ) (card : Card) → IsNumbered cur → nested (placed cur l card) ≡ nested_in cur l card
nested_same cur l (dev c) n = refl
nested_same cur l (call c) n = refl
nested_same cur l (model m) n = refl
nested_same cur l (subckt h) n = ap (λ b. when b (nested_subckt l)) (inside_is cur n)
nested_same cur l (ends name) n = refl
nested_same cur l (global names) n = refl
nested_same cur l ended n = refl
nested_same cur l (passed text) n = refl

ends_same : (cur : Option Sub) (l : ℕ) (card : Card) → IsNumbered cur → bad_ends (placed cur l card) ≡ bad_ends_in cur l card
ends_same None l (dev c) n = refl
ends_same (Some s) l (dev c) n = refl
ends_same None l (call c) n = refl
ends_same (Some s) l (call c) n = refl
ends_same None l (model m) n = refl
ends_same (Some s) l (model m) n = refl
ends_same None l (subckt h) n = refl
ends_same (Some s) l (subckt h) n = refl
ends_same None l (ends None) n = refl
ends_same (Some s) l (ends None) n = ap (λ b. when (not b) (loose_ends l)) (inside_is (Some s) n)
ends_same None l (ends (Some name)) n = refl
ends_same (Some s) l (ends (Some name)) n =
    ap (λ b. first_some (when (not b) (loose_ends l) ∷ when (not (same_text name s.head.name)) (wrong_ends l) ∷ [])) (inside_is (Some s) n)
    ∙ only (when (not (same_text name s.head.name)) (wrong_ends l))
ends_same None l (global names) n = refl
ends_same (Some s) l (global names) n = refl
ends_same None l ended n = refl
ends_same (Some s) l ended n = refl
ends_same None l (passed text) n = refl
ends_same (Some s) l (passed text) n = refl

local_same : (cur : Option Sub) (l : ℕ) (card : Card) → IsNumbered cur → when (is_inside (scope_of cur) && is_of_top card) (local_card l) ≡ local_in cur l card
local_same cur l card n = ap (λ b. when (b && is_of_top card) (local_card l)) (inside_is cur n)

-- ---- all refusals

abbrev pub place_fault : List Placed → Placed → Line → Option Fault
place_fault before p l = first_some (nested p ∷ bad_ends p
    ∷ when (is_inside p.scope && is_of_top p.card) (local_card p.line)
    ∷ has_parameters l ∷ duplicate before p
    ∷ when (has_twice (ports_of p.card)) (duplicate_port p.line)
    ∷ when (is_in (codes "0") (ports_of p.card)) (zero_port p.line)
    ∷ has_long_tail l ∷ [])

abbrev pub fault_at : Option Sub → Draft → Line → Card → Option Fault
fault_at cur d l card = first_some (nested_in cur l.line card ∷ bad_ends_in cur l.line card ∷ local_in cur l.line card ∷ has_parameters l
    ∷ dup_at cur d l.line card ∷ twice_in l.line card ∷ zero_in l.line card ∷ has_long_tail l ∷ [])

by_parts : (cards : List Placed) (cur : Option Sub) (d : Draft) (l : Line) (card : Card) → IsNumbered cur → duplicate cards (placed cur l.line card) ≡ dup_at cur d l.line card
    → place_fault cards (placed cur l.line card) l ≡ fault_at cur d l card
by_parts cards cur d l card n dup =
    let p : Placed = placed cur l.line card in
    let last : List (Option Fault) = twice_in l.line card ∷ zero_in l.line card ∷ has_long_tail l ∷ [] in
    ap (λ o. first_some (o ∷ bad_ends p ∷ when (is_inside (scope_of cur) && is_of_top card) (local_card l.line) ∷ has_parameters l ∷ duplicate cards p ∷ last)) (nested_same cur l.line card n)
    ∙ ap (λ o. first_some (nested_in cur l.line card ∷ o ∷ when (is_inside (scope_of cur) && is_of_top card) (local_card l.line) ∷ has_parameters l ∷ duplicate cards p ∷ last)) (ends_same cur l.line card n)
    ∙ ap (λ o. first_some (nested_in cur l.line card ∷ bad_ends_in cur l.line card ∷ o ∷ has_parameters l ∷ duplicate cards p ∷ last)) (local_same cur l.line card n)
    ∙ ap (λ o. first_some (nested_in cur l.line card ∷ bad_ends_in cur l.line card ∷ local_in cur l.line card ∷ has_parameters l ∷ o ∷ last)) dup

pub faults_same : (cards : List Placed) (cur : Option Sub) (d : Draft) (l : Line) (card : Card) → IsNumbered cur → HasNames cards cur d → place_fault cards (placed cur l.line card) l ≡ fault_at cur d l card
faults_same cards None d l card n h = by_parts cards None d l card n (dup_top cards d l.line card h)
faults_same cards (Some s) d l (dev c) n h = by_parts cards (Some s) d l (dev c) n (dup_here cards (Some s) d l.line c.name h.here)
faults_same cards (Some s) d l (call c) n h = by_parts cards (Some s) d l (call c) n (dup_here cards (Some s) d l.line c.name h.here)
faults_same cards (Some s) d l (model m) n h =
    by_parts cards (Some s) d l (model m) n (found_model m.name l.line cards ∙ ap (λ ns. known_first l.line (lookup (same_text m.name) ns)) (sym h.of_models))
faults_same cards (Some s) d l (subckt g) n h =
    let p : Placed = placed (Some s) l.line (subckt g) in
    ap (λ o. first_some (o ∷ bad_ends p ∷ when (is_inside p.scope && is_of_top p.card) (local_card l.line) ∷ has_parameters l ∷ duplicate cards p ∷ twice_in l.line (subckt g) ∷ zero_in l.line (subckt g) ∷ has_long_tail l ∷ []))
    (nested_same (Some s) l.line (subckt g) n)
faults_same cards (Some s) d l (ends name) n h = by_parts cards (Some s) d l (ends name) n (found_nothing l.line cards)
faults_same cards (Some s) d l (global names) n h = by_parts cards (Some s) d l (global names) n (found_nothing l.line cards)
faults_same cards (Some s) d l ended n h = by_parts cards (Some s) d l ended n (found_nothing l.line cards)
faults_same cards (Some s) d l (passed text) n h = by_parts cards (Some s) d l (passed text) n (found_nothing l.line cards)

-- ---- where there is no refusal

unknown : (l : ℕ) (o : Option ℕ) → known_first l o ≡ None → o ≡ None
unknown l None h = refl
unknown l (Some n) h = absurd cc

pub nothing_nested : (cur : Option Sub) (d : Draft) (l : Line) (card : Card) → fault_at cur d l card ≡ None → nested_in cur l.line card ≡ None
nothing_nested cur d l card h = (none_first (nested_in cur l.line card) _ h).0

pub nothing_known : (cur : Option Sub) (d : Draft) (l : Line) (card : Card) → fault_at cur d l card ≡ None → known_at cur d card ≡ None
nothing_known cur d l card h =
    let last : List (Option Fault) = twice_in l.line card ∷ zero_in l.line card ∷ has_long_tail l ∷ [] in
    let a = (none_first (nested_in cur l.line card) (bad_ends_in cur l.line card ∷ local_in cur l.line card ∷ has_parameters l ∷ dup_at cur d l.line card ∷ last) h).1 in
    let b = (none_first (bad_ends_in cur l.line card) (local_in cur l.line card ∷ has_parameters l ∷ dup_at cur d l.line card ∷ last) a).1 in
    let c = (none_first (local_in cur l.line card) (has_parameters l ∷ dup_at cur d l.line card ∷ last) b).1 in
    let e = (none_first (has_parameters l) (dup_at cur d l.line card ∷ last) c).1 in
    unknown l.line (known_at cur d card) (none_first (dup_at cur d l.line card) last e).0
