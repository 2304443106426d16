-- Kept names: which are unknown, and how many nets are pinned.
use Rattle.std.proofs.Common.{◌≡◌, ◌≤◌, ℕ, suc, List, [], ◌∷◌, ◌++◌, length, cond, true, false, Bool, Option, None, Some, Ok, refl, sym, ap, ◌∙◌, subst, arith}
use Rattle.std.specs.Prelude.{◌↔◌, not, All, Contains, filter, filter_map, find, flat_map, position, Result}
use Rattle.std.specs.List.{cons_option}
use Rattle.std.proofs.lemmas.List.Elements.{All-cons, All-nil}
use Rattle.std.proofs.lemmas.List.{append-nil}
use Rattle.std.proofs.lemmas.Bool.{false_from_ne_true}
use Rattle.gl_lists.proofs.Once.{Once, once_filter}
use Rattle.gl_lists.proofs.Membership.{from_filter}
use Rattle.gl_text.specs.LogicalLines.{same_text}
use Rattle.gl_text.specs.Cards.{Device as Card}
use Rattle.gl_text.specs.Decks.{is_in, once}
use Rattle.gl_base.specs.BaseCircuit.{Source, nets_of, circuit_of}
use Rattle.gl_base.specs.Patterns.{Base}
use Rattle.gl_base.specs.Libraries.{Library}
use Rattle.gl_base.specs.Keeping.{unknown_keep, IsFirstUnknown, base_of, base_keeping}
use Rattle.gl_lists.proofs.EachOnce.{there, found, position_there, position_back, no_more}
use Rattle.gl_text.proofs.Names.{exact, itself, each_once}

-- ---- known and unknown names

pub stands : (nets : List (List ℕ)) (name : List ℕ) → is_in name nets ≡ true → Contains nets name
stands nets name on = there same_text exact itself nets name on

pub is_there : (nets : List (List ℕ)) (name : List ℕ) → Contains nets name → is_in name nets ≡ true
is_there nets name h = found same_text exact itself nets name h

all_stand : (nets keep : List (List ℕ)) → find (λ name. not (is_in name nets)) keep ≡ None → All (λ name. Contains nets name) keep
all_stand nets [] h = All-nil (λ name. Contains nets name)
all_stand nets (name ∷ names) h = go (is_in name nets) refl h (all_stand nets names) where
  go : (b : Bool) → is_in name nets ≡ b → cond (not b) (Some name) (find (λ n. not (is_in n nets)) names) ≡ None
      → (find (λ n. not (is_in n nets)) names ≡ None → All (λ n. Contains nets n) names) → All (λ n. Contains nets n) (name ∷ names)
  go true on e rest = All-cons (λ n. Contains nets n) name names (stands nets name on) (rest e)
  go false off e rest = absurd cc

none_unknown : (nets keep : List (List ℕ)) → All (λ name. Contains nets name) keep → find (λ name. not (is_in name nets)) keep ≡ None
none_unknown nets [] h = refl
none_unknown nets (name ∷ names) h =
    ap (λ (b : Bool). cond (not b) (Some name) (find (λ n. not (is_in n nets)) names)) (is_there nets name (h 0 name (omega arith)))
    ∙ none_unknown nets names (λ k d lt. h (suc k) d (omega (arith, lt)))

-- the first of some names that does not stand among the nets
record FirstApart (nets keep : List (List ℕ)) (name : List ℕ) : Type 0 where
  before : List (List ℕ)
  behind : List (List ℕ)
  stands_there : keep ≡ before ++ name ∷ behind
  apart : ¬ Contains nets name
  rest_stand : All (λ other. Contains nets other) before

first_apart : (nets keep : List (List ℕ)) (name : List ℕ) → find (λ other. not (is_in other nets)) keep ≡ Some name → FirstApart nets keep name
first_apart nets [] name h = absurd cc
first_apart nets (other ∷ others) name h = go (is_in other nets) refl h (first_apart nets others name) where
  go : (b : Bool) → is_in other nets ≡ b → cond (not b) (Some other) (find (λ n. not (is_in n nets)) others) ≡ Some name
      → (find (λ n. not (is_in n nets)) others ≡ Some name → FirstApart nets others name) → FirstApart nets (other ∷ others) name
  go true on e rest = let r = rest e in record {
    before = other ∷ r.before;
    behind = r.behind;
    stands_there = ap (λ names. other ∷ names) r.stands_there;
    apart = r.apart;
    rest_stand = All-cons (λ n. Contains nets n) other r.before (stands nets other on) r.rest_stand;
  }
  go false off e rest = let same : other ≡ name = cc in record {
    before = [];
    behind = others;
    stands_there = ap (λ n. n ∷ others) same;
    apart = λ h. let on : is_in other nets ≡ true = is_there nets other (subst (λ n. Contains nets n) (sym same) h) in absurd cc;
    rest_stand = All-nil (λ n. Contains nets n);
  }

pub known_are_nets : (keep : List (List ℕ)) (s : Source) → (unknown_keep keep s ≡ None) ↔ All (λ name. Contains (nets_of s.devices) name) keep
known_are_nets keep s = (all_stand (nets_of s.devices) keep, none_unknown (nets_of s.devices) keep)

pub unknown_is_first : (keep : List (List ℕ)) (s : Source) (name : List ℕ) → unknown_keep keep s ≡ Some name → IsFirstUnknown keep s name
unknown_is_first keep s name h = let r = first_apart (nets_of s.devices) keep name h in record {
  before = r.before;
  behind = r.behind;
  stands = r.stands_there;
  unknown = r.apart;
  known_before = r.rest_stand;
}

-- ---- pinned nets

-- as many nets are found as names stand among the nets
standing : (nets names : List (List ℕ)) → length (filter_map (λ name. position (same_text name) nets) names) ≡ length (filter (λ name. is_in name nets) names)
standing nets [] = refl
standing nets (name ∷ names) = go (position (same_text name) nets) refl (standing nets names) where
  found_nets : List ℕ
  found_nets = filter_map (λ n. position (same_text n) nets) names

  there_names : List (List ℕ)
  there_names = filter (λ n. is_in n nets) names

  go : (o : Option ℕ) → position (same_text name) nets ≡ o → length found_nets ≡ length there_names → length (cons_option o found_nets) ≡ length (cond (is_in name nets) (name ∷ there_names) there_names)
  go None e rest =
      let off : is_in name nets ≡ false = false_from_ne_true (is_in name nets) (λ t. let some = position_there same_text exact itself nets name (stands nets name t) in absurd cc) in
      rest ∙ sym (ap (λ (b : Bool). length (cond b (name ∷ there_names) there_names)) off)
  go (Some i) e rest =
      let back = position_back same_text exact itself nets name name i e in
      let on : is_in name nets ≡ true = is_there nets name (i, back.0, back.1) in
      ap (λ n. suc n) rest ∙ sym (ap (λ (b : Bool). length (cond b (name ∷ there_names) there_names)) on)

-- names that differ pin no more nets than there are
pins_few : (nets names : List (List ℕ)) → Once nets → Once names → length (filter_map (λ name. position (same_text name) nets) names) ≤ length nets
pins_few nets names once_nets once_names =
    let few = no_more (filter (λ name. is_in name nets) names) nets (once_filter (λ name. is_in name nets) names once_names) once_nets
    (λ name h. stands nets name (from_filter (λ n. is_in n nets) names name h).1) in
    let same = standing nets names in
    omega (arith, same, few)

pub few_pinned : (s : Source) → length (circuit_of s).pinned ≤ length (nets_of s.devices)
few_pinned s = pins_few (nets_of s.devices) (once s.pinned) (each_once (flat_map (λ (d : Card). d.nodes) s.devices)) (each_once s.pinned)

-- where no name is kept
pub nothing_kept : (s : Source) (library : Library) → base_keeping [] s library ≡ Ok (base_of s library)
nothing_kept s library = ap (λ (names : List (List ℕ)). by names) (append-nil s.pinned) where
  by : List (List ℕ) → Result Base (List ℕ)
  by names = Ok (base_of (record { rails = s.rails; deck_models = s.deck_models; library_models = s.library_models; devices = s.devices; cells = s.cells; pinned = names }) library)
