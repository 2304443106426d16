-- What is known where there is no refusal.
use Rattle.std.proofs.Common.{◌≡◌, ◌≤◌, ℕ, List, [], ◌∷◌, length, map, ltb, false, None, Ok, ltb-false}
use Rattle.std.specs.List.{AllByRecursion}
use Rattle.gl_fault.proofs.FirstLaws.{none_first, when_none, or_else_ok}
use Rattle.gl_text.specs.LogicalLines.{NAME, long_name, unknown_card, short_card, control_block, Line}
use Rattle.gl_fault.specs.Refusals.{first_some, when}
use Rattle.gl_text.specs.Cards.{Card, Kind, needs, names_of, is_unknown, is_control, no_card, no_card_by, has_parameters, has_long_tail, card_of, read_card, first_byte}

-- a line is read as a card
pub record IsReadAs (l : Line) (c : Card) : Type 0 where
  pub some : no_card l ≡ None
  pub plain : has_parameters l ≡ None
  pub short : has_long_tail l ≡ None
  pub card : card_of l.text ≡ c

pub read_as : (l : Line) (c : Card) → read_card l ≡ Ok c → IsReadAs l c
read_as l c h =
    let e = or_else_ok (first_some (no_card l ∷ has_parameters l ∷ has_long_tail l ∷ [])) (card_of l.text) c h in
    let a = none_first (no_card l) (has_parameters l ∷ has_long_tail l ∷ []) e.0 in
    let b = none_first (has_parameters l) (has_long_tail l ∷ []) a.1 in
    let d = none_first (has_long_tail l) [] b.1 in
    record { some = a.0; plain = b.0; short = d.0; card = e.1 }

-- fields make a card of a kind
pub record HasCard (kind : Kind) (fields : List (List ℕ)) : Type 0 where
  pub short : AllByRecursion (λ n. length n ≤ NAME) (names_of kind fields)
  pub known : is_unknown kind ≡ false
  pub enough : needs kind ≤ length fields
  pub free : is_control kind ≡ false

short_names : (line : ℕ) (ns : List (List ℕ)) → first_some (map (λ (n : List ℕ). when (ltb NAME (length n)) (long_name line (length n))) ns) ≡ None → AllByRecursion (λ n. length n ≤ NAME) ns
short_names line [] h = tt
short_names line (n ∷ ns) h =
    let a = none_first (when (ltb NAME (length n)) (long_name line (length n))) (map (λ (m : List ℕ). when (ltb NAME (length m)) (long_name line (length m))) ns) h in
    (ltb-false NAME (length n) (when_none (ltb NAME (length n)) (long_name line (length n)) a.0), short_names line ns a.1)

pub has_card : (l : Line) (kind : Kind) (fields : List (List ℕ)) → no_card_by l kind fields ≡ None → HasCard kind fields
has_card l kind fields h =
    let names = first_some (map (λ (n : List ℕ). when (ltb NAME (length n)) (long_name l.line (length n))) (names_of kind fields)) in
    let u = when (is_unknown kind) (unknown_card l.line (first_byte l.text)) in
    let e = when (ltb (length fields) (needs kind)) (short_card l.line (length fields) (needs kind)) in
    let c = when (is_control kind) (control_block l.line) in
    let a = none_first names (u ∷ e ∷ c ∷ []) h in
    let b = none_first u (e ∷ c ∷ []) a.1 in
    let d = none_first e (c ∷ []) b.1 in
    let f = none_first c [] d.1 in
    record {
      short = short_names l.line (names_of kind fields) a.0;
      known = when_none (is_unknown kind) (unknown_card l.line (first_byte l.text)) b.0;
      enough = ltb-false (length fields) (needs kind) (when_none (ltb (length fields) (needs kind)) (short_card l.line (length fields) (needs kind)) d.0);
      free = when_none (is_control kind) (control_block l.line) f.0;
    }
