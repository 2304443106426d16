-- Printed cards are placed as they stand.
use Rattle.std.proofs.Common.{◌≡◌, ◌+◌, ℕ, List, [], ◌∷◌, ◌++◌, map, false, Option, None, Result, Ok, refl, sym, ap, ◌∙◌, subst, append-nil, append_assoc, codes}
use Rattle.std.specs.Prelude.{◌&&◌}
use Rattle.std.specs.List.{AllByRecursion}
use Rattle.std.proofs.lemmas.List.Sums.{fold-append}
use Rattle.gl_text.specs.LogicalLines.{Fault, local_card, duplicate_port, zero_port, Line}
use Rattle.gl_fault.specs.Refusals.{first_some, when, or_else, ◌>>=◌}
use Rattle.gl_text.specs.Cards.{Card, printed, card_of, has_parameters, has_long_tail}
use Rattle.gl_text.specs.Decks.{Scope, Placed, scope_after, scope_behind, is_inside, is_of_top, nested, bad_ends, duplicate, has_twice, is_in, ports_of, place, placed_from}
use Rattle.gl_printed.specs.ReadCards.{IsFine}
use Rattle.gl_printed.specs.PrintedLines.{numbered}
use Rattle.gl_printed.proofs.Refusals.{read_as}
use Rattle.gl_printed.proofs.PrintedCardLaws.{card_again}
use Rattle.gl_printed.proofs.DistinctNames.{NamesDiffer, no_duplicate_in}
use Rattle.gl_printed.proofs.PlacedCards.{placed, placing}

-- a placed card is refused neither for its scope nor for its ports
pub record Sits (p : Placed) : Type 0 where
  pub outside : nested p ≡ None
  pub closes : bad_ends p ≡ None
  pub not_local : (is_inside p.scope && is_of_top p.card) ≡ false
  pub ports_differ : has_twice (ports_of p.card) ≡ false
  pub no_zero : is_in (codes "0") (ports_of p.card) ≡ false

-- the refusals that need the card's place
abbrev pub faults : List Placed → Line → Placed → List (Option Fault)
faults before l p = nested p ∷ bad_ends p ∷ when (is_inside p.scope && is_of_top p.card) (local_card p.line)
    ∷ has_parameters l ∷ duplicate before p
    ∷ when (has_twice (ports_of p.card)) (duplicate_port p.line)
    ∷ when (is_in (codes "0") (ports_of p.card)) (zero_port p.line)
    ∷ has_long_tail l ∷ []

none_of_eight : (a b c d e f g h : Option Fault) (p : Placed) → a ≡ None → b ≡ None → c ≡ None → d ≡ None → e ≡ None → f ≡ None → g ≡ None → h ≡ None → or_else (first_some (a ∷ b ∷ c ∷ d ∷ e ∷ f ∷ g ∷ h ∷ [])) p ≡ Ok p
none_of_eight a b c d e f g h p ea eb ec ed ee ef eg eh = rw (ea, eb, ec, ed, ee, ef, eg, eh) refl

place_again : (before : List Placed) (s : Scope) (n : ℕ) (c : Card) → IsFine c → scope_behind before ≡ s → Sits (placed s n c) → duplicate before (placed s n c) ≡ None → place before (record { line = n; text = printed c }) ≡ Ok (placed s n c)
place_again before s n c h e k d =
    let l : Line = record { line = n; text = printed c } in
    let p = placed s n c in
    let r = read_as l c (card_again n c h) in
    let judge : Placed → Result Placed Fault = λ q. or_else (first_some (faults before l q)) q in
    let a : place before l ≡ judge (placed (scope_behind before) n (card_of l.text)) = ap (λ o. or_else o (placed (scope_behind before) n (card_of l.text)) >>= judge) r.some in
    let b : judge (placed (scope_behind before) n (card_of l.text)) ≡ judge p = ap (λ t. judge (placed t n (card_of l.text))) e ∙ ap (λ x. judge (placed s n x)) r.card in
    let f : judge p ≡ Ok p = none_of_eight (nested p) (bad_ends p) (when (is_inside p.scope && is_of_top p.card) (local_card p.line)) (has_parameters l) (duplicate before p) (when (has_twice (ports_of p.card)) (duplicate_port p.line)) (when (is_in (codes "0") (ports_of p.card)) (zero_port p.line)) (has_long_tail l) p
    k.outside k.closes (ap (λ t. when t (local_card p.line)) k.not_local) r.plain d (ap (λ t. when t (duplicate_port p.line)) k.ports_differ) (ap (λ t. when t (zero_port p.line)) k.no_zero) r.short in
    a ∙ b ∙ f

pub scope_one_more : (before : List Placed) (p : Placed) → scope_behind (before ++ p ∷ []) ≡ scope_after (scope_behind before) p.line p.card
scope_one_more before p = fold-append (λ s (q : Placed). scope_after s q.line q.card) (record { line = 0; name = [] }) before (p ∷ [])

-- fine cards on lines from n on are placed in order
pub placed_again : (cs : List Card) (before : List Placed) (s : Scope) (n : ℕ) → scope_behind before ≡ s → AllByRecursion IsFine cs → AllByRecursion Sits (placing n s cs) → NamesDiffer (before ++ placing n s cs)
    → placed_from before (map Ok (numbered n cs)) ≡ Ok (before ++ placing n s cs)
placed_again [] before s n e h k d = ap Ok (sym (append-nil before))
placed_again (c ∷ cs) before s n e h k d =
    let p = placed s n c in
    let t = scope_after s n c in
    let rest = placing (n + 1) t cs in
    let one : place before (record { line = n; text = printed c }) ≡ Ok p = place_again before s n c h.0 e k.0 (no_duplicate_in before p rest d) in
    let behind : scope_behind (before ++ p ∷ []) ≡ t = scope_one_more before p ∙ ap (λ x. scope_after x n c) e in
    let together : (before ++ p ∷ []) ++ rest ≡ before ++ p ∷ rest = append_assoc before (p ∷ []) rest in
    ap (λ r. r >>= λ q. placed_from (before ++ q ∷ []) (map Ok (numbered (n + 1) cs))) one
    ∙ placed_again cs (before ++ p ∷ []) t (n + 1) behind h.1 k.1 (subst NamesDiffer (sym together) d) ∙ ap Ok together
