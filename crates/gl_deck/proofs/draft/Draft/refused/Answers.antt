use Rattle.std.proofs.Common.{ℕ, List, [], ◌∷◌, Option, subst}
use Rattle.gl_text.specs.LogicalLines.{Fault}
use Rattle.gl_fault.proofs.AnswerLaws.{one, or_last}
use Rattle.gl_fault.specs.Refusals.{first_some}
use Rattle.gl_text.specs.Cards.{has_long_tail, has_parameters}
use Rattle.gl_card.specs.Reading.{card_value}
use Rattle.gl_deck.specs.Refusals.{Refuses, fault_of}
use Rattle.gl_deck.specs.Drafts.{bad_ends_in, duplicate_in, local_in, nested_in, twice_in, zero_in}
use Rattle.gl_deck.proofs.draft.Draft.refused.Goals as goal

pub returns : goal.returns
returns c =
    let d = c.args.self.now in
    let l = c.args.line.now in
    let card = card_value c.args.card.now in
    let at : ℕ = c.line-at.result in
    let f1 : List (Option Fault) = nested_in d.current at card ∷ [] in
    let f2 : List (Option Fault) = nested_in d.current at card ∷ bad_ends_in d.current at card ∷ [] in
    let f3 : List (Option Fault) = nested_in d.current at card ∷ bad_ends_in d.current at card ∷ local_in d.current at card ∷ [] in
    let f4 : List (Option Fault) = nested_in d.current at card ∷ bad_ends_in d.current at card ∷ local_in d.current at card ∷ has_parameters l ∷ [] in
    let f5 : List (Option Fault) = nested_in d.current at card ∷ bad_ends_in d.current at card ∷ local_in d.current at card ∷ has_parameters l ∷ duplicate_in d at card ∷ [] in
    let f6 : List (Option Fault) = nested_in d.current at card ∷ bad_ends_in d.current at card ∷ local_in d.current at card ∷ has_parameters l ∷ duplicate_in d at card ∷ twice_in at card ∷ [] in
    let f7 : List (Option Fault) = nested_in d.current at card ∷ bad_ends_in d.current at card ∷ local_in d.current at card ∷ has_parameters l ∷ duplicate_in d at card ∷ twice_in at card ∷ zero_in at card ∷ [] in
    let p1 = one fault_of (nested_in d.current at card) c.nested.result c.nested.ensures.nested in
    let p2 = or_last fault_of f1 (bad_ends_in d.current at card) c.nested.result c.bad_ends.result c.or.result c.or.ensures p1 c.bad_ends.ensures.bad_ends in
    let p3 = or_last fault_of f2 (local_in d.current at card) c.or.result c.local.result c.or-2.result c.or-2.ensures p2 c.local.ensures.local in
    let p4 = or_last fault_of f3 (has_parameters l) c.or-2.result c.parameters.result c.or-3.result c.or-3.ensures p3 c.parameters.ensures.parameters in
    let p5 = or_last fault_of f4 (duplicate_in d at card) c.or-3.result c.duplicate.result c.or-4.result c.or-4.ensures p4 c.duplicate.ensures.duplicate in
    let p6 = or_last fault_of f5 (twice_in at card) c.or-4.result c.in_ok-twice.twice c.or-5.result c.or-5.ensures p5 c.in_ok-twice.ensures.twice in
    let p7 = or_last fault_of f6 (zero_in at card) c.or-5.result c.port_zero.result c.or-6.result c.or-6.ensures p6 c.port_zero.ensures.zero in
    let p8 = or_last fault_of f7 (has_long_tail l) c.or-6.result c.long_tail.result c.or-7.result c.or-7.ensures p7 c.long_tail.ensures.long_tail in
    let P : ℕ → Type 0 = λ n. Refuses c.or-7.result
    (first_some (nested_in d.current n card ∷ bad_ends_in d.current n card ∷ local_in d.current n card ∷ has_parameters l ∷ duplicate_in d n card ∷ twice_in n card ∷ zero_in n card ∷ has_long_tail l ∷ [])) in
    record { first = subst P c.line-at.ensures.line p8 }
