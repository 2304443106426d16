-- The cards of lines, each behind those before it.
use Rattle.gl_fault.proofs.FirstLaws.{or_else_ok}
use Rattle.std.proofs.Common.{codes, ◌≡◌, ◌≤◌, ℕ, suc, List, [], ◌∷◌, ◌++◌, length, Option, Result, Ok, Err, refl, sym, ◌∙◌, subst, append_assoc, append-nil, arith}
use Rattle.std.specs.Prelude.{◌&&◌}
use Rattle.gl_text.specs.LogicalLines.{Fault, local_card, duplicate_port, zero_port, Line}
use Rattle.gl_fault.specs.Refusals.{first_some, when, or_else, ◌>>=◌}
use Rattle.gl_text.specs.Cards.{card_of, no_card, has_parameters, has_long_tail}
use Rattle.gl_text.specs.Decks.{Placed, scope_behind, is_inside, is_in, nested, bad_ends, is_of_top, duplicate, has_twice, ports_of, place, placed_from}
use Rattle.gl_known.specs.Known.{line_size}
use Rattle.gl_known.proofs.Totals.{total}
use Rattle.gl_known.proofs.Ascent.{RisingLines}
use Rattle.gl_known.proofs.CardsRead.{card_read, card_size}

-- two steps of reading gave y
pub record Bound {A B : Type 0} (r : Result A Fault) (f : A → Result B Fault) (y : B) : Type 0 where
  pub first : A
  pub was : r ≡ Ok first
  pub gives : f first ≡ Ok y

pub bound : {A B : Type 0} (r : Result A Fault) (f : A → Result B Fault) (y : B) → (r >>= f) ≡ Ok y → Bound r f y
bound (Ok x) f y h = record { first = x; was = refl; gives = h }
bound (Err e) f y h = absurd cc

-- ---- one card

-- what is known of a card behind others, by its line
pub record FromLine (l : Line) (p : Placed) : Type 0 where
  pub line : p.line ≡ l.line
  pub small : card_size p.card ≤ length l.text

-- the card of a line behind others
abbrev placed : List Placed → Line → Placed
placed before l = record { scope = scope_behind before; line = l.line; card = card_of l.text }

-- what is tried where there is a card
abbrev late_faults : List Placed → Line → Placed → List (Option Fault)
late_faults before l p = nested p ∷ bad_ends p
    ∷ when (is_inside p.scope && is_of_top p.card) (local_card p.line)
    ∷ has_parameters l ∷ duplicate before p
    ∷ when (has_twice (ports_of p.card)) (duplicate_port p.line)
    ∷ when (is_in (codes "0") (ports_of p.card)) (zero_port p.line)
    ∷ has_long_tail l ∷ []

place_known : (before : List Placed) (l : Line) (p : Placed) → place before l ≡ Ok p → FromLine l p
place_known before l p h =
    let b = bound (or_else (no_card l) (placed before l)) (λ q. or_else (first_some (late_faults before l q)) q) p h in
    let early = or_else_ok (no_card l) (placed before l) b.first b.was in
    let late = or_else_ok (first_some (late_faults before l b.first)) b.first p b.gives in
    subst (FromLine l) (early.1 ∙ late.1) (record { line = refl; small = card_read l early.0 })

-- ---- all cards

-- each line is a card, in order
abbrev pub FromLines : List (Result Line Fault) → List Placed → Type 0
FromLines [] [] = Unit {0}
FromLines [] (p ∷ ps) = ⊥
FromLines (r ∷ ls) [] = ⊥
FromLines (Ok l ∷ ls) (p ∷ ps) = FromLine l p × FromLines ls ps
FromLines (Err f ∷ ls) (p ∷ ps) = ⊥

-- the cards are those before and then these, from the lines
pub record Behind (before cards : List Placed) (lines : List (Result Line Fault)) : Type 0 where
  pub these : List Placed
  pub are : cards ≡ before ++ these
  pub from : FromLines lines these

all_behind : (before : List Placed) (lines : List (Result Line Fault)) (cards : List Placed) → placed_from before lines ≡ Ok cards → Behind before cards lines
all_behind before [] cards h = record { these = []; are = let e : before ≡ cards = cc in sym e ∙ sym (append-nil before); from = tt }
all_behind before (Err f ∷ ls) cards h = absurd cc
all_behind before (Ok l ∷ ls) cards h =
    let b = bound (place before l) (λ p. placed_from (before ++ p ∷ []) ls) cards h in
    let more = all_behind (before ++ b.first ∷ []) ls cards b.gives in
    record { these = b.first ∷ more.these; are = more.are ∙ append_assoc before (b.first ∷ []) more.these; from = (place_known before l b.first b.was, more.from) }

pub all_placed : (lines : List (Result Line Fault)) (cards : List Placed) → placed_from [] lines ≡ Ok cards → FromLines lines cards
all_placed lines cards h = let b = all_behind [] lines cards h in subst (FromLines lines) (sym b.are) b.from

-- ---- what follows

pub all_small : (lines : List (Result Line Fault)) (cards : List Placed) → FromLines lines cards → total (λ (p : Placed). card_size p.card) cards ≤ total line_size lines
all_small [] [] h = omega arith
all_small [] (p ∷ ps) h = absurd h
all_small (r ∷ ls) [] h = omega arith
all_small (Err f ∷ ls) (p ∷ ps) h = absurd h
all_small (Ok l ∷ ls) (p ∷ ps) h = let s = h.0.small in let t = all_small ls ps h.1 in omega arith

-- each card's line is at least n, and each is above the one before
abbrev pub RisingCards : ℕ → List Placed → Type 0
RisingCards n [] = Unit {0}
RisingCards n (p ∷ ps) = (n ≤ p.line) × RisingCards (suc p.line) ps

pub all_rise : (n : ℕ) (lines : List (Result Line Fault)) (cards : List Placed) → RisingLines n lines → FromLines lines cards → RisingCards n cards
all_rise n [] [] r h = tt
all_rise n [] (p ∷ ps) r h = absurd h
all_rise n (l ∷ ls) [] r h = tt
all_rise n (Err f ∷ ls) (p ∷ ps) r h = absurd h
all_rise n (Ok l ∷ ls) (p ∷ ps) r h =
    let e = h.0.line in
    (omega (arith, r.0), subst (λ m. RisingCards (suc m) ps) (sym e) (all_rise (suc l.line) ls ps r.1 h.1))
