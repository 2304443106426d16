-- The cells of a deck whose size is known have few cards and ports.
use Rattle.std.proofs.Common.{◌≤◌, List, [], ◌∷◌, length, arith, zero, suc, ap}
use Rattle.std.specs.Prelude.{Contains, sum_by}
use Rattle.std.proofs.lemmas.List.Sums.{sum_by-cons}
use Rattle.gl_text.specs.LogicalLines.{FILE}
use Rattle.gl_text.specs.Decks.{Body, dev_at, call_at, Sub, Deck}
use Rattle.gl_known.specs.Known.{IsKnownDeck, body_size, sub_size}
use Rattle.gl_deck.proofs.Members.{among_in}
use Rattle.gl_cells.specs.Limited.{AreCountable}

some_size : (card : Body) → 1 ≤ body_size card
some_size (dev_at line d) = omega arith
some_size (call_at line c) = omega arith

cards_sized : (cards : List Body) → length cards ≤ sum_by body_size cards
cards_sized [] = omega arith
cards_sized (card ∷ cards) =
    let a = some_size card in
    let b = cards_sized cards in
    let c = sum_by-cons body_size card cards in
    omega arith

one_of : (s : Sub) (subs : List Sub) → Contains subs s → sub_size s ≤ sum_by sub_size subs
one_of s [] (k, lt, e) = absurd (omega (arith, lt))
one_of s (t ∷ subs) (zero, lt, e) =
    let a = ap sub_size e in
    let b = sum_by-cons sub_size t subs in
    omega arith
one_of s (t ∷ subs) (suc k, lt, e) =
    let a = one_of s subs (k, omega (arith, lt), e) in
    let b = sum_by-cons sub_size t subs in
    omega arith

pub countable : (deck : Deck) → IsKnownDeck FILE deck → AreCountable deck.subs
countable deck known s among =
    let a = known.small in
    let b = one_of s deck.subs (among_in s deck.subs among) in
    let c = cards_sized s.cards in
    record { cards = omega arith; ports = omega arith }
