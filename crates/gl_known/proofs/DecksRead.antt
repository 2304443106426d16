-- A deck that was read is known.
use Rattle.gl_fault.proofs.FirstLaws.{or_else_ok}
use Rattle.gl_fault.specs.Refusals.{first_some, or_else, ◌>>=◌}
use Rattle.std.proofs.Common.{◌≡◌, ◌≤◌, ℕ, List, [], ◌∷◌, length, map, cond, Bool, Result, Ok, sym, ◌∙◌, subst, arith}
use Rattle.std.specs.List.{AllByRecursion}
use Rattle.std.proofs.lemmas.List.Elements.{All-from_recursion}
use Rattle.gl_text.specs.LogicalLines.{FILE, Fault, title_of}
use Rattle.gl_text.specs.Cards.{IsDeviceCard}
use Rattle.gl_text.specs.Decks.{Body, dev_at, call_at, Sub, Deck, Placed, placed_from, deck_by, left_open, call_fault, title_fault, file_lines, read_deck}
use Rattle.gl_text.specs.CellCards.{devices_in}
use Rattle.gl_printed.specs.ReadCards.{IsFine}
use Rattle.gl_printed.specs.ReadDecks.{body_card, IsReadSub, IsReadDeck}
use Rattle.gl_printed.proofs.Each.{each_to}
use Rattle.gl_printed.proofs.ReadDeckLaws.{read_fine}
use Rattle.gl_known.specs.Known.{deck_size, IsKnownSub, IsKnownDeck}
use Rattle.gl_known.proofs.Lines.{file_short}
use Rattle.gl_known.proofs.Ascent.{file_rises}
use Rattle.gl_known.proofs.Placing.{bound, FromLines, all_placed, all_small, all_rise}
use Rattle.gl_known.proofs.DeckSizes.{deck_small}

-- ---- what a deck as it is read has

devices_known : (cards : List Body) → AllByRecursion (λ b. IsFine (body_card b)) cards → AllByRecursion IsDeviceCard (devices_in cards)
devices_known [] h = tt
devices_known (dev_at line d ∷ cards) h = (h.0.is_read.kind, devices_known cards h.1)
devices_known (call_at line c ∷ cards) h = devices_known cards h.1

sub_known : (subs : List Sub) (s : Sub) → IsReadSub subs s → IsKnownSub s
sub_known subs s h = record { cards = All-from_recursion IsDeviceCard (devices_in s.cards) (devices_known s.cards h.cards); ports_differ = h.ports_differ; no_zero = h.no_zero }

-- a deck as it is read that is no larger than a size is known
known_by : (size : ℕ) (deck : Deck) → IsReadDeck deck → deck_size deck ≤ size → IsKnownDeck size deck
known_by size deck h small = record {
  read = h;
  top_cards = All-from_recursion IsDeviceCard (devices_in deck.top) (devices_known deck.top h.top);
  subs_known = All-from_recursion IsKnownSub deck.subs (each_to (IsReadSub deck.subs) IsKnownSub (sub_known deck.subs) deck.subs h.subs);
  small = small;
}

-- ---- the deck

abbrev title_in : Bool → List ℕ → List ℕ
title_in has_title bytes = cond has_title (title_of bytes) []

deck_short : (has_title : Bool) (bytes : List ℕ) (cards : List Placed) → FromLines (file_lines has_title bytes) cards → deck_size (deck_by (title_in has_title bytes) cards) ≤ length bytes
deck_short has_title bytes cards h =
    let lines = file_lines has_title bytes in
    let rise = all_rise 1 lines cards (file_rises has_title bytes) h in
    let a = deck_small (title_in has_title bytes) cards rise in
    let b = all_small lines cards h in
    let c = file_short has_title bytes in
    omega arith

abbrev with_calls : List Placed → Deck → Result Deck Fault
with_calls cards deck = or_else (first_some (map (call_fault deck.subs) cards)) deck

abbrev with_cards : Bool → List ℕ → List Placed → Result Deck Fault
with_cards has_title bytes cards = or_else (left_open cards) (deck_by (title_in has_title bytes) cards) >>= with_calls cards

abbrev with_title : Bool → List ℕ → List Placed → Result Deck Fault
with_title has_title bytes before = placed_from before (file_lines has_title bytes) >>= with_cards has_title bytes

pub deck_read : (has_title : Bool) (bytes : List ℕ) (deck : Deck) → read_deck has_title bytes ≡ Ok deck → IsKnownDeck (length bytes) deck
deck_read has_title bytes deck h =
    let none : List Placed = [] in
    let a = bound (or_else (title_fault has_title bytes) none) (with_title has_title bytes) deck h in
    let fresh = or_else_ok (title_fault has_title bytes) none a.first a.was in
    let b = bound (placed_from a.first (file_lines has_title bytes)) (with_cards has_title bytes) deck a.gives in
    let c = bound (or_else (left_open b.first) (deck_by (title_in has_title bytes) b.first)) (with_calls b.first) deck b.gives in
    let made = or_else_ok (left_open b.first) (deck_by (title_in has_title bytes) b.first) c.first c.was in
    let same = or_else_ok (first_some (map (call_fault c.first.subs) b.first)) c.first deck c.gives in
    let read = subst (λ before. placed_from before (file_lines has_title bytes) ≡ Ok b.first) (sym fresh.1) b.was in
    let small = deck_short has_title bytes b.first (all_placed (file_lines has_title bytes) b.first read) in
    known_by (length bytes) deck (read_fine has_title bytes deck h) (subst (λ d. deck_size d ≤ length bytes) (made.1 ∙ same.1) small)

-- from a file that is not too long
pub file_read : (has_title : Bool) (bytes : List ℕ) (deck : Deck) → length bytes ≤ FILE → read_deck has_title bytes ≡ Ok deck → IsKnownDeck FILE deck
file_read has_title bytes deck few h = let k = deck_read has_title bytes deck h in let a = k.small in known_by FILE deck k.read (omega arith)
