-- A deck that was read has a rank, and so levels and skipped cells of a library that was read are settled.
use Rattle.std.proofs.Common.{◌≡◌, ◌<◌, ℕ, List, [], ◌∷◌, length, Bool, false, Option, Ok, sym, subst, refl}
use Rattle.std.specs.Prelude.{Contains, IfSome, IsSome}
use Rattle.std.specs.List.{AllByRecursion}
use Rattle.gl_text.specs.Decks.{Body, dev_at, call_at, Sub, Deck, callees, find_sub, reaches, read_deck}
use Rattle.gl_text.specs.Levels.{Down}
use Rattle.gl_printed.specs.ReadDecks.{FindsSubWithin, IsReadDeck, IsReadSub}
use Rattle.gl_printed.proofs.Each.{each_to}
use Rattle.gl_printed.proofs.ReadDeckLaws.{read_fine}
use Rattle.gl_deck.specs.Ranks.{HasRank}
use Rattle.gl_lists.proofs.Each.{each_in, each_from}
use Rattle.gl_deck.proofs.RankLaws.{ranked_below}
use Rattle.gl_base.specs.Libraries.{Library, read_library}
use Rattle.gl_cells.specs.Settled.{HasSettledLevel, HasSettledSkip}
use Rattle.gl_cells.proofs.KnownLaws.{from_checked}
use Rattle.gl_cells.proofs.RankLaws.{level_is, skip_is}

not_back : (subs : List Sub) (name : List ℕ) (cards : List Body) → AllByRecursion (FindsSubWithin subs name) cards
    → AllByRecursion (λ n. IfSome (find_sub subs n) (λ t. reaches subs t name ≡ false)) (callees cards)
not_back subs name [] h = tt
not_back subs name (dev_at line d ∷ cards) h = not_back subs name cards h.1
not_back subs name (call_at line c ∷ cards) h =
    (subst (λ (o : Option Sub). IfSome o (λ t. reaches subs t name ≡ false)) (sym h.0.1.found) h.0.2, not_back subs name cards h.1)

all_there : (subs : List Sub) (name : List ℕ) (cards : List Body) → AllByRecursion (FindsSubWithin subs name) cards → AllByRecursion (λ n. IsSome (find_sub subs n)) (callees cards)
all_there subs name [] h = tt
all_there subs name (dev_at line d ∷ cards) h = all_there subs name cards h.1
all_there subs name (call_at line c ∷ cards) h = (subst (λ (o : Option Sub). IsSome o) (sym h.0.1.found) refl, all_there subs name cards h.1)

-- a deck as it is read has a rank
pub read_ranked : (deck : Deck) → IsReadDeck deck → HasRank deck.subs (length deck.subs)
read_ranked deck is =
    let subs = deck.subs in
    ranked_below subs
    (each_to (IsReadSub subs) (λ (s : Sub). AllByRecursion (λ n. IfSome (find_sub subs n) (λ t. reaches subs t s.head.name ≡ false)) (callees s.cards)) (λ s read. not_back subs s.head.name s.cards read.calls) subs is.subs)
    (each_to (IsReadSub subs) (λ (s : Sub). AllByRecursion (λ n. IsSome (find_sub subs n)) (callees s.cards)) (λ s read. all_there subs s.head.name s.cards read.calls) subs is.subs)

pub bytes_ranked : (has_title : Bool) (bytes : List ℕ) (deck : Deck) → read_deck has_title bytes ≡ Ok deck → HasRank deck.subs (length deck.subs)
bytes_ranked has_title bytes deck e = read_ranked deck (read_fine has_title bytes deck e)

library_ranked : (bytes : List ℕ) (l : Library) → read_library bytes ≡ Ok l → HasRank l.deck.subs (length l.deck.subs)
library_ranked bytes l e =
    let h = from_checked (read_deck false bytes) l e in
    subst (λ (m : Library). HasRank m.deck.subs (length m.deck.subs)) h.2.1 (bytes_ranked false bytes h.0 h.1)

own_down : (rank : List ℕ → ℕ) (subs : List Sub) (s : Sub) → Down rank subs → Contains subs s → Down rank (s ∷ [])
own_down rank subs s down i = (each_in (λ (t : Sub). AllByRecursion (λ n. rank n < rank t.head.name) (callees t.cards)) subs s down i, tt)

own_low : (rank : List ℕ → ℕ) (subs : List Sub) (s : Sub) (n : ℕ) → AllByRecursion (λ (t : Sub). rank t.head.name < n) subs → Contains subs s → rank s.head.name < n
own_low rank subs s n low i = each_in (λ (t : Sub). rank t.head.name < n) subs s low i

pub levels_settled : (bytes : List ℕ) (l : Library) → read_library bytes ≡ Ok l → AllByRecursion (HasSettledLevel l.deck.subs) l.deck.subs
levels_settled bytes l e =
    let h = library_ranked bytes l e in
    let subs = l.deck.subs in
    each_from (HasSettledLevel subs) subs (λ s i. level_is h.rank subs s h.down (own_down h.rank subs s h.down i) (own_low h.rank subs s (length subs) h.below i))

pub skips_settled : (bytes : List ℕ) (l : Library) → read_library bytes ≡ Ok l → AllByRecursion (HasSettledSkip l.deck.subs) l.deck.subs
skips_settled bytes l e =
    let h = library_ranked bytes l e in
    let subs = l.deck.subs in
    each_from (HasSettledSkip subs) subs (λ s i. skip_is h.rank subs s h.down (own_down h.rank subs s h.down i) (own_low h.rank subs s (length subs) h.below i))
