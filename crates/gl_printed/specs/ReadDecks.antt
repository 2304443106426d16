-- Decks as they are read, and what it is that a printed deck reads back.
use Rattle.std.specs.Prelude.{◌≡◌, ◌≤◌, ◌==◌, ℕ, Bool, true, false, List, [], ◌∷◌, ◌++◌, length, map, flat_map, Some, Result, Ok, codes}
use Rattle.std.specs.List.{AllByRecursion}
use Rattle.gl_text.specs.LogicalLines.{LINE, Fault, trim_end}
use Rattle.gl_text.specs.Cards.{Call, Card, dev, call, model, subckt, ends, global, passed}
use Rattle.gl_fault.specs.Refusals.{◌>>=◌}
use Rattle.gl_text.specs.Decks.{Body, dev_at, call_at, Sub, Deck, is_in, has_twice, find_sub, reaches, read_deck, deck_text}
pub use Rattle.gl_text.specs.Decks.{body_name}
use Rattle.gl_text.specs.WayBack.{IsOneLine}
use Rattle.gl_printed.specs.ReadCards.{IsFine}

-- a device or an X card of a deck, as a card
abbrev pub body_card : Body → Card
body_card (dev_at line d) = dev d
body_card (call_at line c) = call c

-- ---- what is known of a deck that was read

-- a title is one line without carriage returns at its end
pub record IsTitle (title : List ℕ) : Type 0 where
  pub one_line : IsOneLine title
  pub no_returns : trim_end (λ b. b == 13) title ≡ title
  pub short : length title ≤ LINE

-- no two names are the same
abbrev pub AllDiffer : List (List ℕ) → Type 0
AllDiffer names = has_twice names ≡ false

-- what an X card calls is a subcircuit of the deck, with as many ports as the card has nodes
pub record IsCallOf (subs : List Sub) (c : Call) (t : Sub) : Type 0 where
  pub found : find_sub subs c.sub ≡ Some t
  pub as_many : length c.nodes ≡ length t.head.ports

-- an X card finds its subcircuit
abbrev pub FindsSub : List Sub → Body → Type 0
FindsSub subs (dev_at line d) = Unit {0}
FindsSub subs (call_at line c) = (t : Sub) × IsCallOf subs c t

-- and inside the subcircuit of a name, it does not lead back there
abbrev pub FindsSubWithin : List Sub → List ℕ → Body → Type 0
FindsSubWithin subs name (dev_at line d) = Unit {0}
FindsSubWithin subs name (call_at line c) = (t : Sub) × IsCallOf subs c t × (reaches subs t name ≡ false)

-- a subcircuit, among those of its deck
pub record IsReadSub (subs : List Sub) (s : Sub) : Type 0 where
  pub head : IsFine (subckt s.head)
  pub ports_differ : AllDiffer s.head.ports
  pub no_zero : is_in (codes "0") s.head.ports ≡ false
  pub cards : AllByRecursion (λ b. IsFine (body_card b)) s.cards
  pub names_differ : AllDiffer (map body_name s.cards)
  pub calls : AllByRecursion (FindsSubWithin subs s.head.name) s.cards

-- a deck: its cards are fine, names differ in each namespace, and each X card finds its subcircuit
pub record IsReadDeck (d : Deck) : Type 0 where
  pub title : IsTitle d.title
  pub globals : AllByRecursion (λ n. IsFine (global (n ∷ []))) d.globals
  pub globals_differ : AllDiffer d.globals
  pub no_zero : is_in (codes "0") d.globals ≡ false
  pub models : AllByRecursion (λ m. IsFine (model m)) d.models
  pub models_differ : AllDiffer (map (λ m. m.name) d.models)
  pub subs : AllByRecursion (IsReadSub d.subs) d.subs
  pub subs_differ : AllDiffer (map (λ s. s.head.name) d.subs)
  pub top : AllByRecursion (λ b. IsFine (body_card b)) d.top
  pub top_differ : AllDiffer (map body_name d.top)
  pub top_calls : AllByRecursion (FindsSub d.subs) d.top
  pub passed : AllByRecursion (λ t. IsFine (passed t)) d.passed

-- ---- the way back

-- the cards of a subcircuit, from its head to its end
abbrev pub sub_cards : Sub → List Card
sub_cards s = subckt s.head ∷ map body_card s.cards ++ ends (Some s.head.name) ∷ []

-- the cards of a deck in the order in which they are printed; `.end` follows
abbrev pub cards_of : Deck → List Card
cards_of d = map (λ n. global (n ∷ [])) d.globals ++ map model d.models ++ flat_map sub_cards d.subs ++ map body_card d.top ++ map passed d.passed

-- a deck without its line numbers
abbrev pub unnumbered_body : Body → Body
unnumbered_body (dev_at line d) = dev_at 0 d
unnumbered_body (call_at line c) = call_at 0 c

-- a subcircuit without line numbers
abbrev pub unnumbered_sub : Sub → Sub
unnumbered_sub s = record { line = 0; head = s.head; cards = map unnumbered_body s.cards }

abbrev pub unnumbered : Deck → Deck
unnumbered d = record d { subs = map unnumbered_sub d.subs; top = map unnumbered_body d.top }

-- the printed deck, read with a title, is the same deck but for line numbers
pub record ReadsBack (deck : Deck) : Type 0 where
  pub again : Deck
  pub is_read : read_deck true (deck_text deck) ≡ Ok again
  pub is_same : unnumbered again ≡ unnumbered deck

-- the text of the deck of bytes, printed, or the first refusal
abbrev pub reprinted : Bool → List ℕ → Result (List ℕ) Fault
reprinted has_title bytes = read_deck has_title bytes >>= λ deck. Ok (deck_text deck)
