use Rattle.std.proofs.Common.{◌≡◌, Bool, true, false, Result, Ok, Err, subst, sym}
use Rattle.std.specs.Prelude.{IfOk}
use Rattle.gl_text.specs.LogicalLines.{FILE, Fault}
use Rattle.gl_text.specs.Decks.{Deck, read_deck, title_fault}
use Rattle.gl_known.specs.Known.{IsKnownDeck}
use Rattle.gl_deck.specs.declared.fault.DeckFault.{DeckFault}
use Rattle.gl_deck.specs.Refusals.{Gives, MustRefuse}
use Rattle.gl_deck.proofs.Whole.{same_deck}
use Rattle.gl_deck.proofs.deck.Deck.read.Goals as goal

-- what is given has what each wanted value has
given : {V : Type 0} (P : V → Type 0) (r : Result V DeckFault) (wanted : Result V Fault) → Gives r wanted → ((v : V) → wanted ≡ Ok v → P v) → IfOk r P
given P (Ok v) wanted g h = h v g
given P (Err fault) wanted g h = tt

pub returns-then-has_title-clause-read : goal.returns-then-has_title-clause-read
returns-then-has_title-clause-read c =
    let bytes = c.args.bytes.now in
    let P : Bool → Type 0 = λ h. Gives c.read_titled.result (read_deck h bytes) in
    let Q : Result Deck Fault → Type 0 = λ w. Gives c.read_titled.result w in
    subst P (sym c.if-has_title.true) (subst Q (same_deck true bytes) c.read_titled.ensures.reads)

pub returns-then-has_title-clause-known : goal.returns-then-has_title-clause-known
returns-then-has_title-clause-known c =
    let bytes = c.args.bytes.now in
    let Q : Result Deck Fault → Type 0 = λ w. Gives c.read_titled.result w in
    given (IsKnownDeck FILE) c.read_titled.result (read_deck true bytes) (subst Q (same_deck true bytes) c.read_titled.ensures.reads) (λ deck e. c.read_decks_are_known.ensures.of_file true bytes deck c.requires.size e)

pub returns-else-has_title-clause-read : goal.returns-else-has_title-clause-read
returns-else-has_title-clause-read c =
    let bytes = c.args.bytes.now in
    let P : Bool → Type 0 = λ h. Gives c.read_untitled.result (read_deck h bytes) in
    let Q : Result Deck Fault → Type 0 = λ w. Gives c.read_untitled.result w in
    subst P (sym c.if-has_title.false) (subst Q (same_deck false bytes) c.read_untitled.ensures.reads)

pub returns-else-has_title-clause-known : goal.returns-else-has_title-clause-known
returns-else-has_title-clause-known c =
    let bytes = c.args.bytes.now in
    let Q : Result Deck Fault → Type 0 = λ w. Gives c.read_untitled.result w in
    given (IsKnownDeck FILE) c.read_untitled.result (read_deck false bytes) (subst Q (same_deck false bytes) c.read_untitled.ensures.reads) (λ deck e. c.read_decks_are_known.ensures.of_file false bytes deck c.requires.size e)

pub returns-then-has_title-clause-long_title : goal.returns-then-has_title-clause-long_title
returns-then-has_title-clause-long_title c = subst (λ (h : Bool). MustRefuse c.read_titled.result (title_fault h c.args.bytes.now)) (sym c.if-has_title.true) c.read_titled.ensures.long_title

pub returns-else-has_title-clause-long_title : goal.returns-else-has_title-clause-long_title
returns-else-has_title-clause-long_title c = subst (λ (h : Bool). MustRefuse c.read_untitled.result (title_fault h c.args.bytes.now)) (sym c.if-has_title.false) tt
