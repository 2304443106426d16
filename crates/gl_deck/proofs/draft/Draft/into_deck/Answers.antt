use Rattle.std.proofs.Common.{ℕ, List, ap, sym, ◌∙◌}
use Rattle.gl_text.specs.Decks.{Deck, Sub}
use Rattle.gl_deck.specs.Drafts.{deck_of}
use Rattle.gl_deck.specs.contracts.draft.Draft.{the_view}
use Rattle.gl_deck.proofs.TableLaws.{values_there}
use Rattle.gl_deck.proofs.draft.Draft.into_deck.Goals as goal

pub returns : goal.returns
returns c =
    let base : Deck = deck_of c.args.title.items (the_view c.self.inside) in
    let of_subs : List Sub → Deck = λ subs. record base { subs = subs } in
    let with_those : List (List ℕ) → Deck = λ names. record (of_subs c.self.inside.subs) { globals = names } in
    record { deck = ap with_those c.in_ok-globals.ensures.names ∙ ap of_subs (sym (values_there c.self.inside.subs)) ∙ ap (deck_of c.args.title.items) c.self.view_is }
