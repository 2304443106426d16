use Rattle.std.proofs.Common.{◌∙◌, List, ℕ, ap, sym, option_map}
use Rattle.std.specs.Prelude.{slice_get}
use Rattle.std.proofs.lemmas.Option.{slice_get-map}
use Rattle.gl_text.specs.Decks.{Sub, find_sub}
use Rattle.gl_deck.proofs.CallLaws.{find_is}
use Rattle.gl_deck.proofs.subs.Subs.find.Goals as goal

pub returns-in_err-place-clause-found : goal.returns-in_err-place-clause-found
returns-in_err-place-clause-found c =
    ap (option_map (λ p. p.1.now)) c.from_residual.ensures ∙ c.in_err-place.ensures.value ∙ find_is c.self.inside.table.entries c.args.name.now c.self.invariant ∙ ap (λ ss. find_sub ss c.args.name.now) c.self.view_is

pub returns-clause-found : goal.returns-clause-found
returns-clause-found c = c.in_ok-place.ensures.value ∙ find_is c.self.inside.table.entries c.args.name.now c.self.invariant ∙ ap (λ ss. find_sub ss c.args.name.now) c.self.view_is

pub returns-clause-place : goal.returns-clause-place
returns-clause-place c =
    let es = c.self.inside.table.entries in
    let k = c.in_ok-place.place in
    let value : List ℕ × Sub → Sub = λ (e : List ℕ × Sub). e.1 in
    ap (λ ss. slice_get ss k) (sym c.self.view_is) ∙ slice_get-map value es k ∙ ap (option_map value) c.in_ok-place.ensures.entry
