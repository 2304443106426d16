use Rattle.std.proofs.Common.{List, sym, subst}
use Rattle.std.specs.Prelude.{map, IfOk}
use Rattle.gl_fault.specs.Refusals.{first_some}
use Rattle.gl_text.specs.Decks.{Sub}
use Rattle.gl_deck.specs.Calls.{Site, site_fault}
use Rattle.gl_deck.specs.Drafts.{Draft, calls_in}
use Rattle.gl_deck.specs.Refusals.{Refuses}
use Rattle.gl_deck.proofs.TableLaws.{values_there}
use Rattle.gl_deck.proofs.draft.Draft.bad_call.Goals as goal

pub returns : goal.returns
returns c =
    let First : List Sub → List Site → Type 0 = λ subs sites. IfOk c.first_call_fault.result (λ fault. Refuses fault (first_some (map (site_fault subs) sites))) in
    let P : Draft → Type 0 = λ d. IfOk c.first_call_fault.result (λ fault. Refuses fault (calls_in d)) in
    let first = subst (First c.self.inside.subs) c.deref.ensures.value c.first_call_fault.ensures.first in
    record { bad_call = subst P c.self.view_is (subst (λ subs. First subs c.self.inside.sites.items) (sym (values_there c.self.inside.subs)) first) }
