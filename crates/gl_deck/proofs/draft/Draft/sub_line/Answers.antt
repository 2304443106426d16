use Rattle.std.proofs.Common.{◌∙◌, ℕ, Some, ap, sym, option_map}
use Rattle.std.specs.Map.{lookup}
use Rattle.gl_text.specs.LogicalLines.{same_text}
use Rattle.gl_text.specs.Decks.{Sub}
use Rattle.gl_deck.specs.Drafts.{Draft}
use Rattle.gl_deck.proofs.TableLaws.{found_there}
use Rattle.gl_deck.proofs.draft.Draft.sub_line.Goals as goal

pub returns-in-Some : goal.returns-in-Some
returns-in-Some c =
    let name = c.args.name.now in
    let found = c.in-Some.ensures.found ∙ sym (found_there c.self.inside.subs name) in
    record { line = ap (λ (n : ℕ). Some n) c.line.ensures.line ∙ ap (option_map (λ (s : Sub). s.line)) found ∙ ap (λ (d : Draft). option_map (λ (s : Sub). s.line) (lookup (same_text name) d.subs)) c.self.view_is }

pub returns-in-None : goal.returns-in-None
returns-in-None c =
    let name = c.args.name.now in
    let found = c.in-None.ensures.found ∙ sym (found_there c.self.inside.subs name) in
    record { line = ap (option_map (λ (s : Sub). s.line)) found ∙ ap (λ (d : Draft). option_map (λ (s : Sub). s.line) (lookup (same_text name) d.subs)) c.self.view_is }
