use Rattle.std.proofs.Common.{◌∙◌, sym}
use Rattle.gl_deck.proofs.DraftTables.{closed_after, dropped_after}
use Rattle.gl_deck.proofs.draft.Draft.close.Goals as goal

pub invariant_of-self : goal.invariant_of-self
invariant_of-self c =
    closed_after c.self.inside.subs c.insert.new.self c.in-Some.sub c.self.inside.current c.take.new.self c.in_ok-insert.ensures.inserted (sym c.take.ensures.value ∙ c.in-Some.is) c.take.ensures.after c.self.invariant

pub invariant_of-self-in_err-insert : goal.invariant_of-self-in_err-insert
invariant_of-self-in_err-insert c = dropped_after c.self.inside.subs c.insert.new.self c.self.inside.current c.take.new.self c.in_err-insert.ensures.kept c.take.ensures.after c.self.invariant
