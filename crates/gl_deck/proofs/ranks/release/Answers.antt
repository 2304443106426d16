use Rattle.std.proofs.Common.{Result, Ok, Err}
use Rattle.std.specs.Prelude.{OnOk}
use Rattle.gl_deck.proofs.ReadyLaws.{freed}
use Rattle.gl_deck.proofs.ranks.release.Goals as goal

on_ok : {A E : Type 0} (r : Result A E) (P Q : Type 0) → OnOk r P → (P → Q) → OnOk r Q
on_ok (Ok x) P Q h f = f h
on_ok (Err e) P Q h f = h

pub returns-clause-freed : goal.returns-clause-freed
returns-clause-freed c = on_ok c.add_uncalled.result _ _ c.add_uncalled.ensures.added (λ e. freed c.args.calls.now c.args.ready.now.items c.add_uncalled.new.ready.items c.args.place c.requires.within c.requires.called e)
