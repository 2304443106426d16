use Rattle.std.proofs.Common.{◌≡◌, ◌++◌, sym, subst}
use Rattle.std.specs.Prelude.{OnOk}
use Rattle.gl_card.specs.Lines.{spaced_all}
use Rattle.gl_variant.proofs.TurnedLaws.{ports_first, ports_behind}
use Rattle.gl_write.proofs.turned.put_call_nodes.Goals as goal

pub returns-then-turn-eq0 : goal.returns-then-turn-eq0
returns-then-turn-eq0 c = record { ok = subst (λ ns. OnOk c.put_words.result (c.put_words.new.out.items ≡ c.args.out.now.items ++ spaced_all ns)) (sym (ports_first c.args.nodes.now c.args.turn c.if-turn-eq0.true)) c.put_words.ensures.ok }

pub returns : goal.returns
returns c = record { ok = subst (λ ns. OnOk c.put_turned_back.result (c.put_turned_back.new.out.items ≡ c.args.out.now.items ++ spaced_all ns)) (sym (ports_behind c.args.nodes.now c.args.turn c.if-turn-eq0.false)) c.put_turned_back.ensures.ok }
