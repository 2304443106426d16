use Rattle.std.proofs.Common.{◌≡◌, ◌<◌, ◌∙◌, ap, sym, arith}
use Rattle.gl_text.specs.Cards.{Head}
use Rattle.gl_deck.specs.Ranks.{rank_in}
use Rattle.gl_deck.proofs.UpLaws.{not_up}
use Rattle.gl_deck.proofs.calls.leads_to.Goals as goal

pub returns-then-rank_of : goal.returns-then-rank_of
returns-then-rank_of c =
    let subs = c.args.subs.now in
    let t = c.args.target.now in
    let ranks = c.args.ranks.now in
    let rank = rank_in subs ranks in
    let e : c.rank_of.result ≡ rank t.head.name = c.rank_of.ensures.rank ∙ ap rank (c.name.ensures.name ∙ ap (λ (h : Head). h.name) c.head.ensures.head) in
    let lt : rank t.head.name < rank c.args.name.now = omega (arith, e, c.rank_of-2.ensures.rank) in
    record { leads = sym (not_up subs ranks t c.args.name.now c.requires.ranks c.requires.among lt) }
