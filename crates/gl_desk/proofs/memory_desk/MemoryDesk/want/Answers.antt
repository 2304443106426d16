use Rattle.std.proofs.Common.{◌<◌, ◌∙◌, length, arith}
use Rattle.gl_desk.proofs.Seating.{views_kept, wants_new, wants_others}
use Rattle.gl_desk.proofs.memory_desk.MemoryDesk.want.Goals as goal

pub returns-clause-ok : goal.returns-clause-ok
returns-clause-ok c =
    let seats = c.args.self.now.seats in
    let within : c.place.result < length seats = omega arith in
    record {
      here = wants_new seats c.args.slot c.place.result c.want.new.self c.index-self-place.result c.place.ensures.place within ∙ c.in_ok-want.ensures.ok;
      others = wants_others seats c.args.slot c.place.result c.want.new.self c.place.ensures.place;
    }

pub returns-clause-views : goal.returns-clause-views
returns-clause-views c = views_kept c.args.self.now.seats c.place.result c.want.new.self c.index-self-place.result c.want.ensures.shows
