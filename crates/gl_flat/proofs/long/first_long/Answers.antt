use Rattle.std.proofs.Common.{◌∙◌}
use Rattle.gl_flat.proofs.LongLaws.{head_of, long_now, long_later, countable_behind}
use Rattle.gl_flat.proofs.long.first_long.Goals as goal

pub returns-in-Some : goal.returns-in-Some
returns-in-Some c =
    let is = head_of c.loop-rest.rest.now c.device-item.result c.in-len1-up.len_at_least c.device-item.is in
    record { long = long_now c.loop-rest.rest.now _ c.device-item.result _ is c.in-Some.ensures.long ∙ c.loop-rest.invariant.same }

pub loop-rest-preserved : goal.loop-rest-preserved
loop-rest-preserved c =
    let is = head_of c.loop-rest.rest.now c.device-item.result c.in-len1-up.len_at_least c.device-item.is in
    record {
      short = countable_behind c.loop-rest.rest.now _ c.device-item.result is c.loop-rest.invariant.short;
      same = long_later c.loop-rest.rest.now _ c.device-item.result is c.in_default-long_of.ensures.long ∙ c.loop-rest.invariant.same;
    }
