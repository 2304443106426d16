use Rattle.gl_flat.proofs.WayLaws.{last_step, port_leads, first_leads, no_port_leads, same_net}
use Rattle.gl_flat.proofs.way.+net_at.Goals as goal
use Rattle.gl_flat.proofs.way.+net_at.Goals.{in_default, in-len1-up+in_default-actual}

pub returns-in-Some : goal.returns-in-Some
returns-in-Some t c =
    let rails = c.args.rails.now.keys in
    let way = c.args.way.now in
    record { net = same_net c.net_at.result _ _ (port_leads rails way _ c.step-item.result c.args.name.now c.in-Some.node.now (last_step way c.step-item.result c.in-len1-up.len_at_least c.step-item.is) c.in-Some.ensures.node) c.net_at.ensures.net }

pub returns : goal.returns
returns t c =
    let rails = c.args.rails.now.keys in
    let way = c.args.way.now in
    let name = c.args.name.now in
    elim c.if-way-lt1.branch [
      | in_default w ↦ record { net = same_net c.own_net.result _ _ (first_leads rails way name w.in_default.len_below) c.own_net.ensures.net }
      | in-len1-up+in_default-actual w ↦ record { net = same_net c.own_net.result _ _ (no_port_leads rails way _ w.step-item.result name (last_step way w.step-item.result w.in-len1-up.len_at_least w.step-item.is) w.in_default-actual.ensures.node) c.own_net.ensures.net }
    ]
