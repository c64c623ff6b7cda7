use Rattle.std.proofs.Common.{◌∙◌, sym}
use Rattle.ddf_rewrite.specs.Before.{before}
use Rattle.ddf_rewrite.proofs.Premises.{leader_can}
use Rattle.ddf_rewrite.proofs.recovery.recovered_holding.Goals as goal

pub led_holding-requires-clause-leader : goal.led_holding-requires-clause-leader
led_holding-requires-clause-leader c =
    let wanted = c.wanted.inside in
    rw (← c.leader.view_is) at (leader_can c.args.old.now.header.geometry (before c.args.leaders.now) wanted.guid wanted.index c.in-Some.leader c.requires.leaders (sym c.leading_record.ensures ∙ c.in-Some.is))
