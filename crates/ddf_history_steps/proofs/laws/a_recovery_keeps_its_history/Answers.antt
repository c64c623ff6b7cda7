use Rattle.ddf_history_steps.proofs.Entering.{keeps_where_told}
use Rattle.ddf_history_steps.proofs.RecoveringKeeps.{may, recovery_keeps, recovery_stands}
use Rattle.ddf_history_steps.specs.Steps.{recovery_changes}
use Rattle.ddf_history_steps.proofs.laws.a_recovery_keeps_its_history.Goals as goal

pub returns-clause-keeps : goal.returns-clause-keeps
returns-clause-keeps g c = λ group past old new left named found asked timestamp ready done taken same_group kept admitted is.
    let bay = g.met.B.Bay in
    let before = g.B.Bay.disks old in
    let after = g.B.Bay.disks new in
    let can = may past before left named found asked timestamp ready taken same_group kept admitted in
    keeps_where_told group past left found (recovery_changes timestamp found) done before after (is.any_moment can.seat can.may_change).later ((bay.told new).since)
    (λ tells.
    let is_left = (bay.told old).held (is.spends.told tells) in
    record { is_left = is_left; holds_bytes = λ slot l. (bay.told old).whole slot l (before.held slot l) (is_left slot l) })
    (λ reads. recovery_keeps past before left named found asked timestamp ready taken same_group kept admitted reads after done is ((bay.told new).held))

pub returns-clause-stands : goal.returns-clause-stands
returns-clause-stands g c = λ group past old new left named found asked timestamp ready taken same_group kept admitted is tells.
    let bay = g.met.B.Bay in
    let before = g.B.Bay.disks old in
    let is_left = (bay.told old).held (is.spends.told tells) in
    recovery_stands past before left named found asked timestamp ready taken same_group kept admitted
    (record { is_left = is_left; holds_bytes = λ slot l. (bay.told old).whole slot l (before.held slot l) (is_left slot l) })
    (g.B.Bay.disks new) is ((bay.told new).held tells)
