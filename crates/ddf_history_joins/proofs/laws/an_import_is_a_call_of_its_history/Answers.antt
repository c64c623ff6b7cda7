use Rattle.std.proofs.Common.{false}
use Rattle.ddf_history_joins.specs.Joins.{import_changes}
use Rattle.ddf_history_steps.proofs.Entering.{keeps_where_told}
use Rattle.ddf_history_joins.proofs.JoinCalling.{import_call, import_fails, may}
use Rattle.ddf_history_joins.proofs.laws.an_import_is_a_call_of_its_history.Goals as goal

pub returns-clause-keeps : goal.returns-clause-keeps
returns-clause-keeps g c = λ group past old middle new left also_left named also_named native other timestamp recovery join done taken same_group kept admitted others call recovered is.
    let bay = g.met.B.Bay in
    let before = g.B.Bay.disks old in
    import_call group past before left also_left named also_named native other timestamp recovery join taken same_group kept admitted (g.B.Bay.disks middle) recovered others call
    (g.B.Bay.disks new) ((bay.told new).since) ((bay.told new).held) ((bay.told middle).held)
    (λ tells.
    let is_left = (bay.told old).held tells in
    record { is_left = is_left; holds_bytes = λ slot l. (bay.told old).whole slot l (before.held slot l) (is_left slot l) })
    done is

pub returns-clause-fails : goal.returns-clause-fails
returns-clause-fails g c = λ group past old new left also_left named also_named native other timestamp recovery join taken same_group kept admitted is.
    let bay = g.met.B.Bay in
    let before = g.B.Bay.disks old in
    let can = may group past before left also_left named also_named native other timestamp recovery join taken same_group kept admitted in
    keeps_where_told group past left native (import_changes group timestamp native join) false before (g.B.Bay.disks new) (is.any_moment can.seat can.may_change).later ((bay.told new).since)
    (λ tells.
    let is_left = (bay.told old).held (is.spends.told tells) in
    record { is_left = is_left; holds_bytes = λ slot l. (bay.told old).whole slot l (before.held slot l) (is_left slot l) })
    (λ reads. import_fails group past before left also_left named also_named native other timestamp recovery join taken same_group kept admitted (g.B.Bay.disks new) is ((bay.told new).held) reads)
