use Rattle.ddf_history_joins.specs.Joins.{import_changes}
use Rattle.ddf_history_joins.proofs.JoinCalling.{import_call}
use Rattle.ddf_history_behind.proofs.Importing.{import_call_near, near_where_told}
use Rattle.ddf_history_behind.proofs.Joining.{import_near}
use Rattle.ddf_history_behind.proofs.laws.an_import_leaves_no_disk_far_behind.Goals as goal

pub returns-clause-joins : goal.returns-clause-joins
returns-clause-joins g c = λ group past old new timestamp native other recovery join done stands is.
    let bay = g.met.B.Bay in
    import_near group past (g.B.Bay.disks old) timestamp native other recovery join stands (g.B.Bay.disks new) done is ((bay.told new).held)

pub returns-clause-imports : goal.returns-clause-imports
returns-clause-imports g c = λ group past old middle new left also_left named also_named native other timestamp recovery join done taken same_group kept admitted others call near recovered is.
    let bay = g.met.B.Bay in
    let before = g.B.Bay.disks old in
    let between = g.B.Bay.disks middle in
    let after = g.B.Bay.disks new in
    let plain = import_call group past before left also_left named also_named native other timestamp recovery join taken same_group kept admitted between recovered others call
    after ((bay.told new).since) ((bay.told new).held) ((bay.told middle).held)
    (λ tells.
    let is_left = (bay.told old).held tells in
    record { is_left = is_left; holds_bytes = λ slot l. (bay.told old).whole slot l (before.held slot l) (is_left slot l) })
    done is in
    near_where_told group past left native (import_changes group timestamp native join) done before after plain.any_moment.later ((bay.told new).since)
    (λ tells.
    let mid = is.spends.told tells in
    let is_left = (bay.told old).held (recovered.spends.told mid) in
    import_call_near group past before left also_left named also_named native other timestamp recovery join taken same_group kept admitted near between recovered others call
    (record { is_left = is_left; holds_bytes = λ slot l. (bay.told old).whole slot l (before.held slot l) (is_left slot l) }) ((bay.told middle).held mid)
    after done is ((bay.told new).held) ((bay.told middle).held))
