use Rattle.ddf_update.proofs.GateSteps.{two_stay, three_stay, two_keep, three_keep, filled_moments, gated, copied}
use Rattle.ddf_update.proofs.copy.write_copy.Goals as goal

pub returns-in_err-stage_runs-clause-held : goal.returns-in_err-stage_runs-clause-held
returns-in_err-stage_runs-clause-held g c = λ tells.
    two_stay (g.B.Bay.disks c.args.bay.now).held (g.B.Bay.disks c.stage.new.bay).held (g.B.Bay.disks c.stage_runs.new.bay).held c.args.slot c.args.gate.now c.args.runs.now _
    (rw c.from_ref.ensures.value at (c.stage.ensures.held tells)) (c.stage_runs.ensures.held tells)

pub returns-in_err-stage-2-clause-held : goal.returns-in_err-stage-2-clause-held
returns-in_err-stage-2-clause-held g c = λ tells.
    three_stay (g.B.Bay.disks c.args.bay.now).held (g.B.Bay.disks c.stage.new.bay).held (g.B.Bay.disks c.stage_runs.new.bay).held c.args.slot c.args.gate.now c.args.runs.now _
    (rw c.from_ref.ensures.value at (c.stage.ensures.held tells)) (c.stage_runs.ensures.held tells)
    (g.B.Bay.disks c.stage-2.new.bay).held _ (rw c.from_ref-2.ensures.value at (c.stage-2.ensures.held tells))

pub returns-clause-held : goal.returns-clause-held
returns-clause-held g c = λ tells.
    three_stay (g.B.Bay.disks c.args.bay.now).held (g.B.Bay.disks c.stage.new.bay).held (g.B.Bay.disks c.stage_runs.new.bay).held c.args.slot c.args.gate.now c.args.runs.now _
    (rw c.from_ref.ensures.value at (c.stage.ensures.held tells)) (c.stage_runs.ensures.held tells)
    (g.B.Bay.disks c.stage-2.new.bay).held _ (rw c.from_ref-2.ensures.value at (c.stage-2.ensures.held tells))

pub returns-in_err-stage_runs-clause-left : goal.returns-in_err-stage_runs-clause-left
returns-in_err-stage_runs-clause-left g c =
    two_keep (g.B.Bay.disks c.args.bay.now).may_hold (g.B.Bay.disks c.stage.new.bay).may_hold (g.B.Bay.disks c.stage_runs.new.bay).may_hold c.args.slot c.args.gate.now c.args.runs.now _
    (rw c.from_ref.ensures.value at c.stage.ensures.left) c.stage_runs.ensures.left

pub returns-in_err-stage-2-clause-left : goal.returns-in_err-stage-2-clause-left
returns-in_err-stage-2-clause-left g c =
    three_keep (g.B.Bay.disks c.args.bay.now).may_hold (g.B.Bay.disks c.stage.new.bay).may_hold (g.B.Bay.disks c.stage_runs.new.bay).may_hold c.args.slot c.args.gate.now c.args.runs.now _
    (rw c.from_ref.ensures.value at c.stage.ensures.left) c.stage_runs.ensures.left
    (g.B.Bay.disks c.stage-2.new.bay).may_hold _ (rw c.from_ref-2.ensures.value at c.stage-2.ensures.left)

pub returns-clause-left : goal.returns-clause-left
returns-clause-left g c =
    three_keep (g.B.Bay.disks c.args.bay.now).may_hold (g.B.Bay.disks c.stage.new.bay).may_hold (g.B.Bay.disks c.stage_runs.new.bay).may_hold c.args.slot c.args.gate.now c.args.runs.now _
    (rw c.from_ref.ensures.value at c.stage.ensures.left) c.stage_runs.ensures.left
    (g.B.Bay.disks c.stage-2.new.bay).may_hold _ (rw c.from_ref-2.ensures.value at c.stage-2.ensures.left)

pub returns-in_err-stage_runs-clause-any_moment : goal.returns-in_err-stage_runs-clause-any_moment
returns-in_err-stage_runs-clause-any_moment g c = λ tells apart.
    filled_moments apart (rw c.from_ref.ensures.value at (c.in_ok-stage.ensures.staged tells)) c.stage_runs.ensures.any_moment

pub returns-in_err-stage-2-clause-any_moment : goal.returns-in_err-stage-2-clause-any_moment
returns-in_err-stage-2-clause-any_moment g c = λ tells apart.
    gated apart (rw c.from_ref.ensures.value at (c.in_ok-stage.ensures.staged tells)) (c.in_ok-stage_runs.ensures.staged tells) (rw c.from_ref-2.ensures.value at c.stage-2.ensures.any_moment)

pub returns-clause-any_moment : goal.returns-clause-any_moment
returns-clause-any_moment g c = λ tells apart.
    gated apart (rw c.from_ref.ensures.value at (c.in_ok-stage.ensures.staged tells)) (c.in_ok-stage_runs.ensures.staged tells) (rw c.from_ref-2.ensures.value at c.stage-2.ensures.any_moment)

pub returns-clause-copied : goal.returns-clause-copied
returns-clause-copied g c = λ tells apart.
    copied apart (rw c.from_ref.ensures.value at (c.in_ok-stage.ensures.staged tells)) (c.in_ok-stage_runs.ensures.staged tells) (rw c.from_ref-2.ensures.value at (c.in_ok-stage-2.ensures.staged tells))
