use Rattle.ddf_joining.specs.Joining.{join_disks}
use Rattle.ddf_seats.specs.Seated.{seated}
use Rattle.ddf_steps.specs.Trying.{Follows}
use Rattle.ddf_joining.proofs.ImportAnswers.{early_cause, early_seats, finished_follows, finished_none, finished_readied, finished_recovers, refused_join, refused_recovery}
use Rattle.ddf_steps.proofs.Refused.{fault_passed}
use Rattle.ddf_joining.proofs.importing.import_of.Goals as goal

pub returns-in_err-recovery-clause-readied : goal.returns-in_err-recovery-clause-readied
returns-in_err-recovery-clause-readied c =
    refused_recovery c.args.timestamp c.args.both.now.group.now c.args.both.now.other.now c.requires.early c.in_err-recovery.field-0.0 c.in_err-recovery.ensures.recovered _
    (fault_passed c.in_err-recovery.field-0.0 c.from_residual.result c.from_residual.ensures.1)

pub step_behind-requires-clause-some_disks : goal.step_behind-requires-clause-some_disks
step_behind-requires-clause-some_disks c = early_seats c.args.timestamp c.args.both.now.group.now c.args.both.now.other.now c.requires.early

pub step_behind-requires-clause-cause : goal.step_behind-requires-clause-cause
step_behind-requires-clause-cause c = early_cause c.args.timestamp c.args.both.now.group.now c.args.both.now.other.now c.requires.early

pub returns-in_err-step-clause-readied : goal.returns-in_err-step-clause-readied
returns-in_err-step-clause-readied c =
    refused_join c.args.timestamp c.args.both.now.group.now c.args.both.now.other.now c.requires.early c.in_ok-recovery.ensures.recovered.0 c.in_err-step.field-0.0 c.in_err-step.ensures.made _
    (fault_passed c.in_err-step.field-0.0 c.from_residual-in_err-step.result c.from_residual-in_err-step.ensures.1)

pub returns-clause-readied : goal.returns-clause-readied
returns-clause-readied c =
    finished_readied c.args.timestamp c.args.both.now.group.now c.args.both.now.other.now c.requires.early c.in_ok-recovery.ensures.recovered.0 c.in_ok-step.ensures.made.0 c.in_ok-step.step c.in_ok-step.ensures.made.1
    c.in_ok-recovery.recovery c.in_ok-recovery.ensures.recovered.1 c.finished.result c.finished.ensures

pub returns-clause-recovers : goal.returns-clause-recovers
returns-clause-recovers c =
    finished_recovers _ c.args.both.now.other.now.seats c.in_ok-recovery.recovery c.in_ok-step.step (Follows (seated c.args.both.now.group.now)) c.finished.result c.finished.ensures c.in_ok-recovery.ensures.follows

pub returns-clause-none_behind : goal.returns-clause-none_behind
returns-clause-none_behind c = finished_none _ c.args.both.now.other.now.seats c.in_ok-recovery.recovery c.in_ok-step.step c.finished.result c.finished.ensures

pub returns-clause-follows : goal.returns-clause-follows
returns-clause-follows c =
    finished_follows _ c.args.both.now.other.now.seats c.in_ok-recovery.recovery c.in_ok-step.step (Follows (join_disks c.args.timestamp c.args.both.now.group.now c.args.both.now.other.now)) c.finished.result c.finished.ensures c.in_ok-step.ensures.follows
