use Rattle.ddf_bay.proofs.Steps.{stops_weaken}
use Rattle.ddf_update.proofs.BothSteps.{both_moments, both_copied, first_image}
use Rattle.ddf_update.proofs.both.write_both.Goals as goal

pub returns-in_err-write_copy-clause-any_moment : goal.returns-in_err-write_copy-clause-any_moment
returns-in_err-write_copy-clause-any_moment g c = λ tells settled apart both.
    let disks = g.B.Bay.disks c.args.bay.now in
    stops_weaken (c.write_copy.ensures.any_moment tells apart)
    (λ image gated. first_image disks.may_hold disks.held c.args.slot c.args.first.now c.args.second.now c.args.runs.now image both settled gated)

pub returns-in_err-write_copy-2-clause-any_moment : goal.returns-in_err-write_copy-2-clause-any_moment
returns-in_err-write_copy-2-clause-any_moment g c = λ tells settled apart both.
    both_moments (g.B.Bay.disks c.args.bay.now) (g.B.Bay.disks c.write_copy.new.bay) (g.B.Bay.disks c.write_copy-2.new.bay) c.args.slot c.args.first.now c.args.second.now c.args.runs.now apart both
    (c.in_ok-write_copy.ensures.copied tells apart) settled (c.write_copy-2.ensures.any_moment tells apart)

pub returns-clause-any_moment : goal.returns-clause-any_moment
returns-clause-any_moment g c = λ tells settled apart both.
    both_moments (g.B.Bay.disks c.args.bay.now) (g.B.Bay.disks c.write_copy.new.bay) (g.B.Bay.disks c.write_copy-2.new.bay) c.args.slot c.args.first.now c.args.second.now c.args.runs.now apart both
    (c.in_ok-write_copy.ensures.copied tells apart) settled (c.write_copy-2.ensures.any_moment tells apart)

pub returns-clause-copied : goal.returns-clause-copied
returns-clause-copied g c = λ tells apart both.
    both_copied (g.B.Bay.disks c.args.bay.now) (g.B.Bay.disks c.write_copy.new.bay) (g.B.Bay.disks c.write_copy-2.new.bay) c.args.slot c.args.first.now c.args.second.now c.args.runs.now apart both
    (c.in_ok-write_copy.ensures.copied tells apart) (c.in_ok-write_copy-2.ensures.copied tells apart)
