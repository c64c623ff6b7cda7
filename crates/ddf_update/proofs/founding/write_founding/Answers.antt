use Rattle.std.proofs.Common.{◌-◌, inr, arith}
use Rattle.std.specs.Prelude.{slice_index}
use Rattle.std.proofs.lemmas.Grind.{common_steps}
use Rattle.ddf_bay.specs.Moments.{IsSettled}
use Rattle.ddf_update.proofs.FoundingSteps.{founding_moments, anchor_moments, all_founded}
use Rattle.ddf_update.proofs.founding.write_founding.Goals as goal

pub returns-in_err-write_both-clause-any_moment : goal.returns-in_err-write_both-clause-any_moment
returns-in_err-write_both-clause-any_moment g c = λ tells apart both off_first off_second.
    let settled : IsSettled (g.B.Bay.disks c.sync.new.self).may_hold (g.B.Bay.disks c.sync.new.self).held c.args.slot = grind (arith, common_steps, c.sync.ensures.durable) in
    inr (founding_moments (g.B.Bay.disks c.args.bay.now) (g.B.Bay.disks c.sync.new.self) c.args.slot c.args.first.now c.args.second.now c.args.runs.now (slice_index (g.B.Bay.disks c.args.bay.now).sizes c.args.slot - 1) c.args.anchor.now
    off_first off_second c.sync.ensures.held c.sync.ensures.left
    ((g.met.B.Bay.told c.sync.new.self).only_now) settled c.sync.ensures.any_moment (g.B.Bay.disks c.write_both.new.bay) (c.write_both.ensures.any_moment tells settled apart both))

pub returns-in_err-stage-clause-any_moment : goal.returns-in_err-stage-clause-any_moment
returns-in_err-stage-clause-any_moment g c = λ tells apart both off_first off_second.
    let settled : IsSettled (g.B.Bay.disks c.sync.new.self).may_hold (g.B.Bay.disks c.sync.new.self).held c.args.slot = grind (arith, common_steps, c.sync.ensures.durable) in
    inr (anchor_moments (g.B.Bay.disks c.args.bay.now) (g.B.Bay.disks c.sync.new.self) c.args.slot c.args.first.now c.args.second.now c.args.runs.now (slice_index (g.B.Bay.disks c.args.bay.now).sizes c.args.slot - 1) c.args.anchor.now
    off_first off_second c.sync.ensures.held c.sync.ensures.left
    ((g.met.B.Bay.told c.sync.new.self).only_now) settled c.sync.ensures.any_moment (g.B.Bay.disks c.write_both.new.bay) (c.write_both.ensures.any_moment tells settled apart both)
    (g.B.Bay.disks c.stage.new.bay) (c.in_ok-write_both.ensures.copied tells apart both) (rw (c.size-last.ensures.size, c.from_ref.ensures.value) at c.stage.ensures.any_moment))

pub returns-clause-any_moment : goal.returns-clause-any_moment
returns-clause-any_moment g c = λ tells apart both off_first off_second.
    let settled : IsSettled (g.B.Bay.disks c.sync.new.self).may_hold (g.B.Bay.disks c.sync.new.self).held c.args.slot = grind (arith, common_steps, c.sync.ensures.durable) in
    inr (anchor_moments (g.B.Bay.disks c.args.bay.now) (g.B.Bay.disks c.sync.new.self) c.args.slot c.args.first.now c.args.second.now c.args.runs.now (slice_index (g.B.Bay.disks c.args.bay.now).sizes c.args.slot - 1) c.args.anchor.now
    off_first off_second c.sync.ensures.held c.sync.ensures.left
    ((g.met.B.Bay.told c.sync.new.self).only_now) settled c.sync.ensures.any_moment (g.B.Bay.disks c.write_both.new.bay) (c.write_both.ensures.any_moment tells settled apart both)
    (g.B.Bay.disks c.stage.new.bay) (c.in_ok-write_both.ensures.copied tells apart both) (rw (c.size-last.ensures.size, c.from_ref.ensures.value) at c.stage.ensures.any_moment))

pub returns-clause-founded : goal.returns-clause-founded
returns-clause-founded g c = λ tells apart both off_first off_second.
    let settled : IsSettled (g.B.Bay.disks c.sync.new.self).may_hold (g.B.Bay.disks c.sync.new.self).held c.args.slot = grind (arith, common_steps, c.sync.ensures.durable) in
    all_founded (g.B.Bay.disks c.args.bay.now) (g.B.Bay.disks c.sync.new.self) c.args.slot c.args.first.now c.args.second.now c.args.runs.now (slice_index (g.B.Bay.disks c.args.bay.now).sizes c.args.slot - 1) c.args.anchor.now
    off_first off_second c.sync.ensures.held c.sync.ensures.left
    ((g.met.B.Bay.told c.sync.new.self).only_now) settled c.sync.ensures.any_moment (g.B.Bay.disks c.write_both.new.bay) (c.write_both.ensures.any_moment tells settled apart both)
    (g.B.Bay.disks c.stage.new.bay) (c.in_ok-write_both.ensures.copied tells apart both) (rw (c.size-last.ensures.size, c.from_ref.ensures.value) at (c.in_ok-stage.ensures.staged tells))
