use Rattle.std.proofs.Common.{◌-◌, inr, arith}
use Rattle.std.specs.Prelude.{slice_index}
use Rattle.std.proofs.lemmas.Grind.{common_steps}
use Rattle.ddf_bay.specs.Moments.{IsSettled}
use Rattle.ddf_update.proofs.AdoptingSteps.{adoption_moments, adoption_written}
use Rattle.ddf_update.proofs.adopting.write_adoption.Goals as goal

pub returns-in_err-write_between-clause-any_moment : goal.returns-in_err-write_between-clause-any_moment
returns-in_err-write_between-clause-any_moment g c = λ tells apart both off_first off_second.
    let settled : IsSettled (g.B.Bay.disks c.sync.new.self).may_hold (g.B.Bay.disks c.sync.new.self).held c.args.slot = grind (arith, common_steps, c.sync.ensures.durable) in
    inr (adoption_moments (g.B.Bay.disks c.args.bay.now) (g.B.Bay.disks c.sync.new.self) c.args.slot c.args.first.now c.args.second.now c.args.runs.now (slice_index (g.B.Bay.disks c.args.bay.now).sizes c.args.slot - 1) c.args.anchor.now
    c.sync.ensures.held c.sync.ensures.left ((g.met.B.Bay.told c.sync.new.self).only_now) settled c.sync.ensures.any_moment apart both off_first off_second
    (g.B.Bay.disks c.write_between.new.bay) ((rw c.size-last.ensures.size at c.write_between.ensures.any_moment) tells settled apart both off_first off_second))

pub returns-clause-any_moment : goal.returns-clause-any_moment
returns-clause-any_moment g c = λ tells apart both off_first off_second.
    let settled : IsSettled (g.B.Bay.disks c.sync.new.self).may_hold (g.B.Bay.disks c.sync.new.self).held c.args.slot = grind (arith, common_steps, c.sync.ensures.durable) in
    inr (adoption_moments (g.B.Bay.disks c.args.bay.now) (g.B.Bay.disks c.sync.new.self) c.args.slot c.args.first.now c.args.second.now c.args.runs.now (slice_index (g.B.Bay.disks c.args.bay.now).sizes c.args.slot - 1) c.args.anchor.now
    c.sync.ensures.held c.sync.ensures.left ((g.met.B.Bay.told c.sync.new.self).only_now) settled c.sync.ensures.any_moment apart both off_first off_second
    (g.B.Bay.disks c.write_between.new.bay) ((rw c.size-last.ensures.size at c.write_between.ensures.any_moment) tells settled apart both off_first off_second))

pub returns-clause-adopted : goal.returns-clause-adopted
returns-clause-adopted g c = λ tells apart both off_first off_second.
    let settled : IsSettled (g.B.Bay.disks c.sync.new.self).may_hold (g.B.Bay.disks c.sync.new.self).held c.args.slot = grind (arith, common_steps, c.sync.ensures.durable) in
    adoption_written (g.B.Bay.disks c.args.bay.now) (g.B.Bay.disks c.sync.new.self) c.args.slot c.args.first.now c.args.second.now c.args.runs.now (slice_index (g.B.Bay.disks c.args.bay.now).sizes c.args.slot - 1) c.args.anchor.now
    c.sync.ensures.held c.sync.ensures.left ((g.met.B.Bay.told c.sync.new.self).only_now) settled c.sync.ensures.any_moment apart both off_first off_second
    (g.B.Bay.disks c.write_between.new.bay) ((rw c.size-last.ensures.size at c.write_between.ensures.any_moment) tells settled apart both off_first off_second)
    ((rw c.size-last.ensures.size at c.in_ok-write_between.ensures.made) tells apart both off_first off_second)
