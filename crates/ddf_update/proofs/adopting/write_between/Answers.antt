use Rattle.ddf_update.proofs.AdoptingSteps.{adopting_moments, adoption_made, all_keeps, all_stays, first_moments, turn_moments, turned_keeps, turned_stays}
use Rattle.ddf_update.proofs.adopting.write_between.Goals as goal

pub returns-in_err-stage-clause-held : goal.returns-in_err-stage-clause-held
returns-in_err-stage-clause-held g c = λ tells.
    turned_stays c.args.first.now c.args.second.now c.args.runs.now c.args.last c.args.slot (g.B.Bay.disks c.args.bay.now).held (g.B.Bay.disks c.write_copy.new.bay).held (g.B.Bay.disks c.stage.new.bay).held c.args.anchor.now
    (c.write_copy.ensures.held tells) (rw c.from_ref.ensures.value at (c.stage.ensures.held tells))

pub returns-in_err-write_copy-2-clause-held : goal.returns-in_err-write_copy-2-clause-held
returns-in_err-write_copy-2-clause-held g c = λ tells.
    all_stays c.args.first.now c.args.second.now c.args.runs.now c.args.last c.args.slot (g.B.Bay.disks c.args.bay.now).held (g.B.Bay.disks c.write_copy.new.bay).held (g.B.Bay.disks c.stage.new.bay).held c.args.anchor.now
    (c.write_copy.ensures.held tells) (rw c.from_ref.ensures.value at (c.stage.ensures.held tells)) (g.B.Bay.disks c.write_copy-2.new.bay).held (c.write_copy-2.ensures.held tells)

pub returns-clause-held : goal.returns-clause-held
returns-clause-held g c = λ tells.
    all_stays c.args.first.now c.args.second.now c.args.runs.now c.args.last c.args.slot (g.B.Bay.disks c.args.bay.now).held (g.B.Bay.disks c.write_copy.new.bay).held (g.B.Bay.disks c.stage.new.bay).held c.args.anchor.now
    (c.write_copy.ensures.held tells) (rw c.from_ref.ensures.value at (c.stage.ensures.held tells)) (g.B.Bay.disks c.write_copy-2.new.bay).held (c.write_copy-2.ensures.held tells)

pub returns-in_err-stage-clause-left : goal.returns-in_err-stage-clause-left
returns-in_err-stage-clause-left g c =
    turned_keeps c.args.first.now c.args.second.now c.args.runs.now c.args.last c.args.slot (g.B.Bay.disks c.args.bay.now).may_hold (g.B.Bay.disks c.write_copy.new.bay).may_hold (g.B.Bay.disks c.stage.new.bay).may_hold c.args.anchor.now
    c.write_copy.ensures.left (rw c.from_ref.ensures.value at c.stage.ensures.left)

pub returns-in_err-write_copy-2-clause-left : goal.returns-in_err-write_copy-2-clause-left
returns-in_err-write_copy-2-clause-left g c =
    all_keeps c.args.first.now c.args.second.now c.args.runs.now c.args.last c.args.slot (g.B.Bay.disks c.args.bay.now).may_hold (g.B.Bay.disks c.write_copy.new.bay).may_hold (g.B.Bay.disks c.stage.new.bay).may_hold c.args.anchor.now
    c.write_copy.ensures.left (rw c.from_ref.ensures.value at c.stage.ensures.left) (g.B.Bay.disks c.write_copy-2.new.bay).may_hold c.write_copy-2.ensures.left

pub returns-clause-left : goal.returns-clause-left
returns-clause-left g c =
    all_keeps c.args.first.now c.args.second.now c.args.runs.now c.args.last c.args.slot (g.B.Bay.disks c.args.bay.now).may_hold (g.B.Bay.disks c.write_copy.new.bay).may_hold (g.B.Bay.disks c.stage.new.bay).may_hold c.args.anchor.now
    c.write_copy.ensures.left (rw c.from_ref.ensures.value at c.stage.ensures.left) (g.B.Bay.disks c.write_copy-2.new.bay).may_hold c.write_copy-2.ensures.left

pub returns-in_err-write_copy-clause-any_moment : goal.returns-in_err-write_copy-clause-any_moment
returns-in_err-write_copy-clause-any_moment g c = λ tells settled apart both off_first off_second.
    first_moments (g.B.Bay.disks c.args.bay.now) (g.B.Bay.disks c.write_copy.new.bay) c.args.slot c.args.first.now c.args.second.now c.args.runs.now c.args.last c.args.anchor.now apart both off_first off_second
    settled (c.write_copy.ensures.any_moment tells apart)

pub returns-in_err-stage-clause-any_moment : goal.returns-in_err-stage-clause-any_moment
returns-in_err-stage-clause-any_moment g c = λ tells settled apart both off_first off_second.
    turn_moments (g.B.Bay.disks c.args.bay.now) (g.B.Bay.disks c.write_copy.new.bay) c.args.slot c.args.first.now c.args.second.now c.args.runs.now c.args.last c.args.anchor.now apart both off_first off_second
    settled (c.in_ok-write_copy.ensures.copied tells apart) (g.B.Bay.disks c.stage.new.bay) (rw c.from_ref.ensures.value at c.stage.ensures.any_moment)

pub returns-in_err-write_copy-2-clause-any_moment : goal.returns-in_err-write_copy-2-clause-any_moment
returns-in_err-write_copy-2-clause-any_moment g c = λ tells settled apart both off_first off_second.
    adopting_moments (g.B.Bay.disks c.args.bay.now) (g.B.Bay.disks c.write_copy.new.bay) c.args.slot c.args.first.now c.args.second.now c.args.runs.now c.args.last c.args.anchor.now apart both off_first off_second
    settled (c.in_ok-write_copy.ensures.copied tells apart) (g.B.Bay.disks c.stage.new.bay) (rw c.from_ref.ensures.value at (c.in_ok-stage.ensures.staged tells))
    (g.B.Bay.disks c.write_copy-2.new.bay) (c.write_copy-2.ensures.any_moment tells apart)

pub returns-clause-any_moment : goal.returns-clause-any_moment
returns-clause-any_moment g c = λ tells settled apart both off_first off_second.
    adopting_moments (g.B.Bay.disks c.args.bay.now) (g.B.Bay.disks c.write_copy.new.bay) c.args.slot c.args.first.now c.args.second.now c.args.runs.now c.args.last c.args.anchor.now apart both off_first off_second
    settled (c.in_ok-write_copy.ensures.copied tells apart) (g.B.Bay.disks c.stage.new.bay) (rw c.from_ref.ensures.value at (c.in_ok-stage.ensures.staged tells))
    (g.B.Bay.disks c.write_copy-2.new.bay) (c.write_copy-2.ensures.any_moment tells apart)

pub returns-clause-made : goal.returns-clause-made
returns-clause-made g c = λ tells apart both off_first off_second.
    adoption_made (g.B.Bay.disks c.args.bay.now) (g.B.Bay.disks c.write_copy.new.bay) c.args.slot c.args.first.now c.args.second.now c.args.runs.now c.args.last c.args.anchor.now apart both off_first off_second
    (g.B.Bay.disks c.stage.new.bay) (g.B.Bay.disks c.write_copy-2.new.bay) (c.in_ok-write_copy.ensures.copied tells apart) (rw c.from_ref.ensures.value at (c.in_ok-stage.ensures.staged tells)) (c.in_ok-write_copy-2.ensures.copied tells apart)
