use Rattle.std.proofs.Common.{◌≡◌, ◌∙◌, ◌++◌, Bool, List, ap, subst, sym}
use Rattle.std.proofs.lemmas.Result.{on_ok_weaker}
use Rattle.std.specs.Prelude.{is_ok}
use Rattle.ddf_recovery.specs.Ready.{ReadyValue}
use Rattle.ddf_steps.specs.Steps.{Step}
use Rattle.ddf_bay.specs.Told.{IsTold}
use Rattle.ddf_rebuild_command.specs.Opened.{GoesOpening, IsOpened, steps_before}
use Rattle.ddf_rebuild_command.specs.Standing.{next_if, next_in, recovery_in}
use Rattle.ddf_rebuild_command.proofs.Costs.{alone_asks, first_behind}
use Rattle.ddf_rebuild_command.proofs.Further.{goes_before, goes_further, opened_further}
use Rattle.ddf_rebuild_command.proofs.stepping.open_position.Goals as goal

pub returns-in_err-recover_group-clause-goes : goal.returns-in_err-recover_group-clause-goes
returns-in_err-recover_group-clause-goes g c =
    goes_before g.B.Bay.tells (g.B.Bay.disks c.args.bay.now) (g.B.Bay.disks c.recover_group.new.bay) c.args.group.now (recovery_in c.args.ready.now.recovery) c.recover_group.ensures.goes
    (next_if c.args.begins c.args.ready.now.steps)

pub returns-then-begins-clause-goes : goal.returns-then-begins-clause-goes
returns-then-begins-clause-goes g c =
    let old = g.B.Bay.disks c.args.bay.now in
    let middle = g.B.Bay.disks c.recover_group.new.bay in
    let new = g.B.Bay.disks c.write_step.new.bay in
    let ready = c.args.ready.now in
    let first = recovery_in ready.recovery in
    let same : first ++ next_in c.recover_group.new.ready.steps ≡ steps_before c.args.begins ready =
    ap (λ (one : ReadyValue). first ++ next_in one.steps) c.recover_group.ensures.left ∙ ap (λ (b : Bool). first ++ next_if b ready.steps) (sym c.if-begins.true) in
    let tells_new : IsTold (g.B.Bay.disks c.write_step.new.bay) = g.met.B.Bay.told c.write_step.new.bay in
    subst (λ (steps : List Step). GoesOpening g.B.Bay.tells old new c.args.group.now steps) same
    (goes_further g.B.Bay.tells old middle new tells_new c.args.group.now c.recover_group.new.group c.recover_group.new.ready first c.recover_group.ensures.goes c.in_ok-recover_group.ensures.opened
    (is_ok c.write_step.result) c.write_step.ensures.goes)

pub returns-then-begins-clause-opened : goal.returns-then-begins-clause-opened
returns-then-begins-clause-opened g c =
    let old = g.B.Bay.disks c.args.bay.now in
    let middle = g.B.Bay.disks c.recover_group.new.bay in
    let new = g.B.Bay.disks c.write_step.new.bay in
    let ready = c.args.ready.now in
    let first = recovery_in ready.recovery in
    let same : first ++ next_in c.recover_group.new.ready.steps ≡ steps_before c.args.begins ready =
    ap (λ (one : ReadyValue). first ++ next_in one.steps) c.recover_group.ensures.left ∙ ap (λ (b : Bool). first ++ next_if b ready.steps) (sym c.if-begins.true) in
    let tells_new : IsTold (g.B.Bay.disks c.write_step.new.bay) = g.met.B.Bay.told c.write_step.new.bay in
    on_ok_weaker c.write_step.result
    (λ written. subst (λ (steps : List Step). IsOpened g.B.Bay.tells old new c.args.group.now steps c.write_step.new.group c.write_step.new.ready) same
    (opened_further g.B.Bay.tells old middle new tells_new c.args.group.now c.recover_group.new.group c.recover_group.new.ready first c.recover_group.ensures.goes c.in_ok-recover_group.ensures.opened
    (is_ok c.write_step.result) c.write_step.ensures.goes c.write_step.new.group c.write_step.new.ready written))
    c.write_step.ensures.written

pub returns-in_err-recover_group-clause-asks : goal.returns-in_err-recover_group-clause-asks
returns-in_err-recover_group-clause-asks g c = alone_asks c.args.begins c.args.ready.now c.recover_group.ensures.asks

pub returns-then-begins-clause-asks : goal.returns-then-begins-clause-asks
returns-then-begins-clause-asks g c =
    first_behind c.args.begins c.if-begins.true c.args.ready.now c.recover_group.new.ready c.recover_group.ensures.left c.recover_group.ensures.asks c.write_step.ensures.asks

pub returns-else-begins-clause-asks : goal.returns-else-begins-clause-asks
returns-else-begins-clause-asks g c = alone_asks c.args.begins c.args.ready.now c.recover_group.ensures.asks

pub returns-then-begins-clause-unfailed : goal.returns-then-begins-clause-unfailed
returns-then-begins-clause-unfailed g c = on_ok_weaker c.write_step.result (λ same. same ∙ c.in_ok-recover_group.ensures.unfailed) c.write_step.ensures.unfailed
