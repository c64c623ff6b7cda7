use Rattle.std.proofs.Common.{◌∙◌, ap, refl}
use Rattle.std.proofs.lemmas.Result.{err_from_is_err_and}
use Rattle.ddf_recovery.specs.Recovery.{config_recovered}
use Rattle.ddf_text.specs.GroupText.{group_text}
use Rattle.ddf_group_commands.proofs.ToldGroup.{told_changed, told_not}
use Rattle.ddf_group_commands.proofs.Outcomes.{has_changed, memory_spent, none_read, read_still}
use Rattle.ddf_group_commands.proofs.assembling.assembled.Goals as goal

pub returns-in_err-group-clause-told : goal.returns-in_err-group-clause-told
returns-in_err-group-clause-told g c =
    let failed = err_from_is_err_and c.from_residual.result c.from_residual.ensures.1 in
    rw (failed.1, failed.2) (told_not refl (none_read _ _ _ _ _ c.in_err-group.ensures.read c.read_group.ensures.reads))

pub returns-in_err-loss-clause-told : goal.returns-in_err-loss-clause-told
returns-in_err-loss-clause-told g c =
    let failed = err_from_is_err_and c.from_residual-in_err-loss.result c.from_residual-in_err-loss.ensures.1 in
    rw (failed.1, failed.2) (told_not refl (memory_spent _ _ _ _ _ c.in_ok-group.ensures.read c.read_group.ensures.reads))

pub returns-in_err-text-clause-told : goal.returns-in_err-text-clause-told
returns-in_err-text-clause-told g c =
    let failed = err_from_is_err_and c.from_residual-in_err-text.result c.from_residual-in_err-text.ensures.1 in
    rw (failed.1, failed.2) (told_not refl (memory_spent _ _ _ _ _ c.in_ok-group.ensures.read c.read_group.ensures.reads))

pub write_changes-requires-clause-from : goal.write_changes-requires-clause-from
write_changes-requires-clause-from g c =
    read_still (g.B.Bay.disks c.args.bay.now) (g.B.Bay.disks c.read_group.new.bay) c.read_group.ensures.reads.same_sizes c.read_group.ensures.reads.same_held g.B.Bay.tells c.in_ok-group.group c.in_ok-group.ensures.from

pub returns-in_err-write_changes-clause-told : goal.returns-in_err-write_changes-clause-told
returns-in_err-write_changes-clause-told g c =
    let failed = err_from_is_err_and c.from_residual-in_err-write_changes.result c.from_residual-in_err-write_changes.ensures.1 in
    let read = c.read_group.ensures in
    let written = c.write_changes.ensures in
    rw (failed.1, failed.2)
    (told_not c.in_err-write_changes.was (has_changed _ _ _ _ read.reads read.reads_rise read.writes_rise _ _ _ _ _ _ c.in_ok-group.ensures.read refl (record {
      changed = rw c.timestamp.ensures at written.changed;
      beside = written.beside;
      leaves = rw c.timestamp.ensures at written.leaves;
      keeps = rw c.timestamp.ensures at written.keeps;
      same_reads = written.reads;
      calls = written.calls;
      costs = rw c.timestamp.ensures at written.costs;
      writes_rise = written.writes_rise;
      unfailed = written.unfailed;
    })))

pub returns-clause-told : goal.returns-clause-told
returns-clause-told g c =
    let read = c.read_group.ensures in
    let written = c.write_changes.ensures in
    let text = c.in_ok-text.ensures ∙ ap (λ config. group_text config c.seats.result.now) c.recovered.ensures ∙ ap (group_text (config_recovered c.in_ok-group.group)) c.seats.ensures in
    told_changed _ _ _ _ read.reads read.reads_rise read.writes_rise _ _ _ _ _ _ c.in_ok-group.ensures.read (record {
      changed = rw c.timestamp.ensures at written.changed;
      beside = written.beside;
      leaves = rw c.timestamp.ensures at written.leaves;
      keeps = rw c.timestamp.ensures at written.keeps;
      same_reads = written.reads;
      calls = written.calls;
      costs = rw c.timestamp.ensures at written.costs;
      writes_rise = written.writes_rise;
      unfailed = written.unfailed;
    }) c.in_ok-write_changes.was text
