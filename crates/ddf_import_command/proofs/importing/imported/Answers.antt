use Rattle.std.proofs.Common.{◌≡◌, ◌∙◌, ℕ, ap, arith}
use Rattle.std.proofs.lemmas.Result.{err_from_is_err_and}
use Rattle.ddf_bay.proofs.Looks.{reads_then}
use Rattle.ddf_group_commands.proofs.Outcomes.{read_still}
use Rattle.ddf_import_command.proofs.Both.{Rises, has_imported, none_first, none_second}
use Rattle.ddf_import_command.proofs.importing.imported.Goals as goal

pub returns-in_err-native-clause-imported : goal.returns-in_err-native-clause-imported
returns-in_err-native-clause-imported g c =
    let failed = err_from_is_err_and c.from_residual.result c.from_residual.ensures.1 in
    let read = c.read_with_left_out.ensures in
    rw (failed.1, failed.2) (none_first _ _ _ _ _ _ _ (record { reads = read.reads_rise; writes = read.writes_rise }) read.reads c.in_err-native.ensures.read.read)

pub returns-in_err-joining-clause-imported : goal.returns-in_err-joining-clause-imported
returns-in_err-joining-clause-imported g c =
    let failed = err_from_is_err_and c.from_residual-in_err-joining.result c.from_residual-in_err-joining.ensures.1 in
    let read = c.read_with_left_out.ensures in
    let also = c.read_with_left_out-2.ensures in
    let whole : Rises (g.B.Bay.disks c.args.bay.now) (g.B.Bay.disks c.read_with_left_out-2.new.bay) = record {
      reads = λ slot. omega (arith, read.reads_rise slot, also.reads_rise slot);
      writes = λ slot. omega (arith, read.writes_rise slot, also.writes_rise slot);
    } in
    rw (failed.1, failed.2)
    (none_second _ _ _ _ _ _ _ (record { reads = read.reads_rise; writes = read.writes_rise }) read.reads c.in_ok-native.ensures.read.read _ _
    (record { reads = also.reads_rise; writes = also.writes_rise }) whole also.reads c.in_err-joining.ensures.read.read)

pub write_import-requires-clause-from : goal.write_import-requires-clause-from
write_import-requires-clause-from g c =
    let old = g.B.Bay.disks c.args.bay.now in
    let middle = g.B.Bay.disks c.read_with_left_out-2.new.bay in
    let reads = reads_then c.read_with_left_out.ensures.reads c.read_with_left_out-2.ensures.reads in
    read_still old middle reads.same_sizes reads.same_held g.B.Bay.tells c.in_ok-native.native.group c.in_ok-native.ensures.from

pub write_import-requires-clause-also : goal.write_import-requires-clause-also
write_import-requires-clause-also g c =
    let reads = c.read_with_left_out-2.ensures.reads in
    read_still (g.B.Bay.disks c.read_with_left_out.new.bay) (g.B.Bay.disks c.read_with_left_out-2.new.bay) reads.same_sizes reads.same_held g.B.Bay.tells c.in_ok-joining.joining.group c.in_ok-joining.ensures.from

pub returns-clause-imported : goal.returns-clause-imported
returns-clause-imported g c =
    let old = g.B.Bay.disks c.args.bay.now in
    let first = g.B.Bay.disks c.read_with_left_out.new.bay in
    let middle = g.B.Bay.disks c.read_with_left_out-2.new.bay in
    let new = g.B.Bay.disks c.write_import.new.bay in
    let read = c.read_with_left_out.ensures in
    let also = c.read_with_left_out-2.ensures in
    let written = c.write_import.ensures in
    let same : (slot : ℕ) → new.failed_reads slot ≡ middle.failed_reads slot = λ slot. ap (λ (counts : ℕ → ℕ). counts slot) written.reads in
    let whole : Rises old middle = record {
      reads = λ slot. omega (arith, read.reads_rise slot, also.reads_rise slot);
      writes = λ slot. omega (arith, read.writes_rise slot, also.writes_rise slot);
    } in
    let later : Rises middle new = record { reads = λ slot. omega (arith, same slot); writes = written.writes_rise } in
    let since : Rises first new = record {
      reads = λ slot. omega (arith, also.reads_rise slot, same slot);
      writes = λ slot. omega (arith, also.writes_rise slot, written.writes_rise slot);
    } in
    has_imported _ old _ _ _ first _ (record { reads = read.reads_rise; writes = read.writes_rise }) read.reads c.in_ok-native.ensures.read.read middle _
    (record { reads = also.reads_rise; writes = also.writes_rise }) also.reads whole c.in_ok-joining.ensures.read.read
    _ _ (c.items.ensures ∙ c.in_ok-native.ensures.read.left_out) c.in_ok-joining.ensures.read.left_out new _ later since same written.unfailed written.calls written.imported written.keeps written.leaves
