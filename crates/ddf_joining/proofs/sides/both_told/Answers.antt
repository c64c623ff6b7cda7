use Rattle.std.proofs.Common.{◌++◌, List, Result, Ok, Err, subst}
use Rattle.std.specs.Prelude.{IfOk}
use Rattle.ddf_tables.specs.declared.arrays.ArrayRow.{ArrayRow}
use Rattle.ddf_tables.specs.declared.disks.DiskRow.{DiskRow}
use Rattle.ddf_config_records.specs.declared.slot.RecordSlot.{RecordSlot}
use Rattle.ddf_copy.specs.declared.copy.DiskCopy.{DiskCopy}
use Rattle.ddf_joining.specs.Telling.{Tells, array_rows_told, slots_told}
use Rattle.ddf_joining.proofs.Telling.{tells_both}
use Rattle.ddf_joining.proofs.sides.both_told.Goals as goal

ok_then : {T E : Type 0} (P Q : T → Type 0) → ((x : T) → P x → Q x) → (result : Result T E) → IfOk result P → IfOk result Q
ok_then P Q f (Ok x) h = f x h
ok_then P Q f (Err e) h = tt

pub returns : goal.returns
returns c =
    let native = c.args.native.now in
    let other = c.args.other.now in
    ok_then (Tells c.args.rows.items c.args.arrays.items c.in_ok-slots.slots.items) _
    (λ (copy : DiskCopy) is. tells_both native other copy
    (subst (λ (rows : List DiskRow). Tells rows (array_rows_told native.config ++ array_rows_told other.config) (slots_told native.config native.leaders ++ slots_told other.config other.leaders) copy) c.requires.rows
    (subst (λ (arrays : List ArrayRow). Tells c.args.rows.items arrays (slots_told native.config native.leaders ++ slots_told other.config other.leaders) copy) c.requires.arrays
    (subst (λ (slots : List RecordSlot). Tells c.args.rows.items c.args.arrays.items slots copy) c.in_ok-slots.ensures is))))
    c.telling_copy.result c.telling_copy.ensures
