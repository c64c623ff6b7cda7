-- What is told of a look at a slot.
use Rattle.std.proofs.Common.{◌≡◌, ℕ, List, false, Result, Ok, Err, refl}
use Rattle.std.specs.Prelude.{IfOk, OnOk, slice_index}
use Rattle.std.specs.Result.{is_err}
use Rattle.ddf_bay.specs.Sectors.{Image}
use Rattle.ddf_text.specs.declared.view.DiskView.{DiskView}
use Rattle.ddf_copy.specs.declared.fault.ShowFault.{ShowFault}
use Rattle.ddf_copy.specs.declared.fault.ShowFault.TheVariants.{Disk, Memory}
use Rattle.ddf_copy.specs.Faults.{show_failed}
use Rattle.ddf_disk_commands.specs.Disk.{disk_view}
use Rattle.ddf_disk_commands.specs.Examine.{one_text}
use Rattle.ddf_text.specs.Report.{IsTold, report_text}

pub told_text : (slot size : ℕ) (sizes : List ℕ) (held : Image) (view : Result DiskView ShowFault) → size ≡ slice_index sizes slot → IsTold view
    → IfOk view (λ v. v ≡ disk_view (slice_index sizes slot) (held slot)) → report_text slot size view ≡ one_text slot (show_failed view) sizes held
told_text slot size sizes held (Ok view) e told is = rw (e, is) refl
told_text slot size sizes held (Err (Disk named)) e told is = refl
told_text slot size sizes held (Err Memory) e told is = absurd told

-- of a call that didn't fail
pub on_ok : {T E P : Type 0} (result : Result T E) → is_err result ≡ false → OnOk result P → P
on_ok (Ok x) e holds = holds
on_ok (Err fault) e holds = cc
