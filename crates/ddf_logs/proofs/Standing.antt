-- The copy that stands for a disk with two whole ones.
use Rattle.std.proofs.Common.{◌≡◌, Bool, true, false, Some, refl}
use Rattle.std.specs.Prelude.{nat_lt, if◌then◌else◌}
use Rattle.ddf_copy.specs.declared.copy.DiskCopy.{DiskCopy}
use Rattle.ddf_copy.specs.declared.newest_copy.Newest.TheVariants as newests
use Rattle.ddf_copy.specs.declared.which.Which.TheVariants.{Primary, Secondary}
use Rattle.ddf_copy.specs.Copies.{newest_of_both, standing_copy}
use Rattle.ddf_logs.specs.Logs.{newer}

pub standing_newer : (level : Bool) (primary secondary : DiskCopy) → Some (newer primary secondary) ≡ standing_copy (newest_of_both level primary secondary)
standing_newer level primary secondary = by (nat_lt primary.header.sequence secondary.header.sequence) (nat_lt secondary.header.sequence primary.header.sequence) level
  where
    by : (less more same : Bool) → Some (if less then secondary else primary)
        ≡ standing_copy (if less then newests.One Secondary secondary else if more then newests.One Primary primary else if same then newests.Level primary else newests.TwoDiffer primary secondary)
    by true more same = refl
    by false true same = refl
    by false false true = refl
    by false false false = refl
