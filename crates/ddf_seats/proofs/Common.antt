-- What several crates above ask of the definitions of this one.
use Rattle.std.proofs.Common.{arith, ◌≤◌}
use Rattle.ddf_copy.specs.Which.{place_of}
use Rattle.ddf_copy.specs.declared.copy.DiskCopy.{DiskCopy}
use Rattle.ddf_copy.specs.declared.which.Which.{Which}
use Rattle.ddf_copy.specs.declared.which.Which.TheVariants.{Primary, Secondary}
use Rattle.ddf_seats.specs.Group.{floor_of}

pub floor_below : (copy : DiskCopy) (which : Which) → floor_of copy ≤ place_of which copy.header
floor_below copy Primary = omega arith
floor_below copy Secondary = omega arith
