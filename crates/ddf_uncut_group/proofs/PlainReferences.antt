-- The references of labelled disks are distinct, and each names a disk.
use Rattle.std.proofs.Common.{◌≡◌, ℕ, ◌-◌, ◌<◌, ◌^◌, arith}
use Rattle.ddf_bytes.specs.declared.stamp.Stamp.{Stamp}
use Rattle.ddf_update.specs.NewCopies.{reference_at}
use Rattle.ddf_update.proofs.NewRows.{reference_fits}

-- Two places of one reference are the same.
pub one_place : (stamp : Stamp) (one other : ℕ) → reference_at stamp one ≡ reference_at stamp other → one ≡ other
one_place stamp one other same = omega (arith, same)

-- Each is less than the one that names no disk.
pub names_disk : (stamp : Stamp) (place : ℕ) → place < 15 → reference_at stamp place < 2 ^ 32 - 1
names_disk stamp place low = reference_fits stamp place (omega (arith, low))
