-- The five disks of an exercise, and where they lie.
use Rattle.std.specs.Prelude.{◌≡◌, ℕ, ◌==◌, false}
use Rattle.ddf_config.specs.declared.seat.Seat.{Seat}
pub use Rattle.ddf_history.specs.Groups.{Disk}
use Rattle.ddf_rewrite.specs.Elements.{no_reference}

-- those of the slots 0 to 4
pub record Disks : Type 0 where
  pub first : Disk
  pub second : Disk
  pub third : Disk
  pub fourth : Disk
  pub fifth : Disk

-- No two of them have one reference.
pub record AreApart (disks : Disks) : Type 0 where
  pub first_second : (disks.first.reference == disks.second.reference) ≡ false
  pub first_third : (disks.first.reference == disks.third.reference) ≡ false
  pub first_fourth : (disks.first.reference == disks.fourth.reference) ≡ false
  pub first_fifth : (disks.first.reference == disks.fifth.reference) ≡ false
  pub second_third : (disks.second.reference == disks.third.reference) ≡ false
  pub second_fourth : (disks.second.reference == disks.fourth.reference) ≡ false
  pub second_fifth : (disks.second.reference == disks.fifth.reference) ≡ false
  pub third_fourth : (disks.third.reference == disks.fourth.reference) ≡ false
  pub third_fifth : (disks.third.reference == disks.fifth.reference) ≡ false
  pub fourth_fifth : (disks.fourth.reference == disks.fifth.reference) ≡ false

-- Each reference names a disk.
pub record AreNamed (disks : Disks) : Type 0 where
  pub first : (disks.first.reference == no_reference) ≡ false
  pub second : (disks.second.reference == no_reference) ≡ false
  pub third : (disks.third.reference == no_reference) ≡ false
  pub fourth : (disks.fourth.reference == no_reference) ≡ false
  pub fifth : (disks.fifth.reference == no_reference) ≡ false

-- the sectors of a disk below its records
abbrev pub room : ℕ
room = 32687

-- where a disk lies: it lists no bad block
abbrev pub seat : Disk → (slot : ℕ) → Seat
seat disk slot = record { reference = disk.reference; slot = slot; floor = room; bad = 0 }
