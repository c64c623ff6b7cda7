-- Disks that hold an image for sure.
use Rattle.std.specs.Prelude.{◌≡◌, ◌⊎◌, ℕ, true, false, List}
use Rattle.ddf_bay.specs.Sectors.{Image}
use Rattle.ddf_bay.specs.State.{BayState}
use Rattle.ddf_history_steps.specs.Kept.{is_slot}

-- The disks once these slots hold an image: a stop leaves of them what they hold, and of every other slot what it might leave before.
abbrev pub holding : {D : Type 0} → BayState D → (slots : List ℕ) → Image → BayState D
holding disks slots image = record disks {
  held = image;
  may_hold = λ s l bytes. ((is_slot slots s ≡ true) × (bytes ≡ image s l)) ⊎ ((is_slot slots s ≡ false) × disks.may_hold s l bytes);
}
