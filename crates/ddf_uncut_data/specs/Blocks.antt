-- What the blocks of an array hold, where nothing of it is in doubt.
use Rattle.std.specs.Prelude.{◌≡◌, ℕ, Bool, true, false, List, [], ◌∷◌, Some, length, unwrap_or, if◌then◌else◌}
use Rattle.ddf_bay.specs.Sectors.{Image}
use Rattle.ddf_array.specs.Apart.{IsApart}
use Rattle.ddf_array.specs.Values.{value}
use Rattle.ddf_array.specs.Volume.{Volume, IsVolume}
use Rattle.ddf_array.specs.Within.{is_within}
use Rattle.ddf_data_array.specs.Allowed.{Allowed, is_in, new_bytes}
use Rattle.ddf_data_array.specs.Kept.{IsKeptData}

-- each block may have these bytes, and no others
abbrev pub exactly : (ℕ → List ℕ) → Allowed
exactly blocks block = Some (blocks block ∷ [])

-- each disk is read that a current member has
abbrev pub none_absent : (element position : ℕ) → Bool
none_absent element position = false

-- Each block of an unmarked array within its level has these bytes: its copies and its parity agree on them.
pub record HoldsBlocks (volume : Volume) (image : Image) (blocks : ℕ → List ℕ) : Type 0 where
  pub is_volume : IsVolume volume
  pub apart : IsApart volume
  pub unmarked : volume.marked ≡ false
  pub within : is_within volume ≡ true
  pub kept : IsKeptData none_absent volume image (exactly blocks)

-- blocks of which those from one on have the bytes of these sectors
abbrev pub with_sectors : (start : ℕ) → List (List ℕ) → (ℕ → List ℕ) → ℕ → List ℕ
with_sectors start sectors blocks block = if is_in start (length sectors) block then new_bytes start sectors block else blocks block

-- what the blocks of an array hold, whatever it is
abbrev pub held_blocks : Volume → Image → ℕ → List ℕ
held_blocks volume image block = unwrap_or (value volume image block) []
