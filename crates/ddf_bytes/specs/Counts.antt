-- Counts of faults, which never fall and stand still at the last value of 64 bits.
use Rattle.std.specs.Prelude.{◌≡◌, ◌⊎◌, ℕ, ◌-◌, ◌^◌, ◌<◌}

-- The count rose in a call, or stands at its last value, where a rise can't be seen.
abbrev pub Rose : ℕ → ℕ → Type 0
Rose old new = (old < new) ⊎ (new ≡ 2 ^ 64 - 1)
