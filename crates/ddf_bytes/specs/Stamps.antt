-- The timestamp of a stamp.
use Rattle.std.specs.Prelude.{ℕ, ◌-◌, ◌^◌, min}
use Rattle.ddf_bytes.specs.declared.stamp.Stamp.{Stamp}

-- seconds since 1980 began, as the standard counts them, within 32 bits
abbrev pub timestamp_of : Stamp → ℕ
timestamp_of stamp = min (stamp.seconds - 315532800) (2 ^ 32 - 1)
