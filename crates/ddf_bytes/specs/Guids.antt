-- GUIDs: which bytes are one, how it is written as text, and how a new one is made (profile).
use Rattle.std.specs.Prelude.{◌≡◌, ℕ, ◌%◌, ◌^◌, ◌<◌, List, ◌++◌, length, slice_index, Bool, ◌&&◌, ◌||◌, nat_le, codes}
use Rattle.std.specs.Int.{w32, w64, to_be_bytes}
use Rattle.ddf_bytes.specs.Stamps.{timestamp_of}
use Rattle.ddf_bytes.specs.declared.stamp.Stamp.{Stamp}
use Rattle.ddf_bytes.specs.declared.guid.GuidKind.{GuidKind}
use Rattle.ddf_bytes.specs.declared.guid.GuidKind.TheVariants.{Group, Controller, Disk, Array}

-- a list of 24 bytes
pub record IsGuid (bytes : List ℕ) : Type 0 where
  pub count : length bytes ≡ 24
  pub each : (i : ℕ) → slice_index bytes i < 256

-- `0` to `9` or `a` to `f`
abbrev pub is_lower_digit : ℕ → Bool
is_lower_digit digit = (nat_le 48 digit && nat_le digit 57) || (nat_le 97 digit && nat_le digit 102)

-- the eight letters with which a new GUID begins
abbrev pub guid_prefix : GuidKind → List ℕ
guid_prefix Group = codes "RDDF-G  "
guid_prefix Controller = codes "RDDF-C  "
guid_prefix Disk = codes "RDDF-D  "
guid_prefix Array = codes "RDDF-A  "

-- the letters, the timestamp, the number, and the low 64 bits of the salt
abbrev pub new_guid_bytes : GuidKind → Stamp → ℕ → List ℕ
new_guid_bytes kind stamp number =
    guid_prefix kind ++ to_be_bytes w32 (timestamp_of stamp) ++ to_be_bytes w32 number ++ to_be_bytes w64 (stamp.salt % 2 ^ 64)
