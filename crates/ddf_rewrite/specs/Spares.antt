-- The spare record of a disk after a change or a recovery (SNIA DDF 2.0, spare assignment record; what is kept is profile).
use Rattle.std.specs.Prelude.{ℕ, Bool, ◌&&◌, ◌==◌, nat_eq, List, [], Option, Some, None, if◌then◌else◌}
use Rattle.std.specs.Map.{lookup}
use Rattle.std.specs.Str.{bytes_eq}
use Rattle.std.specs.Cmp.Lexicographic.{pointwise}
use Rattle.ddf_header.specs.declared.geometry.Geometry.{Geometry}
use Rattle.ddf_config_records.specs.declared.spare.SpareRecord.{SpareRecord}
use Rattle.ddf_config_records.specs.Building.{spare_over}
use Rattle.ddf_config.specs.declared.member.SpareUse.{SpareUse}
use Rattle.ddf_config.specs.declared.member.SpareUse.TheVariants as uses
use Rattle.ddf_config.specs.Configuration.{Configuration}

-- what a disk is a spare for
abbrev pub spare_use : Configuration → (reference : ℕ) → SpareUse
spare_use config reference = elim (lookup (nat_eq reference) config.members) [ None ↦ uses.No | Some member ↦ member.spare ]

-- Bit 0 of the type is set for a spare of some arrays, bit 1 for one that gives its place back.
abbrev pub kind_of_spare : SpareUse → ℕ
kind_of_spare uses.No = 0
kind_of_spare uses.Global = 0
kind_of_spare uses.Revertible = 2
kind_of_spare (uses.Dedicated arrays) = 1

abbrev pub arrays_of_spare : SpareUse → List (List ℕ)
arrays_of_spare uses.No = []
arrays_of_spare uses.Global = []
arrays_of_spare uses.Revertible = []
arrays_of_spare (uses.Dedicated arrays) = arrays

-- a record of this use and time, over the bytes of an old one or of a new one
abbrev pub spare_at_time : Geometry → (old : Option SpareRecord) → (timestamp : ℕ) → SpareUse → SpareRecord
spare_at_time geometry old timestamp use_as =
    spare_over geometry old (record { timestamp = timestamp; kind = kind_of_spare use_as; arrays = arrays_of_spare use_as; rest = [] })

-- two records are the same, their timestamps aside
abbrev pub same_spare_record : SpareRecord → SpareRecord → Bool
same_spare_record one other = one.kind == other.kind && pointwise bytes_eq one.arrays other.arrays && bytes_eq one.rest other.rest

-- the time of a record that says the same as the disk's own one is its own, else that of the command that alters it
abbrev pub time_of : (own new : SpareRecord) → ℕ
time_of own new = if same_spare_record new own then own.timestamp else new.timestamp

abbrev pub with_time_of : (own new : SpareRecord) → SpareRecord
with_time_of own new = record new { timestamp = time_of own new }

-- The spare record of a disk, by its own one, where it has one.
unfoldable pub spare_after : Geometry → (timestamp : ℕ) → SpareUse → (own : Option SpareRecord) → SpareRecord
spare_after geometry timestamp use_as None = spare_at_time geometry None timestamp use_as
spare_after geometry timestamp use_as (Some own) = with_time_of own (spare_at_time geometry (Some own) timestamp use_as)
