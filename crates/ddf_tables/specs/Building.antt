-- Entries of the tables over the bytes of others, and new ones (SNIA DDF 2.0; what is kept is profile).
use Rattle.std.specs.Prelude.{ℕ, List, replicate, Option}
use Rattle.std.specs.Option.{option_map_or}
use Rattle.std.specs.Int.{w16, to_be_bytes}
use Rattle.ddf_seal.specs.Unread.{cleared, placed, places}
use Rattle.ddf_tables.specs.declared.disks.DiskEntry.{DiskEntry}
use Rattle.ddf_tables.specs.declared.arrays.ArrayEntry.{ArrayEntry}
use Rattle.ddf_tables.specs.declared.layout.TheConstants.{DISK_BLOCK_SIZE_AT, ARRAY_KIND_AT}
use Rattle.ddf_tables.specs.Disks.{disk_fields}
use Rattle.ddf_tables.specs.Arrays.{array_fields}

-- ---- a disk

-- A new entry of a disk has FF in the bytes that no field names.
unfoldable pub new_disk_rest : DiskEntry → List ℕ
new_disk_rest entry = cleared (places (disk_fields entry)) (replicate 64 255)

-- the unread bytes of an old entry, or else of a new one
abbrev pub kept_disk_rest : Option DiskEntry → DiskEntry → List ℕ
kept_disk_rest old entry = option_map_or (λ disk. disk.rest) old (new_disk_rest entry)

-- An entry over the unread bytes of an old one, or of a new one, with the block size at its place.
abbrev pub disk_over : (old : Option DiskEntry) (block_size : ℕ) → DiskEntry → DiskEntry
disk_over old block_size entry = record entry { rest = placed (kept_disk_rest old entry) DISK_BLOCK_SIZE_AT (to_be_bytes w16 block_size) }

-- ---- an array

-- A new entry of an array has FF in the bytes that no field names, and zeros in those of the type.
unfoldable pub new_array_rest : ArrayEntry → List ℕ
new_array_rest entry = cleared (places (array_fields entry)) (placed (replicate 64 255) ARRAY_KIND_AT (replicate 4 0))

-- the unread bytes of an old entry, or else of a new one
abbrev pub kept_array_rest : Option ArrayEntry → ArrayEntry → List ℕ
kept_array_rest old entry = option_map_or (λ array. array.rest) old (new_array_rest entry)

-- An entry over the unread bytes of an old one, or of a new one.
abbrev pub array_over : (old : Option ArrayEntry) → ArrayEntry → ArrayEntry
array_over old entry = record entry { rest = kept_array_rest old entry }
