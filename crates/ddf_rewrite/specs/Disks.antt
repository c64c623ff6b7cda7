-- The entries of the disks after a change or a recovery (SNIA DDF 2.0, physical disk records; what is kept is profile).
use Rattle.std.specs.Prelude.{ℕ, Bool, true, false, not, ◌&&◌, ◌==◌, List, ◌++◌, length, map, take, filter, replicate, if◌then◌else◌}
use Rattle.std.specs.List.{list_any}
use Rattle.std.specs.Option.{option_map_or}
use Rattle.std.specs.Int.{w16}
use Rattle.std.specs.Int.RustNames.{bit_and, bit_or}
use Rattle.ddf_bytes.specs.Bytes.{number_at}
use Rattle.ddf_header.specs.declared.kind.Revision.{Revision}
use Rattle.ddf_header.specs.declared.kind.Revision.TheVariants.{R100, R120, R200}
use Rattle.ddf_tables.specs.declared.disks.DiskEntry.{DiskEntry}
use Rattle.ddf_tables.specs.declared.disks.DiskRow.{DiskRow}
use Rattle.ddf_tables.specs.declared.disks.DiskRow.TheVariants as disk_rows
use Rattle.ddf_tables.specs.declared.layout.TheConstants.{DISK_BLOCK_SIZE_AT}
use Rattle.ddf_tables.specs.Disks.{is_used_disk}
use Rattle.ddf_tables.specs.DiskFlags.{in_array, global_spare, spare, online, rebuilding}
use Rattle.ddf_tables.specs.Building.{disk_over}
use Rattle.ddf_config.specs.declared.member.SpareUse.{SpareUse}
use Rattle.ddf_config.specs.declared.member.SpareUse.TheVariants as uses
use Rattle.ddf_config.specs.declared.member.Member.{Member}
use Rattle.ddf_config.specs.declared.element.Position.{Position}
use Rattle.ddf_config.specs.Configuration.{Configuration}
use Rattle.ddf_view.specs.View.{find_disk, has_bit}
use Rattle.ddf_rewrite.specs.Wanted.{Wanted, all_wanted, refers_to}

-- ---- rows

-- Entries from the first row on, behind them the former unused rows in their order, and then rows of FF, as many as the table has.
abbrev pub rows_after : {Row : Type 0} → (Row → Bool) → (unused : Row) → List Row → List Row → List Row
rows_after is_used unused entries rows = take (length rows) (entries ++ filter (λ row. not (is_used row)) rows ++ replicate (length rows) unused)

-- ---- a disk's use

-- the block size that records are written with: 512 from revision 02.00.00 on, not given before
abbrev pub block_size_of : Revision → ℕ
block_size_of R200 = 512
block_size_of R100 = 0xFFFF
block_size_of R120 = 0xFFFF

-- a spare for every array, be it one that gives its place back
abbrev pub is_global : SpareUse → Bool
is_global uses.No = false
is_global uses.Global = true
is_global uses.Revertible = true
is_global (uses.Dedicated arrays) = false

-- a spare for some arrays, or one for every array that gives its place back
abbrev pub has_spare_bit : SpareUse → Bool
has_spare_bit uses.No = false
has_spare_bit uses.Global = false
has_spare_bit uses.Revertible = true
has_spare_bit (uses.Dedicated arrays) = true

-- an element has a position on the disk
abbrev pub is_referred : List Wanted → (reference : ℕ) → Bool
is_referred all reference = list_any (λ wanted. refers_to wanted.plan reference) all

-- a position on the disk is out of sync
abbrev pub is_out_on : (reference : ℕ) → Position → Bool
is_out_on reference position = position.reference == reference && not position.synced

abbrev pub has_out_on : (reference : ℕ) → Wanted → Bool
has_out_on reference wanted = list_any (is_out_on reference) wanted.plan.positions

abbrev pub is_behind : List Wanted → (reference : ℕ) → Bool
is_behind all reference = list_any (has_out_on reference) all

-- bits with a flag, where a test holds
abbrev pub with_flag : Bool → (flag : ℕ) → (bits : ℕ) → ℕ
with_flag test flag bits = if test then bit_or bits flag else bits

-- The type tells whether the disk is in an array, a spare for every array, and a spare for some: bits 1, 2 and 3. Of a spare for every
-- array bit 3 tells that it gives its place back (profile). All others are kept.
unfoldable pub kind_after : List Wanted → (ℕ × Member) → (kept : ℕ) → ℕ
kind_after all entry kept =
    with_flag (has_spare_bit entry.1.spare) spare (with_flag (is_global entry.1.spare) global_spare (with_flag (is_referred all entry.0) in_array (bit_and kept 0xFFF1)))

-- A missing disk is failed and missing, and nothing else. Another is online, and is being rebuilt where a position on it is out of
-- sync; of its other bits 3, 4 and 5 are kept: in transition, a predicted failure, a read error that was not made good.
unfoldable pub state_after : List Wanted → (ℕ × Member) → (kept : ℕ) → ℕ
state_after all entry kept =
    if entry.1.missing then 0x42 else with_flag (is_behind all entry.0) rebuilding (with_flag true online (bit_and kept 0x38))

-- ---- after a change

abbrev pub kind_in : List DiskEntry → (reference : ℕ) → ℕ
kind_in disks reference = option_map_or (λ disk. disk.kind.0) (find_disk reference disks) 0

abbrev pub state_in : List DiskEntry → (reference : ℕ) → ℕ
state_in disks reference = option_map_or (λ disk. disk.state.0) (find_disk reference disks) 0

-- the named fields of a member's entry; what is kept of its type and state is what the lowest leader records
abbrev pub member_entry : List Wanted → (leading : List DiskEntry) → (ℕ × Member) → DiskEntry
member_entry all leading entry = record {
  guid = entry.1.guid;
  reference = entry.0;
  kind = record { 0 = kind_after all entry (kind_in leading entry.0) };
  state = record { 0 = state_after all entry (state_in leading entry.0) };
  size = entry.1.size;
  rest = replicate 64 0;
}

-- An entry on a disk that had these: over its own bytes, or over those of a new one.
abbrev pub disk_on : List DiskEntry → (block_size : ℕ) → DiskEntry → DiskEntry
disk_on own block_size entry = disk_over (find_disk entry.reference own) block_size entry

-- The entries after a change, in the order of the members, with the block size of the disk's own revision.
unfoldable pub changed_disks : Configuration → (leading : List DiskEntry) → Revision → (own : List DiskEntry) → List DiskEntry
changed_disks config leading revision own = map (λ entry. disk_on own (block_size_of revision) (member_entry (all_wanted config) leading entry)) config.members

-- ---- after a recovery

-- Each named field and the block size are those that the lowest leader records.
unfoldable pub recovered_disks : (leading own : List DiskEntry) → List DiskEntry
recovered_disks leading own = map (λ disk. disk_on own (number_at w16 disk.rest DISK_BLOCK_SIZE_AT) disk) leading

-- ---- what Linux is told

-- the revision of the disks that Linux reads
abbrev pub is_linux : Revision → Bool
is_linux R100 = false
is_linux R120 = true
is_linux R200 = false

-- A disk is being filled: it is being rebuilt, and the notes call a position on it out of sync. Linux takes it for a disk with room, and
-- fills it at another place, unless its type has bit 3. Of a disk that is lost the state says no such thing, and of a spare for every array
-- bit 3 says another.
abbrev pub is_filled : Revision → (noted : Bool) → List Wanted → DiskEntry → Bool
is_filled revision noted all disk =
    has_bit disk.state.0 2 && not (has_bit disk.kind.0 2) && is_linux revision && noted && is_behind all disk.reference

abbrev pub filled : Revision → (noted : Bool) → List Wanted → DiskEntry → DiskEntry
filled revision noted all disk = record disk { kind = record { 0 = with_flag (is_filled revision noted all disk) spare disk.kind.0 } }

-- the entries as the table of a disk of a revision has them, where a leader has valid notes or none has
unfoldable pub disks_for : Revision → (noted : Bool) → Configuration → List DiskEntry → List DiskEntry
disks_for revision noted config disks = map (filled revision noted (all_wanted config)) disks

-- ---- the table

unfoldable pub disk_rows_after : List DiskRow → List DiskEntry → List DiskRow
disk_rows_after rows entries = rows_after is_used_disk (disk_rows.Unused (replicate 64 255)) (map disk_rows.Entry entries) rows
