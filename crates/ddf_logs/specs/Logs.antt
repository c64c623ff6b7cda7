-- What the bad block logs of a disk's copies give (profile).
use Rattle.std.specs.Prelude.{ℕ, ◌-◌, Bool, true, false, ◌==◌, ◌&&◌, nat_lt, max, if◌then◌else◌, List, [], length, find, filter_map, Option, Some, None, option_map, is_some, Result, Ok, Err}
use Rattle.std.specs.Cmp.Lexicographic.{pointwise}
use Rattle.std.specs.Option.{option_map_or, option_and_then}
use Rattle.std.specs.Str.{bytes_eq}
use Rattle.ddf_header.specs.declared.reading.Header.{Header}
use Rattle.ddf_tables.specs.declared.bad_blocks.BadBlock.{BadBlock}
use Rattle.ddf_tables.specs.declared.disk_data.DiskData.{DiskData}
use Rattle.ddf_tables.specs.declared.disks.DiskEntry.{DiskEntry}
use Rattle.ddf_tables.specs.declared.disks.DiskRow.{DiskRow}
use Rattle.ddf_tables.specs.declared.disks.DiskRow.TheVariants.{Entry, Unused}
use Rattle.ddf_tables.specs.BadBlocks.{LogValue}
use Rattle.ddf_copy.specs.declared.copy.DiskCopy.{DiskCopy}
use Rattle.ddf_copy.specs.declared.copies.Copies.{Copies}
use Rattle.ddf_copy.specs.declared.fault.AnchorFault.{AnchorFault}
use Rattle.ddf_copy.specs.declared.fault.CopyFault.{CopyFault}
use Rattle.ddf_copy.specs.Anchor.{anchor_at}
use Rattle.ddf_copy.specs.Copies.{copies_of, newest_of_copies, standing_copy}
use Rattle.ddf_badblocks.specs.declared.fitting.Stretch.{Stretch}
use Rattle.ddf_badblocks.specs.declared.range.Range.{Range}
use Rattle.ddf_badblocks.specs.Fits.{fits, ranges_of}
use Rattle.ddf_badblocks.specs.Ranges.{swap}
use Rattle.ddf_logs.specs.Kept.{kept_under}

-- ---- whether the copies carry one log

abbrev pub same_block : BadBlock → BadBlock → Bool
same_block one other = one.start == other.start && one.spare == other.spare && one.count == other.count

-- the same entries in order, and the same spare blocks
abbrev pub same_log : LogValue → LogValue → Bool
same_log one other = pointwise same_block one.entries other.entries && one.spare_count == other.spare_count && one.first_spare == other.first_spare

abbrev pub same_logs : Option LogValue → Option LogValue → Bool
same_logs (Some one) (Some other) = same_log one other
same_logs None None = true
same_logs one other = false

-- Two whole copies carry one log. A copy that isn't whole has no say.
abbrev pub carry_one : Result DiskCopy CopyFault → Result DiskCopy CopyFault → Bool
carry_one (Ok primary) (Ok secondary) = same_logs primary.bad secondary.bad
carry_one primary secondary = true

-- the newer of two whole copies, and of one sequence the primary one
abbrev pub newer : DiskCopy → DiskCopy → DiskCopy
newer primary secondary = if nat_lt primary.header.sequence secondary.header.sequence then secondary else primary

-- ---- the log that is honoured

abbrev pub disk_of : DiskRow → Option DiskEntry
disk_of (Entry entry) = Some entry
disk_of (Unused whole) = None

-- an entry is of the disk itself
abbrev pub is_own : DiskData → DiskEntry → Bool
is_own own entry = entry.reference == own.reference && bytes_eq entry.guid own.guid

-- the sectors that a disk gives to arrays, by its own entry: a disk that doesn't list itself gives none
abbrev pub configured_size : DiskCopy → Option ℕ
configured_size copy = option_map (λ entry. entry.size) (find (is_own copy.disk_data) (filter_map disk_of copy.disks.rows))

-- a log by the sectors that its disk gives, where both are there and it can be honoured
abbrev pub fitting_by : (last : ℕ) → List Stretch → Option LogValue → Option ℕ → Option LogValue
fitting_by last kept (Some log) (Some size) = if fits log size kept last then Some log else None
fitting_by last kept log size = None

-- that of a copy
abbrev pub fitting : (last : ℕ) → (anchor : Header) → DiskCopy → Option LogValue
fitting last anchor copy = fitting_by last (kept_under anchor copy.header.geometry) copy.bad (configured_size copy)

-- The log that is honoured on a disk with this last sector and this anchor: that of its newest copy, where it can be, and where its whole copies carry one.
unfoldable pub honoured : (last : ℕ) → (anchor : Header) → Copies → Option LogValue
honoured last anchor copies = if carry_one copies.primary copies.secondary then option_and_then (fitting last anchor) (standing_copy (newest_of_copies copies)) else None

-- ---- what the logs give

-- the ranges of bad sectors and their spare ones
abbrev pub exchange_in : (last : ℕ) → (anchor : Header) → Copies → List Range
exchange_in last anchor copies = option_map_or ranges_of (honoured last anchor copies) []

-- the entries that a whole copy lists
abbrev pub entries_of : Result DiskCopy CopyFault → ℕ
entries_of (Ok copy) = option_map_or (λ log. length log.entries) copy.bad 0
entries_of (Err fault) = 0

-- The entries that count against the disk: none where its log is honoured, and else those of the copy that has more.
abbrev pub bad_in : (last : ℕ) → (anchor : Header) → Copies → ℕ
bad_in last anchor copies = if is_some (honoured last anchor copies) then 0 else max (entries_of copies.primary) (entries_of copies.secondary)

-- ---- of a slot, by its size and the bytes of its sectors

abbrev pub exchange_under : (size : ℕ) → (ℕ → List ℕ) → Result Header AnchorFault → List Range
exchange_under size sector (Ok anchor) = exchange_in (size - 1) anchor (copies_of size sector anchor)
exchange_under size sector (Err fault) = []

-- the ranges of a slot: one without an anchor has none
unfoldable pub exchange_at : (size : ℕ) → (ℕ → List ℕ) → List Range
exchange_at size sector = exchange_under size sector (anchor_at size sector)

-- the sectors of a slot as they are seen through its own exchange
abbrev pub seen_at : (size : ℕ) → (ℕ → List ℕ) → ℕ → List ℕ
seen_at size sector l = sector (swap size (exchange_at size sector) l)
