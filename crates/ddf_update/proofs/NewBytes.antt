-- The unread bytes of new records.
use Rattle.std.proofs.Common.{◌≡◌, ◌+◌, ◌-◌, ℕ, [], ◌∷◌, length, refl}
use Rattle.ddf_seal.specs.declared.unread.Span.{Span}
use Rattle.ddf_seal.specs.Unread.{cleared, placed, places}
use Rattle.ddf_header.specs.declared.kind.Revision.{Revision}
use Rattle.ddf_header.specs.declared.reading.Header.{Header}
use Rattle.ddf_header.specs.declared.layout.TheConstants.{GROUPING_AT, PRIMARY_LBA_AT, KIND_AT, WORKSPACE_LENGTH_AT, MAX_MEMBERS_AT, SECTIONS_AT}
use Rattle.ddf_header.specs.Header.{unread}
use Rattle.ddf_tables.specs.declared.disks.DiskEntry.{DiskEntry}
use Rattle.ddf_tables.specs.declared.layout.TheConstants.{DISK_GUID_AT, DISK_SIZE_AT}
use Rattle.ddf_tables.specs.Disks.{disk_fields}
use Rattle.ddf_update.specs.NewCopies.{new_entry_bytes, new_header_bytes, new_sector_bytes}

abbrev span : (at length : ℕ) → Span
span at length = record { at = at; length = length }

pub header_cleared : (header : Header) → cleared (span 0 (GROUPING_AT + 1) ∷ span PRIMARY_LBA_AT (KIND_AT + 1 - PRIMARY_LBA_AT) ∷ span WORKSPACE_LENGTH_AT (MAX_MEMBERS_AT + 2 - WORKSPACE_LENGTH_AT) ∷ span SECTIONS_AT 64 ∷ []) new_sector_bytes ≡ unread header new_header_bytes
unfolding new_sector_bytes new_header_bytes placed
header_cleared header = refl

pub entry_cleared : (revision : Revision) (entry : DiskEntry) → cleared (span DISK_GUID_AT (DISK_SIZE_AT + 8) ∷ []) (new_entry_bytes revision) ≡ cleared (places (disk_fields entry)) (new_entry_bytes revision)
unfolding new_entry_bytes placed
entry_cleared revision entry = refl
