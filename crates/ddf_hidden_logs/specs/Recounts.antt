-- A bad block log that shows another count of entries (profile; the log is that of SNIA DDF 2.0).
use Rattle.std.specs.Prelude.{ℕ, ◌==◌, if◌then◌else◌, List, length, take, Option, Some, None, option_map}
use Rattle.std.specs.Int.{w16, to_be_bytes}
use Rattle.ddf_bytes.specs.Bytes.{with_bytes_at}
use Rattle.ddf_seal.specs.Seal.{sealed}
use Rattle.ddf_header.specs.declared.geometry.Section.{Section}
use Rattle.ddf_header.specs.declared.reading.Header.{Header}
use Rattle.ddf_header.specs.Geometry.{section_of}
use Rattle.ddf_tables.specs.declared.layout.TheConstants.{LOG_COUNT_AT}
use Rattle.ddf_tables.specs.BadBlocks.{LogValue, log_at, log_bytes, log_signature}
use Rattle.ddf_copy.specs.declared.copy.DiskCopy.{DiskCopy}
use Rattle.ddf_hidden_logs.specs.declared.mask.Mask.{Mask}

-- the section of a log with another count of entries, sealed anew: all its other bytes are as they are
unfoldable pub recounted : (count : ℕ) → List ℕ → List ℕ
recounted count section = sealed log_signature (with_bytes_at section LOG_COUNT_AT (to_be_bytes w16 count))

-- the log that is read there: the bytes of entries that aren't counted are unread ones
abbrev pub recounted_log : (count : ℕ) → LogValue → LogValue
recounted_log count log = if length log.entries == count then log else log_at (recounted count (log_bytes log))

-- a copy with that log
abbrev pub recounted_copy : (count : ℕ) → DiskCopy → DiskCopy
recounted_copy count copy = record copy { bad = option_map (recounted_log count) copy.bad }

-- a copy with another log
abbrev pub with_log : Option LogValue → DiskCopy → DiskCopy
with_log bad copy = record copy { bad = bad }

-- ---- the mask

-- that of a log in this section, of a disk with this anchor: in front of both copies' logs
abbrev pub mask_of_log : Header → Section → LogValue → (count : ℕ) → Mask
mask_of_log anchor section log count = record {
  primary = anchor.primary_lba;
  secondary = anchor.secondary_lba;
  offset = section.offset;
  below = take 512 (log_bytes log);
  shown = take 512 (recounted count (log_bytes log));
}

-- none where it has so many entries
abbrev pub mask_by : Header → Section → Option LogValue → (count : ℕ) → Option Mask
mask_by anchor section None count = None
mask_by anchor section (Some log) count = if length log.entries == count then None else Some (mask_of_log anchor section log count)

-- that of a copy
abbrev pub mask_under : Header → DiskCopy → (count : ℕ) → Option Mask
mask_under anchor copy count = mask_by anchor (section_of copy.header.geometry 5) copy.bad count

abbrev pub mask_if : Header → Option DiskCopy → (count : ℕ) → Option Mask
mask_if anchor None count = None
mask_if anchor (Some copy) count = mask_under anchor copy count
