-- The bad block log (SNIA DDF 2.0): 32 bytes of head, and entries of 16 bytes.
use Rattle.std.specs.Prelude.{ℕ, ◌+◌, ◌-◌, ◌*◌, ◌/◌, ◌≤◌, nat_lt, List, [], ◌∷◌, length, replicate, Option, option_map, Result}
use Rattle.std.specs.List.{flat_map}
use Rattle.std.specs.Result.{result_err}
use Rattle.std.specs.Int.{w16, w32, w64}
use Rattle.ddf_bytes.specs.Bytes.{number_at}
use Rattle.ddf_bytes.specs.Choices.{first_of, ok_unless, when}
use Rattle.ddf_seal.specs.declared.unread.Span.{Span}
use Rattle.ddf_seal.specs.Seal.{seal_check, seal_place}
use Rattle.ddf_seal.specs.Records.{IsRecord, IsRecordOf, record_bytes}
use Rattle.ddf_seal.specs.Unread.{Field, u16_at, u32_at, u64_at, cleared}
use Rattle.ddf_tables.specs.declared.bad_blocks.BadBlock.{BadBlock}
use Rattle.ddf_tables.specs.declared.fault.TableFault.{TableFault}
use Rattle.ddf_tables.specs.declared.fault.TableFault.TheVariants as faults
use Rattle.ddf_tables.specs.declared.layout.TheConstants.{LOG_COUNT_AT, LOG_SPARE_COUNT_AT, LOG_FIRST_SPARE_AT, LOG_ENTRIES_AT, LOG_ENTRY_BYTES, BAD_SPARE_AT, BAD_COUNT_AT}
use Rattle.ddf_tables.specs.Places.{each_at}

-- What contracts see of a log: its entries in order, the count and the first LBA of the spare blocks, and the section with
-- zeros in the places of all fields.
pub record LogValue : Type 0 where
  pub entries : List BadBlock
  pub spare_count : ℕ
  pub first_spare : ℕ
  pub rest : List ℕ

abbrev pub log_signature : ℕ
log_signature = 0xABAD_B10C

-- ---- a log against its section

-- the fields of entries, one after another from an offset on: their last two bytes are unread
abbrev pub entry_fields : ℕ → List BadBlock → List Field
entry_fields at [] = []
entry_fields at (block ∷ blocks) = u64_at at block.start ∷ u32_at (at + BAD_SPARE_AT) block.spare ∷ u16_at (at + BAD_COUNT_AT) block.count ∷ entry_fields (at + LOG_ENTRY_BYTES) blocks

abbrev pub log_fields : LogValue → List Field
log_fields log = u16_at LOG_COUNT_AT (length log.entries) ∷ u32_at LOG_SPARE_COUNT_AT log.spare_count ∷ u64_at LOG_FIRST_SPARE_AT log.first_spare ∷ entry_fields LOG_ENTRIES_AT log.entries

-- A log is the value of a section: it is sealed, each field has the value that stands in it, all entries lie within it, and
-- the rest is all other bytes.
pub record IsLogOf (log : LogValue) (section : List ℕ) : Type 0 where
  pub long : LOG_ENTRIES_AT + LOG_ENTRY_BYTES * length log.entries ≤ length section
  pub is_record : IsRecordOf log_signature (log_fields log) log.rest section

-- A log can be written: its entries fit, and so do its numbers.
pub record IsLog (log : LogValue) : Type 0 where
  pub long : LOG_ENTRIES_AT + LOG_ENTRY_BYTES * length log.entries ≤ length log.rest
  pub is_record : IsRecord (log_fields log) log.rest

-- the section that a log is written as
abbrev pub log_bytes : LogValue → List ℕ
log_bytes log = record_bytes log_signature (log_fields log) log.rest

-- ---- reading

-- the places of the fields of an entry
abbrev pub entry_spans : ℕ → List Span
entry_spans at = record { at = at; length = 8 } ∷ record { at = at + BAD_SPARE_AT; length = 4 } ∷ record { at = at + BAD_COUNT_AT; length = 2 } ∷ []

-- those of so many entries
abbrev pub entry_places : ℕ → ℕ → List Span
entry_places at count = flat_map entry_spans (each_at (λ place. place) LOG_ENTRY_BYTES at count)

-- zeros in the places of the seal and of all fields of a log with so many entries
abbrev pub unread_of_log : ℕ → List ℕ → List ℕ
unread_of_log count bytes =
    cleared (seal_place ∷ record { at = LOG_COUNT_AT; length = 2 } ∷ record { at = LOG_SPARE_COUNT_AT; length = 4 } ∷ record { at = LOG_FIRST_SPARE_AT; length = 8 } ∷ entry_places LOG_ENTRIES_AT count) bytes

-- the entry at an offset
abbrev pub entry_at : List ℕ → ℕ → BadBlock
entry_at bytes at = record { start = number_at w64 bytes at; spare = number_at w32 bytes (at + BAD_SPARE_AT); count = number_at w16 bytes (at + BAD_COUNT_AT) }

-- the log that stands in a section
abbrev pub log_at : List ℕ → LogValue
log_at section = record {
  entries = each_at (entry_at section) LOG_ENTRY_BYTES LOG_ENTRIES_AT (number_at w16 section LOG_COUNT_AT);
  spare_count = number_at w32 section LOG_SPARE_COUNT_AT;
  first_spare = number_at w64 section LOG_FIRST_SPARE_AT;
  rest = unread_of_log (number_at w16 section LOG_COUNT_AT) section;
}

-- how many entries fit into so many bytes
abbrev pub entries_that_fit : ℕ → ℕ
entries_that_fit size = (size - LOG_ENTRIES_AT) / LOG_ENTRY_BYTES

-- what may be wrong with a section, in order
abbrev pub log_faults : List ℕ → List (Option TableFault)
log_faults section =
    option_map faults.Seal (result_err (seal_check log_signature section))
    ∷ when (nat_lt (entries_that_fit (length section)) (number_at w16 section LOG_COUNT_AT)) (faults.Count (number_at w16 section LOG_COUNT_AT) (entries_that_fit (length section)))
    ∷ []

-- the first fault, or else the log
abbrev pub decoded_log : List ℕ → Result LogValue TableFault
decoded_log section = ok_unless (first_of (log_faults section)) (log_at section)

-- ---- a new one

-- a log without entries, all of whose other bytes are FF
abbrev pub blank_log : ℕ → LogValue
blank_log size = record { entries = []; spare_count = 0; first_spare = 0; rest = unread_of_log 0 (replicate size 255) }
