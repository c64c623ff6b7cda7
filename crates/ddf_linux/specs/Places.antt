-- Which sectors of a slot are turned: those that lie where a sealed record of its anchor's copies may begin, and begin with
-- the signature of such a record.
use Rattle.std.specs.Prelude.{ℕ, ◌+◌, ◌-◌, ◌/◌, ◌%◌, Bool, true, not, ◌&&◌, ◌||◌, ◌==◌, nat_le, nat_lt, if◌then◌else◌, List, Option, Some, None, Result, Ok, Err}
use Rattle.std.specs.Int.{w32, w64}
use Rattle.ddf_bytes.specs.Bytes.{number_at}
use Rattle.ddf_seal.specs.declared.sealing.TheConstants.{SIGNATURE_AT}
use Rattle.ddf_header.specs.declared.kind.HeaderKind.TheVariants.{Anchor}
use Rattle.ddf_header.specs.declared.reading.Header.{Header}
use Rattle.ddf_header.specs.declared.fault.HeaderFault.{HeaderFault}
use Rattle.ddf_header.specs.declared.layout.TheConstants.{PRIMARY_LBA_AT, SECONDARY_LBA_AT}
use Rattle.ddf_header.specs.Header.{decoded, header_signature}
use Rattle.ddf_update.specs.declared.new_layout.NewLayout.{NewLayout}
use Rattle.ddf_update.specs.NewCopies.{new_geometry}
use Rattle.ddf_update.specs.NewLayouts.{primary_back, secondary_back}
use Rattle.ddf_linux.specs.declared.places.Copies.{Copies}
use Rattle.ddf_linux.specs.declared.places.Places.{Places}
use Rattle.ddf_linux.specs.declared.records.Records.{Records}
use Rattle.ddf_linux.specs.Crcs.{constant_of}
use Rattle.ddf_linux.specs.Layouts.{layout_of, records_with}

-- ---- by the anchor

abbrev pub copies_in : Result Header HeaderFault → Option Copies
copies_in (Err fault) = None
copies_in (Ok header) = Some (record { primary = header.primary_lba; secondary = header.secondary_lba; layout = layout_of header.geometry })

-- the copies that an anchor places, if it is a sound header
abbrev pub copies_of : List ℕ → Option Copies
copies_of anchor = copies_in (decoded Anchor anchor)

-- the places of a slot whose last sector, turned, is this anchor
abbrev pub places_of : ℕ → List ℕ → Places
places_of last anchor = record {
  anchor = last;
  primary = number_at w64 anchor PRIMARY_LBA_AT;
  secondary = number_at w64 anchor SECONDARY_LBA_AT;
  constant = constant_of 512;
  copies = copies_of anchor;
}

-- the places of a new disk of a layout and of so many sectors
abbrev pub new_places : NewLayout → (size : ℕ) → Places
new_places layout size = record {
  anchor = size - 1;
  primary = size - primary_back layout;
  secondary = size - secondary_back layout;
  constant = constant_of 512;
  copies = Some (record { primary = size - primary_back layout; secondary = size - secondary_back layout; layout = layout_of (new_geometry layout size) });
}

abbrev pub copies_lie_from : Option Copies → ℕ → Bool
copies_lie_from None lba = true
copies_lie_from (Some copies) lba = nat_le lba copies.primary && nat_le lba copies.secondary

-- the anchor and both headers lie at or behind an LBA, and so does each place: no record lies before its header
abbrev pub lie_from : Places → ℕ → Bool
lie_from places lba = nat_le lba places.anchor && copies_lie_from places.copies lba

-- ---- by the sector

-- the first sector of one of these records, behind a header at an LBA: a record without sectors stands nowhere
unfoldable pub is_first : Records → (header lba : ℕ) → Bool
is_first records header lba =
    let first = header + records.offset in
    nat_le first lba
    && (not (records.stride == 0)
    && (((lba - first) % records.stride == 0)
    && nat_lt ((lba - first) / records.stride) records.count))

-- in either copy
abbrev pub stands_at : Copies → Records → ℕ → Bool
stands_at copies records lba = is_first records copies.primary lba || is_first records copies.secondary lba

abbrev pub kind_constant : Copies → Option Records → ℕ → Option ℕ
kind_constant copies None lba = None
kind_constant copies (Some records) lba = if stands_at copies records lba then Some records.constant else None

-- what is added to the CRC of a sector of a copy that begins with a signature, if it is one of those that are turned
abbrev pub copies_constant : Copies → ℕ → ℕ → Option ℕ
copies_constant copies lba signature = kind_constant copies (records_with copies.layout signature) lba

abbrev pub constant_if : Option Copies → ℕ → ℕ → Option ℕ
constant_if None lba signature = None
constant_if (Some copies) lba signature = copies_constant copies lba signature

-- the number that a sector begins with
abbrev pub signature_of : List ℕ → ℕ
signature_of bytes = number_at w32 bytes SIGNATURE_AT

-- an anchor names the two headers where they were when the places were fixed
unfoldable pub names : Places → List ℕ → Bool
names places bytes = (number_at w64 bytes PRIMARY_LBA_AT == places.primary) && (number_at w64 bytes SECONDARY_LBA_AT == places.secondary)

-- And of any sector of the slot: the anchor is turned too, but for one that names other places.
unfoldable pub constant_at : Places → ℕ → List ℕ → Option ℕ
constant_at places lba bytes =
    if (signature_of bytes == header_signature) && (lba == places.anchor)
    then (if names places bytes then Some places.constant else None)
    else constant_if places.copies lba (signature_of bytes)
