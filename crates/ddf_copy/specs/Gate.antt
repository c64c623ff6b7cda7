-- What may be wrong with the header of a copy (profile).
use Rattle.std.specs.Prelude.{ℕ, ◌-◌, Bool, not, ◌&&◌, ◌||◌, ◌==◌, nat_le, nat_lt, List, [], ◌∷◌, slice_get, true, false, Option, Some, None, option_map, position, Result, Ok, Err, if◌then◌else◌}
use Rattle.std.specs.List.{range_with_len}
use Rattle.ddf_bytes.specs.Choices.{first_of, ok_unless, when}
use Rattle.ddf_seal.specs.Records.{record_bytes}
use Rattle.ddf_header.specs.declared.reading.Header.{Header}
use Rattle.ddf_header.specs.declared.fault.HeaderFault.{HeaderFault}
use Rattle.ddf_header.specs.declared.layout.TheConstants.{GUID_AT, SEQUENCE_AT, PRIMARY_LBA_AT, KIND_AT, WORKSPACE_LENGTH_AT}
use Rattle.ddf_header.specs.Header.{decoded, header_signature, header_fields}
use Rattle.ddf_copy.specs.declared.which.Which.{Which}
use Rattle.ddf_copy.specs.declared.fault.CopyFault.{CopyFault}
use Rattle.ddf_copy.specs.declared.fault.CopyFault.TheVariants as faults
use Rattle.ddf_copy.specs.Which.{kind_of, other_of, place_of}
use Rattle.ddf_copy.specs.Room.{room_fault}

-- the sector that a header is written as
abbrev pub header_bytes : Header → List ℕ
header_bytes header = record_bytes header_signature (header_fields header) header.rest

-- The GUID and the revision, the two LBAs, and all from the workspace length on are the anchor's.
abbrev pub is_shared : ℕ → Bool
is_shared at = (nat_le GUID_AT at && nat_lt at SEQUENCE_AT) || (nat_le PRIMARY_LBA_AT at && nat_lt at KIND_AT) || (nat_le WORKSPACE_LENGTH_AT at && nat_lt at 512)

-- two bytes, where there are some, are the same
abbrev pub is_same_byte : Option ℕ → Option ℕ → Bool
is_same_byte (Some one) (Some other) = one == other
is_same_byte None None = true
is_same_byte one other = false

abbrev pub differ_at : (one other : List ℕ) → ℕ → Bool
differ_at one other at = is_shared at && not (is_same_byte (slice_get one at) (slice_get other at))

-- the least offset of such a byte that isn't the anchor's
unfoldable pub first_difference : (anchor header : List ℕ) → Option ℕ
first_difference anchor header = position (differ_at anchor header) (range_with_len 0 512)

-- what may be wrong with a header that was read at its place on a disk of so many sectors, in order
abbrev pub gate_faults : (size : ℕ) → (anchor : Header) → Which → Header → List ℕ → List (Option CopyFault)
gate_faults size anchor which header sector =
    when (not (header.openness == 0)) (faults.Opened header.sequence)
    ∷ option_map faults.Anchor (first_difference (header_bytes anchor) sector)
    ∷ option_map faults.Room (room_fault (size - 1) (place_of which anchor) (place_of (other_of which) anchor) header.geometry.sections)
    ∷ []

unfoldable pub gate_fault : (size : ℕ) → (anchor : Header) → Which → Header → List ℕ → Option CopyFault
gate_fault size anchor which header sector = first_of (gate_faults size anchor which header sector)

-- the header that was read at its place, or what is wrong with it
abbrev pub gated : (size : ℕ) → (anchor : Header) → Which → (sector : List ℕ) → Result Header HeaderFault → Result Header CopyFault
gated size anchor which sector (Ok header) = ok_unless (gate_fault size anchor which header sector) header
gated size anchor which sector (Err fault) = Err (faults.Header fault)

unfoldable pub header_in : (size : ℕ) → (anchor : Header) → Which → (sector : List ℕ) → Result Header CopyFault
header_in size anchor which sector = gated size anchor which sector (decoded (kind_of which) sector)

-- The header of a copy, where it is one of its kind, is closed, is the anchor's and has room. Otherwise the first fault.
unfoldable pub header_of : (size : ℕ) → (ℕ → List ℕ) → (anchor : Header) → Which → Result Header CopyFault
header_of size sector anchor which =
    if nat_lt (place_of which anchor) size then header_in size anchor which (sector (place_of which anchor)) else Err (faults.Room 0)
