-- The fields of a record, and its bytes that no field names: they are unread, and kept as they are.
use Rattle.std.specs.Prelude.{◌≡◌, ℕ, zero, suc, ◌+◌, ◌*◌, ◌<◌, ◌^◌, Bool, List, [], ◌∷◌, length, replicate, nat_le, map, fold, slice_index}
use Rattle.std.specs.List.{AllByRecursion, flat_map}
use Rattle.std.specs.Int.{w16, w32, w64, to_be_bytes}
use Rattle.ddf_bytes.specs.Bytes.{bytes_at, number_at, with_bytes_at}
use Rattle.ddf_seal.specs.declared.unread.Span.{Span}

-- What stands at an offset: a big-endian number of one, two, four or eight bytes, so many numbers of four or of eight
-- bytes each, or so many bytes.
pub data Field : Type 0 where
  u8_at : (at value : ℕ) → Field
  u16_at : (at value : ℕ) → Field
  u32_at : (at value : ℕ) → Field
  u64_at : (at value : ℕ) → Field
  u32s_at : (at count : ℕ) (values : List ℕ) → Field
  u64s_at : (at count : ℕ) (values : List ℕ) → Field
  plain_at : (at size : ℕ) (bytes : List ℕ) → Field

-- where a field stands
abbrev pub place_of : Field → Span
place_of (u8_at at value) = record { at = at; length = 1 }
place_of (u16_at at value) = record { at = at; length = 2 }
place_of (u32_at at value) = record { at = at; length = 4 }
place_of (u64_at at value) = record { at = at; length = 8 }
place_of (u32s_at at count values) = record { at = at; length = 4 * count }
place_of (u64s_at at count values) = record { at = at; length = 8 * count }
place_of (plain_at at size bytes) = record { at = at; length = size }

-- the bytes that a field is written as
abbrev pub bytes_of : Field → List ℕ
bytes_of (u8_at at value) = value ∷ []
bytes_of (u16_at at value) = to_be_bytes w16 value
bytes_of (u32_at at value) = to_be_bytes w32 value
bytes_of (u64_at at value) = to_be_bytes w64 value
bytes_of (u32s_at at count values) = flat_map (to_be_bytes w32) values
bytes_of (u64s_at at count values) = flat_map (to_be_bytes w64) values
bytes_of (plain_at at size bytes) = bytes

-- so many numbers of four bytes each, one after another
unfoldable pub numbers32_at : List ℕ → ℕ → ℕ → List ℕ
numbers32_at bytes at zero = []
numbers32_at bytes at (suc count) = number_at w32 bytes at ∷ numbers32_at bytes (at + 4) count

-- so many numbers of eight bytes each
unfoldable pub numbers64_at : List ℕ → ℕ → ℕ → List ℕ
numbers64_at bytes at zero = []
numbers64_at bytes at (suc count) = number_at w64 bytes at ∷ numbers64_at bytes (at + 8) count

-- A field has the value that stands in the bytes.
abbrev pub Stands : List ℕ → Field → Type 0
Stands bytes (u8_at at value) = slice_index bytes at ≡ value
Stands bytes (u16_at at value) = number_at w16 bytes at ≡ value
Stands bytes (u32_at at value) = number_at w32 bytes at ≡ value
Stands bytes (u64_at at value) = number_at w64 bytes at ≡ value
Stands bytes (u32s_at at count values) = numbers32_at bytes at count ≡ values
Stands bytes (u64s_at at count values) = numbers64_at bytes at count ≡ values
Stands bytes (plain_at at size plain) = bytes_at bytes at size ≡ plain

-- A field's value can be written in its place.
abbrev pub Fits : Field → Type 0
Fits (u8_at at value) = value < 2 ^ 8
Fits (u16_at at value) = value < 2 ^ 16
Fits (u32_at at value) = value < 2 ^ 32
Fits (u64_at at value) = value < 2 ^ 64
Fits (u32s_at at count values) = (length values ≡ count) × AllByRecursion (λ value. value < 2 ^ 32) values
Fits (u64s_at at count values) = (length values ≡ count) × AllByRecursion (λ value. value < 2 ^ 64) values
Fits (plain_at at size bytes) = length bytes ≡ size

-- a field lies within so many bytes
abbrev pub is_within : ℕ → Span → Bool
is_within size span = nat_le (span.at + span.length) size

-- the bytes with others from an offset on
unfoldable pub placed : List ℕ → ℕ → List ℕ → List ℕ
placed bytes at new = with_bytes_at bytes at new

-- the bytes with zeros in a place
abbrev pub cleared_one : List ℕ → Span → List ℕ
cleared_one bytes span = placed bytes span.at (replicate span.length 0)

-- the bytes with zeros in the places of fields: only unread bytes are left
abbrev pub cleared : List Span → List ℕ → List ℕ
cleared spans bytes = fold cleared_one bytes spans

-- the bytes with each field in its place
abbrev pub written : List Field → List ℕ → List ℕ
written fields bytes = fold (λ before field. placed before (place_of field).at (bytes_of field)) bytes fields

-- the places of fields
abbrev pub places : List Field → List Span
places fields = map place_of fields

-- each element is a byte
abbrev pub AreBytes : List ℕ → Type 0
AreBytes bytes = (i : ℕ) → slice_index bytes i < 256
