-- Records over the bytes of others, and new ones (SNIA DDF 2.0; what is kept is profile).
use Rattle.std.specs.Prelude.{ℕ, ◌+◌, ◌-◌, ◌*◌, ◌/◌, List, ◌∷◌, length, map, replicate, Option}
use Rattle.std.specs.List.{range_with_len}
use Rattle.std.specs.Option.{option_map_or}
use Rattle.ddf_seal.specs.Seal.{seal_place}
use Rattle.ddf_seal.specs.Unread.{Field, u16_at, cleared, placed, places, written}
use Rattle.ddf_header.specs.declared.geometry.Geometry.{Geometry}
use Rattle.ddf_config_records.specs.declared.spare.SpareRecord.{SpareRecord}
use Rattle.ddf_config_records.specs.declared.layout.TheConstants.{CACHE_AT, SPARE_POPULATED_AT, SPARE_MAXIMUM_AT, SPARE_ENTRIES_AT, SPARE_ENTRY_BYTES, SPARE_SECONDARY_AT}
use Rattle.ddf_config_records.specs.ElementValue.{ElementValue}
use Rattle.ddf_config_records.specs.Elements.{element_fields, record_size}
use Rattle.ddf_config_records.specs.Spares.{spare_fields}

-- ---- an element

-- what is left of bytes where the fields of an element and the seal are taken out
abbrev pub element_unread : Geometry → List ℕ → ElementValue → List ℕ
element_unread geometry bytes element = cleared (seal_place ∷ places (element_fields geometry.max_members element)) bytes

-- all bytes of a record but its seal
abbrev pub element_bytes : Geometry → ElementValue → List ℕ
element_bytes geometry element = written (element_fields geometry.max_members element) element.rest

-- An element over the bytes of another's record. The bytes of members that the other has beyond its own stay, and are unread.
abbrev pub element_over : Geometry → (bytes : ElementValue) → ElementValue → ElementValue
element_over geometry bytes element = record element { rest = element_unread geometry (element_bytes geometry bytes) element }

-- A new record has FF in all bytes, and zeros in the cache bytes 128 to 135.
unfoldable pub new_record_bytes : Geometry → List ℕ
new_record_bytes geometry = placed (replicate (record_size geometry) 255) CACHE_AT (replicate 8 0)

-- an element over a new record
abbrev pub fresh_element : Geometry → ElementValue → ElementValue
fresh_element geometry element = record element { rest = element_unread geometry (new_record_bytes geometry) element }

-- ---- a spare record

-- how many arrays a spare record has room for
abbrev pub spare_entries : Geometry → ℕ
spare_entries geometry = (record_size geometry - SPARE_ENTRIES_AT) / SPARE_ENTRY_BYTES

-- secondary element 0 in so many entries
abbrev pub secondary_fields : ℕ → List Field
secondary_fields count = map (λ index. u16_at (SPARE_ENTRIES_AT + SPARE_SECONDARY_AT + SPARE_ENTRY_BYTES * index) 0) (range_with_len 0 count)

-- The numbers of a spare record that no field of it names and that its arrays give: the populated count, the maximum, and the
-- secondary element of each entry.
abbrev pub spare_numbers : Geometry → (arrays : ℕ) → List Field
spare_numbers geometry arrays = u16_at SPARE_POPULATED_AT arrays ∷ u16_at SPARE_MAXIMUM_AT (spare_entries geometry) ∷ secondary_fields arrays

-- the bytes of an old record but its seal, or else FF
abbrev pub spare_bytes : Geometry → Option SpareRecord → List ℕ
spare_bytes geometry old = option_map_or (λ spare. written (spare_fields spare) spare.rest) old (replicate (record_size geometry) 255)

-- A spare record over the bytes of an old one, or of a new one: these numbers are set, and all other unread bytes stay.
abbrev pub spare_over : Geometry → (old : Option SpareRecord) → SpareRecord → SpareRecord
spare_over geometry old spare = record spare {
  rest = cleared (seal_place ∷ places (spare_fields spare)) (written (spare_numbers geometry (length spare.arrays)) (spare_bytes geometry old));
}
