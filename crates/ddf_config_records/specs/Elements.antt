-- An element record against its bytes (SNIA DDF 2.0, the virtual disk configuration record). The bounds are profile.
use Rattle.std.specs.Prelude.{◌≡◌, ℕ, ◌+◌, ◌*◌, ◌/◌, ◌≤◌, Bool, not, ◌&&◌, ◌||◌, ◌==◌, nat_lt, nat_le, List, [], ◌∷◌, ◌++◌, length, map, Option, None, slice_index}
use Rattle.std.specs.List.{list_any, range_with_len}
use Rattle.std.specs.Int.{w16, w32, w64}
use Rattle.ddf_bytes.specs.Bytes.{bytes_at, number_at}
use Rattle.ddf_bytes.specs.Choices.{first_of, when}
use Rattle.ddf_seal.specs.declared.unread.Span.{Span}
use Rattle.ddf_seal.specs.Seal.{seal_place}
use Rattle.ddf_seal.specs.Records.{IsRecord, IsRecordOf}
use Rattle.ddf_seal.specs.Unread.{Field, u8_at, u16_at, u32_at, u64_at, u32s_at, u64s_at, plain_at, numbers32_at, cleared, places}
use Rattle.ddf_header.specs.declared.geometry.Geometry.{Geometry}
use Rattle.ddf_config_records.specs.declared.place.Place.{Place}
use Rattle.ddf_config_records.specs.declared.fault.ElementFault.{ElementFault}
use Rattle.ddf_config_records.specs.declared.fault.ElementFault.TheVariants as faults
use Rattle.ddf_config_records.specs.declared.layout.TheConstants.{GUID_AT, TIMESTAMP_AT, SEQUENCE_AT, MEMBERS_AT, STRIP_AT, LEVEL_AT, QUALIFIER_AT, ELEMENTS_AT, INDEX_AT, SECONDARY_AT, BLOCKS_AT, SIZE_AT, BLOCK_SIZE_AT, SPARES_AT, REFERENCES_AT}
use Rattle.ddf_config_records.specs.ElementValue.{ElementValue}

-- the bytes of each record
abbrev pub record_size : Geometry → ℕ
record_size geometry = 512 * geometry.record_length

-- What a geometry without a fault has: a record has room for the references and starting LBAs of as many members as are
-- allowed, and a bit for each of these fills whole bytes.
pub record HasRoom (geometry : Geometry) : Type 0 where
  pub whole : REFERENCES_AT + 12 * geometry.max_members ≤ record_size geometry
  pub bits : 8 * (geometry.max_members / 8) ≡ geometry.max_members

-- ---- the table of fields

-- the fields in the first sector
abbrev pub name_fields : ElementValue → List Field
name_fields element =
    plain_at GUID_AT 24 element.array
    ∷ u32_at TIMESTAMP_AT element.timestamp
    ∷ u32_at SEQUENCE_AT element.sequence
    ∷ u16_at MEMBERS_AT (length element.members)
    ∷ u8_at STRIP_AT element.strip
    ∷ u8_at LEVEL_AT element.level
    ∷ u8_at QUALIFIER_AT element.qualifier
    ∷ []

abbrev pub shape_fields : ElementValue → List Field
shape_fields element =
    u8_at ELEMENTS_AT element.elements
    ∷ u8_at INDEX_AT element.index
    ∷ u8_at SECONDARY_AT element.secondary
    ∷ u64_at BLOCKS_AT element.blocks
    ∷ u64_at SIZE_AT element.size
    ∷ u16_at BLOCK_SIZE_AT element.block_size
    ∷ u32s_at SPARES_AT 8 element.spares
    ∷ []

abbrev pub head_fields : ElementValue → List Field
head_fields element = name_fields element ++ shape_fields element

-- The references of the members from byte 512 on, and their starting LBAs behind the references of as many members as the
-- geometry allows.
abbrev pub member_fields : ℕ → ElementValue → List Field
member_fields most element =
    u32s_at REFERENCES_AT (length element.members) (map (λ member. member.reference) element.members)
    ∷ u64s_at (REFERENCES_AT + 4 * most) (length element.members) (map (λ member. member.start) element.members)
    ∷ []

-- the places of so many members' references and starting LBAs
abbrev pub member_places : (most count : ℕ) → List Span
member_places most count = record { at = REFERENCES_AT; length = 4 * count } ∷ record { at = REFERENCES_AT + 4 * most; length = 8 * count } ∷ []

-- all fields, in order
abbrev pub element_fields : ℕ → ElementValue → List Field
element_fields most element = head_fields element ++ member_fields most element

-- ---- the values that it may have

-- A strip of these levels is taken as one sector, where the array has one element.
abbrev pub has_no_strip : ℕ → ℕ → Bool
has_no_strip level elements = elements == 1 && list_any (λ n. level == n) (0x01 ∷ 0x0F ∷ 0x1F ∷ [])

-- what may be wrong, in order
abbrev pub element_faults_of : (most members strip level elements index block_size : ℕ) → List (Option ElementFault)
element_faults_of most members strip level elements index block_size =
    when (members == 0 || nat_lt most members || nat_lt 64 members) (faults.Members members)
    ∷ when (nat_lt 31 strip && not (has_no_strip level elements)) (faults.Stripe strip)
    ∷ when (elements == 0 || nat_lt 16 elements || nat_le elements index) (faults.Secondary elements)
    ∷ when (not (list_any (λ n. block_size == n) (0 ∷ 512 ∷ 0xFFFF ∷ []))) (faults.Block block_size)
    ∷ []

-- the first of them
unfoldable pub fault_of : (most members strip level elements index block_size : ℕ) → Option ElementFault
fault_of most members strip level elements index block_size = first_of (element_faults_of most members strip level elements index block_size)

-- what is wrong with an element
abbrev pub element_fault : ℕ → ElementValue → Option ElementFault
element_fault most element = fault_of most (length element.members) element.strip element.level element.elements element.index element.block_size

-- An element can be written under a geometry: its numbers fit, and its rest has zeros in the places of the fields.
pub record CanBeElement (geometry : Geometry) (element : ElementValue) : Type 0 where
  pub size : length element.rest ≡ record_size geometry
  pub is_element : element_fault geometry.max_members element ≡ None
  pub is_record : IsRecord (element_fields geometry.max_members element) element.rest

-- An element is the value of a record under a signature: the record is sealed, each field has the value that stands at its
-- offset, the rest is all other bytes, and the values are ones that it may have.
pub record IsElementOf (signature : ℕ) (geometry : Geometry) (element : ElementValue) (bytes : List ℕ) : Type 0 where
  pub size : length bytes ≡ record_size geometry
  pub is_record : IsRecordOf signature (element_fields geometry.max_members element) element.rest bytes
  pub is_element : element_fault geometry.max_members element ≡ None

-- ---- reading

-- what is wrong with the element of a record
abbrev pub element_fault_at : ℕ → List ℕ → Option ElementFault
element_fault_at most bytes =
    fault_of most (number_at w16 bytes MEMBERS_AT) (slice_index bytes STRIP_AT) (slice_index bytes LEVEL_AT) (slice_index bytes ELEMENTS_AT) (slice_index bytes INDEX_AT) (number_at w16 bytes BLOCK_SIZE_AT)

-- the member of an index
abbrev pub member_at : ℕ → List ℕ → ℕ → Place
member_at most bytes index = record {
  reference = number_at w32 bytes (REFERENCES_AT + 4 * index);
  start = number_at w64 bytes (REFERENCES_AT + 4 * most + 8 * index);
}

unfoldable pub members_at : ℕ → List ℕ → ℕ → List Place
members_at most bytes count = map (member_at most bytes) (range_with_len 0 count)

-- the value of each field, and these bytes as the rest
unfoldable pub element_with : ℕ → List ℕ → List ℕ → ElementValue
element_with most bytes rest = record {
  array = bytes_at bytes GUID_AT 24;
  timestamp = number_at w32 bytes TIMESTAMP_AT;
  sequence = number_at w32 bytes SEQUENCE_AT;
  strip = slice_index bytes STRIP_AT;
  level = slice_index bytes LEVEL_AT;
  qualifier = slice_index bytes QUALIFIER_AT;
  elements = slice_index bytes ELEMENTS_AT;
  index = slice_index bytes INDEX_AT;
  secondary = slice_index bytes SECONDARY_AT;
  blocks = number_at w64 bytes BLOCKS_AT;
  size = number_at w64 bytes SIZE_AT;
  block_size = number_at w16 bytes BLOCK_SIZE_AT;
  spares = numbers32_at bytes SPARES_AT 8;
  members = members_at most bytes (number_at w16 bytes MEMBERS_AT);
  rest = rest;
}

-- the bytes of a record that no field of its element names, and zeros in all other places
unfoldable pub element_rest : ℕ → List ℕ → List ℕ
element_rest most bytes = cleared (seal_place ∷ places (element_fields most (element_with most bytes []))) bytes

-- the element that stands in a record
abbrev pub element_at : ℕ → List ℕ → ElementValue
element_at most bytes = element_with most bytes (element_rest most bytes)
