-- A copy is read from its bytes.
use Rattle.std.proofs.Common.{◌≡◌, ℕ, zero, suc, ◌+◌, ◌*◌, List, [], ◌++◌, length, map, Ok, refl, sym, ap, ◌∙◌, arith}
use Rattle.std.proofs.lemmas.List.{length-append}
use Rattle.std.proofs.lemmas.List.FromFn.{length-map-range_with_len}
use Rattle.std.specs.List.{flat_map, range_with_len}
use Rattle.ddf_lemmas.proofs.Lists.{append_parts}
use Rattle.ddf_header.specs.declared.geometry.Section.{Section}
use Rattle.ddf_header.specs.declared.geometry.Geometry.{Geometry}
use Rattle.ddf_header.specs.declared.reading.Header.{Header}
use Rattle.ddf_header.specs.Geometry.{section_of}
use Rattle.ddf_header.specs.Header.{IsHeaderOf}
use Rattle.ddf_copy.specs.declared.copy.DiskCopy.{DiskCopy}
use Rattle.ddf_copy.specs.declared.raw.Raw.{Raw}
use Rattle.ddf_copy.specs.declared.which.Which.{Which}
use Rattle.ddf_copy.specs.Copies.{copy_of}
use Rattle.ddf_copy.specs.Headers.{IsUnder, closed_header, written_as}
use Rattle.ddf_copy.specs.Image.{AreLong, HoldsImage}
use Rattle.ddf_copy.specs.Runs.{IsReadAs}
use Rattle.ddf_copy.specs.Sections.{HasSizes, bytes_in, copy_in, raw_at, raw_bytes, sectors_at, whole_slots}
use Rattle.ddf_copy.specs.Which.{kind_of, place_of}
use Rattle.ddf_copy.proofs.Stands.{header_stands, place_within}

-- ---- pieces

-- the sections are the same, by the bytes of their sectors
pub record AreSame (one other : Raw) : Type 0 where
  pub controller_is : one.controller ≡ other.controller
  pub disks_are : bytes_in one.disks ≡ bytes_in other.disks
  pub arrays_are : bytes_in one.arrays ≡ bytes_in other.arrays
  pub records_are : bytes_in one.records ≡ bytes_in other.records
  pub disk_data_is : one.disk_data ≡ other.disk_data
  pub bad_blocks_are : bytes_in one.bad_blocks ≡ bytes_in other.bad_blocks
  pub bad_blocks_count : length one.bad_blocks ≡ length other.bad_blocks

same_read : (header : Header) (one other : Raw) → AreSame one other → copy_in header one ≡ copy_in header other
unfolding copy_in
same_read header one other are =
    rw (are.controller_is, are.disks_are, are.arrays_are, are.records_are, are.disk_data_is, are.bad_blocks_count, are.bad_blocks_are) refl

-- ---- what is read of a disk whose sectors have 512 bytes

long_run : (sector : ℕ → List ℕ) → ((l : ℕ) → length (sector l) ≡ 512) → (start count : ℕ) → length (bytes_in (map sector (range_with_len start count))) ≡ 512 * count
long_run sector long start zero = refl
long_run sector long start (suc count) =
    let rest = long_run sector long (start + 1) count in
    length-append (sector start) (bytes_in (map sector (range_with_len (start + 1) count))) ∙ omega (arith, long start, rest)

same_long : (sector : ℕ → List ℕ) → ((l : ℕ) → length (sector l) ≡ 512) → (lba : ℕ) (section : Section) (sectors : List (List ℕ)) → length sectors ≡ section.length
    → length (bytes_in sectors) ≡ 512 * length sectors → length (bytes_in (sectors_at sector lba section)) ≡ length (bytes_in sectors)
same_long sector long lba section sectors size bytes =
    long_run sector long (lba + section.offset) section.length ∙ ap (λ (n : ℕ). 512 * n) (sym size) ∙ sym bytes

sections_same : (sector : ℕ → List ℕ) (lba : ℕ) (geometry : Geometry) (raw : Raw) → ((l : ℕ) → length (sector l) ≡ 512) → HasSizes geometry raw → AreLong raw
    → flat_map (λ section. section) (raw_bytes (raw_at sector lba geometry)) ≡ flat_map (λ section. section) (raw_bytes raw) → AreSame (raw_at sector lba geometry) raw
sections_same sector lba geometry raw long sizes are same =
    let s = λ (k : ℕ). section_of geometry k in
    let controller = append_parts (sector (lba + (s 0).offset)) _ raw.controller _ (long (lba + (s 0).offset) ∙ sym are.controller_long) same in
    let disks = append_parts (bytes_in (sectors_at sector lba (s 1))) _ (bytes_in raw.disks) _ (same_long sector long lba (s 1) raw.disks sizes.disks_size are.disks_long) controller.1 in
    let arrays = append_parts (bytes_in (sectors_at sector lba (s 2))) _ (bytes_in raw.arrays) _ (same_long sector long lba (s 2) raw.arrays sizes.arrays_size are.arrays_long) disks.1 in
    let records =
    append_parts (bytes_in (sectors_at sector lba (whole_slots geometry))) _ (bytes_in raw.records) _ (same_long sector long lba (whole_slots geometry) raw.records sizes.records_size are.records_long) arrays.1 in
    let disk_data = append_parts (sector (lba + (s 4).offset)) _ raw.disk_data _ (long (lba + (s 4).offset) ∙ sym are.disk_data_long) records.1 in
    let bad_blocks = append_parts (bytes_in (sectors_at sector lba (s 5))) [] (bytes_in raw.bad_blocks) [] (same_long sector long lba (s 5) raw.bad_blocks sizes.bad_blocks_size are.bad_blocks_long) disk_data.1 in
    record {
      controller_is = controller.0;
      disks_are = disks.0;
      arrays_are = arrays.0;
      records_are = records.0;
      disk_data_is = disk_data.0;
      bad_blocks_are = bad_blocks.0;
      bad_blocks_count = length-map-range_with_len sector (lba + (s 5).offset) (s 5).length ∙ sym sizes.bad_blocks_size;
    }

-- What a copy's bytes are made of: its header, and sections that are read as the copy.
pub record IsImageOf (copy : DiskCopy) (which : Which) (head : List ℕ) (raw : Raw) : Type 0 where
  pub is_header : IsHeaderOf (kind_of which) (closed_header copy which) head
  pub is_read : IsReadAs copy raw
  pub has_sizes : HasSizes copy.header.geometry raw
  pub are_long : AreLong raw

-- A copy that can be written under this anchor is read from its bytes.
pub image_stands : (size : ℕ) (sector : ℕ → List ℕ) (anchor : Header) (which : Which) (copy : DiskCopy) (head : List ℕ) (raw : Raw) (image : List ℕ)
    → IsImageOf copy which head raw → image ≡ head ++ flat_map (λ section. section) (raw_bytes raw) → IsUnder size anchor copy
    → HoldsImage sector (place_of which anchor) copy.header.geometry image → copy_of size sector anchor which ≡ Ok (written_as copy which)
unfolding copy_of
image_stands size sector anchor which copy head raw image is bytes under holds =
    let lba = place_of which anchor in
    let pieces = append_parts (sector lba) _ head _ (holds.sectors_long lba ∙ sym is.is_header.size) (holds.bytes_are ∙ bytes) in
    let header = header_stands size sector anchor which (closed_header copy which) head is.is_header pieces.0 (place_within size anchor copy which under) (under.has_gate which) in
    let same = sections_same sector lba copy.header.geometry raw holds.sectors_long is.has_sizes is.are_long pieces.1 in
    rw header (same_read (closed_header copy which) (raw_at sector lba copy.header.geometry) raw same ∙ is.is_read (closed_header copy which) refl refl refl)
