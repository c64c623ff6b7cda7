-- The records of a disk are read from its floor on: sectors below it change none of them.
use Rattle.std.proofs.Common.{◌≡◌, ℕ, zero, suc, ◌+◌, ◌-◌, ◌<◌, ◌≤◌, nat_lt, ◌==◌, List, ◌∷◌, map, Some, Result, Ok, Err, if◌then◌else◌, refl, sym, ap, ◌∙◌, arith}
use Rattle.std.specs.List.{range_with_len}
use Rattle.ddf_header.specs.declared.reading.Header.{Header}
use Rattle.ddf_header.specs.declared.geometry.Section.{Section}
use Rattle.ddf_header.specs.declared.geometry.Geometry.{Geometry}
use Rattle.ddf_header.specs.Geometry.{section_of}
use Rattle.ddf_copy.specs.declared.which.Which.{Which}
use Rattle.ddf_copy.specs.declared.which.Which.TheVariants.{Primary, Secondary}
use Rattle.ddf_copy.specs.declared.fault.AnchorFault.{AnchorFault}
use Rattle.ddf_copy.specs.declared.fault.AnchorFault.TheVariants.{Blank}
use Rattle.ddf_copy.specs.declared.newest_copy.Newest.{Newest}
use Rattle.ddf_copy.specs.declared.fault.CopyFault.TheVariants as faults
use Rattle.ddf_copy.specs.Anchor.{anchor_at, anchor_in}
use Rattle.ddf_copy.specs.Copies.{copy_of, newest_at, newest_of, newest_under}
use Rattle.ddf_copy.specs.Gate.{header_in, header_of}
use Rattle.ddf_copy.specs.Sections.{and_then, copy_in, raw_at, sectors_at, whole_slots}
use Rattle.ddf_copy.specs.Which.{place_of}
use Rattle.ddf_copy.proofs.Newests.{newest_same}
use Rattle.ddf_history_steps.specs.Floors.{HasFloor as DiskFloor}

-- Two disks hold the same from an LBA on.
abbrev pub AreSameFrom : (floor : ℕ) → (one other : ℕ → List ℕ) → Type 0
AreSameFrom floor one other = (l : ℕ) → floor ≤ l → one l ≡ other l

range_same : (floor : ℕ) (one other : ℕ → List ℕ) → AreSameFrom floor one other → (from count : ℕ) → floor ≤ from
    → map one (range_with_len from count) ≡ map other (range_with_len from count)
range_same floor one other same from zero le = refl
range_same floor one other same from (suc count) le =
    ap (λ (first : List ℕ). first ∷ map one (range_with_len (from + 1) count)) (same from le)
    ∙ ap (λ (rest : List (List ℕ)). other from ∷ rest) (range_same floor one other same (from + 1) count (omega (arith, le)))

-- A disk whose copies are read has an anchor.
anchor_there : (size : ℕ) (sector : ℕ → List ℕ) (newest : Newest) → newest_at size sector ≡ Some newest → (anchor : Header) × (anchor_at size sector ≡ Ok anchor)
anchor_there size sector newest is = by (anchor_at size sector) refl is
  where
    by : (found : Result Header AnchorFault) → anchor_at size sector ≡ found → newest_under size sector found ≡ Some newest → (anchor : Header) × (anchor_at size sector ≡ Ok anchor)
    by (Ok anchor) here there = (anchor, here)
    by (Err fault) here there = absurd cc

module _ (floor : ℕ) (one other : ℕ → List ℕ) (same : AreSameFrom floor one other) where
  section_same : (lba : ℕ) → floor ≤ lba → (section : Section) → sectors_at one lba section ≡ sectors_at other lba section
  section_same lba le section = range_same floor one other same (lba + section.offset) section.length (omega (arith, le))

  raw_same : (lba : ℕ) → floor ≤ lba → (geometry : Geometry) → raw_at one lba geometry ≡ raw_at other lba geometry
  raw_same lba le geometry =
      let controller = same (lba + (section_of geometry 0).offset) (omega (arith, le)) in
      let disks = section_same lba le (section_of geometry 1) in
      let arrays = section_same lba le (section_of geometry 2) in
      let records = section_same lba le (whole_slots geometry) in
      let disk_data = same (lba + (section_of geometry 4).offset) (omega (arith, le)) in
      let bad_blocks = section_same lba le (section_of geometry 5) in
      λ i. record {
        controller = controller i;
        disks = disks i;
        arrays = arrays i;
        records = records i;
        disk_data = disk_data i;
        bad_blocks = bad_blocks i;
      }

  module _ (size : ℕ) (anchor : Header) where
    header_same : (which : Which) → floor ≤ place_of which anchor → header_of size one anchor which ≡ header_of size other anchor which
    unfolding header_of
    header_same which le =
        ap (λ (bytes : List ℕ). if nat_lt (place_of which anchor) size then header_in size anchor which bytes else Err (faults.Room 0)) (same (place_of which anchor) le)

    -- A copy behind the floor is the same,
    pub copy_same : (which : Which) → floor ≤ place_of which anchor → copy_of size one anchor which ≡ copy_of size other anchor which
    unfolding copy_of
    copy_same which le =
        let header = header_same which le in
        λ i. and_then (header i) (λ header. copy_in header (raw_same (place_of which anchor) le header.geometry i))

    -- and so is the newest of both.
    pub newest_of_same : floor ≤ anchor.primary_lba → floor ≤ anchor.secondary_lba → newest_of size one anchor ≡ newest_of size other anchor
    newest_of_same primary secondary = newest_same size one other anchor Primary (copy_same Primary primary) (copy_same Secondary secondary)

  -- The anchor is the same, where it stands behind the floor.
  pub anchor_same : (size : ℕ) → floor < size → anchor_at size one ≡ anchor_at size other
  unfolding anchor_at
  anchor_same size within =
      ap (λ (bytes : List ℕ). if size == 0 then Err Blank else anchor_in bytes) (same (size - 1) (omega (arith, within)))

  -- What a disk holds of records is the same, whose anchor has both copies behind the floor.
  pub newest_at_same : (size : ℕ) (anchor : Header) → floor < size → anchor_at size one ≡ Ok anchor → floor ≤ anchor.primary_lba → floor ≤ anchor.secondary_lba
      → newest_at size one ≡ newest_at size other
  newest_at_same size anchor within is primary secondary =
      ap (newest_under size one) is
      ∙ ap Some (newest_of_same size anchor primary secondary)
      ∙ sym (ap (newest_under size other) (sym (anchor_same size within) ∙ is))

  -- So it has its floor.
  pub floor_same : (size : ℕ) → DiskFloor size one floor → DiskFloor size other floor
  floor_same size has = record {
    same_floor = λ newest copy here stands.
        let found = anchor_there size other newest here in
        let anchored = anchor_same size has.within ∙ found.1 in
        let read = newest_at_same size found.0 has.within anchored (has.below found.0 anchored Primary) (has.below found.0 anchored Secondary) in
        has.same_floor newest copy (read ∙ here) stands;
    below = λ anchor is. has.below anchor (anchor_same size has.within ∙ is);
    within = has.within;
  }
