-- Where the front of a copy's log stands: no other part of either copy has its sector.
use Rattle.std.proofs.Common.{◌≡◌, ◌≢◌, ℕ, ◌+◌, ◌-◌, ◌*◌, ◌<◌, ◌≤◌, List, [], ◌∷◌, length, Ok, refl, inl, inr, arith}
use Rattle.std.proofs.lemmas.List.FromFn.{length-map-range_with_len}
use Rattle.ddf_header.specs.declared.geometry.Section.{Section}
use Rattle.ddf_header.specs.declared.geometry.Geometry.{Geometry}
use Rattle.ddf_header.specs.declared.reading.Header.{Header}
use Rattle.ddf_header.specs.Geometry.{IsSound, least_bytes, section_of}
use Rattle.ddf_copy.specs.declared.copy.DiskCopy.{DiskCopy}
use Rattle.ddf_copy.specs.declared.raw.Raw.{Raw}
use Rattle.ddf_copy.specs.declared.which.Which.{Which}
use Rattle.ddf_copy.specs.Copies.{copy_of}
use Rattle.ddf_copy.specs.Runs.{AreApart, IsInCopy, RunsCover, log_run, runs_at}
use Rattle.ddf_copy.specs.Sections.{HasSizes, raw_at, whole_slots}
use Rattle.ddf_copy.specs.Which.{other_of, place_of}
use Rattle.ddf_copy.proofs.Gates.{IsFound, found_is, section_in_room}
use Rattle.ddf_copy.proofs.Laid.{AreLaid, are_laid, copies_apart, runs_apart, section_found}
use Rattle.ddf_copy.proofs.LastCopies.{header_is}
use Rattle.ddf_hidden_logs.proofs.Sound.{copy_eight, copy_sound}

-- what is read has the sizes of its sections
sizes_of : (sector : ℕ → List ℕ) (lba : ℕ) (geometry : Geometry) → IsSound geometry → length geometry.sections ≡ 8 → HasSizes geometry (raw_at sector lba geometry)
unfolding least_bytes
sizes_of sector lba geometry sound eight =
    let s = λ (k : ℕ). section_of geometry k in
    let disks = length-map-range_with_len sector (lba + (s 1).offset) (s 1).length in
    let arrays = length-map-range_with_len sector (lba + (s 2).offset) (s 2).length in
    let first = sound.sections_good 1 (s 1) (section_found geometry 1 eight (omega arith)) in
    let second = sound.sections_good 2 (s 2) (section_found geometry 2 eight (omega arith)) in
    let first_long : 64 + 64 * geometry.max_disks ≤ 512 * (s 1).length = first.long_enough (first.needed (omega arith)) in
    let second_long : 64 + 64 * geometry.max_arrays ≤ 512 * (s 2).length = second.long_enough (second.needed (omega arith)) in
    record {
      disks_size = disks;
      arrays_size = arrays;
      records_size = length-map-range_with_len sector (lba + (whole_slots geometry).offset) (whole_slots geometry).length;
      bad_blocks_size = length-map-range_with_len sector (lba + (s 5).offset) (s 5).length;
      disks_hold = omega (arith, disks, first_long);
      arrays_hold = omega (arith, arrays, second_long);
    }

-- the first sector of a log is one of its run
log_covered : (lba : ℕ) (section : Section) (sectors : List (List ℕ)) → 0 < length sectors → (l : ℕ) → l ≡ lba + section.offset → RunsCover lba (log_run section sectors) l
log_covered lba section [] some l here = absurd (omega (arith, some))
log_covered lba section (sector ∷ sectors) some l here = inl (omega (arith, here), omega (arith, here))

module _ (size : ℕ) (sector : ℕ → List ℕ) (anchor : Header) (which : Which) (copy : DiskCopy) (is : copy_of size sector anchor which ≡ Ok copy) where
  abbrev pub own : ℕ
  own = place_of which anchor

  abbrev pub other : ℕ
  other = place_of (other_of which) anchor

  abbrev pub geometry : Geometry
  geometry = copy.header.geometry

  abbrev pub raw : Raw
  raw = raw_at sector own geometry

  abbrev pub log_section : Section
  log_section = section_of geometry 5

  found : IsFound size sector anchor which copy.header
  found = found_is size sector anchor which copy.header (header_is size sector anchor which copy is)

  sound : IsSound geometry
  sound = copy_sound size sector anchor which copy is

  eight : length geometry.sections ≡ 8
  eight = copy_eight size sector anchor which copy is

  pub sizes : HasSizes geometry raw
  sizes = sizes_of sector own geometry sound eight

  laid : AreLaid geometry (runs_at geometry raw)
  laid = are_laid geometry raw sound eight sizes

  apart : AreApart (runs_at geometry raw)
  apart = runs_apart geometry (runs_at geometry raw) laid

  module _ (some : 0 < log_section.length) where
    many : 0 < length raw.bad_blocks
    many = let long = (sizes).bad_blocks_size in omega (arith, long, some)

    in_log : (lba l : ℕ) → l ≡ lba + log_section.offset → RunsCover lba (runs_at geometry raw) l
    in_log lba l here = inr (inr (inr (inr (inr (log_covered lba log_section raw.bad_blocks many l here)))))

    -- it isn't in this copy if it is in the other one
    not_other : (l : ℕ) → IsInCopy own (runs_at geometry raw) l → l ≡ other + log_section.offset → ⊥
    not_other l in_own here = copies_apart (size - 1) own other geometry (runs_at geometry raw) laid (found).is_gate.has_room l in_own (inr (in_log other l here))

    behind : 0 < log_section.offset
    behind =
        let good = (sound).sections_good 5 log_section (section_found geometry 5 eight (omega arith)) in
        good.behind_header some

    -- it is no header
    pub off_header : (own ≢ own + log_section.offset) × (own ≢ other + log_section.offset)
    off_header = (λ here. let some_behind = behind in omega (arith, here, some_behind), λ here. not_other own (inl refl) here)

    -- nor is a sector of another section
    pub off_controller : (l : ℕ) → own + (section_of geometry 0).offset ≤ l → l < own + (section_of geometry 0).offset + 1 → (l ≢ own + log_section.offset) × (l ≢ other + log_section.offset)
    off_controller l from below = (
      λ here. (apart).1 (l - own) (omega (arith, from)) (omega (arith, from, below)) (inr (inr (inr (inr (log_covered 0 log_section raw.bad_blocks many (l - own) (omega (arith, here))))))),
      λ here. not_other l (inr (inl (from, below))) here,
    )

    pub off_disks : (l : ℕ) → own + (section_of geometry 1).offset ≤ l → l < own + (section_of geometry 1).offset + (section_of geometry 1).length → (l ≢ own + log_section.offset) × (l ≢ other + log_section.offset)
    off_disks l from below =
        let long = (sizes).disks_size in (
          λ here. (apart).2.1 (l - own) (omega (arith, from)) (omega (arith, from, below, long)) (inr (inr (inr (log_covered 0 log_section raw.bad_blocks many (l - own) (omega (arith, here)))))),
          λ here. not_other l (inr (inr (inl (from, omega (arith, below, long))))) here,
        )

    pub off_arrays : (l : ℕ) → own + (section_of geometry 2).offset ≤ l → l < own + (section_of geometry 2).offset + (section_of geometry 2).length → (l ≢ own + log_section.offset) × (l ≢ other + log_section.offset)
    off_arrays l from below =
        let long = (sizes).arrays_size in (
          λ here. (apart).2.2.1 (l - own) (omega (arith, from)) (omega (arith, from, below, long)) (inr (inr (log_covered 0 log_section raw.bad_blocks many (l - own) (omega (arith, here))))),
          λ here. not_other l (inr (inr (inr (inl (from, omega (arith, below, long)))))) here,
        )

    pub off_records : (l : ℕ) → own + (whole_slots geometry).offset ≤ l → l < own + (whole_slots geometry).offset + (whole_slots geometry).length → (l ≢ own + log_section.offset) × (l ≢ other + log_section.offset)
    off_records l from below =
        let long = (sizes).records_size in (
          λ here. (apart).2.2.2.1 (l - own) (omega (arith, from)) (omega (arith, from, below, long)) (inr (log_covered 0 log_section raw.bad_blocks many (l - own) (omega (arith, here)))),
          λ here. not_other l (inr (inr (inr (inr (inl (from, omega (arith, below, long))))))) here,
        )

    pub off_disk_data : (l : ℕ) → own + (section_of geometry 4).offset ≤ l → l < own + (section_of geometry 4).offset + 1 → (l ≢ own + log_section.offset) × (l ≢ other + log_section.offset)
    off_disk_data l from below = (
      λ here. (apart).2.2.2.2.1 (l - own) (omega (arith, from)) (omega (arith, from, below)) (log_covered 0 log_section raw.bad_blocks many (l - own) (omega (arith, here))),
      λ here. not_other l (inr (inr (inr (inr (inr (inl (from, below))))))) here,
    )

    -- no later sector of the log
    pub off_rest : (l : ℕ) → own + log_section.offset + 1 ≤ l → l < own + log_section.offset + log_section.length → (l ≢ own + log_section.offset) × (l ≢ other + log_section.offset)
    off_rest l from below = (λ here. omega (arith, here, from), λ here. not_other l (inr (inr (inr (inr (inr (inr (rest_covered raw.bad_blocks (sizes).bad_blocks_size))))))) here)
      where
        rest_covered : (sectors : List (List ℕ)) → length sectors ≡ log_section.length → RunsCover own (log_run log_section sectors) l
        rest_covered [] long = absurd (omega (arith, long, some))
        rest_covered (first ∷ sectors) long = inl (omega (arith, from), omega (arith, below, long))

    -- the front of the log itself isn't the other copy's
    pub own_front : own + log_section.offset ≢ other + log_section.offset
    own_front here = not_other (own + log_section.offset) (inr (in_log own (own + log_section.offset) refl)) here

    -- nor is the disk's last sector
    pub last_off : (size - 1 ≢ own + log_section.offset) × (size - 1 ≢ other + log_section.offset)
    last_off =
        let room = section_in_room (size - 1) own other geometry.sections (found).is_gate.has_room 5 log_section (section_found geometry 5 eight (omega arith)) some in
        let ends = room.ends in
        let other_ends = room.other_ends in
        (λ here. omega (arith, here, ends, some), λ here. omega (arith, here, other_ends, some))
