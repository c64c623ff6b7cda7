-- A copy whose log stands there with another first sector, and all of whose other sectors are as they were.
use Rattle.std.proofs.Common.{◌≡◌, ◌≢◌, ◌∙◌, ℕ, zero, suc, ◌+◌, ◌-◌, ◌<◌, List, [], ◌∷◌, map, Option, Some, None, Result, Ok, Err, refl, sym, ap, inl, inr, arith}
use Rattle.std.specs.List.{range_with_len}
use Rattle.ddf_lemmas.proofs.Lists.{same_map}
use Rattle.ddf_header.specs.declared.geometry.Section.{Section}
use Rattle.ddf_header.specs.declared.reading.Header.{Header}
use Rattle.ddf_header.specs.Geometry.{section_of}
use Rattle.ddf_tables.specs.Arrays.{decoded_arrays}
use Rattle.ddf_tables.specs.BadBlocks.{LogValue}
use Rattle.ddf_tables.specs.Disks.{decoded_disks}
use Rattle.ddf_tables.specs.Sectors.{decoded_controller, decoded_disk_data}
use Rattle.ddf_config_records.specs.Slots.{decoded_slots}
use Rattle.ddf_copy.specs.declared.copy.DiskCopy.{DiskCopy}
use Rattle.ddf_copy.specs.declared.fault.CopyFault.{CopyFault}
use Rattle.ddf_copy.specs.declared.fault.SectionName.TheVariants as names
use Rattle.ddf_copy.specs.declared.raw.Raw.{Raw}
use Rattle.ddf_copy.specs.declared.which.Which.{Which}
use Rattle.ddf_copy.specs.Copies.{copy_of}
use Rattle.ddf_copy.specs.Gate.{header_of}
use Rattle.ddf_copy.specs.Sections.{bytes_in, copy_in, in_section, in_sector, in_slots, log_in, raw_at, sectors_at, whole_slots}
use Rattle.ddf_copy.specs.Which.{other_of, place_of}
use Rattle.ddf_copy.proofs.CopiesRead.{copy_is}
use Rattle.ddf_copy.proofs.LastCopies.{header_is, ok_or}
use Rattle.ddf_hidden_logs.proofs.Located.{off_arrays, off_controller, off_disk_data, off_disks, off_header, off_records, off_rest}

-- ---- another log in the same sections

-- where a copy is read, it is read with another log in place of its own
abbrev Takes : Header → Raw → List (List ℕ) → Option LogValue → Result DiskCopy CopyFault → Type 0
Takes header raw sectors bad (Ok copy) = (copy_in header (record raw { bad_blocks = sectors }) ≡ Ok (record copy { bad = bad })) × (log_in raw.bad_blocks ≡ Ok copy.bad)
Takes header raw sectors bad (Err fault) = Unit {0}

takes : (header : Header) (raw : Raw) (sectors : List (List ℕ)) (bad : Option LogValue) → log_in sectors ≡ Ok bad → Takes header raw sectors bad (copy_in header raw)
unfolding copy_in
takes header raw sectors bad now = elim (ok_or (in_sector names.Controller (decoded_controller raw.controller))) [
  | inl controller ↦ elim (ok_or (in_section names.Disks (decoded_disks header.geometry.max_disks (bytes_in raw.disks)))) [
    | inl disks ↦ elim (ok_or (in_section names.Arrays (decoded_arrays header.geometry.max_arrays (bytes_in raw.arrays)))) [
      | inl arrays ↦ elim (ok_or (in_slots (decoded_slots header.geometry header.guid header.sequence (bytes_in raw.records)))) [
        | inl slots ↦ elim (ok_or (in_sector names.DiskData (decoded_disk_data raw.disk_data))) [
          | inl disk_data ↦ elim (ok_or (log_in raw.bad_blocks)) [
            | inl own ↦ rw (controller.1, disks.1, arrays.1, slots.1, disk_data.1, own.1, now) (rw (controller.1, disks.1, arrays.1, slots.1, disk_data.1) refl, own.1)
            | inr fault ↦ rw (controller.1, disks.1, arrays.1, slots.1, disk_data.1, fault.1) tt
          ]
          | inr fault ↦ rw (controller.1, disks.1, arrays.1, slots.1, fault.1) tt
        ]
        | inr fault ↦ rw (controller.1, disks.1, arrays.1, fault.1) tt
      ]
      | inr fault ↦ rw (controller.1, disks.1, fault.1) tt
    ]
    | inr fault ↦ rw (controller.1, fault.1) tt
  ]
  | inr fault ↦ rw fault.1 tt
]

-- ---- the same sectors elsewhere

-- the first sector of a section, and the others
pub first_and_rest : (sector : ℕ → List ℕ) (start count : ℕ) → 0 < count → map sector (range_with_len start count) ≡ sector start ∷ map sector (range_with_len (start + 1) (count - 1))
first_and_rest sector start zero some = absurd (omega (arith, some))
first_and_rest sector start (suc count) some = let less : suc count - 1 ≡ count = omega arith in rw less refl

-- a log is read of some sectors
some_of_log : (sector : ℕ → List ℕ) (start count : ℕ) (log : LogValue) → log_in (map sector (range_with_len start count)) ≡ Ok (Some log) → 0 < count
some_of_log sector start zero log is = absurd cc
some_of_log sector start (suc count) log is = omega arith

module _ (size : ℕ) (sector : ℕ → List ℕ) (anchor : Header) (which : Which) (copy : DiskCopy) (is : copy_of size sector anchor which ≡ Ok copy) where
  abbrev own : ℕ
  own = place_of which anchor

  abbrev log_section : Section
  log_section = section_of copy.header.geometry 5

  abbrev raw : Raw
  raw = raw_at sector own copy.header.geometry

  header_now : header_of size sector anchor which ≡ Ok copy.header
  header_now = header_is size sector anchor which copy is

  copy_now : copy_in copy.header raw ≡ Ok copy
  copy_now = sym (copy_is size sector anchor which copy.header raw header_now refl) ∙ is

  -- the log that is read of it, and the copy with another one
  pub log_read : (sectors : List (List ℕ)) (bad : Option LogValue) → log_in sectors ≡ Ok bad → (copy_in copy.header (record raw { bad_blocks = sectors }) ≡ Ok (record copy { bad = bad })) × (log_in raw.bad_blocks ≡ Ok copy.bad)
  log_read sectors bad read = rw copy_now at (takes copy.header raw sectors bad read)

  -- where it has a log it has the section
  pub log_some : (log : LogValue) → copy.bad ≡ Some log → 0 < log_section.length
  log_some log has = some_of_log sector (own + log_section.offset) log_section.length log ((log_read [] None refl).1 ∙ ap Ok has)

  module _ (some : 0 < log_section.length) (now : ℕ → List ℕ)
      (plain : (l : ℕ) → (l ≢ own + log_section.offset) × (l ≢ place_of (other_of which) anchor + log_section.offset) → now l ≡ sector l) where
    abbrev front : ℕ
    front = own + log_section.offset

    -- the sectors of its log
    abbrev pub log_sectors : List (List ℕ)
    log_sectors = now front ∷ map sector (range_with_len (front + 1) (log_section.length - 1))

    shown_header : header_of size now anchor which ≡ Ok copy.header
    unfolding header_of
    shown_header = let head : now own ≡ sector own = plain own (off_header size sector anchor which copy is some) in rw head header_now

    shown_log : sectors_at now own log_section ≡ log_sectors
    shown_log =
        let rest = same_map now sector (front + 1) (log_section.length - 1) (λ l from below. plain l (off_rest size sector anchor which copy is some l from (omega (arith, below, some)))) in
        first_and_rest now front log_section.length some ∙ ap (λ (others : List (List ℕ)). now front ∷ others) rest

    shown_raw : raw_at now own copy.header.geometry ≡ record raw { bad_blocks = log_sectors }
    shown_raw =
        let s = λ (k : ℕ). section_of copy.header.geometry k in
        let controller : now (own + (s 0).offset) ≡ sector (own + (s 0).offset) = plain (own + (s 0).offset) (off_controller size sector anchor which copy is some (own + (s 0).offset) (omega arith) (omega arith)) in
        let disks = same_map now sector (own + (s 1).offset) (s 1).length (λ l from below. plain l (off_disks size sector anchor which copy is some l from below)) in
        let arrays = same_map now sector (own + (s 2).offset) (s 2).length (λ l from below. plain l (off_arrays size sector anchor which copy is some l from below)) in
        let records = same_map now sector (own + (whole_slots copy.header.geometry).offset) (whole_slots copy.header.geometry).length (λ l from below. plain l (off_records size sector anchor which copy is some l from below)) in
        let disk_data : now (own + (s 4).offset) ≡ sector (own + (s 4).offset) = plain (own + (s 4).offset) (off_disk_data size sector anchor which copy is some (own + (s 4).offset) (omega arith) (omega arith)) in
        let log = shown_log in
        rw (controller, disks, arrays, records, disk_data, log) refl

    -- the copy that is read then
    pub shown_copy : (bad : Option LogValue) → log_in log_sectors ≡ Ok bad → copy_of size now anchor which ≡ Ok (record copy { bad = bad })
    shown_copy bad read =
        copy_is size now anchor which copy.header (record raw { bad_blocks = log_sectors }) shown_header (sym shown_raw)
        ∙ (log_read log_sectors bad read).0
