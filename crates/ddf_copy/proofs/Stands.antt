-- A copy that stands on a disk is read there, and is read as long as its sectors stay.
use Rattle.std.proofs.Common.{◌≡◌, ℕ, suc, ◌+◌, ◌-◌, ◌<◌, List, [], ◌∷◌, length, map, Result, Ok, Err, None, refl, ap, ◌∙◌, inl, inr, arith}
use Rattle.std.proofs.lemmas.Bool.{lt-ltb}
use Rattle.std.specs.List.{range_with_len}
use Rattle.ddf_lemmas.proofs.Lists.{same_map}
use Rattle.ddf_bay.specs.Sectors.{InRun}
use Rattle.ddf_header.specs.declared.geometry.Section.{Section}
use Rattle.ddf_header.specs.declared.geometry.Geometry.{Geometry}
use Rattle.ddf_header.specs.declared.reading.Header.{Header}
use Rattle.ddf_header.specs.Geometry.{geometry_at, section_of}
use Rattle.ddf_header.specs.Header.{IsHeaderOf}
use Rattle.ddf_header.proofs.Decoded.{decoded_is}
use Rattle.ddf_header.proofs.Encoded.{encoded_again}
use Rattle.ddf_copy.specs.declared.copy.DiskCopy.{DiskCopy}
use Rattle.ddf_copy.specs.declared.fault.CopyFault.{CopyFault}
use Rattle.ddf_copy.specs.declared.fault.CopyFault.TheVariants as faults
use Rattle.ddf_copy.specs.declared.raw.Raw.{Raw}
use Rattle.ddf_copy.specs.declared.run.Run.{Run}
use Rattle.ddf_copy.specs.declared.which.Which.{Which}
use Rattle.ddf_copy.specs.Copies.{copy_of}
use Rattle.ddf_copy.specs.Gate.{first_difference, gate_fault, header_bytes, header_in, header_of}
use Rattle.ddf_copy.specs.Headers.{IsUnder, closed_header, opened_header, written_as}
use Rattle.ddf_copy.specs.Runs.{AreRunsOf, HasCopy, InRuns, IsInParts, log_run, parts_of, runs_at}
use Rattle.ddf_copy.specs.Sections.{HasSizes, and_then, copy_in, raw_at, sectors_at, whole_slots}
use Rattle.ddf_copy.specs.Which.{kind_of, place_of}
use Rattle.ddf_copy.proofs.Gates.{found_is, gate_from, headers_in_room}
use Rattle.ddf_copy.proofs.Shared.{shared_geometry}

-- ---- as long as its sectors stay

raw_record : (controller : List ℕ) (disks arrays records : List (List ℕ)) (disk_data : List ℕ) (bad_blocks : List (List ℕ)) → Raw
raw_record controller disks arrays records disk_data bad_blocks =
    record { controller = controller; disks = disks; arrays = arrays; records = records; disk_data = disk_data; bad_blocks = bad_blocks }

same_raw : (one other : ℕ → List ℕ) (lba : ℕ) (geometry : Geometry) → ((l : ℕ) → IsInParts lba (parts_of geometry) l → one l ≡ other l) → raw_at one lba geometry ≡ raw_at other lba geometry
same_raw one other lba geometry same =
    let s = λ (k : ℕ). section_of geometry k in
    let controller : one (lba + (s 0).offset) ≡ other (lba + (s 0).offset) = same (lba + (s 0).offset) (inl (omega arith, omega arith)) in
    let disks = same_map one other (lba + (s 1).offset) (s 1).length (λ l from below. same l (inr (inl (from, below)))) in
    let arrays = same_map one other (lba + (s 2).offset) (s 2).length (λ l from below. same l (inr (inr (inl (from, below))))) in
    let records = same_map one other (lba + (whole_slots geometry).offset) (whole_slots geometry).length (λ l from below. same l (inr (inr (inr (inl (from, below)))))) in
    let disk_data : one (lba + (s 4).offset) ≡ other (lba + (s 4).offset) = same (lba + (s 4).offset) (inr (inr (inr (inr (inl (omega arith, omega arith)))))) in
    let bad_blocks = same_map one other (lba + (s 5).offset) (s 5).length (λ l from below. same l (inr (inr (inr (inr (inr (inl (from, below)))))))) in
    rw (controller, disks, arrays, records, disk_data, bad_blocks) refl

same_header : (size : ℕ) (now before : ℕ → List ℕ) (anchor : Header) (which : Which) → now (place_of which anchor) ≡ before (place_of which anchor)
    → header_of size now anchor which ≡ header_of size before anchor which
unfolding header_of
same_header size now before anchor which head = rw head refl

-- A copy is read as before where its header stayed, and with it the sections that a header of this anchor names.
pub same_copy : (size : ℕ) (now before : ℕ → List ℕ) (anchor : Header) (which : Which) (reference : List ℕ) → first_difference (header_bytes anchor) reference ≡ None
    → now (place_of which anchor) ≡ before (place_of which anchor)
    → ((l : ℕ) → IsInParts (place_of which anchor) (parts_of (geometry_at reference)) l → now l ≡ before l)
    → copy_of size now anchor which ≡ copy_of size before anchor which
unfolding copy_of
same_copy size now before anchor which reference shared head same =
    let lba = place_of which anchor in
    let header : header_of size now anchor which ≡ header_of size before anchor which = same_header size now before anchor which head in
    ap (λ (found : Result Header CopyFault). and_then found (λ (h : Header). copy_in h (raw_at now lba h.geometry))) header ∙ behind (header_of size before anchor which) refl
  where
    behind : (found : Result Header CopyFault) → header_of size before anchor which ≡ found
        → and_then found (λ (h : Header). copy_in h (raw_at now (place_of which anchor) h.geometry)) ≡ and_then found (λ (h : Header). copy_in h (raw_at before (place_of which anchor) h.geometry))
    behind (Ok header) is =
        let found = found_is size before anchor which header is in
        let geometry : header.geometry ≡ geometry_at reference =
        found.geometry_is ∙ shared_geometry (header_bytes anchor) (before (place_of which anchor)) reference (record { one_is = found.is_gate.is_shared; other_is = shared }) in
        ap (copy_in header) (same_raw now before (place_of which anchor) header.geometry (λ l in_parts. same l (rw geometry at in_parts)))
    behind (Err fault) is = refl

-- ---- where it stands

-- a run that stands on a disk is read from it
run_stands : (sector : ℕ → List ℕ) (start : ℕ) (sectors : List (List ℕ)) → ((l : ℕ) (bytes : List ℕ) → InRun start sectors l bytes → sector l ≡ bytes)
    → map sector (range_with_len start (length sectors)) ≡ sectors
run_stands sector start [] stands = refl
run_stands sector start (first ∷ sectors) stands =
    let none : start - start ≡ 0 = omega arith in
    let head : sector start ≡ first = stands start first (record { from = omega arith; below = omega arith; are = rw none refl }) in
    let rest = run_stands sector (start + 1) sectors (λ l bytes in_run.
    let next : l - start ≡ suc (l - (start + 1)) = omega (arith, in_run.from) in
    stands l bytes (record { from = omega (arith, in_run.from); below = omega (arith, in_run.below); are = rw next in_run.are })) in
    rw (head, rest) refl

one_stands : (sector : ℕ → List ℕ) (start : ℕ) (bytes : List ℕ) → ((l : ℕ) (others : List ℕ) → InRun start (bytes ∷ []) l others → sector l ≡ others) → sector start ≡ bytes
one_stands sector start bytes stands =
    let none : start - start ≡ 0 = omega arith in
    stands start bytes (record { from = omega arith; below = omega arith; are = rw none refl })

section_stands : (sector : ℕ → List ℕ) (lba : ℕ) (section : Section) (sectors : List (List ℕ)) → length sectors ≡ section.length
    → ((l : ℕ) (bytes : List ℕ) → InRun (lba + section.offset) sectors l bytes → sector l ≡ bytes) → sectors_at sector lba section ≡ sectors
section_stands sector lba section sectors long stands = rw (← long) (run_stands sector (lba + section.offset) sectors stands)

log_stands : (sector : ℕ → List ℕ) (lba : ℕ) (section : Section) (sectors : List (List ℕ)) → length sectors ≡ section.length
    → ((l : ℕ) (bytes : List ℕ) → InRuns lba (log_run section sectors) l bytes → sector l ≡ bytes) → sectors_at sector lba section ≡ sectors
log_stands sector lba section [] long stands = section_stands sector lba section [] long (λ l bytes in_run. absurd (omega (arith, in_run.from, in_run.below)))
log_stands sector lba section (first ∷ sectors) long stands = section_stands sector lba section (first ∷ sectors) long (λ l bytes in_run. stands l bytes (inl in_run))

raw_stands : (sector : ℕ → List ℕ) (lba : ℕ) (geometry : Geometry) (raw : Raw) → HasSizes geometry raw
    → ((l : ℕ) (bytes : List ℕ) → InRuns lba (runs_at geometry raw) l bytes → sector l ≡ bytes) → raw_at sector lba geometry ≡ raw
raw_stands sector lba geometry raw sizes stands =
    let s = λ (k : ℕ). section_of geometry k in
    let controller = one_stands sector (lba + (s 0).offset) raw.controller (λ l bytes in_run. stands l bytes (inl in_run)) in
    let disks = section_stands sector lba (s 1) raw.disks sizes.disks_size (λ l bytes in_run. stands l bytes (inr (inl in_run))) in
    let arrays = section_stands sector lba (s 2) raw.arrays sizes.arrays_size (λ l bytes in_run. stands l bytes (inr (inr (inl in_run)))) in
    let records = section_stands sector lba (whole_slots geometry) raw.records sizes.records_size (λ l bytes in_run. stands l bytes (inr (inr (inr (inl in_run))))) in
    let disk_data = one_stands sector (lba + (s 4).offset) raw.disk_data (λ l bytes in_run. stands l bytes (inr (inr (inr (inr (inl in_run)))))) in
    let bad_blocks = log_stands sector lba (s 5) raw.bad_blocks sizes.bad_blocks_size (λ l bytes in_run. stands l bytes (inr (inr (inr (inr (inr in_run)))))) in
    rw (controller, disks, arrays, records, disk_data, bad_blocks) refl

-- the header of a copy that can be written under this anchor
pub header_stands : (size : ℕ) (sector : ℕ → List ℕ) (anchor : Header) (which : Which) (header : Header) (head : List ℕ) → IsHeaderOf (kind_of which) header head
    → sector (place_of which anchor) ≡ head → place_of which anchor < size → gate_fault size anchor which header (header_bytes header) ≡ None → header_of size sector anchor which ≡ Ok header
unfolding header_of header_in
header_stands size sector anchor which header head is here within gate =
    let bytes : header_bytes header ≡ head = encoded_again (kind_of which) header head is in
    let read = decoded_is (kind_of which) head header is in
    let none : gate_fault size anchor which header head ≡ None = rw bytes at gate in
    rw (lt-ltb (place_of which anchor) size within, here, read, none) refl

pub place_within : (size : ℕ) (anchor : Header) (copy : DiskCopy) (which : Which) → IsUnder size anchor copy → place_of which anchor < size
place_within size anchor copy which under =
    let gate = gate_from size anchor which (closed_header copy which) (header_bytes (closed_header copy which)) (under.has_gate which) in
    let room = headers_in_room _ _ _ _ gate.has_room in
    omega (arith, room.own_below)

-- A copy that can be written under this anchor is read where it stands.
pub copy_stands : (size : ℕ) (sector : ℕ → List ℕ) (anchor : Header) (which : Which) (copy : DiskCopy) (runs : List Run) (head : List ℕ) → IsUnder size anchor copy → AreRunsOf copy runs
    → IsHeaderOf (kind_of which) (closed_header copy which) head → HasCopy sector (place_of which anchor) head runs → copy_of size sector anchor which ≡ Ok (written_as copy which)
unfolding copy_of
copy_stands size sector anchor which copy runs head under are is has =
    let lba = place_of which anchor in
    let header = header_stands size sector anchor which (closed_header copy which) head is has.header_is (place_within size anchor copy which under) (under.has_gate which) in
    let raw = raw_stands sector lba copy.header.geometry are.raw are.has_sizes (λ l bytes in_runs. has.sections_are l bytes (rw are.are_runs in_runs)) in
    rw (header, raw) (are.is_read (closed_header copy which) refl refl refl)

-- A copy whose header stands open isn't whole.
pub open_copy : (size : ℕ) (sector : ℕ → List ℕ) (anchor : Header) (which : Which) (copy : DiskCopy) (head : List ℕ) → IsHeaderOf (kind_of which) (opened_header copy which) head
    → sector (place_of which anchor) ≡ head → place_of which anchor < size → copy_of size sector anchor which ≡ Err (faults.Opened copy.header.sequence)
unfolding copy_of header_of header_in gate_fault
open_copy size sector anchor which copy head is here within =
    rw (lt-ltb (place_of which anchor) size within, here, decoded_is (kind_of which) head (opened_header copy which) is) refl
