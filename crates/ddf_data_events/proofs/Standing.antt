-- A disk has the floor of the copy that stands for it.
use Rattle.std.proofs.Common.{◌≡◌, ◌∙◌, ℕ, ◌-◌, ◌+◌, ◌≤◌, ◌==◌, Bool, true, false, List, Option, Some, None, Result, Ok, Err, if◌then◌else◌, refl, sym, ap, subst, arith}
use Rattle.std.specs.Int.{from_be_bytes, w32, w64}
use Rattle.std.specs.Option.{option_and_then, option_map_or}
use Rattle.std.proofs.lemmas.Option.{same_Some}
use Rattle.ddf_bytes.specs.Bytes.{number_at}
use Rattle.ddf_bay.specs.Sectors.{IsWhole}
use Rattle.ddf_header.specs.declared.fault.HeaderFault.{HeaderFault}
use Rattle.ddf_header.specs.declared.kind.HeaderKind.TheVariants.{Anchor}
use Rattle.ddf_header.specs.declared.reading.Header.{Header}
use Rattle.ddf_header.specs.declared.layout.TheConstants.{PRIMARY_LBA_AT, SECONDARY_LBA_AT}
use Rattle.ddf_header.specs.Header.{IsHeaderOf, decoded, first_fault, header_at, header_signature}
use Rattle.ddf_header.proofs.Decoded.{header_at_is, ok_parts}
use Rattle.ddf_header.proofs.Encoded.{encoded_again}
use Rattle.ddf_copy.specs.declared.copy.DiskCopy.{DiskCopy}
use Rattle.ddf_copy.specs.declared.fault.AnchorFault.{AnchorFault}
use Rattle.ddf_copy.specs.declared.fault.AnchorFault.TheVariants.{Blank}
use Rattle.ddf_copy.specs.declared.which.Which.{Which}
use Rattle.ddf_copy.specs.declared.which.Which.TheVariants.{Primary, Secondary}
use Rattle.ddf_copy.specs.Anchor.{anchor_at, anchor_in, anchor_or_damage}
use Rattle.ddf_copy.specs.Copies.{newest_at, newest_of, newest_under, standing_copy}
use Rattle.ddf_copy.specs.Gate.{first_difference, header_bytes}
use Rattle.ddf_copy.specs.Which.{other_of, place_of}
use Rattle.ddf_copy.proofs.Gates.{IsFound, found_is, headers_in_room}
use Rattle.ddf_copy.proofs.LastCopies.{header_is}
use Rattle.ddf_copy.proofs.Places.{standing_whole}
use Rattle.ddf_copy.proofs.Shared.{bytes_same, same_at, shared_middle}
use Rattle.ddf_copy.proofs.Common.{by_fault}
use Rattle.ddf_seats.specs.Group.{floor_of}
use Rattle.ddf_history_steps.specs.Floors.{HasFloor}
use Rattle.ddf_history_steps.proofs.Placed.{same_ok}

-- ---- an anchor as it was read

by_size : (empty : Bool) (found : Result Header AnchorFault) (anchor : Header) → (if empty then Err Blank else found) ≡ Ok anchor → found ≡ Ok anchor
by_size true found anchor is = absurd cc
by_size false found anchor is = is

by_signature : (signed : Bool) (found : Result Header HeaderFault) (anchor : Header) → (if signed then anchor_or_damage found else Err Blank) ≡ Ok anchor → found ≡ Ok anchor
by_signature true found anchor is = by_fault found anchor is
by_signature false found anchor is = absurd cc

anchor_decoded : (size : ℕ) (sector : ℕ → List ℕ) (anchor : Header) → anchor_at size sector ≡ Ok anchor → decoded Anchor (sector (size - 1)) ≡ Ok anchor
unfolding anchor_at anchor_in
anchor_decoded size sector anchor is =
    by_signature (number_at w32 (sector (size - 1)) 0 == header_signature) (decoded Anchor (sector (size - 1))) anchor (by_size (size == 0) (anchor_in (sector (size - 1))) anchor is)

module _ (size : ℕ) (sector : ℕ → List ℕ) (anchor : Header) (anchored : anchor_at size sector ≡ Ok anchor) (whole : IsWhole (sector (size - 1))) where
  abbrev last : List ℕ
  last = sector (size - 1)

  read : (first_fault Anchor last ≡ None) × (header_at Anchor last ≡ anchor)
  read = ok_parts (first_fault Anchor last) (header_at Anchor last) anchor (anchor_decoded size sector anchor anchored)

  is_value : IsHeaderOf Anchor anchor last
  is_value = let parts = read in subst (λ (header : Header). IsHeaderOf Anchor header last) parts.1 (header_at_is Anchor last whole.size whole.are_bytes parts.0)

  -- It is spelled as it stands.
  spelled : header_bytes anchor ≡ last
  spelled = encoded_again Anchor anchor last is_value

  primary_spelled : number_at w64 (header_bytes anchor) PRIMARY_LBA_AT ≡ anchor.primary_lba
  primary_spelled = let parts = read in ap (λ (bytes : List ℕ). number_at w64 bytes PRIMARY_LBA_AT) spelled ∙ ap (λ (header : Header). header.primary_lba) parts.1

  secondary_spelled : number_at w64 (header_bytes anchor) SECONDARY_LBA_AT ≡ anchor.secondary_lba
  secondary_spelled = let parts = read in ap (λ (bytes : List ℕ). number_at w64 bytes SECONDARY_LBA_AT) spelled ∙ ap (λ (header : Header). header.secondary_lba) parts.1

  number_same : (other : List ℕ) → first_difference (header_bytes anchor) other ≡ None → (at : ℕ) → 96 ≤ at → at + 8 ≤ 112 → number_at w64 (header_bytes anchor) at ≡ number_at w64 other at
  number_same other same at from fits =
      ap (from_be_bytes w64) (bytes_same (header_bytes anchor) other at 8 (λ i low below. same_at (header_bytes anchor) other same i (omega (arith, below, fits)) (shared_middle i (omega (arith, from, low)) (omega (arith, below, fits)))))

  -- ---- a copy that stands for the disk

  module _ (copy : DiskCopy) (stands : standing_copy (newest_of size sector anchor) ≡ Some copy) where
    abbrev which : Which
    which = (standing_whole size sector anchor copy stands).0

    found : IsFound size sector anchor which copy.header
    found = found_is size sector anchor which copy.header (header_is size sector anchor which copy (standing_whole size sector anchor copy stands).1)

    same_primary : copy.header.primary_lba ≡ anchor.primary_lba
    same_primary = found.primary_is ∙ sym (number_same (sector (place_of which anchor)) found.is_gate.is_shared 96 (omega arith) (omega arith)) ∙ primary_spelled

    same_secondary : copy.header.secondary_lba ≡ anchor.secondary_lba
    same_secondary = found.secondary_is ∙ sym (number_same (sector (place_of which anchor)) found.is_gate.is_shared 104 (omega arith) (omega arith)) ∙ secondary_spelled

    behind : (of : Which) → floor_of copy ≤ place_of of anchor
    behind Primary = let same = same_primary in omega (arith, same)
    behind Secondary = let same = same_secondary in omega (arith, same)

    pub standing_floor : HasFloor size sector (floor_of copy)
    standing_floor = record {
      same_floor = λ newest other here also.
          let one : newest_of size sector anchor ≡ newest = same_Some (newest_of size sector anchor) newest (sym (ap (newest_under size sector) anchored) ∙ here) in
          ap floor_of (same_Some other copy (sym also ∙ ap standing_copy (sym one) ∙ stands));
      below = λ other is of.
          let same : anchor ≡ other = same_ok anchor other (sym anchored ∙ is) in
          subst (λ (one : Header). floor_of copy ≤ place_of of one) same (behind of);
      within =
          let room = headers_in_room (size - 1) (place_of which anchor) (place_of (other_of which) anchor) copy.header.geometry.sections found.is_gate.has_room in
          let low = behind which in
          let last_below = room.own_below in
          omega (arith, low, last_below);
    }

-- ---- a disk by the copy that stands for it

-- the floor of the copy that stands for a disk, or 0
abbrev pub floor_read : (size : ℕ) → (ℕ → List ℕ) → ℕ
floor_read size sector = option_map_or floor_of (option_and_then standing_copy (newest_at size sector)) 0

module _ (size : ℕ) (sector : ℕ → List ℕ) (whole : (l : ℕ) → IsWhole (sector l)) where
  by_anchor : (found : Result Header AnchorFault) → anchor_at size sector ≡ found → (copy : DiskCopy) → option_and_then standing_copy (newest_under size sector found) ≡ Some copy
      → HasFloor size sector (floor_of copy)
  by_anchor (Ok anchor) anchored copy stands = standing_floor size sector anchor anchored (whole (size - 1)) copy stands
  by_anchor (Err fault) anchored copy stands = absurd cc

  -- It has the floor of its copy.
  pub copy_floor : (copy : DiskCopy) → option_and_then standing_copy (newest_at size sector) ≡ Some copy → HasFloor size sector (floor_of copy)
  copy_floor copy stands = by_anchor (anchor_at size sector) refl copy stands

  pub read_floor : (copy : DiskCopy) → option_and_then standing_copy (newest_at size sector) ≡ Some copy → HasFloor size sector (floor_read size sector)
  read_floor copy stands =
      subst (λ (floor : ℕ). HasFloor size sector floor) (sym (ap (λ (found : Option DiskCopy). option_map_or floor_of found 0) stands)) (copy_floor copy stands)

  by_copy : (found : Option DiskCopy) → option_and_then standing_copy (newest_at size sector) ≡ found → (most : ℕ) → size ≤ most → option_map_or floor_of found 0 ≤ most
  by_copy (Some copy) stands most small = let low = (copy_floor copy stands).within in omega (arith, low, small)
  by_copy None none most small = omega arith

  -- Each lies on its disk.
  pub read_small : (most : ℕ) → size ≤ most → floor_read size sector ≤ most
  read_small most small = by_copy (option_and_then standing_copy (newest_at size sector)) refl most small
