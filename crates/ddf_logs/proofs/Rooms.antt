-- The copy that stands for a disk lies before the disk's last sector, in both of its places.
use Rattle.std.proofs.Common.{◌≡◌, ℕ, ◌+◌, ◌-◌, ◌<◌, Bool, true, false, Some, Result, Ok, Err, ◌∙◌, subst, arith}
use Rattle.std.specs.Prelude.{◌^◌, IfOk, nat_lt, if◌then◌else◌}
use Rattle.ddf_header.specs.declared.reading.Header.{Header}
use Rattle.ddf_copy.specs.declared.copy.DiskCopy.{DiskCopy}
use Rattle.ddf_copy.specs.declared.copies.Copies.{Copies}
use Rattle.ddf_copy.specs.declared.fault.CopyFault.{CopyFault}
use Rattle.ddf_copy.specs.declared.which.Which.TheVariants.{Primary, Secondary}
use Rattle.ddf_copy.specs.Copies.{newest_in, newest_of_copies, standing_copy}
use Rattle.ddf_copy.specs.Gate.{header_bytes}
use Rattle.ddf_copy.specs.Headers.{IsUnder, closed_header}
use Rattle.ddf_copy.specs.Which.{place_of}
use Rattle.ddf_copy.specs.Whole.{AreUnder}
use Rattle.ddf_copy.proofs.Gates.{gate_from, headers_in_room}
use Rattle.ddf_logs.specs.Logs.{newer}
use Rattle.ddf_logs.proofs.Standing.{standing_newer}

module _ (size : ℕ) (anchor : Header) where
  abbrev Under : DiskCopy → Type 0
  Under copy = IsUnder size anchor copy

  either : (test : Bool) (one two : DiskCopy) → Under one → Under two → Under (if test then two else one)
  either true one two is also = also
  either false one two is also = is

  of_parts : (level : Bool) (primary secondary : Result DiskCopy CopyFault) (copy : DiskCopy) → IfOk primary Under → IfOk secondary Under → standing_copy (newest_in level primary secondary) ≡ Some copy → Under copy
  of_parts level (Ok primary) (Ok secondary) copy is also stands =
      let some = standing_newer level primary secondary ∙ stands in
      let same : newer primary secondary ≡ copy = cc in
      subst Under same (either (nat_lt primary.header.sequence secondary.header.sequence) primary secondary is also)
  of_parts level (Ok primary) (Err fault) copy is also stands = let same : primary ≡ copy = cc in subst Under same is
  of_parts level (Err fault) (Ok secondary) copy is also stands = let same : secondary ≡ copy = cc in subst Under same also
  of_parts level (Err first) (Err second) copy is also stands = absurd cc

  pub standing_under : (copies : Copies) (copy : DiskCopy) → AreUnder size anchor copies → standing_copy (newest_of_copies copies) ≡ Some copy → Under copy
  standing_under copies copy under stands = of_parts copies.level copies.primary copies.secondary copy under.0 under.1 stands

  -- its headers lie before the last sector
  pub places_below : (copy : DiskCopy) → Under copy → (anchor.primary_lba < size - 1) × (anchor.secondary_lba < size - 1)
  places_below copy under =
      let gate = gate_from size anchor Primary (closed_header copy Primary) (header_bytes (closed_header copy Primary)) (under.has_gate Primary) in
      let room = headers_in_room (size - 1) (place_of Primary anchor) (place_of Secondary anchor) copy.header.geometry.sections gate.has_room in
      (room.own_below, room.other_below)

-- so they lie within the limits of a disk
pub small_places : (last : ℕ) (anchor : Header) (copies : Copies) (copy : DiskCopy) → last < 2 ^ 55 → AreUnder (last + 1) anchor copies → standing_copy (newest_of_copies copies) ≡ Some copy
    → (anchor.primary_lba < 2 ^ 55) × (anchor.secondary_lba < 2 ^ 55)
small_places last anchor copies copy small under stands =
    let below = places_below (last + 1) anchor copy (standing_under (last + 1) anchor copies copy under stands) in
    (omega (arith, small, below.0), omega (arith, small, below.1))
