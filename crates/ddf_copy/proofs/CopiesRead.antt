-- A copy as it was read.
use Rattle.std.proofs.Common.{◌≡◌, ◌⊎◌, ℕ, List, Ok, Err, Result, refl, sym, ⊎_elim}
use Rattle.ddf_header.specs.declared.reading.Header.{Header}
use Rattle.ddf_tables.specs.declared.controller.Controller.{Controller}
use Rattle.ddf_tables.specs.declared.disk_data.DiskData.{DiskData}
use Rattle.ddf_tables.specs.Sectors.{IsControllerOf, IsDiskDataOf, decoded_controller, decoded_disk_data}
use Rattle.ddf_tables.specs.Disks.{decoded_disks}
use Rattle.ddf_tables.specs.Arrays.{decoded_arrays}
use Rattle.ddf_tables.proofs.SectorValues.{controller_both_ways, disk_data_both_ways}
use Rattle.ddf_config_records.specs.Slots.{decoded_slots}
use Rattle.ddf_copy.specs.declared.copy.DiskCopy.{DiskCopy}
use Rattle.ddf_copy.specs.declared.fault.CopyFault.{CopyFault}
use Rattle.ddf_copy.specs.declared.raw.Raw.{Raw}
use Rattle.ddf_copy.specs.declared.which.Which.{Which}
use Rattle.ddf_copy.specs.Copies.{copy_of}
use Rattle.ddf_copy.specs.Gate.{header_of}
use Rattle.ddf_copy.specs.Sections.{bytes_in, copy_in, log_in, raw_at}
use Rattle.ddf_copy.specs.Which.{place_of}

-- an answer that is Ok is what it stands for
pub first_is : {T : Type 0} (x : T) (fault : CopyFault) (answer : Result T CopyFault) → (Ok x ≡ answer) ⊎ (Ok x ≡ Err fault) → answer ≡ Ok x
first_is x fault answer either = ⊎_elim (λ is. sym is) (λ e. absurd cc) either

-- a copy is what stands in its header and in its sections
pub copy_is : (size : ℕ) (sector : ℕ → List ℕ) (anchor : Header) (which : Which) (header : Header) (raw : Raw) → header_of size sector anchor which ≡ Ok header
    → raw ≡ raw_at sector (place_of which anchor) header.geometry → copy_of size sector anchor which ≡ copy_in header raw
unfolding copy_of
copy_is size sector anchor which header raw head is = rw (head, is) refl

-- the records that a copy's sections are read as
pub sections_are : (header : Header) (copy : DiskCopy) (raw : Raw) → header.geometry ≡ copy.header.geometry → header.guid ≡ copy.header.guid → header.sequence ≡ copy.header.sequence
    → decoded_controller raw.controller ≡ Ok copy.controller
    → decoded_disks copy.header.geometry.max_disks (bytes_in raw.disks) ≡ Ok copy.disks
    → decoded_arrays copy.header.geometry.max_arrays (bytes_in raw.arrays) ≡ Ok copy.arrays
    → decoded_slots copy.header.geometry copy.header.guid copy.header.sequence (bytes_in raw.records) ≡ Ok copy.slots
    → decoded_disk_data raw.disk_data ≡ Ok copy.disk_data
    → log_in raw.bad_blocks ≡ Ok copy.bad
    → copy_in header raw ≡ Ok (record copy { header = header })
unfolding copy_in
sections_are header copy raw geometry guid sequence controller disks arrays slots disk_data bad =
    rw (geometry, guid, sequence, controller, disks, arrays, slots, disk_data, bad) refl

pub controller_is : (controller : Controller) (sector : List ℕ) → IsControllerOf controller sector → decoded_controller sector ≡ Ok controller
controller_is controller sector is = (controller_both_ways sector (decoded_controller sector) is.size is.is_record.are_bytes refl controller).1 is

pub disk_data_is : (disk : DiskData) (sector : List ℕ) → IsDiskDataOf disk sector → decoded_disk_data sector ≡ Ok disk
disk_data_is disk sector is = (disk_data_both_ways sector (decoded_disk_data sector) is.size is.is_record.are_bytes refl disk).1 is
