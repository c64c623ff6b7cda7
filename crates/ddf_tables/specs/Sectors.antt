-- Records of one sector: controller data and physical disk data (SNIA DDF 2.0).
use Rattle.std.specs.Prelude.{◌≡◌, ℕ, List, [], ◌∷◌, length, Result}
use Rattle.std.specs.Result.{result_err}
use Rattle.std.specs.Int.{w32}
use Rattle.ddf_bytes.specs.Bytes.{bytes_at, number_at}
use Rattle.ddf_bytes.specs.Choices.{ok_unless}
use Rattle.ddf_seal.specs.declared.sealing.SealFault.{SealFault}
use Rattle.ddf_seal.specs.Seal.{seal_check, seal_place}
use Rattle.ddf_seal.specs.Records.{IsRecord, IsRecordOf}
use Rattle.ddf_seal.specs.Unread.{Field, u32_at, plain_at, cleared}
use Rattle.ddf_tables.specs.declared.controller.Controller.{Controller}
use Rattle.ddf_tables.specs.declared.disk_data.DiskData.{DiskData}
use Rattle.ddf_tables.specs.declared.layout.TheConstants.{CONTROLLER_GUID_AT, DISK_DATA_GUID_AT, DISK_DATA_REFERENCE_AT}

-- the fault of a seal, or else the value
abbrev pub sealed_value : {T : Type 0} → ℕ → T → List ℕ → Result T SealFault
sealed_value signature value sector = ok_unless (result_err (seal_check signature sector)) value

-- ---- controller data

abbrev pub controller_signature : ℕ
controller_signature = 0xAD11_1111

abbrev pub controller_fields : Controller → List Field
controller_fields controller = plain_at CONTROLLER_GUID_AT 24 controller.guid ∷ []

-- A controller is the value of 512 bytes.
pub record IsControllerOf (controller : Controller) (sector : List ℕ) : Type 0 where
  pub size : length sector ≡ 512
  pub is_record : IsRecordOf controller_signature (controller_fields controller) controller.rest sector

-- A controller can be written.
pub record IsController (controller : Controller) : Type 0 where
  pub is_record : IsRecord (controller_fields controller) controller.rest
  pub rest_size : length controller.rest ≡ 512

-- the controller that stands in a sector
abbrev pub controller_at : List ℕ → Controller
controller_at sector = record {
  guid = bytes_at sector CONTROLLER_GUID_AT 24;
  rest = cleared (seal_place ∷ record { at = CONTROLLER_GUID_AT; length = 24 } ∷ []) sector;
}

abbrev pub decoded_controller : List ℕ → Result Controller SealFault
decoded_controller sector = sealed_value controller_signature (controller_at sector) sector

-- ---- physical disk data

abbrev pub disk_data_signature : ℕ
disk_data_signature = 0x3333_3333

abbrev pub disk_data_fields : DiskData → List Field
disk_data_fields disk = plain_at DISK_DATA_GUID_AT 24 disk.guid ∷ u32_at DISK_DATA_REFERENCE_AT disk.reference ∷ []

-- The disk data are the value of 512 bytes.
pub record IsDiskDataOf (disk : DiskData) (sector : List ℕ) : Type 0 where
  pub size : length sector ≡ 512
  pub is_record : IsRecordOf disk_data_signature (disk_data_fields disk) disk.rest sector

-- The disk data can be written.
pub record IsDiskData (disk : DiskData) : Type 0 where
  pub is_record : IsRecord (disk_data_fields disk) disk.rest
  pub rest_size : length disk.rest ≡ 512

-- the disk data that stand in a sector
abbrev pub disk_data_at : List ℕ → DiskData
disk_data_at sector = record {
  guid = bytes_at sector DISK_DATA_GUID_AT 24;
  reference = number_at w32 sector DISK_DATA_REFERENCE_AT;
  rest = cleared (seal_place ∷ record { at = DISK_DATA_GUID_AT; length = 24 } ∷ record { at = DISK_DATA_REFERENCE_AT; length = 4 } ∷ []) sector;
}

abbrev pub decoded_disk_data : List ℕ → Result DiskData SealFault
decoded_disk_data sector = sealed_value disk_data_signature (disk_data_at sector) sector
