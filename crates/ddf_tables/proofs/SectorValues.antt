-- Controller data and disk data are the values of their sectors exactly where they are read from them, and are written as
-- these sectors.
use Rattle.std.proofs.Common.{◌≡◌, ◌↔◌, ℕ, ◌<◌, ◌^◌, List, ◌∷◌, length, Result, Ok, Err, IsTrue, refl, sym, ◌∙◌, ap, subst, arith, lit<}
use Rattle.std.specs.Prelude.{IfOk}
use Rattle.std.specs.List.{list_all}
use Rattle.std.specs.Result.{result_err}
use Rattle.ddf_bytes.specs.Choices.{ok_unless}
use Rattle.ddf_seal.specs.declared.sealing.SealFault.{SealFault}
use Rattle.ddf_seal.specs.Seal.{seal_check, seal_place, IsSealed}
use Rattle.ddf_seal.specs.Unread.{Field, AreBytes, places, is_within}
use Rattle.ddf_seal.specs.Records.{record_bytes}
use Rattle.ddf_seal.proofs.Same.{AreWithin, cleared_outside, within_from_test}
use Rattle.ddf_seal.proofs.Seals.{sealed_from_check, check_from_sealed}
use Rattle.ddf_seal.proofs.Records.{apart_from_test, record_again, record_from_bytes, record_written, length-record_bytes}
use Rattle.ddf_tables.specs.declared.controller.Controller.{Controller}
use Rattle.ddf_tables.specs.declared.disk_data.DiskData.{DiskData}
use Rattle.ddf_tables.specs.Sectors.{sealed_value, controller_signature, controller_fields, IsControllerOf, IsController, controller_at, disk_data_signature, disk_data_fields, IsDiskDataOf, IsDiskData, disk_data_at}

-- ---- records of one sector

within : (size : ℕ) (fields : List Field) → size ≡ 512 → IsTrue (list_all (is_within 512) (seal_place ∷ places fields)) → AreWithin size (seal_place ∷ places fields)
within size fields is test = subst (λ n. AreWithin n (seal_place ∷ places fields)) (sym is) (within_from_test 512 (seal_place ∷ places fields) test)

ok_parts : {T : Type 0} (r : Result Unit SealFault) (x y : T) → ok_unless (result_err r) x ≡ Ok y → (r ≡ Ok tt) × (x ≡ y)
ok_parts (Ok u) x y h = (refl, cc)
ok_parts (Err e) x y h = absurd cc

-- What is read from a sector is its value, and the only one, exactly where the sector is sealed.
both_ways : {T : Type 0} (signature : ℕ) (IsOf : T → Type 0) (value : T) (sector : List ℕ) (result : Result T SealFault) → length sector ≡ 512 → AreBytes sector → signature < 2 ^ 32
    → (IsSealed signature sector → IsOf value) → ((other : T) → IsOf other → IsSealed signature sector × (value ≡ other)) → result ≡ sealed_value signature value sector
    → (other : T) → (result ≡ Ok other) ↔ IsOf other
both_ways signature IsOf value sector result size are fits is only exact other = (
  λ e.
      let parts = ok_parts (seal_check signature sector) value other (sym exact ∙ e) in
      subst IsOf parts.1 (is (sealed_from_check signature sector (omega arith) are parts.0)),
  λ of.
      let known = only other of in
      exact ∙ ap (λ r. ok_unless (result_err r) value) (check_from_sealed signature sector (omega arith) are fits known.0) ∙ ap Ok known.1,
)

if_ok_from : {T : Type 0} (P Q : T → Type 0) (result : Result T SealFault) → ((x : T) → (result ≡ Ok x) ↔ P x) → ((x : T) → P x → Q x) → IfOk result Q
if_ok_from P Q (Ok x) ways then = then x ((ways x).0 refl)
if_ok_from P Q (Err e) ways then = tt

-- ---- controller data

abbrev controller_of : (guid rest : List ℕ) → Controller
controller_of guid rest = record { guid = guid; rest = rest }

same_controller : (a b : Controller) → a.guid ≡ b.guid → a.rest ≡ b.rest → a ≡ b
same_controller a b e1 e2 = let all : controller_of a.guid a.rest ≡ controller_of b.guid b.rest = cc in all

pub controller_both_ways : (sector : List ℕ) (result : Result Controller SealFault) → length sector ≡ 512 → AreBytes sector → result ≡ sealed_value controller_signature (controller_at sector) sector
    → (controller : Controller) → (result ≡ Ok controller) ↔ IsControllerOf controller sector
controller_both_ways sector result size are exact =
    both_ways controller_signature (λ controller. IsControllerOf controller sector) (controller_at sector) sector result size are (lit< tt)
    (λ sealed. record { size = size; is_record = record { are_bytes = are; is_sealed = sealed; fields_stand = (refl, tt); others_stay = refl } })
    (λ other of. (of.is_record.is_sealed, same_controller (controller_at sector) other of.is_record.fields_stand.0 (sym of.is_record.others_stay))) exact

pub controller_again : (controller : Controller) (sector : List ℕ) → IsControllerOf controller sector → record_bytes controller_signature (controller_fields controller) controller.rest ≡ sector
controller_again controller sector is =
    record_again controller_signature (controller_fields controller) controller.rest sector (within (length sector) (controller_fields controller) is.size refl) is.is_record

pub controller_writable : (sector : List ℕ) (result : Result Controller SealFault) → length sector ≡ 512 → AreBytes sector → result ≡ sealed_value controller_signature (controller_at sector) sector → IfOk result IsController
controller_writable sector result size are exact =
    if_ok_from (λ controller. IsControllerOf controller sector) IsController result (controller_both_ways sector result size are exact)
    (λ controller is.
    let inside = within (length sector) (controller_fields controller) is.size refl in
    record {
      is_record = record_from_bytes controller_signature (controller_fields controller) controller.rest sector inside is.is_record;
      rest_size = ap length is.is_record.others_stay ∙ (cleared_outside (seal_place ∷ places (controller_fields controller)) sector inside).size ∙ is.size;
    })

pub controller_is_written : (controller : Controller) → length controller.rest ≡ 512 → IsController controller → AreBytes (record_bytes controller_signature (controller_fields controller) controller.rest)
    → IsControllerOf controller (record_bytes controller_signature (controller_fields controller) controller.rest)
controller_is_written controller size can are =
    let fields = controller_fields controller in
    let inside = within (length controller.rest) fields size refl in
    record {
      size = length-record_bytes controller_signature fields controller.rest inside can.is_record.fields_fit ∙ size;
      is_record = record_written controller_signature fields controller.rest inside (apart_from_test (seal_place ∷ places fields) refl) can.is_record are;
    }

-- ---- physical disk data

abbrev disk_data_of : (guid : List ℕ) (reference : ℕ) (rest : List ℕ) → DiskData
disk_data_of guid reference rest = record { guid = guid; reference = reference; rest = rest }

same_disk_data : (a b : DiskData) → a.guid ≡ b.guid → a.reference ≡ b.reference → a.rest ≡ b.rest → a ≡ b
same_disk_data a b e1 e2 e3 = let all : disk_data_of a.guid a.reference a.rest ≡ disk_data_of b.guid b.reference b.rest = cc in all

pub disk_data_both_ways : (sector : List ℕ) (result : Result DiskData SealFault) → length sector ≡ 512 → AreBytes sector → result ≡ sealed_value disk_data_signature (disk_data_at sector) sector
    → (disk : DiskData) → (result ≡ Ok disk) ↔ IsDiskDataOf disk sector
disk_data_both_ways sector result size are exact =
    both_ways disk_data_signature (λ disk. IsDiskDataOf disk sector) (disk_data_at sector) sector result size are (lit< tt)
    (λ sealed. record { size = size; is_record = record { are_bytes = are; is_sealed = sealed; fields_stand = (refl, (refl, tt)); others_stay = refl } })
    (λ other of. (of.is_record.is_sealed, same_disk_data (disk_data_at sector) other of.is_record.fields_stand.0 of.is_record.fields_stand.1.0 (sym of.is_record.others_stay))) exact

pub disk_data_again : (disk : DiskData) (sector : List ℕ) → IsDiskDataOf disk sector → record_bytes disk_data_signature (disk_data_fields disk) disk.rest ≡ sector
disk_data_again disk sector is = record_again disk_data_signature (disk_data_fields disk) disk.rest sector (within (length sector) (disk_data_fields disk) is.size refl) is.is_record

pub disk_data_writable : (sector : List ℕ) (result : Result DiskData SealFault) → length sector ≡ 512 → AreBytes sector → result ≡ sealed_value disk_data_signature (disk_data_at sector) sector → IfOk result IsDiskData
disk_data_writable sector result size are exact =
    if_ok_from (λ disk. IsDiskDataOf disk sector) IsDiskData result (disk_data_both_ways sector result size are exact)
    (λ disk is.
    let inside = within (length sector) (disk_data_fields disk) is.size refl in
    record {
      is_record = record_from_bytes disk_data_signature (disk_data_fields disk) disk.rest sector inside is.is_record;
      rest_size = ap length is.is_record.others_stay ∙ (cleared_outside (seal_place ∷ places (disk_data_fields disk)) sector inside).size ∙ is.size;
    })

pub disk_data_is_written : (disk : DiskData) → length disk.rest ≡ 512 → IsDiskData disk → AreBytes (record_bytes disk_data_signature (disk_data_fields disk) disk.rest)
    → IsDiskDataOf disk (record_bytes disk_data_signature (disk_data_fields disk) disk.rest)
disk_data_is_written disk size can are =
    let fields = disk_data_fields disk in
    let inside = within (length disk.rest) fields size refl in
    record {
      size = length-record_bytes disk_data_signature fields disk.rest inside can.is_record.fields_fit ∙ size;
      is_record = record_written disk_data_signature fields disk.rest inside (apart_from_test (seal_place ∷ places fields) refl) can.is_record are;
    }
