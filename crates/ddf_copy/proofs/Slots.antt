-- The configuration records that are read are whole slots.
use Rattle.std.proofs.Common.{◌≡◌, ℕ, ◌*◌, ◌/◌, ◌<◌, ◌^◌, Bool, true, Some, Ok, get_or, List, length, take, refl, ap, ◌∙◌, sym, arith, [], ◌∷◌}
use Rattle.std.proofs.Math.Nat.{mul-div_cancel}
use Rattle.std.proofs.lemmas.List.{take_all}
use Rattle.std.proofs.lemmas.Bool.{false≢true}
use Rattle.std.proofs.lemmas.Option.{slice_get-get_or}
use Rattle.std.specs.Prelude.{slice_get}
use Rattle.std.specs.Int.{w32}
use Rattle.ddf_bytes.specs.Bytes.{number_at}
use Rattle.ddf_seal.specs.Seal.{IsSealed}
use Rattle.ddf_seal.specs.Unread.{AreBytes}
use Rattle.ddf_header.specs.declared.geometry.Geometry.{Geometry}
use Rattle.ddf_config_records.specs.declared.slot.RecordSlot.{RecordSlot}
use Rattle.ddf_config_records.specs.declared.slot.RecordSlot.TheVariants as slots
use Rattle.ddf_config_records.specs.Elements.{HasRoom, record_size}
use Rattle.ddf_config_records.specs.Slots.{AreSealed, AreSlotsOf, IsSlotOf, decoded_slots, element_signature, is_known, lists, slot_bytes, slots_written, valid_notes}
use Rattle.ddf_config_records.specs.Spares.{spare_signature}
use Rattle.ddf_config_records.specs.Vendors.{vendor_signature}
use Rattle.ddf_config_records.proofs.Sections.{none_from_sealed, slots_is}
use Rattle.ddf_config_records.proofs.SlotValues.{signature_is}
use Rattle.ddf_config_records.proofs.Written.{written_again}
use Rattle.ddf_copy.specs.Sections.{bytes_in}

-- so many whole slots hold that many
pub count_of_whole : (records length' size : ℕ) → 0 < length' → size ≡ 512 * ((records / length') * length') → size / (512 * length') ≡ records / length'
count_of_whole records length' size some is =
    let slots = records / length' in
    let same : size ≡ slots * (512 * length') = omega (arith, is) in
    ap (λ (n : ℕ). n / (512 * length')) same ∙ mul-div_cancel slots (omega (arith, some))

-- whole slots are written as the bytes that they are read from
pub whole_again : (geometry : Geometry) (group : List ℕ) (sequence : ℕ) (all : List RecordSlot) (section : List ℕ) → HasRoom geometry → AreSlotsOf geometry group sequence all section
    → length section ≡ length all * record_size geometry → slots_written geometry all ≡ section
whole_again geometry group sequence all section room are whole =
    written_again geometry group sequence all section room are ∙ ap (λ (n : ℕ). take n section) (sym whole) ∙ take_all (length section) section (omega arith)

-- no sectors have no bytes
pub none_in : (sectors : List (List ℕ)) → length sectors ≡ 0 → [] ≡ bytes_in sectors
none_in [] none = refl
none_in (sector ∷ sectors) none = cc

-- ---- the slots that a section holds are read from it

sealed_as : (signature : ℕ) (bytes : List ℕ) → signature < 2 ^ 32 → IsSealed signature bytes → IsSealed (number_at w32 bytes 0) bytes
sealed_as signature bytes fits is = rw (signature_is signature bytes fits is) is

sealed_slot : (geometry : Geometry) (count : ℕ) (listed : Bool) (slot : RecordSlot) (bytes : List ℕ) → IsSlotOf geometry count listed slot bytes → is_known (number_at w32 bytes 0) ≡ true
    → IsSealed (number_at w32 bytes 0) bytes
unfolding IsSlotOf
sealed_slot geometry count listed (slots.Element element) bytes is known = sealed_as element_signature bytes (omega arith) is.is_record.is_sealed
sealed_slot geometry count listed (slots.Copied element) bytes is known = sealed_as vendor_signature bytes (omega arith) is.0.is_record.is_sealed
sealed_slot geometry count listed (slots.Spare spare) bytes is known = sealed_as spare_signature bytes (omega arith) is.is_record.is_sealed
sealed_slot geometry count listed (slots.Notes notes) bytes is known = sealed_as vendor_signature bytes (omega arith) is.is_record.is_sealed
sealed_slot geometry count listed (slots.Vendor guid rest) bytes is known = sealed_as vendor_signature bytes (omega arith) is.0.is_record.is_sealed
sealed_slot geometry count listed (slots.Unread fault kept) bytes is known = sealed_as element_signature bytes (omega arith) is.1.is_sealed
sealed_slot geometry count listed (slots.Unused kept) bytes is known = absurd (false≢true (sym is.1.unknown ∙ known))

are_sealed : (geometry : Geometry) (group : List ℕ) (sequence : ℕ) (all : List RecordSlot) (section : List ℕ) → AreSlotsOf geometry group sequence all section → AreSealed geometry section
are_sealed geometry group sequence all section are = record {
  each = λ i lt known.
      let slot = get_or all i (slots.Unused []) in
      let here : slice_get all i ≡ Some slot = slice_get-get_or all i (slots.Unused []) (rw are.counted lt) in
      sealed_slot geometry (length all) (lists (valid_notes group sequence all) i) slot (slot_bytes geometry section i) (are.each i slot here) known;
}

pub slots_are_read : (geometry : Geometry) (group : List ℕ) (sequence : ℕ) (all : List RecordSlot) (section : List ℕ) → HasRoom geometry → AreBytes section
    → AreSlotsOf geometry group sequence all section → decoded_slots geometry group sequence section ≡ Ok all
slots_are_read geometry group sequence all section room bytes are =
    let none = none_from_sealed geometry section room bytes (are_sealed geometry group sequence all section are) in
    rw none (ap Ok (slots_is geometry group sequence all section room are))
