-- A whole section of slots, both ways.
use Rattle.std.proofs.Common.{◌≡◌, ◌↔◌, ◌⊎◌, ℕ, ◌+◌, ◌*◌, ◌<◌, ◌≤◌, ◌^◌, Bool, true, false, ◌||◌, cond, eqb, List, length, map, Option, Some, None, Result, Ok, Err, refl, sym, ◌∙◌, ap, subst, arith, inl, inr}
use Rattle.std.specs.Prelude.{slice_get, option_map}
use Rattle.std.specs.Result.{result_err}
use Rattle.std.specs.List.{range_with_len}
use Rattle.std.specs.Int.{w32}
use Rattle.std.proofs.Math.Nat.{div-mul-le_self, mul-le-mul_right}
use Rattle.std.proofs.lemmas.Bool.{eqb-true}
use Rattle.std.proofs.lemmas.List.FromFn.{length-map-range_with_len}
use Rattle.ddf_bytes.specs.Bytes.{number_at}
use Rattle.ddf_bytes.specs.Choices.{first_of, ok_unless}
use Rattle.ddf_seal.specs.Seal.{seal_check}
use Rattle.ddf_seal.specs.Unread.{AreBytes}
use Rattle.ddf_seal.specs.declared.sealing.SealFault.{SealFault}
use Rattle.ddf_seal.proofs.Placing.{length-bytes_at}
use Rattle.ddf_seal.proofs.Spelled.{AreBytes-bytes_at}
use Rattle.ddf_seal.proofs.Seals.{sealed_from_check, check_from_sealed}
use Rattle.ddf_header.specs.declared.geometry.Geometry.{Geometry}
use Rattle.ddf_config_records.specs.declared.fault.SlotFault.{SlotFault}
use Rattle.ddf_config_records.specs.declared.fault.SlotFault.TheVariants as faults
use Rattle.ddf_config_records.specs.declared.notes.Notes.{Notes}
use Rattle.ddf_config_records.specs.declared.slot.RecordSlot.{RecordSlot}
use Rattle.ddf_config_records.specs.Elements.{record_size, HasRoom}
use Rattle.ddf_config_records.specs.Spares.{spare_signature}
use Rattle.ddf_config_records.specs.Vendors.{vendor_signature}
use Rattle.ddf_config_records.specs.Slots.{element_signature, is_known, slot_count, slot_bytes, valid_of, valid_notes, lists, valid_at, IsSlotOf, AreSlotsOf, CanBeSlots, slot_at, notes_in, slots_at, slot_fault, seal_fault, decoded_slots, AreSealed}
use Rattle.ddf_config_records.proofs.Ranges.{each_none, none_first, get_made, made_all, same_first}
use Rattle.ddf_config_records.proofs.SlotValues.{slot_at_is, slot_is, can_be_slot, valid_same}

-- ---- where slots lie

pub slot_within : (geometry : Geometry) (section : List ℕ) (slot : ℕ) → slot < slot_count geometry section → slot * record_size geometry + record_size geometry ≤ length section
slot_within geometry section slot lt =
    let size = record_size geometry in
    let below = mul-le-mul_right {m = slot + 1} {n = slot_count geometry section} size (omega arith) in
    let whole = div-mul-le_self (length section) size in
    omega (arith, below, whole)

pub length-slot_bytes : (geometry : Geometry) (section : List ℕ) (slot : ℕ) → slot < slot_count geometry section → length (slot_bytes geometry section slot) ≡ record_size geometry
length-slot_bytes geometry section slot lt = length-bytes_at section (slot * record_size geometry) (record_size geometry) (slot_within geometry section slot lt)

slot_are_bytes : (geometry : Geometry) (section : List ℕ) (slot : ℕ) → slot < slot_count geometry section → AreBytes section → AreBytes (slot_bytes geometry section slot)
slot_are_bytes geometry section slot lt are = AreBytes-bytes_at section (slot * record_size geometry) (record_size geometry) (slot_within geometry section slot lt) are

-- ---- seals

seal_none : (slot : ℕ) (r : Result Unit SealFault) → option_map (faults.Seal slot) (result_err r) ≡ None → r ≡ Ok tt
seal_none slot (Ok x) h = refl
seal_none slot (Err fault) h = absurd cc

fault_none : (slot : ℕ) (known : Bool) (r : Result Unit SealFault) → cond known (option_map (faults.Seal slot) (result_err r)) None ≡ None → known ≡ true → r ≡ Ok tt
fault_none slot true r h k = seal_none slot r h
fault_none slot false r h k = absurd cc

none_sealed : (slot : ℕ) (known : Bool) (r : Result Unit SealFault) → (known ≡ true → r ≡ Ok tt) → cond known (option_map (faults.Seal slot) (result_err r)) None ≡ None
none_sealed slot true r h = ap (λ (s : Result Unit SealFault). option_map (faults.Seal slot) (result_err s)) (h refl)
none_sealed slot false r h = refl

pub sealed_from_none : (geometry : Geometry) (section : List ℕ) → HasRoom geometry → AreBytes section → seal_fault geometry section ≡ None → AreSealed geometry section
unfolding seal_fault slot_fault
sealed_from_none geometry section room are none = record {
  each = λ slot lt known.
      let bytes = slot_bytes geometry section slot in
      let size = length-slot_bytes geometry section slot lt in
      let passes = fault_none slot (is_known (number_at w32 bytes 0)) (seal_check (number_at w32 bytes 0) bytes) (each_none (λ (i : ℕ). slot_fault i (slot_bytes geometry section i)) (slot_count geometry section) none slot lt) known in
      sealed_from_check (number_at w32 bytes 0) bytes (omega (arith, size, room.whole)) (slot_are_bytes geometry section slot lt are) passes;
}

known_fits : (n : ℕ) (a b c : Bool) → (a ≡ true → n ≡ element_signature) → (b ≡ true → n ≡ vendor_signature) → (c ≡ true → n ≡ spare_signature) → (a || b || c) ≡ true → n < 2 ^ 32
known_fits n true b c ha hb hc h = let is = ha refl in omega arith
known_fits n false true c ha hb hc h = let is = hb refl in omega arith
known_fits n false false true ha hb hc h = let is = hc refl in omega arith
known_fits n false false false ha hb hc h = absurd cc

pub none_from_sealed : (geometry : Geometry) (section : List ℕ) → HasRoom geometry → AreBytes section → AreSealed geometry section → seal_fault geometry section ≡ None
unfolding seal_fault slot_fault
none_from_sealed geometry section room are sealed =
    none_first (λ (i : ℕ). slot_fault i (slot_bytes geometry section i)) (slot_count geometry section) (λ slot lt.
    let bytes = slot_bytes geometry section slot in
    let signature = number_at w32 bytes 0 in
    let size = length-slot_bytes geometry section slot lt in
    none_sealed slot (is_known signature) (seal_check signature bytes) (λ known.
    let fits : signature < 2 ^ 32 = known_fits signature (eqb signature element_signature) (eqb signature vendor_signature) (eqb signature spare_signature) (eqb-true signature element_signature)
    (eqb-true signature vendor_signature) (eqb-true signature spare_signature) known in
    check_from_sealed signature bytes (omega (arith, size, room.whole)) (slot_are_bytes geometry section slot lt are) fits (sealed.each slot lt known)))

-- ---- what is read is the value

slot_made_at : (geometry : Geometry) (notes : Option Notes) (section : List ℕ) → ℕ → RecordSlot
slot_made_at geometry notes section slot = slot_at geometry.max_members (slot_count geometry section) (lists notes slot) (slot_bytes geometry section slot)

valid_made : (geometry : Geometry) (group : List ℕ) (sequence : ℕ) (notes : Option Notes) (section : List ℕ) → valid_notes group sequence (slots_at geometry notes section) ≡ notes_in geometry group sequence section
unfolding slots_at notes_in
valid_made geometry group sequence notes section =
    same_first (valid_of group sequence) (λ (slot : ℕ). valid_at geometry.max_members (slot_count geometry section) group sequence (slot_bytes geometry section slot))
    (λ (slot : ℕ). slot_at geometry.max_members (slot_count geometry section) (lists notes slot) (slot_bytes geometry section slot)) (slot_count geometry section)
    (λ slot lt. valid_same geometry.max_members (slot_count geometry section) group sequence (lists notes slot) (slot_bytes geometry section slot))

length-slots_at : (geometry : Geometry) (notes : Option Notes) (section : List ℕ) → length (slots_at geometry notes section) ≡ slot_count geometry section
unfolding slots_at
length-slots_at geometry notes section =
    length-map-range_with_len (λ (slot : ℕ). slot_at geometry.max_members (slot_count geometry section) (lists notes slot) (slot_bytes geometry section slot)) 0 (slot_count geometry section)

item_made : (geometry : Geometry) (notes : Option Notes) (section : List ℕ) (i : ℕ) (slot : RecordSlot) → slice_get (slots_at geometry notes section) i ≡ Some slot
    → (i < slot_count geometry section) × (slot_at geometry.max_members (slot_count geometry section) (lists notes i) (slot_bytes geometry section i) ≡ slot)
unfolding slots_at
item_made geometry notes section i slot h =
    get_made (λ (j : ℕ). slot_at geometry.max_members (slot_count geometry section) (lists notes j) (slot_bytes geometry section j)) (slot_count geometry section) i slot h

pub slots_are : (geometry : Geometry) (group : List ℕ) (sequence : ℕ) (section : List ℕ) → HasRoom geometry → AreBytes section → AreSealed geometry section
    → AreSlotsOf geometry group sequence (slots_at geometry (notes_in geometry group sequence section) section) section
slots_are geometry group sequence section room are sealed =
    let notes = notes_in geometry group sequence section in
    let all = slots_at geometry notes section in
    let counted = length-slots_at geometry notes section in
    record {
      counted = counted;
      each = λ i slot at.
          let parts = item_made geometry notes section i slot at in
          let is = slot_at_is geometry (slot_count geometry section) (lists notes i) (slot_bytes geometry section i) room (length-slot_bytes geometry section i parts.0) (slot_are_bytes geometry section i parts.0 are) (sealed.each i parts.0) in
          let of_slot = subst (λ (s : RecordSlot). IsSlotOf geometry (slot_count geometry section) (lists notes i) s (slot_bytes geometry section i)) parts.1 is in
          let of_notes = subst (λ (o : Option Notes). IsSlotOf geometry (slot_count geometry section) (lists o i) slot (slot_bytes geometry section i)) (sym (valid_made geometry group sequence notes section)) of_slot in
          subst (λ (n : ℕ). IsSlotOf geometry n (lists (valid_notes group sequence all) i) slot (slot_bytes geometry section i)) (sym counted) of_notes;
    }

-- ---- the value is what is read

valid_is : (geometry : Geometry) (group : List ℕ) (sequence : ℕ) (all : List RecordSlot) (section : List ℕ) → HasRoom geometry → AreSlotsOf geometry group sequence all section
    → (i : ℕ) (slot : RecordSlot) → slice_get all i ≡ Some slot → slot_at geometry.max_members (length all) (lists (valid_notes group sequence all) i) (slot_bytes geometry section i) ≡ slot
valid_is geometry group sequence all section room are i slot at = slot_is geometry (length all) (lists (valid_notes group sequence all) i) slot (slot_bytes geometry section i) room (are.each i slot at)

pub slots_is : (geometry : Geometry) (group : List ℕ) (sequence : ℕ) (all : List RecordSlot) (section : List ℕ) → HasRoom geometry → AreSlotsOf geometry group sequence all section
    → slots_at geometry (notes_in geometry group sequence section) section ≡ all
unfolding slots_at notes_in
slots_is geometry group sequence all section room are =
    let most = geometry.max_members in
    let own = valid_notes group sequence all in
    let n = slot_count geometry section in
    let read : Option Notes → ℕ → ℕ → RecordSlot = λ (notes : Option Notes) (count : ℕ) (slot : ℕ). slot_at most count (lists notes slot) (slot_bytes geometry section slot) in
    let each = valid_is geometry group sequence all section room are in
    let made : map (read own (length all)) (range_with_len 0 (length all)) ≡ all = made_all (read own (length all)) all each in
    let made_now : map (read own n) (range_with_len 0 n) ≡ all = subst (λ (m : ℕ). map (read own m) (range_with_len 0 m) ≡ all) are.counted made in
    let found : first_of (map (λ (slot : ℕ). valid_at most n group sequence (slot_bytes geometry section slot)) (range_with_len 0 n)) ≡ own =
    sym (same_first (valid_of group sequence) (λ (slot : ℕ). valid_at most n group sequence (slot_bytes geometry section slot)) (read own n) n (λ slot lt. valid_same most n group sequence (lists own slot) (slot_bytes geometry section slot)))
    ∙ ap (λ (l : List RecordSlot). first_of (map (valid_of group sequence) l)) made_now in
    ap (λ (o : Option Notes). map (read o n) (range_with_len 0 n)) found ∙ made_now

-- ---- decoded

ok_none : (o : Option SlotFault) (x y : List RecordSlot) → ok_unless o x ≡ Ok y → (o ≡ None) × (x ≡ y)
ok_none None x y h = (refl, cc)
ok_none (Some fault) x y h = absurd cc

pub decoded_sealed : (geometry : Geometry) (group : List ℕ) (sequence : ℕ) (section : List ℕ) (all : List RecordSlot) → HasRoom geometry → AreBytes section → decoded_slots geometry group sequence section ≡ Ok all → AreSealed geometry section
decoded_sealed geometry group sequence section all room are h =
    let parts = ok_none (seal_fault geometry section) (slots_at geometry (notes_in geometry group sequence section) section) all h in
    sealed_from_none geometry section room are parts.0

pub decodes : (geometry : Geometry) (group : List ℕ) (sequence : ℕ) (section : List ℕ) (all : List RecordSlot) → HasRoom geometry → AreBytes section → decoded_slots geometry group sequence section ≡ Ok all
    → (list : List RecordSlot) → (all ≡ list) ↔ AreSlotsOf geometry group sequence list section
decodes geometry group sequence section all room are h list =
    let parts = ok_none (seal_fault geometry section) (slots_at geometry (notes_in geometry group sequence section) section) all h in
    let is = slots_are geometry group sequence section room are (sealed_from_none geometry section room are parts.0) in (
      λ same. subst (λ (l : List RecordSlot). AreSlotsOf geometry group sequence l section) (parts.1 ∙ same) is,
      λ of_list. sym parts.1 ∙ slots_is geometry group sequence list section room of_list,
    )

pub can_be_slots : (geometry : Geometry) (group : List ℕ) (sequence : ℕ) (all : List RecordSlot) (section : List ℕ) → HasRoom geometry → AreSlotsOf geometry group sequence all section → CanBeSlots geometry group sequence all
can_be_slots geometry group sequence all section room are = record {
  each = λ i slot at. can_be_slot geometry (length all) (lists (valid_notes group sequence all) i) slot (slot_bytes geometry section i) room (are.each i slot at);
}

pub decoded_faults : (geometry : Geometry) (group : List ℕ) (sequence : ℕ) (section : List ℕ) (fault : SlotFault) → seal_fault geometry section ≡ Some fault → decoded_slots geometry group sequence section ≡ Err fault
decoded_faults geometry group sequence section fault h = ap (λ (o : Option SlotFault). ok_unless o (slots_at geometry (notes_in geometry group sequence section) section)) h

pub decoded_reads : (geometry : Geometry) (group : List ℕ) (sequence : ℕ) (section : List ℕ) → seal_fault geometry section ≡ None
    → decoded_slots geometry group sequence section ≡ Ok (slots_at geometry (notes_in geometry group sequence section) section)
decoded_reads geometry group sequence section h = ap (λ (o : Option SlotFault). ok_unless o (slots_at geometry (notes_in geometry group sequence section) section)) h

pub decoded_can : (geometry : Geometry) (group : List ℕ) (sequence : ℕ) (section : List ℕ) (all : List RecordSlot) → HasRoom geometry → AreBytes section → decoded_slots geometry group sequence section ≡ Ok all → CanBeSlots geometry group sequence all
decoded_can geometry group sequence section all room are h = can_be_slots geometry group sequence all section room ((decodes geometry group sequence section all room are h all).0 refl)

abbrev good : List RecordSlot → Result (List RecordSlot) SlotFault
good all = Ok all

not_both : (all : List RecordSlot) (fault : SlotFault) → good all ≡ Err fault → ⊥
not_both all fault h = cc

-- where all is sealed, only memory can be wanting
pub whole_faults : (geometry : Geometry) (group : List ℕ) (sequence : ℕ) (section : List ℕ) (fault : SlotFault) → HasRoom geometry → AreBytes section → AreSealed geometry section
    → (fault ≡ faults.Memory) ⊎ (decoded_slots geometry group sequence section ≡ Err fault) → fault ≡ faults.Memory
whole_faults geometry group sequence section fault room are sealed (inl memory) = memory
whole_faults geometry group sequence section fault room are sealed (inr other) =
    let reads = decoded_reads geometry group sequence section (none_from_sealed geometry section room are sealed) in
    absurd (not_both (slots_at geometry (notes_in geometry group sequence section) section) fault (sym reads ∙ other))
