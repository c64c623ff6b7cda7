-- A slot against its bytes, both ways.
use Rattle.std.proofs.Common.{◌≡◌, ℕ, ◌<◌, ◌≤◌, ◌^◌, Bool, true, false, ◌&&◌, ◌||◌, cond, eqb, List, length, Option, Some, None, refl, sym, ◌∙◌, ap, subst, arith}
use Rattle.std.specs.Prelude.{is_none}
use Rattle.std.specs.Int.{w32, from_be_bytes}
use Rattle.std.proofs.lemmas.Bool.{eq-eqb, ne_eqb, eqb-true}
use Rattle.std.proofs.lemmas.Nat.{from_be_bytes-to_be_bytes_4}
use Rattle.ddf_lemmas.proofs.Tests.{all_false, or_three}
use Rattle.ddf_bytes.specs.Bytes.{bytes_at, number_at}
use Rattle.ddf_bytes.specs.Choices.{when}
use Rattle.ddf_seal.specs.Seal.{IsSealed}
use Rattle.ddf_seal.specs.Records.{record_bytes}
use Rattle.ddf_seal.specs.Unread.{AreBytes}
use Rattle.ddf_header.specs.declared.geometry.Geometry.{Geometry}
use Rattle.ddf_config_records.specs.declared.fault.ElementFault.{ElementFault}
use Rattle.ddf_config_records.specs.declared.notes.Notes.{Notes}
use Rattle.ddf_config_records.specs.declared.slot.RecordSlot.{RecordSlot}
use Rattle.ddf_config_records.specs.declared.slot.RecordSlot.TheVariants as slots
use Rattle.ddf_config_records.specs.declared.layout.TheConstants.{VENDOR_GUID_AT}
use Rattle.ddf_config_records.specs.ElementValue.{ElementValue}
use Rattle.ddf_config_records.specs.Elements.{record_size, HasRoom, element_fields, element_fault, element_fault_at, element_at, IsElementOf}
use Rattle.ddf_config_records.specs.Spares.{spare_signature, spare_at}
use Rattle.ddf_config_records.specs.Vendors.{vendor_signature, vendor_rest}
use Rattle.ddf_config_records.specs.NoteRecords.{is_notes, notes_at}
use Rattle.ddf_config_records.specs.Slots.{element_signature, is_known, are_valid, valid_of, valid_at, is_copy, IsUnused, IsUnread, IsSlotOf, slot_written, CanBeSlot, element_slot, vendor_slot, slot_at}
use Rattle.ddf_config_records.proofs.Apart.{element_no_notes}
use Rattle.ddf_config_records.proofs.ElementRecords.{element_at_is, element_is, fault_at_is, element_again, can_be_element, element_length, element_written}
use Rattle.ddf_config_records.proofs.SpareRecords.{spare_at_is, spare_is, spare_again, can_be_spare, spare_length, spare_written}
use Rattle.ddf_config_records.proofs.Vendors.{vendor_at_is, vendor_is, vendor_again, can_be_vendor, vendor_length, vendor_written}
use Rattle.ddf_config_records.proofs.NotesValues.{notes_at_is, notes_is, notes_are_notes, notes_again, can_be_notes, notes_length, notes_written}

-- ---- signatures

pub signature_is : (signature : ℕ) (bytes : List ℕ) → signature < 2 ^ 32 → IsSealed signature bytes → number_at w32 bytes 0 ≡ signature
signature_is signature bytes fits is = ap (from_be_bytes w32) is.signature_stands ∙ from_be_bytes-to_be_bytes_4 signature fits

cond_two : (P : RecordSlot → Type 0) (a b : Bool) (x y z : RecordSlot) → (a ≡ true → P x) → (a ≡ false → b ≡ true → P y) → (a ≡ false → b ≡ false → P z) → P (cond a x (cond b y z))
cond_two P true b x y z hx hy hz = hx refl
cond_two P false true x y z hx hy hz = hy refl refl
cond_two P false false x y z hx hy hz = hz refl refl

cond_three : (P : RecordSlot → Type 0) (a b c : Bool) (w x y z : RecordSlot) → (a ≡ true → P w) → (a ≡ false → b ≡ true → P x) → (a ≡ false → b ≡ false → c ≡ true → P y) → (a ≡ false → b ≡ false → c ≡ false → P z)
    → P (cond a w (cond b x (cond c y z)))
cond_three P true b c w x y z hw hx hy hz = hw refl
cond_three P false true c w x y z hw hx hy hz = hx refl refl
cond_three P false false true w x y z hw hx hy hz = hy refl refl refl
cond_three P false false false w x y z hw hx hy hz = hz refl refl refl

first_known : (a b c : Bool) → a ≡ true → (a || b || c) ≡ true
first_known a b c h = rw h refl

second_known : (a b c : Bool) → b ≡ true → (a || b || c) ≡ true
second_known true b c h = refl
second_known false b c h = rw h refl

third_known : (a b c : Bool) → c ≡ true → (a || b || c) ≡ true
third_known true b c h = refl
third_known false true c h = refl
third_known false false c h = h

-- ---- what is read is the value

element_slot_is : (geometry : Geometry) (count : ℕ) (listed : Bool) (bytes : List ℕ) (o : Option ElementFault) → length bytes ≡ record_size geometry → AreBytes bytes → IsSealed element_signature bytes
    → element_fault_at geometry.max_members bytes ≡ o → IsSlotOf geometry count listed (element_slot geometry.max_members bytes o) bytes
unfolding IsSlotOf
element_slot_is geometry count listed bytes None size are sealed h = element_at_is element_signature geometry bytes size are sealed h
element_slot_is geometry count listed bytes (Some fault) size are sealed h = (refl, record { size = size; are_bytes = are; is_sealed = sealed; has_fault = h })

copy_parts : (listed : Bool) (o : Option ElementFault) → (listed && is_none o) ≡ true → (listed ≡ true) × (o ≡ None)
copy_parts true None h = (refl, refl)
copy_parts true (Some fault) h = absurd cc
copy_parts false o h = absurd cc

vendor_slot_is : (geometry : Geometry) (count : ℕ) (listed : Bool) (bytes : List ℕ) → HasRoom geometry → length bytes ≡ record_size geometry → AreBytes bytes → IsSealed vendor_signature bytes
    → IsSlotOf geometry count listed (vendor_slot geometry.max_members count listed bytes) bytes
unfolding IsSlotOf
vendor_slot_is geometry count listed bytes room size are sealed =
    let most = geometry.max_members in
    cond_two (λ slot. IsSlotOf geometry count listed slot bytes) (is_notes most count bytes) (is_copy most listed bytes) (slots.Notes (notes_at most count bytes)) (slots.Copied (element_at most bytes)) (slots.Vendor (bytes_at bytes VENDOR_GUID_AT 24) (vendor_rest bytes))
    (λ yes. notes_at_is geometry count bytes size are sealed room.bits yes)
    (λ no copy. let parts = copy_parts listed (element_fault_at most bytes) copy in (element_at_is vendor_signature geometry bytes size are sealed parts.1, parts.0, no))
    (λ no other. (vendor_at_is geometry bytes size are sealed, no, other))

pub slot_at_is : (geometry : Geometry) (count : ℕ) (listed : Bool) (bytes : List ℕ) → HasRoom geometry → length bytes ≡ record_size geometry → AreBytes bytes
    → (is_known (number_at w32 bytes 0) ≡ true → IsSealed (number_at w32 bytes 0) bytes) → IsSlotOf geometry count listed (slot_at geometry.max_members count listed bytes) bytes
unfolding IsSlotOf slot_at
slot_at_is geometry count listed bytes room size are sealed =
    let most = geometry.max_members in
    let signature = number_at w32 bytes 0 in
    let a = eqb signature element_signature in
    let b = eqb signature vendor_signature in
    let c = eqb signature spare_signature in
    cond_three (λ slot. IsSlotOf geometry count listed slot bytes) a b c (element_slot most bytes (element_fault_at most bytes)) (vendor_slot most count listed bytes) (slots.Spare (spare_at bytes)) (slots.Unused bytes)
    (λ yes. element_slot_is geometry count listed bytes (element_fault_at most bytes) size are
    (subst (λ (n : ℕ). IsSealed n bytes) (eqb-true signature element_signature yes) (sealed (first_known a b c yes))) refl)
    (λ no yes. vendor_slot_is geometry count listed bytes room size are (subst (λ (n : ℕ). IsSealed n bytes) (eqb-true signature vendor_signature yes) (sealed (second_known a b c yes))))
    (λ no other yes. spare_at_is geometry bytes size are (subst (λ (n : ℕ). IsSealed n bytes) (eqb-true signature spare_signature yes) (sealed (third_known a b c yes))))
    (λ no other last. (refl, record { size = size; are_bytes = are; unknown = or_three a b c no other last }))

-- ---- the value is what is read

at_element : (most count : ℕ) (listed : Bool) (bytes : List ℕ) → number_at w32 bytes 0 ≡ element_signature → slot_at most count listed bytes ≡ element_slot most bytes (element_fault_at most bytes)
unfolding slot_at
at_element most count listed bytes h = let first = eq-eqb (number_at w32 bytes 0) element_signature h in rw first refl

at_vendor : (most count : ℕ) (listed : Bool) (bytes : List ℕ) → number_at w32 bytes 0 ≡ vendor_signature → slot_at most count listed bytes ≡ vendor_slot most count listed bytes
unfolding slot_at
at_vendor most count listed bytes h =
    let first = ne_eqb (number_at w32 bytes 0) element_signature (λ e. omega (arith, h, e)) in
    let second = eq-eqb (number_at w32 bytes 0) vendor_signature h in
    rw (first, second) refl

at_spare : (most count : ℕ) (listed : Bool) (bytes : List ℕ) → number_at w32 bytes 0 ≡ spare_signature → slot_at most count listed bytes ≡ slots.Spare (spare_at bytes)
unfolding slot_at
at_spare most count listed bytes h =
    let first = ne_eqb (number_at w32 bytes 0) element_signature (λ e. omega (arith, h, e)) in
    let second = ne_eqb (number_at w32 bytes 0) vendor_signature (λ e. omega (arith, h, e)) in
    let third = eq-eqb (number_at w32 bytes 0) spare_signature h in
    rw (first, second, third) refl

at_unused : (most count : ℕ) (listed : Bool) (bytes : List ℕ) → is_known (number_at w32 bytes 0) ≡ false → slot_at most count listed bytes ≡ slots.Unused bytes
unfolding slot_at
at_unused most count listed bytes h =
    let parts = all_false (eqb (number_at w32 bytes 0) element_signature) (eqb (number_at w32 bytes 0) vendor_signature) (eqb (number_at w32 bytes 0) spare_signature) h in
    rw (parts.0, parts.1, parts.2) refl

sound_element : (signature : ℕ) (geometry : Geometry) (element : ElementValue) (bytes : List ℕ) → IsElementOf signature geometry element bytes → element_fault_at geometry.max_members bytes ≡ None
sound_element signature geometry element bytes is =
    sym (fault_at_is geometry.max_members bytes) ∙ ap (element_fault geometry.max_members) (element_is signature geometry element bytes is) ∙ is.is_element

pub slot_is : (geometry : Geometry) (count : ℕ) (listed : Bool) (slot : RecordSlot) (bytes : List ℕ) → HasRoom geometry → IsSlotOf geometry count listed slot bytes → slot_at geometry.max_members count listed bytes ≡ slot
unfolding IsSlotOf
slot_is geometry count listed (slots.Element element) bytes room is =
    let most = geometry.max_members in
    at_element most count listed bytes (signature_is element_signature bytes (omega arith) is.is_record.is_sealed)
    ∙ ap (element_slot most bytes) (sound_element element_signature geometry element bytes is) ∙ ap (λ (e : ElementValue). slots.Element e) (element_is element_signature geometry element bytes is)
slot_is geometry count listed (slots.Copied element) bytes room is =
    let most = geometry.max_members in
    let none = sound_element vendor_signature geometry element bytes is.0 in
    let copy : is_copy most listed bytes ≡ true = rw (is.1, none) refl in
    let no = is.2 in
    let copied : vendor_slot most count listed bytes ≡ slots.Copied (element_at most bytes) = rw (no, copy) refl in
    at_vendor most count listed bytes (signature_is vendor_signature bytes (omega arith) is.0.is_record.is_sealed) ∙ copied ∙ ap (λ (e : ElementValue). slots.Copied e) (element_is vendor_signature geometry element bytes is.0)
slot_is geometry count listed (slots.Spare spare) bytes room is =
    at_spare geometry.max_members count listed bytes (signature_is spare_signature bytes (omega arith) is.is_record.is_sealed) ∙ ap slots.Spare (spare_is geometry spare bytes is)
slot_is geometry count listed (slots.Notes notes) bytes room is =
    let most = geometry.max_members in
    let yes = notes_are_notes geometry count notes bytes is in
    let noted : vendor_slot most count listed bytes ≡ slots.Notes (notes_at most count bytes) = rw yes refl in
    at_vendor most count listed bytes (signature_is vendor_signature bytes (omega arith) is.is_record.is_sealed) ∙ noted ∙ ap slots.Notes (notes_is geometry count notes bytes room.bits is)
slot_is geometry count listed (slots.Vendor guid rest) bytes room is =
    let most = geometry.max_members in
    let no = is.1 in
    let other = is.2 in
    let parts = vendor_is geometry guid rest bytes is.0 in
    let kept : vendor_slot most count listed bytes ≡ slots.Vendor (bytes_at bytes VENDOR_GUID_AT 24) (vendor_rest bytes) = rw (no, other) refl in
    at_vendor most count listed bytes (signature_is vendor_signature bytes (omega arith) is.0.is_record.is_sealed) ∙ kept
    ∙ ap (λ (g : List ℕ). slots.Vendor g (vendor_rest bytes)) parts.0 ∙ ap (slots.Vendor guid) parts.1
slot_is geometry count listed (slots.Unread fault kept) bytes room is =
    let most = geometry.max_members in
    at_element most count listed bytes (signature_is element_signature bytes (omega arith) is.1.is_sealed) ∙ ap (element_slot most bytes) is.1.has_fault ∙ ap (slots.Unread fault) (sym is.0)
slot_is geometry count listed (slots.Unused kept) bytes room is = at_unused geometry.max_members count listed bytes is.1.unknown ∙ ap slots.Unused (sym is.0)

-- ---- writing

pub slot_again : (geometry : Geometry) (count : ℕ) (listed : Bool) (slot : RecordSlot) (bytes : List ℕ) → HasRoom geometry → IsSlotOf geometry count listed slot bytes → slot_written geometry slot ≡ bytes
unfolding IsSlotOf slot_written
slot_again geometry count listed (slots.Element element) bytes room is = element_again element_signature geometry element bytes room is
slot_again geometry count listed (slots.Copied element) bytes room is = element_again vendor_signature geometry element bytes room is.0
slot_again geometry count listed (slots.Spare spare) bytes room is = spare_again geometry spare bytes (omega (arith, room.whole)) is
slot_again geometry count listed (slots.Notes notes) bytes room is = notes_again geometry count notes bytes is
slot_again geometry count listed (slots.Vendor guid rest) bytes room is = vendor_again geometry guid rest bytes (omega (arith, room.whole)) is.0
slot_again geometry count listed (slots.Unread fault kept) bytes room is = is.0
slot_again geometry count listed (slots.Unused kept) bytes room is = is.0

pub slot_size : (geometry : Geometry) (count : ℕ) (listed : Bool) (slot : RecordSlot) (bytes : List ℕ) → IsSlotOf geometry count listed slot bytes → length bytes ≡ record_size geometry
unfolding IsSlotOf
slot_size geometry count listed (slots.Element element) bytes is = is.size
slot_size geometry count listed (slots.Copied element) bytes is = is.0.size
slot_size geometry count listed (slots.Spare spare) bytes is = is.size
slot_size geometry count listed (slots.Notes notes) bytes is = is.size
slot_size geometry count listed (slots.Vendor guid rest) bytes is = is.0.size
slot_size geometry count listed (slots.Unread fault kept) bytes is = is.1.size
slot_size geometry count listed (slots.Unused kept) bytes is = is.1.size

pub can_be_slot : (geometry : Geometry) (count : ℕ) (listed : Bool) (slot : RecordSlot) (bytes : List ℕ) → HasRoom geometry → IsSlotOf geometry count listed slot bytes → CanBeSlot geometry count listed slot
unfolding IsSlotOf CanBeSlot slot_written
can_be_slot geometry count listed (slots.Element element) bytes room is = can_be_element element_signature geometry element bytes room is
can_be_slot geometry count listed (slots.Copied element) bytes room is =
    (can_be_element vendor_signature geometry element bytes room is.0, is.1)
can_be_slot geometry count listed (slots.Spare spare) bytes room is = can_be_spare geometry spare bytes (omega (arith, room.whole)) is
can_be_slot geometry count listed (slots.Notes notes) bytes room is = can_be_notes geometry count notes bytes is
can_be_slot geometry count listed (slots.Vendor guid rest) bytes room is =
    let long : 512 ≤ record_size geometry = omega (arith, room.whole) in
    let again = vendor_again geometry guid rest bytes long is.0 in
    (can_be_vendor geometry guid rest bytes long is.0, ap (is_notes geometry.max_members count) again ∙ is.1, ap (is_copy geometry.max_members listed) again ∙ is.2)
can_be_slot geometry count listed (slots.Unread fault kept) bytes room is = subst (IsUnread geometry fault) (sym is.0) is.1
can_be_slot geometry count listed (slots.Unused kept) bytes room is = subst (IsUnused geometry) (sym is.0) is.1

pub slot_made : (geometry : Geometry) (count : ℕ) (listed : Bool) (slot : RecordSlot) → HasRoom geometry → 0 < count → CanBeSlot geometry count listed slot → AreBytes (slot_written geometry slot) → IsSlotOf geometry count listed slot (slot_written geometry slot)
unfolding IsSlotOf CanBeSlot slot_written
slot_made geometry count listed (slots.Element element) room some can are = element_written element_signature geometry element room can are
slot_made geometry count listed (slots.Copied element) room some can are =
    let is = element_written vendor_signature geometry element room can.0 are in
    (is, can.1, element_no_notes vendor_signature geometry count element (record_bytes vendor_signature (element_fields geometry.max_members element) element.rest) some is)
slot_made geometry count listed (slots.Spare spare) room some can are = spare_written geometry spare (omega (arith, room.whole)) can are
slot_made geometry count listed (slots.Notes notes) room some can are = notes_written geometry count notes can are
slot_made geometry count listed (slots.Vendor guid rest) room some can are = (vendor_written geometry guid rest (omega (arith, room.whole)) can.0 are, can.1, can.2)
slot_made geometry count listed (slots.Unread fault kept) room some can are = (refl, can)
slot_made geometry count listed (slots.Unused kept) room some can are = (refl, can)

pub slot_length : (geometry : Geometry) (count : ℕ) (listed : Bool) (slot : RecordSlot) → HasRoom geometry → CanBeSlot geometry count listed slot → length (slot_written geometry slot) ≡ record_size geometry
unfolding CanBeSlot slot_written
slot_length geometry count listed (slots.Element element) room can = element_length element_signature geometry element room can
slot_length geometry count listed (slots.Copied element) room can = element_length vendor_signature geometry element room can.0
slot_length geometry count listed (slots.Spare spare) room can = spare_length geometry spare (omega (arith, room.whole)) can
slot_length geometry count listed (slots.Notes notes) room can = notes_length geometry count notes can
slot_length geometry count listed (slots.Vendor guid rest) room can = vendor_length geometry guid rest (omega (arith, room.whole)) can.0
slot_length geometry count listed (slots.Unread fault kept) room can = can.size
slot_length geometry count listed (slots.Unused kept) room can = can.size

-- ---- valid notes

no_notes : (most : ℕ) (bytes : List ℕ) (group : List ℕ) (sequence : ℕ) (o : Option ElementFault) → valid_of group sequence (element_slot most bytes o) ≡ None
no_notes most bytes group sequence None = refl
no_notes most bytes group sequence (Some fault) = refl

notes_cond : (group : List ℕ) (sequence : ℕ) (a b : Bool) (notes : Notes) (element : ElementValue) (guid rest : List ℕ)
    → valid_of group sequence (cond a (slots.Notes notes) (cond b (slots.Copied element) (slots.Vendor guid rest))) ≡ cond a (when (are_valid group sequence notes) notes) None
notes_cond group sequence true b notes element guid rest = refl
notes_cond group sequence false true notes element guid rest = refl
notes_cond group sequence false false notes element guid rest = refl

valid_three : (most count : ℕ) (group : List ℕ) (sequence : ℕ) (listed : Bool) (bytes : List ℕ) (a b c : Bool) → (b ≡ true → a ≡ false)
    → valid_of group sequence (cond a (element_slot most bytes (element_fault_at most bytes)) (cond b (vendor_slot most count listed bytes) (cond c (slots.Spare (spare_at bytes)) (slots.Unused bytes))))
    ≡ cond (b && is_notes most count bytes) (when (are_valid group sequence (notes_at most count bytes)) (notes_at most count bytes)) None
valid_three most count group sequence listed bytes true true c apart = let no = apart refl in absurd cc
valid_three most count group sequence listed bytes true false c apart = no_notes most bytes group sequence (element_fault_at most bytes)
valid_three most count group sequence listed bytes false true c apart = notes_cond group sequence (is_notes most count bytes) (is_copy most listed bytes) (notes_at most count bytes) (element_at most bytes) (bytes_at bytes VENDOR_GUID_AT 24) (vendor_rest bytes)
valid_three most count group sequence listed bytes false false true apart = refl
valid_three most count group sequence listed bytes false false false apart = refl

-- the valid notes of a slot that is read are those of its bytes
pub valid_same : (most count : ℕ) (group : List ℕ) (sequence : ℕ) (listed : Bool) (bytes : List ℕ) → valid_of group sequence (slot_at most count listed bytes) ≡ valid_at most count group sequence bytes
unfolding slot_at valid_at
valid_same most count group sequence listed bytes =
    let signature = number_at w32 bytes 0 in
    valid_three most count group sequence listed bytes (eqb signature element_signature) (eqb signature vendor_signature) (eqb signature spare_signature)
    (λ yes. let is = eqb-true signature vendor_signature yes in ne_eqb signature element_signature (λ e. omega (arith, is, e)))
