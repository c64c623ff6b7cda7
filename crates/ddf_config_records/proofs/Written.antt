-- Slots that are written one after another.
use Rattle.std.proofs.Common.{◌≡◌, ℕ, zero, suc, ◌+◌, ◌*◌, ◌<◌, List, [], ◌∷◌, ◌++◌, length, take, drop, get_or, Some, refl, sym, ◌∙◌, ap, subst, arith, take-add}
use Rattle.std.specs.Prelude.{slice_get}
use Rattle.std.proofs.lemmas.List.{length-append, append_assoc, append-nil, drop-drop, take_at, drop_at, take_more}
use Rattle.std.proofs.lemmas.List.Concat.{flat_map-append}
use Rattle.std.proofs.lemmas.Option.{slice_get_within}
use Rattle.ddf_bytes.specs.Bytes.{bytes_at}
use Rattle.ddf_seal.specs.Unread.{AreBytes}
use Rattle.ddf_seal.proofs.Spelled.{AreBytes-bytes_at}
use Rattle.ddf_header.specs.declared.geometry.Geometry.{Geometry}
use Rattle.ddf_config_records.specs.declared.slot.RecordSlot.{RecordSlot}
use Rattle.ddf_config_records.specs.Elements.{record_size, HasRoom}
use Rattle.ddf_config_records.specs.Slots.{slot_count, slot_bytes, valid_notes, lists, IsSlotOf, slot_written, AreSlotsOf, CanBeSlots, slots_written}
use Rattle.ddf_config_records.proofs.SlotValues.{slot_again, slot_length, slot_made}
use Rattle.ddf_config_records.proofs.Sections.{slot_within}

-- each slot is written as so many bytes
abbrev pub HaveSize : Geometry → List RecordSlot → Type 0
HaveSize geometry all = (i : ℕ) (slot : RecordSlot) → slice_get all i ≡ Some slot → length (slot_written geometry slot) ≡ record_size geometry

pub length-written : (geometry : Geometry) (all : List RecordSlot) → HaveSize geometry all → length (slots_written geometry all) ≡ length all * record_size geometry
length-written geometry [] have = omega arith
length-written geometry (slot ∷ all) have =
    let one = have 0 slot refl in
    let rest = length-written geometry all (λ i s at. have (suc i) s at) in
    let both = length-append (slot_written geometry slot) (slots_written geometry all) in
    omega (arith, one, rest, both)

-- the bytes of each slot
pub slot_of_written : (geometry : Geometry) (all : List RecordSlot) (tail : List ℕ) → HaveSize geometry all → (i : ℕ) (slot : RecordSlot) → slice_get all i ≡ Some slot
    → bytes_at (slots_written geometry all ++ tail) (i * record_size geometry) (record_size geometry) ≡ slot_written geometry slot
slot_of_written geometry [] tail have i slot at = absurd cc
slot_of_written geometry (first ∷ all) tail have zero slot at =
    let size = record_size geometry in
    let one = have 0 first refl in
    let start : 0 * size ≡ 0 = omega arith in
    let same : first ≡ slot = cc in
    let apart = append_assoc (slot_written geometry first) (slots_written geometry all) tail in
    ap (λ (n : ℕ). take size (drop n ((slot_written geometry first ++ slots_written geometry all) ++ tail))) start ∙ ap (take size) apart
    ∙ take_at (slot_written geometry first) (slots_written geometry all ++ tail) size one ∙ ap (slot_written geometry) same
slot_of_written geometry (first ∷ all) tail have (suc i) slot at =
    let size = record_size geometry in
    let one = have 0 first refl in
    let there : suc i * size ≡ size + i * size = omega arith in
    let apart = append_assoc (slot_written geometry first) (slots_written geometry all) tail in
    ap (λ (n : ℕ). take size (drop n ((slot_written geometry first ++ slots_written geometry all) ++ tail))) there
    ∙ ap (λ (l : List ℕ). take size (drop (size + i * size) l)) apart
    ∙ ap (take size) (sym (drop-drop (i * size) size (slot_written geometry first ++ (slots_written geometry all ++ tail))) ∙ ap (drop (i * size)) (drop_at (slot_written geometry first) (slots_written geometry all ++ tail) size one))
    ∙ slot_of_written geometry all tail (λ j s k. have (suc j) s k) i slot at

-- ---- the bytes that slots were read from

abbrev none : List ℕ
none = []

same_from : (geometry : Geometry) (section : List ℕ) (k : ℕ) (all : List RecordSlot) → ((i : ℕ) (slot : RecordSlot) → slice_get all i ≡ Some slot → slot_written geometry slot ≡ slot_bytes geometry section (k + i))
    → slots_written geometry all ≡ bytes_at section (k * record_size geometry) (length all * record_size geometry)
same_from geometry section k [] each =
    let none : 0 * record_size geometry ≡ 0 = omega arith in
    ap (λ (n : ℕ). take n (drop (k * record_size geometry) section)) (sym none)
same_from geometry section k (slot ∷ all) each =
    let size = record_size geometry in
    let here : k + 0 ≡ k = omega arith in
    let first : slot_written geometry slot ≡ slot_bytes geometry section k = each 0 slot refl ∙ ap (slot_bytes geometry section) here in
    let rest = same_from geometry section (k + 1) all (λ i s at. let there : k + suc i ≡ k + 1 + i = omega arith in each (suc i) s at ∙ ap (slot_bytes geometry section) there) in
    let next : (k + 1) * size ≡ k * size + size = omega arith in
    let more : suc (length all) * size ≡ size + length all * size = omega arith in
    ap (λ (l : List ℕ). l ++ slots_written geometry all) first ∙ ap (λ (l : List ℕ). slot_bytes geometry section k ++ l) rest
    ∙ ap (λ (n : ℕ). slot_bytes geometry section k ++ take (length all * size) (drop n section)) next
    ∙ ap (λ (l : List ℕ). slot_bytes geometry section k ++ take (length all * size) l) (sym (drop-drop size (k * size) section))
    ∙ sym (take-add size (length all * size) (drop (k * size) section)) ∙ ap (λ (n : ℕ). take n (drop (k * size) section)) (sym more)

-- Slots are written as the bytes that they are the value of.
pub written_again : (geometry : Geometry) (group : List ℕ) (sequence : ℕ) (all : List RecordSlot) (section : List ℕ) → HasRoom geometry → AreSlotsOf geometry group sequence all section
    → slots_written geometry all ≡ take (length all * record_size geometry) section
written_again geometry group sequence all section room are =
    let start : 0 * record_size geometry ≡ 0 = omega arith in
    same_from geometry section 0 all (λ i slot at.
    let here : i ≡ 0 + i = omega arith in
    slot_again geometry (length all) (lists (valid_notes group sequence all) i) slot (slot_bytes geometry section i) room (are.each i slot at) ∙ ap (slot_bytes geometry section) here)
    ∙ ap (λ (n : ℕ). bytes_at section n (length all * record_size geometry)) start

-- ---- the bytes that slots are written as

pub have_size : (geometry : Geometry) (group : List ℕ) (sequence : ℕ) (all : List RecordSlot) → HasRoom geometry → CanBeSlots geometry group sequence all → HaveSize geometry all
have_size geometry group sequence all room can = λ i slot at. slot_length geometry (length all) (lists (valid_notes group sequence all) i) slot room (can.each i slot at)

-- Slots that can be written are the value of what they are written as.
pub written_are : (geometry : Geometry) (group : List ℕ) (sequence : ℕ) (all : List RecordSlot) (section tail : List ℕ) → HasRoom geometry → CanBeSlots geometry group sequence all → section ≡ slots_written geometry all ++ tail
    → length all ≡ slot_count geometry section → AreBytes section → AreSlotsOf geometry group sequence all section
written_are geometry group sequence all section tail room can same counted are =
    let size = record_size geometry in
    let have = have_size geometry group sequence all room can in
    record {
      counted = counted;
      each = λ i slot at.
          let lt : i < slot_count geometry section = subst (λ (n : ℕ). i < n) counted (slice_get_within all i slot at) in
          let bytes : slot_bytes geometry section i ≡ slot_written geometry slot = ap (λ (l : List ℕ). slot_bytes geometry l i) same ∙ slot_of_written geometry all tail have i slot at in
          let each = AreBytes-bytes_at section (i * size) size (slot_within geometry section i lt) are in
          let is = slot_made geometry (length all) (lists (valid_notes group sequence all) i) slot room (omega (arith, slice_get_within all i slot at)) (can.each i slot at) (subst AreBytes bytes each) in
          subst (λ (l : List ℕ). IsSlotOf geometry (length all) (lists (valid_notes group sequence all) i) slot l) (sym bytes) is;
    }

-- ---- one more slot

pub written_slot_more : (geometry : Geometry) (all : List RecordSlot) (i : ℕ) (d : RecordSlot) → i < length all → slots_written geometry (take i all) ++ slot_written geometry (get_or all i d) ≡ slots_written geometry (take (i + 1) all)
written_slot_more geometry all i d lt =
    ap (λ (l : List ℕ). slots_written geometry (take i all) ++ l) (sym (append-nil (slot_written geometry (get_or all i d))))
    ∙ sym (flat_map-append (slot_written geometry) (take i all) (get_or all i d ∷ [])) ∙ ap (slots_written geometry) (sym (take_more all i d lt))
