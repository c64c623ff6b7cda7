-- The slots of a moved disk can be written.
use Rattle.std.proofs.Common.{◌≡◌, ℕ, zero, suc, ◌*◌, ◌≤◌, Bool, true, false, not, ◌&&◌, ◌||◌, eqb, leb, ltb, List, [], ◌∷◌, length, map, take, replicate, Option, Some, None, inr, refl, sym, ap, ◌∙◌, subst, arith}
use Rattle.std.specs.Prelude.{codes, slice_get}
use Rattle.std.specs.List.{AllByRecursion, list_any, range_with_len}
use Rattle.std.specs.Option.{option_map_or}
use Rattle.std.specs.Int.{w32}
use Rattle.std.specs.Str.{bytes_eq}
use Rattle.std.proofs.lemmas.Bool.{and_parts, eqb-true, le-ltb, leb-true, not-true}
use Rattle.std.proofs.lemmas.List.{length-replicate}
use Rattle.ddf_bytes.specs.Bytes.{bytes_at, number_at}
use Rattle.ddf_bytes.specs.Choices.{first_of, when}
use Rattle.ddf_bytes.proofs.Nones.{none_when}
use Rattle.ddf_seal.specs.Seal.{seal_place}
use Rattle.ddf_seal.specs.Records.{record_bytes}
use Rattle.ddf_seal.specs.declared.unread.Span.{Span}
use Rattle.ddf_seal.specs.Unread.{AreBytes, Fits, places, written}
use Rattle.ddf_seal.proofs.Records.{sealed_outside, written_outside}
use Rattle.ddf_seal.proofs.Same.{AreWithin, IsOutside, IsOutsideAll, bytes_at-same}
use Rattle.ddf_header.specs.declared.geometry.Geometry.{Geometry}
use Rattle.ddf_header.specs.Geometry.{IsSound}
use Rattle.ddf_config_records.specs.declared.fault.ElementFault.{ElementFault}
use Rattle.ddf_config_records.specs.declared.fault.ElementFault.TheVariants as faults
use Rattle.ddf_config_records.specs.declared.notes.Notes.{Notes}
use Rattle.ddf_config_records.specs.declared.slot.RecordSlot.{RecordSlot}
use Rattle.ddf_config_records.specs.declared.slot.RecordSlot.TheVariants as slots
use Rattle.ddf_config_records.specs.declared.spare.SpareRecord.{SpareRecord}
use Rattle.ddf_config_records.specs.declared.layout.TheConstants.{NOTES_NAME_AT, SPARE_ENTRIES_AT}
use Rattle.ddf_config_records.specs.ElementValue.{ElementValue}
use Rattle.ddf_config_records.specs.Building.{spare_entries}
use Rattle.ddf_config_records.specs.Elements.{CanBeElement, element_fault, element_fault_at, element_fields, fault_of, has_no_strip, record_size}
use Rattle.ddf_config_records.specs.NoteRecords.{is_named, is_notes}
use Rattle.ddf_config_records.specs.Slots.{CanBeSlot, CanBeSlots, IsUnread, is_known, lists, slot_written, valid_notes, valid_of}
use Rattle.ddf_config_records.specs.Spares.{CanBeSpare, spare_fields}
use Rattle.ddf_config_records.specs.Vendors.{CanBeVendor, vendor_fields, vendor_signature}
use Rattle.ddf_config_records.proofs.Building.{element_over_can, spare_over_can}
use Rattle.ddf_config_records.proofs.Elements.{element_within}
use Rattle.ddf_config_records.proofs.Sound.{room_from_sound}
use Rattle.ddf_config_records.proofs.Spares.{entries_within}
use Rattle.ddf_moving.specs.Copies.{moved_element, moved_rest, moved_slot, moved_slot_at, moved_slots, moved_spare, slot_if, unused_slot}
use Rattle.ddf_moving.specs.Numbers.{same_records}
use Rattle.ddf_moving.proofs.Rows.{length_filled}

-- ---- the bytes of a record

-- a record has a sector at least
pub long_record : (geometry : Geometry) → IsSound geometry → 512 ≤ record_size geometry
long_record geometry sound = let whole = (room_from_sound geometry sound).whole in omega (arith, whole)

pub length_moved : (size : ℕ) (rest : List ℕ) → length (moved_rest size rest) ≡ size
length_moved size rest = length_filled 255 size (take 512 rest)

-- ---- the name of notes

same_name : (one other : List ℕ) → bytes_at one NOTES_NAME_AT 8 ≡ bytes_at other NOTES_NAME_AT 8 → is_named one ≡ is_named other
unfolding is_named
same_name one other same = ap (λ (name : List ℕ). bytes_eq name (codes "RDDFNOTE")) same

unnamed : (most count : ℕ) (bytes : List ℕ) → is_named bytes ≡ false → is_notes most count bytes ≡ false
unfolding is_notes
unnamed most count bytes none = rw none refl

-- ---- an element

rest_none : {X : Type 0} (o : Option X) (os : List (Option X)) → first_of (o ∷ os) ≡ None → (o ≡ None) × (first_of os ≡ None)
rest_none None os h = (refl, h)
rest_none (Some x) os h = absurd cc

with_none : {X : Type 0} (test : Bool) (x : X) (os : List (Option X)) → test ≡ false → first_of os ≡ None → first_of (when test x ∷ os) ≡ None
with_none test x os off none = rw off none

-- two tests that fail, and another one between them
fewer : (a b c other : Bool) → (a || b || c) ≡ false → other ≡ false → (a || other || c) ≡ false
fewer true b c other h off = absurd cc
fewer false true c other h off = absurd cc
fewer false false c other h off = rw off h

-- what else may be wrong with an element than the number of its members
abbrev others : ElementValue → List (Option ElementFault)
others element =
    when (ltb 31 element.strip && not (has_no_strip element.level element.elements)) (faults.Stripe element.strip)
    ∷ when (eqb element.elements 0 || ltb 16 element.elements || leb element.elements element.index) (faults.Secondary element.elements)
    ∷ when (not (list_any (λ n. eqb element.block_size n) (0 ∷ 512 ∷ 0xFFFF ∷ []))) (faults.Block element.block_size)
    ∷ []

-- An element that has no fault has none in records with room for its members.
still_sound : (most other : ℕ) (element : ElementValue) → element_fault most element ≡ None → length element.members ≤ other → element_fault other element ≡ None
unfolding fault_of
still_sound most other element none few =
    let count = length element.members in
    let parts = rest_none (when (eqb count 0 || ltb most count || ltb 64 count) (faults.Members count)) (others element) none in
    let off = none_when (eqb count 0 || ltb most count || ltb 64 count) (faults.Members count) parts.0 in
    with_none (eqb count 0 || ltb other count || ltb 64 count) (faults.Members count) (others element)
    (fewer (eqb count 0) (ltb most count) (ltb 64 count) (ltb other count) off (le-ltb other count few)) parts.1

module _ (old like : Geometry) (sound : IsSound like) where
  element_can : (element : ElementValue) → CanBeElement old element → length element.members ≤ like.max_members → CanBeElement like (moved_element like element)
  element_can element can few =
      let room = room_from_sound like sound in
      let size = record_size like in
      let rest = moved_rest size element.rest in
      let carrier : ElementValue = record element { rest = rest } in
      let long : length rest ≡ size = length_moved size element.rest in
      let fields = element_fields like.max_members carrier in
      let fit : AllByRecursion Fits fields = can.is_record.fields_fit in
      let within : AreWithin (length rest) (places fields) = (element_within like.max_members carrier (length rest) few (omega (arith, room.whole, long))).1 in
      let same : length (written fields rest) ≡ size = (written_outside fields rest within fit).size ∙ long in
      element_over_can like (written fields rest) element room same fit (still_sound old.max_members like.max_members element can.is_element few)

  spare_can : (spare : SpareRecord) → CanBeSpare old spare → length spare.arrays ≤ spare_entries like → CanBeSpare like (moved_spare like spare)
  spare_can spare can few =
      let size = record_size like in
      let rest = moved_rest size spare.rest in
      let enough = long_record like sound in
      let long : length rest ≡ size = length_moved size spare.rest in
      let fields = spare_fields spare in
      let fit : AllByRecursion Fits fields = can.is_record.fields_fit in
      let within : AreWithin (length rest) (places fields) =
      (omega (arith, long, enough), (omega (arith, long, enough), entries_within SPARE_ENTRIES_AT (length rest) spare.arrays (omega (arith, long, few, enough)))) in
      let same : length (written fields rest) ≡ size = (written_outside fields rest within fit).size ∙ long in
      spare_over_can like (written fields rest) spare sound same few fit

  -- ---- a vendor's record

  -- a record that doesn't have the name of notes is none
  not_notes : (count : ℕ) (guid rest : List ℕ) → CanBeVendor like guid rest → is_named rest ≡ false → is_notes like.max_members count (slot_written like (slots.Vendor guid rest)) ≡ false
  unfolding slot_written
  not_notes count guid rest can none =
      let enough = long_record like sound in
      let long : 512 ≤ length rest = omega (arith, can.size, enough) in
      let fields = vendor_fields guid in
      let within : AreWithin (length rest) (places fields) = (omega (arith, long), tt) in
      let put = written_outside fields rest within can.is_record.fields_fit in
      let size : length (written fields rest) ≡ length rest = put.size in
      let name : Span = record { at = NOTES_NAME_AT; length = 8 } in
      let first = bytes_at-same (IsOutside seal_place) (record_bytes vendor_signature fields rest) (written fields rest) name (omega (arith, size, long)) (λ i low high. inr (omega (arith, low)))
      (sealed_outside vendor_signature (written fields rest) (omega (arith, size, long))) in
      let second = bytes_at-same (IsOutsideAll (places fields)) (written fields rest) rest name (omega (arith, long)) (λ i low high. (inr (omega (arith, low)), tt)) put in
      unnamed like.max_members count (record_bytes vendor_signature fields rest) (same_name (record_bytes vendor_signature fields rest) rest (first ∙ second) ∙ none)

  same_most : same_records old like ≡ true → (old.max_members ≡ like.max_members) × (old.record_length ≡ like.record_length)
  same_most same =
      let parts = and_parts (eqb old.max_members like.max_members) (eqb old.record_length like.record_length) same in
      (eqb-true old.max_members like.max_members parts.0, eqb-true old.record_length like.record_length parts.1)

  vendor_can : (guid rest : List ℕ) → CanBeVendor old guid rest → old.record_length ≡ like.record_length → CanBeVendor like guid rest
  vendor_can guid rest can same = record { size = can.size ∙ ap (λ (n : ℕ). 512 * n) same; is_record = can.is_record }

  unread_can : (fault : ElementFault) (kept : List ℕ) → IsUnread old fault kept → (old.max_members ≡ like.max_members) × (old.record_length ≡ like.record_length) → IsUnread like fault kept
  unread_can fault kept can same = record {
    size = can.size ∙ ap (λ (n : ℕ). 512 * n) same.1;
    are_bytes = can.are_bytes;
    is_sealed = can.is_sealed;
    has_fault = subst (λ (n : ℕ). element_fault_at n kept ≡ Some fault) same.0 can.has_fault;
  }

  -- ---- an unused slot

  bytes_replicate : (count : ℕ) → AreBytes (replicate count 255)
  bytes_replicate zero i = omega arith
  bytes_replicate (suc count) zero = omega arith
  bytes_replicate (suc count) (suc i) = bytes_replicate count i

  ff_unknown : (n : ℕ) → 4 ≤ n → is_known (number_at w32 (replicate n 255) 0) ≡ false
  ff_unknown zero le = absurd (omega (arith, le))
  ff_unknown (suc zero) le = absurd (omega (arith, le))
  ff_unknown (suc (suc zero)) le = absurd (omega (arith, le))
  ff_unknown (suc (suc (suc zero))) le = absurd (omega (arith, le))
  ff_unknown (suc (suc (suc (suc n)))) le = refl

  unused_can : (count : ℕ) (listed : Bool) → CanBeSlot like count listed (unused_slot like)
  unfolding CanBeSlot
  unused_can count listed = record {
    size = length-replicate {A = ℕ} (record_size like) 255;
    are_bytes = bytes_replicate (record_size like);
    unknown = let enough = long_record like sound in ff_unknown (record_size like) (omega (arith, enough));
  }

  -- ---- any slot

  if_can : (count : ℕ) (fits : Bool) (slot : RecordSlot) → (fits ≡ true → CanBeSlot like count false slot) → CanBeSlot like count false (slot_if like fits slot)
  if_can count true slot can = can refl
  if_can count false slot can = unused_can count false

  pub slot_can : (count before : ℕ) (listed : Bool) (slot : RecordSlot) → CanBeSlot old before listed slot → CanBeSlot like count false (moved_slot like (same_records old like) slot)
  unfolding CanBeSlot
  slot_can count before listed (slots.Element element) can =
      if_can count (leb (length element.members) like.max_members) (slots.Element (moved_element like element)) (λ fits. element_can element can (leb-true (length element.members) like.max_members fits))
  slot_can count before listed (slots.Spare spare) can =
      if_can count (leb (length spare.arrays) (spare_entries like)) (slots.Spare (moved_spare like spare)) (λ fits. spare_can spare can (leb-true (length spare.arrays) (spare_entries like) fits))
  slot_can count before listed (slots.Vendor guid rest) can =
      if_can count (same_records old like && not (is_named rest)) (slots.Vendor guid rest) (λ fits.
      let parts = and_parts (same_records old like) (not (is_named rest)) fits in
      let is = vendor_can guid rest can.0 (same_most parts.0).1 in
      (is, not_notes count guid rest is (not-true (is_named rest) parts.1), refl))
  slot_can count before listed (slots.Unread fault kept) can = if_can count (same_records old like) (slots.Unread fault kept) (λ fits. unread_can fault kept can (same_most fits))
  slot_can count before listed (slots.Copied element) can = unused_can count false
  slot_can count before listed (slots.Notes notes) can = unused_can count false
  slot_can count before listed (slots.Unused kept) can = unused_can count false

  -- ---- all slots

  if_none : (group : List ℕ) (sequence : ℕ) (fits : Bool) (slot : RecordSlot) → valid_of group sequence slot ≡ None → valid_of group sequence (slot_if like fits slot) ≡ None
  if_none group sequence true slot none = none
  if_none group sequence false slot none = refl

  no_notes : (group : List ℕ) (sequence : ℕ) (same : Bool) (slot : RecordSlot) → valid_of group sequence (moved_slot like same slot) ≡ None
  no_notes group sequence same (slots.Element element) = if_none group sequence (leb (length element.members) like.max_members) (slots.Element (moved_element like element)) refl
  no_notes group sequence same (slots.Spare spare) = if_none group sequence (leb (length spare.arrays) (spare_entries like)) (slots.Spare (moved_spare like spare)) refl
  no_notes group sequence same (slots.Vendor guid rest) = if_none group sequence (same && not (is_named rest)) (slots.Vendor guid rest) refl
  no_notes group sequence same (slots.Unread fault kept) = if_none group sequence same (slots.Unread fault kept) refl
  no_notes group sequence same (slots.Copied element) = refl
  no_notes group sequence same (slots.Notes notes) = refl
  no_notes group sequence same (slots.Unused kept) = refl

  at_none : (group : List ℕ) (sequence : ℕ) (slot : Option RecordSlot) → valid_of group sequence (option_map_or (moved_slot like (same_records old like)) slot (unused_slot like)) ≡ None
  at_none group sequence None = refl
  at_none group sequence (Some slot) = no_notes group sequence (same_records old like) slot

  none_valid : (group : List ℕ) (sequence : ℕ) (all : List RecordSlot) (places : List ℕ) → valid_notes group sequence (map (moved_slot_at old like all) places) ≡ None
  none_valid group sequence all [] = refl
  none_valid group sequence all (place ∷ places) = rw (at_none group sequence (slice_get all place)) (none_valid group sequence all places)

  map_get : {X : Type 0} (P : X → Type 0) (f : ℕ → X) (places : List ℕ) (i : ℕ) (x : X) → ((place : ℕ) → P (f place)) → slice_get (map f places) i ≡ Some x → P x
  map_get P f [] i x each at = absurd cc
  map_get P f (place ∷ places) zero x each at = let same : f place ≡ x = cc in subst P same (each place)
  map_get P f (place ∷ places) (suc i) x each at = map_get P f places i x each at

  at_can : (count before : ℕ) (slot : Option RecordSlot) → ((one : RecordSlot) → slot ≡ Some one → (listed : Bool) × CanBeSlot old before listed one)
      → CanBeSlot like count false (option_map_or (moved_slot like (same_records old like)) slot (unused_slot like))
  at_can count before None can = unused_can count false
  at_can count before (Some slot) can = let is = can slot refl in slot_can count before is.0 slot is.1

  pub slots_can : (was_group group : List ℕ) (was_sequence sequence count : ℕ) (all : List RecordSlot) → CanBeSlots old was_group was_sequence all → CanBeSlots like group sequence (moved_slots old like count all)
  slots_can was_group group was_sequence sequence count all can =
      let made = moved_slots old like count all in
      record {
        each = λ index slot at.
            let none : lists (valid_notes group sequence made) index ≡ false = ap (λ (notes : Option Notes). lists notes index) (none_valid group sequence all (range_with_len 0 count)) in
            subst (λ (listed : Bool). CanBeSlot like (length made) listed slot) (sym none)
            (map_get (λ (one : RecordSlot). CanBeSlot like (length made) false one) (moved_slot_at old like all) (range_with_len 0 count) index slot
            (λ place. at_can (length made) (length all) (slice_get all place) (λ one is. (lists (valid_notes was_group was_sequence all) place, can.each place one is))) at);
      }
