-- How slots are compared.
use Rattle.std.proofs.Common.{◌≡◌, ◌≢◌, ℕ, zero, suc, ◌+◌, ◌*◌, ◌<◌, ◌≤◌, Bool, true, false, ◌&&◌, List, [], ◌∷◌, length, map, Some, refl, ap, ◌∙◌, sym, arith, append-nil}
use Rattle.std.proofs.lemmas.List.{length-map}
use Rattle.std.proofs.Math.Nat.{mul-le-mul_right}
use Rattle.std.specs.Prelude.{slice_get, slice_index_or}
use Rattle.std.specs.List.{list_all, range_with_len}
use Rattle.std.specs.Str.{bytes_eq}
use Rattle.ddf_bytes.specs.Bytes.{bytes_at}
use Rattle.ddf_header.specs.declared.geometry.Geometry.{Geometry}
use Rattle.ddf_header.proofs.Sound.{sound}
use Rattle.ddf_config_records.specs.declared.slot.RecordSlot.{RecordSlot}
use Rattle.ddf_config_records.specs.declared.slot.RecordSlot.TheVariants as slots
use Rattle.ddf_config_records.specs.Elements.{HasRoom, record_size}
use Rattle.ddf_config_records.specs.Slots.{slot_written, slots_written}
use Rattle.ddf_config_records.proofs.Sound.{room_from_sound}
use Rattle.ddf_config_records.proofs.Written.{have_size, length-written, slot_of_written}
use Rattle.ddf_copy.specs.declared.copy.DiskCopy.{DiskCopy}
use Rattle.ddf_copy.specs.declared.reading.Whole.{Whole}
use Rattle.ddf_copy.specs.Sections.{bytes_in}
use Rattle.ddf_copy.specs.Whole.{IsWhole}
use Rattle.ddf_copy.specs.Written.{CanBeCopy, are_same, records_written, slot_counted, slot_counted_at}

-- ---- item by item

all_same : (xs ys : List (List ℕ)) (f g : ℕ → List ℕ) (k : ℕ) → length xs ≡ length ys
    → ((i : ℕ) → i < length xs → f (k + i) ≡ slice_index_or xs i []) → ((i : ℕ) → i < length ys → g (k + i) ≡ slice_index_or ys i [])
    → list_all (λ i. bytes_eq (f i) (g i)) (range_with_len k (length xs)) ≡ are_same xs ys
all_same [] [] f g k same one other = refl
all_same [] (y ∷ ys) f g k same one other = cc
all_same (x ∷ xs) [] f g k same one other = cc
all_same (x ∷ xs) (y ∷ ys) f g k same one other =
    let start : k + 0 ≡ k = omega arith in
    let next = λ (i : ℕ). let at : k + 1 + i ≡ k + suc i = omega arith in at in
    let x_is : f k ≡ x = ap f (sym start) ∙ one 0 (omega arith) in
    let y_is : g k ≡ y = ap g (sym start) ∙ other 0 (omega arith) in
    let rest = all_same xs ys f g (k + 1) (omega arith) (λ i lt. ap f (next i) ∙ one (suc i) (omega arith)) (λ i lt. ap g (next i) ∙ other (suc i) (omega arith)) in
    rw (x_is, y_is, rest) refl

not_same : (xs ys : List (List ℕ)) → length xs ≢ length ys → are_same xs ys ≡ false
not_same [] [] differ = absurd (differ refl)
not_same [] (y ∷ ys) differ = refl
not_same (x ∷ xs) [] differ = refl
not_same (x ∷ xs) (y ∷ ys) differ =
    let rest : are_same xs ys ≡ false = not_same xs ys (λ e. differ (ap suc e)) in
    rw rest (no (bytes_eq x y))
  where
    no : (b : Bool) → (b && false) ≡ false
    no true = refl
    no false = refl

get_map : (f : RecordSlot → List ℕ) (slots : List RecordSlot) (i : ℕ) (slot : RecordSlot) → slice_get slots i ≡ Some slot → slice_index_or (map f slots) i [] ≡ f slot
get_map f [] i slot at = absurd cc
get_map f (first ∷ slots) zero slot at = let same : first ≡ slot = cc in ap f same
get_map f (first ∷ slots) (suc i) slot at = get_map f slots i slot at

pub counted_is : (copy : DiskCopy) (i : ℕ) (slot : RecordSlot) → slice_get copy.slots i ≡ Some slot → slot_counted_at copy i ≡ slot_counted copy.header.geometry slot
counted_is copy i slot at = get_map (slot_counted copy.header.geometry) copy.slots i slot at

-- a slot that isn't unused counts by all its bytes
pub used_counted : (geometry : Geometry) (slot : RecordSlot) → ((kept : List ℕ) → slot ≢ slots.Unused kept) → slot_counted geometry slot ≡ slot_written geometry slot
unfolding slot_counted
used_counted geometry (slots.Element element) used = refl
used_counted geometry (slots.Copied element) used = refl
used_counted geometry (slots.Spare spare) used = refl
used_counted geometry (slots.Notes notes) used = refl
used_counted geometry (slots.Vendor guid rest) used = refl
used_counted geometry (slots.Unread fault kept) used = refl
used_counted geometry (slots.Unused kept) used = absurd (used kept refl)

pub unused_counted : (geometry : Geometry) (slot : RecordSlot) (kept : List ℕ) → slot ≡ slots.Unused kept → slot_counted geometry slot ≡ []
unfolding slot_counted
unused_counted geometry slot kept is = rw is refl

-- all slots, where there are as many
pub slots_same : (one other : DiskCopy) (count : ℕ) → count ≡ length one.slots → count ≡ length other.slots
    → list_all (λ i. bytes_eq (slot_counted_at one i) (slot_counted_at other i)) (range_with_len 0 count)
    ≡ are_same (map (slot_counted one.header.geometry) one.slots) (map (slot_counted other.header.geometry) other.slots)
slots_same one other count is also =
    let xs = map (slot_counted one.header.geometry) one.slots in
    let ys = map (slot_counted other.header.geometry) other.slots in
    let xs_long : length xs ≡ count = length-map one.slots (slot_counted one.header.geometry) ∙ sym is in
    let ys_long : length ys ≡ count = length-map other.slots (slot_counted other.header.geometry) ∙ sym also in
    let at = λ (i : ℕ). let here : 0 + i ≡ i = omega arith in here in
    ap (λ (n : ℕ). list_all (λ i. bytes_eq (slot_counted_at one i) (slot_counted_at other i)) (range_with_len 0 n)) (sym xs_long)
    ∙ all_same xs ys (slot_counted_at one) (slot_counted_at other) 0 (xs_long ∙ sym ys_long) (λ i lt. ap (slot_counted_at one) (at i)) (λ i lt. ap (slot_counted_at other) (at i))

pub slots_differ : (one other : DiskCopy) → length one.slots ≢ length other.slots
    → are_same (map (slot_counted one.header.geometry) one.slots) (map (slot_counted other.header.geometry) other.slots) ≡ false
slots_differ one other differ =
    not_same (map (slot_counted one.header.geometry) one.slots) (map (slot_counted other.header.geometry) other.slots)
    (λ e. differ (sym (length-map one.slots (slot_counted one.header.geometry)) ∙ e ∙ length-map other.slots (slot_counted other.header.geometry)))

-- ---- the bytes of a slot

pub room_of : (copy : DiskCopy) → CanBeCopy copy → HasRoom copy.header.geometry
room_of copy is = room_from_sound copy.header.geometry (sound copy.header.geometry is.header_can.is_header.has_geometry)

records_are : (whole : Whole) → IsWhole whole → slots_written whole.copy.header.geometry whole.copy.slots ≡ bytes_in whole.raw.records
unfolding records_written
records_are whole is = ap (λ (sections : List (List ℕ)). slice_index_or sections 3 []) is.is_written

-- all whole slots have as many bytes
pub slots_length : (whole : Whole) → IsWhole whole → length (bytes_in whole.raw.records) ≡ length whole.copy.slots * record_size whole.copy.header.geometry
slots_length whole is =
    let copy = whole.copy in
    let geometry = copy.header.geometry in
    ap length (sym (records_are whole is))
    ∙ length-written geometry copy.slots (have_size geometry copy.header.guid copy.header.sequence copy.slots (room_of copy is.is_copy) is.is_copy.slots_can)

-- a slot ends within them
pub slot_within : (index count size total : ℕ) → index < count → total ≡ count * size → index * size + size ≤ total
slot_within index count size total lt is =
    let more : (index + 1) * size ≤ count * size = mul-le-mul_right size (omega arith) in
    omega (arith, more, is)

pub slot_stands : (whole : Whole) → IsWhole whole → (index : ℕ) (slot : RecordSlot) → slice_get whole.copy.slots index ≡ Some slot
    → bytes_at (bytes_in whole.raw.records) (index * record_size whole.copy.header.geometry) (record_size whole.copy.header.geometry) ≡ slot_written whole.copy.header.geometry slot
slot_stands whole is index slot at =
    let copy = whole.copy in
    let geometry = copy.header.geometry in
    let size = record_size geometry in
    let have = have_size geometry copy.header.guid copy.header.sequence copy.slots (room_of copy is.is_copy) is.is_copy.slots_can in
    ap (λ (bytes : List ℕ). bytes_at bytes (index * size) size) (sym (append-nil (slots_written geometry copy.slots) ∙ records_are whole is))
    ∙ slot_of_written geometry copy.slots [] have index slot at
