-- Level copies have one view.
use Rattle.std.proofs.Common.{◌≡◌, ℕ, zero, suc, ◌+◌, Bool, true, false, List, [], ◌∷◌, length, map, Option, Some, None, refl, ap, sym, ◌∙◌, subst, arith, ◌⊎◌, ⊎_elim, inl, inr, drop}
use Rattle.std.proofs.lemmas.Bool.{false≢true}
use Rattle.std.specs.Prelude.{slice_get, slice_index_or, filter_map, is_some, option_map, Result, Ok}
use Rattle.std.specs.Option.{option_or}
use Rattle.std.specs.List.{cons_option}
use Rattle.ddf_bytes.specs.Choices.{first_of}
use Rattle.ddf_header.specs.declared.geometry.Geometry.{Geometry}
use Rattle.ddf_tables.specs.declared.disks.DiskRow.{DiskRow}
use Rattle.ddf_tables.specs.declared.arrays.ArrayRow.{ArrayRow}
use Rattle.ddf_tables.specs.Tables.{TableValue}
use Rattle.ddf_tables.specs.declared.disk_data.DiskData.{DiskData}
use Rattle.ddf_tables.specs.Disks.{decoded_disks}
use Rattle.ddf_tables.specs.Arrays.{decoded_arrays}
use Rattle.ddf_tables.specs.Sectors.{decoded_disk_data}
use Rattle.ddf_config_records.specs.ElementValue.{ElementValue}
use Rattle.ddf_config_records.specs.declared.notes.Notes.{Notes}
use Rattle.ddf_config_records.specs.declared.spare.SpareRecord.{SpareRecord}
use Rattle.ddf_config_records.specs.declared.slot.RecordSlot.{RecordSlot}
use Rattle.ddf_config_records.specs.declared.slot.RecordSlot.TheVariants as slots
use Rattle.ddf_config_records.specs.Elements.{HasRoom}
use Rattle.ddf_config_records.specs.Slots.{IsSlotOf, slot_at, slot_written, valid_of, valid_at, valid_notes, lists}
use Rattle.ddf_config_records.proofs.SlotValues.{slot_is, slot_size, valid_same}
use Rattle.ddf_copy.specs.declared.copy.DiskCopy.{DiskCopy}
use Rattle.ddf_copy.specs.Shows.{IsSame}
use Rattle.ddf_copy.specs.Written.{counted, slot_counted, disks_written, arrays_written, disk_data_written}
use Rattle.ddf_copy.proofs.LevelCopies.{level_from}
use Rattle.ddf_view.specs.View.{View, HeldRecord, view_of, disk_of, array_of, element_of, spare_of, held_of, held_from, first_spare, note_at, notes_of}
use Rattle.ddf_view.specs.Readings.{IsAsRead}

-- ---- lists of which each item is counted alike

same_length : {X Y : Type 0} (f : X → Y) (xs ys : List X) → map f xs ≡ map f ys → length xs ≡ length ys
same_length f [] [] h = refl
same_length f [] (y ∷ ys) h = absurd cc
same_length f (x ∷ xs) [] h = absurd cc
same_length f (x ∷ xs) (y ∷ ys) h = let rest : map f xs ≡ map f ys = cc in let same = same_length f xs ys rest in ap suc same

same_each : {X Y : Type 0} (f : X → Y) (xs ys : List X) → map f xs ≡ map f ys → (i : ℕ) (x y : X) → slice_get xs i ≡ Some x → slice_get ys i ≡ Some y → f x ≡ f y
same_each f [] ys h i x y at there = absurd cc
same_each f (a ∷ xs) [] h i x y at there = absurd cc
same_each f (a ∷ xs) (b ∷ ys) h zero x y at there =
    let one : a ≡ x = cc in
    let two : b ≡ y = cc in
    let first : f a ≡ f b = cc in
    sym (ap f one) ∙ first ∙ ap f two
same_each f (a ∷ xs) (b ∷ ys) h (suc i) x y at there = let rest : map f xs ≡ map f ys = cc in same_each f xs ys rest i x y at there

-- two lists of slots that are alike by what is taken of each
Alike : {Y : Type 0} → (RecordSlot → Y) → List RecordSlot → List RecordSlot → Type 0
Alike f xs ys = (length xs ≡ length ys) × ((i : ℕ) (x y : RecordSlot) → slice_get xs i ≡ Some x → slice_get ys i ≡ Some y → f x ≡ f y)

tail_alike : {Y : Type 0} (f : RecordSlot → Y) (x y : RecordSlot) (xs ys : List RecordSlot) → Alike f (x ∷ xs) (y ∷ ys) → Alike f xs ys
unfolding Alike
tail_alike f x y xs ys h = (let l = h.0 in omega (arith, l), λ i a b at there. h.1 (suc i) a b at there)

head_alike : {Y : Type 0} (f : RecordSlot → Y) (x y : RecordSlot) (xs ys : List RecordSlot) → Alike f (x ∷ xs) (y ∷ ys) → f x ≡ f y
unfolding Alike
head_alike f x y xs ys h = h.1 0 x y refl refl

not_longer : {Y : Type 0} (f : RecordSlot → Y) (y : RecordSlot) (ys : List RecordSlot) → Alike f [] (y ∷ ys) → ⊥
unfolding Alike
not_longer f y ys h = let l = h.0 in absurd (omega (arith, l))

not_shorter : {Y : Type 0} (f : RecordSlot → Y) (x : RecordSlot) (xs : List RecordSlot) → Alike f (x ∷ xs) [] → ⊥
unfolding Alike
not_shorter f x xs h = let l = h.0 in absurd (omega (arith, l))

first_alike : {Y : Type 0} (f : RecordSlot → Option Y) (xs ys : List RecordSlot) → Alike f xs ys → first_of (map f xs) ≡ first_of (map f ys)
first_alike f [] [] h = refl
first_alike f [] (y ∷ ys) h = absurd (not_longer f y ys h)
first_alike f (x ∷ xs) [] h = absurd (not_shorter f x xs h)
first_alike f (x ∷ xs) (y ∷ ys) h =
    let rest = first_alike f xs ys (tail_alike f x y xs ys h) in
    ap (λ o. option_or o (first_of (map f xs))) (head_alike f x y xs ys h) ∙ ap (λ o. option_or (f y) o) rest

held_alike : (notes : Option Notes) (n : ℕ) (xs ys : List RecordSlot) → Alike element_of xs ys → held_from notes n xs ≡ held_from notes n ys
held_alike notes n [] [] h = refl
held_alike notes n [] (y ∷ ys) h = absurd (not_longer element_of y ys h)
held_alike notes n (x ∷ xs) [] h = absurd (not_shorter element_of x xs h)
held_alike notes n (x ∷ xs) (y ∷ ys) h =
    let rest = held_alike notes (n + 1) xs ys (tail_alike element_of x y xs ys h) in
    ap (λ o. cons_option (option_map (λ (element : ElementValue). record { element = element; note = note_at notes n }) o) (held_from notes (n + 1) xs)) (head_alike element_of x y xs ys h)
    ∙ ap (λ list. cons_option (held_of notes n y) list) rest

spare_alike : (xs ys : List RecordSlot) → Alike spare_of xs ys → first_spare xs ≡ first_spare ys
spare_alike [] [] h = refl
spare_alike [] (y ∷ ys) h = absurd (not_longer spare_of y ys h)
spare_alike (x ∷ xs) [] h = absurd (not_shorter spare_of x xs h)
spare_alike (x ∷ xs) (y ∷ ys) h =
    let first = head_alike spare_of x y xs ys h in
    let rest = spare_alike xs ys (tail_alike spare_of x y xs ys h) in
    rw (first, rest) refl

-- ---- a slot by what is counted of it

is_blank : RecordSlot → Bool
is_blank (slots.Unused kept) = true
is_blank slot = false

blank_counted : (geometry : Geometry) (slot : RecordSlot) → is_blank slot ≡ true → slot_counted geometry slot ≡ []
unfolding slot_counted is_blank
blank_counted geometry (slots.Unused kept) h = refl
blank_counted geometry (slots.Element element) h = absurd (false≢true h)
blank_counted geometry (slots.Copied element) h = absurd (false≢true h)
blank_counted geometry (slots.Spare spare) h = absurd (false≢true h)
blank_counted geometry (slots.Notes notes) h = absurd (false≢true h)
blank_counted geometry (slots.Vendor guid rest) h = absurd (false≢true h)
blank_counted geometry (slots.Unread fault kept) h = absurd (false≢true h)

used_counted : (geometry : Geometry) (slot : RecordSlot) → is_blank slot ≡ false → slot_counted geometry slot ≡ slot_written geometry slot
unfolding slot_counted is_blank
used_counted geometry (slots.Unused kept) h = absurd (false≢true (sym h))
used_counted geometry (slots.Element element) h = refl
used_counted geometry (slots.Copied element) h = refl
used_counted geometry (slots.Spare spare) h = refl
used_counted geometry (slots.Notes notes) h = refl
used_counted geometry (slots.Vendor guid rest) h = refl
used_counted geometry (slots.Unread fault kept) h = refl

blank_says : (group : List ℕ) (sequence : ℕ) (slot : RecordSlot) → is_blank slot ≡ true → (valid_of group sequence slot ≡ None) × (element_of slot ≡ None) × (spare_of slot ≡ None)
unfolding is_blank
blank_says group sequence (slots.Unused kept) h = (refl, refl, refl)
blank_says group sequence (slots.Element element) h = absurd (false≢true h)
blank_says group sequence (slots.Copied element) h = absurd (false≢true h)
blank_says group sequence (slots.Spare spare) h = absurd (false≢true h)
blank_says group sequence (slots.Notes notes) h = absurd (false≢true h)
blank_says group sequence (slots.Vendor guid rest) h = absurd (false≢true h)
blank_says group sequence (slots.Unread fault kept) h = absurd (false≢true h)

not_empty : (geometry : Geometry) (count : ℕ) (listed : Bool) (slot : RecordSlot) → HasRoom geometry → IsSlotOf geometry count listed slot (slot_written geometry slot) → slot_written geometry slot ≡ [] → ⊥
not_empty geometry count listed slot room is empty =
    let size = slot_size geometry count listed slot (slot_written geometry slot) is in
    let none : length (slot_written geometry slot) ≡ 0 = ap (λ (bytes : List ℕ). length bytes) empty in
    let whole = room.whole in
    absurd (omega (arith, size, none, whole))

-- slots that count alike are both unused, or are written alike
both_or_same : (geometry : Geometry) (count : ℕ) (a_listed b_listed : Bool) (a b : RecordSlot) → HasRoom geometry → IsSlotOf geometry count a_listed a (slot_written geometry a) → IsSlotOf geometry count b_listed b (slot_written geometry b)
    → slot_counted geometry a ≡ slot_counted geometry b → ((is_blank a ≡ true) × (is_blank b ≡ true)) ⊎ (slot_written geometry a ≡ slot_written geometry b)
both_or_same geometry count a_listed b_listed a b room first second same = go (is_blank a) refl (is_blank b) refl
  where
    go : (p : Bool) → is_blank a ≡ p → (q : Bool) → is_blank b ≡ q → ((is_blank a ≡ true) × (is_blank b ≡ true)) ⊎ (slot_written geometry a ≡ slot_written geometry b)
    go true e true f = inl (e, f)
    go true e false f = absurd (not_empty geometry count b_listed b room second (sym (used_counted geometry b f) ∙ sym same ∙ blank_counted geometry a e))
    go false e true f = absurd (not_empty geometry count a_listed a room first (sym (used_counted geometry a e) ∙ same ∙ blank_counted geometry b f))
    go false e false f = inr (sym (used_counted geometry a e) ∙ same ∙ used_counted geometry b f)

valid_alike : (geometry : Geometry) (count : ℕ) (group : List ℕ) (sequence : ℕ) (a_listed b_listed : Bool) (a b : RecordSlot) → HasRoom geometry → IsSlotOf geometry count a_listed a (slot_written geometry a) → IsSlotOf geometry count b_listed b (slot_written geometry b)
    → slot_counted geometry a ≡ slot_counted geometry b → valid_of group sequence a ≡ valid_of group sequence b
valid_alike geometry count group sequence a_listed b_listed a b room first second same =
    ⊎_elim (λ (blank : (is_blank a ≡ true) × (is_blank b ≡ true)). (blank_says group sequence a blank.0).0 ∙ sym (blank_says group sequence b blank.1).0)
    (λ (written : slot_written geometry a ≡ slot_written geometry b).
    let most = geometry.max_members in
    let a_is = slot_is geometry count a_listed a (slot_written geometry a) room first in
    let b_is = slot_is geometry count b_listed b (slot_written geometry b) room second in
    sym (ap (valid_of group sequence) a_is) ∙ valid_same most count group sequence a_listed (slot_written geometry a)
    ∙ ap (valid_at most count group sequence) written ∙ sym (valid_same most count group sequence b_listed (slot_written geometry b)) ∙ ap (valid_of group sequence) b_is)
    (both_or_same geometry count a_listed b_listed a b room first second same)

says_alike : {Y : Type 0} (f : RecordSlot → Option Y) → ((slot : RecordSlot) → is_blank slot ≡ true → f slot ≡ None) → (geometry : Geometry) (count : ℕ) (listed : Bool) (a b : RecordSlot) → HasRoom geometry
    → IsSlotOf geometry count listed a (slot_written geometry a) → IsSlotOf geometry count listed b (slot_written geometry b) → slot_counted geometry a ≡ slot_counted geometry b → f a ≡ f b
says_alike f none geometry count listed a b room first second same =
    ⊎_elim (λ (blank : (is_blank a ≡ true) × (is_blank b ≡ true)). none a blank.0 ∙ sym (none b blank.1))
    (λ (written : slot_written geometry a ≡ slot_written geometry b).
    let most = geometry.max_members in
    let a_is = slot_is geometry count listed a (slot_written geometry a) room first in
    let b_is = slot_is geometry count listed b (slot_written geometry b) room second in
    ap f (sym a_is ∙ ap (slot_at most count listed) written ∙ b_is))
    (both_or_same geometry count listed listed a b room first second same)

-- ---- the views

ok_same : {T E : Type 0} (a b : T) (r : Result T E) → r ≡ Ok a → r ≡ Ok b → a ≡ b
ok_same {T = T} {E = E} a b r h k = let one : Result T E = Ok a in let got : one ≡ Ok b = sym h ∙ k in cc

make_view : (group : List ℕ) (sequence : ℕ) (data_ : DiskData) (disks : TableValue DiskRow) (arrays : TableValue ArrayRow) (elements : List HeldRecord) (notes : Option Notes) (spare : Option SpareRecord) → View
make_view group sequence data_ disks arrays elements notes spare = record {
  group = group;
  sequence = sequence;
  guid = data_.guid;
  reference = data_.reference;
  disks = filter_map disk_of disks.rows;
  arrays = filter_map array_of arrays.rows;
  elements = elements;
  noted = is_some notes;
  spare = option_map (λ one. one.arrays) spare;
}

pub level_views : (one other : DiskCopy) → IsAsRead one → IsAsRead other → one.header.geometry ≡ other.header.geometry → IsSame one other → view_of one ≡ view_of other
unfolding view_of make_view counted Alike
level_views one other read also geometry same =
    let level = level_from one other same.are_level in
    let group = same.same_group in
    let sequence = level.0 in
    let parts = level.1 in
    let room = also.room in
    let disks_bytes : disks_written one.disks ≡ disks_written other.disks = ap (λ (list : List (List ℕ)). slice_index_or list 1 []) parts in
    let arrays_bytes : arrays_written one.arrays ≡ arrays_written other.arrays = ap (λ (list : List (List ℕ)). slice_index_or list 2 []) parts in
    let data_bytes : disk_data_written one.disk_data ≡ disk_data_written other.disk_data = ap (λ (list : List (List ℕ)). slice_index_or list 3 []) parts in
    let one_disks : decoded_disks other.header.geometry.max_disks (disks_written other.disks) ≡ Ok one.disks = sym (ap (λ (g : Geometry). decoded_disks g.max_disks (disks_written one.disks)) geometry ∙ ap (decoded_disks other.header.geometry.max_disks) disks_bytes) ∙ read.disks in
    let disks = ok_same one.disks other.disks (decoded_disks other.header.geometry.max_disks (disks_written other.disks)) one_disks also.disks in
    let one_arrays : decoded_arrays other.header.geometry.max_arrays (arrays_written other.arrays) ≡ Ok one.arrays = sym (ap (λ (g : Geometry). decoded_arrays g.max_arrays (arrays_written one.arrays)) geometry ∙ ap (decoded_arrays other.header.geometry.max_arrays) arrays_bytes) ∙ read.arrays in
    let arrays = ok_same one.arrays other.arrays (decoded_arrays other.header.geometry.max_arrays (arrays_written other.arrays)) one_arrays also.arrays in
    let one_data : decoded_disk_data (disk_data_written other.disk_data) ≡ Ok one.disk_data = sym (ap decoded_disk_data data_bytes) ∙ read.disk_data in
    let data_ = ok_same one.disk_data other.disk_data (decoded_disk_data (disk_data_written other.disk_data)) one_data also.disk_data in
    let slots_bytes : map (slot_counted other.header.geometry) one.slots ≡ map (slot_counted other.header.geometry) other.slots =
    sym (ap (λ (g : Geometry). map (slot_counted g) one.slots) geometry) ∙ ap (λ (list : List (List ℕ)). drop 5 list) parts in
    let count = same_length (slot_counted other.header.geometry) one.slots other.slots slots_bytes in
    let each = same_each (slot_counted other.header.geometry) one.slots other.slots slots_bytes in
    let first = λ (i : ℕ) (slot : RecordSlot) (at : slice_get one.slots i ≡ Some slot).
    subst (λ (n : ℕ). IsSlotOf other.header.geometry n (lists (valid_notes one.header.guid one.header.sequence one.slots) i) slot (slot_written other.header.geometry slot)) count
    (subst (λ (g : Geometry). IsSlotOf g (length one.slots) (lists (valid_notes one.header.guid one.header.sequence one.slots) i) slot (slot_written g slot)) geometry (read.slots i slot at)) in
    let valid : valid_notes other.header.guid other.header.sequence one.slots ≡ valid_notes other.header.guid other.header.sequence other.slots =
    first_alike (valid_of other.header.guid other.header.sequence) one.slots other.slots
    (count, λ i a b at there. valid_alike other.header.geometry (length other.slots) other.header.guid other.header.sequence (lists (valid_notes one.header.guid one.header.sequence one.slots) i) (lists (valid_notes other.header.guid other.header.sequence other.slots) i) a b room (first i a at) (also.slots i b there) (each i a b at there)) in
    let notes : notes_of one ≡ notes_of other = ap (λ (g : List ℕ). valid_notes g one.header.sequence one.slots) group ∙ ap (λ (s : ℕ). valid_notes other.header.guid s one.slots) sequence ∙ valid in
    let same_listed = λ (i : ℕ) (slot : RecordSlot) (at : slice_get one.slots i ≡ Some slot).
    subst (λ (o : Option Notes). IsSlotOf other.header.geometry (length other.slots) (lists o i) slot (slot_written other.header.geometry slot)) notes (first i slot at) in
    let elements : held_from (notes_of one) 0 one.slots ≡ held_from (notes_of other) 0 other.slots =
    ap (λ (o : Option Notes). held_from o 0 one.slots) notes
    ∙ held_alike (notes_of other) 0 one.slots other.slots (count, λ i a b at there. says_alike element_of (λ slot blank. (blank_says [] 0 slot blank).1) other.header.geometry (length other.slots) (lists (notes_of other) i) a b room (same_listed i a at) (also.slots i b there) (each i a b at there)) in
    let spare : first_spare one.slots ≡ first_spare other.slots =
    spare_alike one.slots other.slots (count, λ i a b at there. says_alike spare_of (λ slot blank. (blank_says [] 0 slot blank).2) other.header.geometry (length other.slots) (lists (notes_of other) i) a b room (same_listed i a at) (also.slots i b there) (each i a b at there)) in
    let made : make_view one.header.guid one.header.sequence one.disk_data one.disks one.arrays (held_from (notes_of one) 0 one.slots) (notes_of one) (first_spare one.slots)
    ≡ make_view other.header.guid other.header.sequence other.disk_data other.disks other.arrays (held_from (notes_of other) 0 other.slots) (notes_of other) (first_spare other.slots)
    = ap (λ (x : List ℕ). make_view x one.header.sequence one.disk_data one.disks one.arrays (held_from (notes_of one) 0 one.slots) (notes_of one) (first_spare one.slots)) group
    ∙ ap (λ (x : ℕ). make_view other.header.guid x one.disk_data one.disks one.arrays (held_from (notes_of one) 0 one.slots) (notes_of one) (first_spare one.slots)) sequence
    ∙ ap (λ (x : DiskData). make_view other.header.guid other.header.sequence x one.disks one.arrays (held_from (notes_of one) 0 one.slots) (notes_of one) (first_spare one.slots)) data_
    ∙ ap (λ (x : TableValue DiskRow). make_view other.header.guid other.header.sequence other.disk_data x one.arrays (held_from (notes_of one) 0 one.slots) (notes_of one) (first_spare one.slots)) disks
    ∙ ap (λ (x : TableValue ArrayRow). make_view other.header.guid other.header.sequence other.disk_data other.disks x (held_from (notes_of one) 0 one.slots) (notes_of one) (first_spare one.slots)) arrays
    ∙ ap (λ (x : List HeldRecord). make_view other.header.guid other.header.sequence other.disk_data other.disks other.arrays x (notes_of one) (first_spare one.slots)) elements
    ∙ ap (λ (x : Option Notes). make_view other.header.guid other.header.sequence other.disk_data other.disks other.arrays (held_from (notes_of other) 0 other.slots) x (first_spare one.slots)) notes
    ∙ ap (λ (x : Option SpareRecord). make_view other.header.guid other.header.sequence other.disk_data other.disks other.arrays (held_from (notes_of other) 0 other.slots) (notes_of other) x) spare in
    made
