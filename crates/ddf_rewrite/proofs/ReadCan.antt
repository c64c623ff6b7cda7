-- A configuration that is read from copies that can be written is one that copies can hold.
use Rattle.std.proofs.Common.{◌≡◌, ℕ, suc, ◌+◌, ◌<◌, ◌^◌, inl, inr, Bool, true, false, not, ◌&&◌, ◌||◌, cond, eqb, ltb, leb, List, [], ◌∷◌, ◌++◌, length, map, Option, Some, None, refl, ap, sym, ◌∙◌, subst, arith}
use Rattle.std.proofs.lemmas.Bool.{eqb-true, ne_eqb, and_parts, cases_eq, false≢true, leb-false}
use Rattle.std.proofs.lemmas.List.{length-map}
use Rattle.std.proofs.lemmas.List.FromFn.{length-enumerate_from, length-map-range_with_len}
use Rattle.std.specs.Prelude.{slice_get, option_map, nat_lt, nat_eq}
use Rattle.std.specs.Option.{option_map_or, option_or}
use Rattle.std.specs.List.{AllByRecursion, IsDistinct, enumerate_from, range_with_len, cons_option}
use Rattle.std.specs.Str.{bytes_eq}
use Rattle.ddf_lemmas.proofs.Lists.{all_append, found_place, in_map, range_get}
use Rattle.ddf_seal.specs.Unread.{Fits}
use Rattle.ddf_header.specs.declared.geometry.Geometry.{Geometry}
use Rattle.ddf_header.specs.Geometry.{IsSound}
use Rattle.ddf_bytes.specs.Choices.{first_of, when}
use Rattle.ddf_tables.specs.declared.disks.DiskEntry.{DiskEntry}
use Rattle.ddf_tables.specs.declared.arrays.ArrayEntry.{ArrayEntry}
use Rattle.ddf_config_records.specs.ElementValue.{ElementValue}
use Rattle.ddf_config_records.specs.declared.place.Place.{Place}
use Rattle.ddf_config_records.specs.declared.notes.SlotNote.{SlotNote}
use Rattle.ddf_config_records.specs.declared.notes.Notes.{Notes}
use Rattle.ddf_config_records.specs.declared.slot.RecordSlot.{RecordSlot}
use Rattle.ddf_config_records.specs.declared.slot.RecordSlot.TheVariants as slots
use Rattle.ddf_config_records.specs.declared.layout.TheConstants.{NOTES_AT}
use Rattle.ddf_config_records.specs.Elements.{record_size, has_no_strip, CanBeElement}
use Rattle.ddf_config_records.specs.NoteRecords.{note_size, head_fields, filling, all_note_fields, CanBeNotes}
use Rattle.ddf_config_records.specs.Slots.{are_valid, valid_of, valid_notes, lists, CanBeSlot}
use Rattle.ddf_config_records.proofs.NoteRecords.{all-split}
use Rattle.ddf_copy.specs.declared.copy.DiskCopy.{DiskCopy}
use Rattle.ddf_copy.specs.Written.{CanBeCopy}
use Rattle.ddf_config.specs.ElementValue.{ElementValue as ElementPlan}
use Rattle.ddf_config.specs.declared.array.Array.{Array}
use Rattle.ddf_view.specs.Reading.{array_in, arrays_in, count_in, disks_in, element_in, elements_in, member_in, naming_record, plan_of, position_of, read, row_of, secondary_in, stand_in_of}
use Rattle.ddf_view.specs.View.{HeldRecord, View, element_of, find_held, find_note, held_from, is_element, note_at, notes_of, view_of}
use Rattle.ddf_view.proofs.Finds.{find_has}
use Rattle.ddf_rewrite.specs.Hold.{CanHold, FitsArray, FitsMember, FitsPlan, FitsPosition, IsLeader}
use Rattle.ddf_rewrite.specs.Wanted.{Wanted, all_wanted}
use Rattle.ddf_rewrite.proofs.ElementsCan.{IsFit, fit_from, few_members}
use Rattle.ddf_rewrite.proofs.RowsCan.{IsDiskEntry, IsArrayEntry, own_arrays_good}
use Rattle.ddf_rewrite.proofs.Leaders.{leaders_held, leader_disks}
use Rattle.ddf_rewrite.proofs.Lists.{all_at}
use Rattle.ddf_rewrite.proofs.AllWanted.{wanted_place}
use Rattle.ddf_view.proofs.Names.{names_differ}

-- ---- notes

-- the numbers of a note fit their fields
pub record IsSmallNote (note : SlotNote) : Type 0 where
  pub stand_in : note.stand_in < 2 ^ 32
  pub row : note.row < 2 ^ 64

abbrev pub NoteFits : Option SlotNote → Type 0
NoteFits None = Unit {0}
NoteFits (Some note) = IsSmallNote note

rows_from : (most at : ℕ) (notes : List SlotNote) → AllByRecursion Fits (all_note_fields most at notes) → AllByRecursion IsSmallNote notes
rows_from most at [] h = tt
rows_from most at (note ∷ notes) h = (record { stand_in = h.1.1.1.0; row = h.1.1.1.1.0 }, rows_from most (at + note_size most) notes h.1.1.1.1.1.1)

rows_small : (geometry : Geometry) (count : ℕ) (notes : Notes) → CanBeNotes geometry count notes → AllByRecursion IsSmallNote notes.slots
rows_small geometry count notes can =
    let parts = all-split Fits (head_fields geometry.max_members notes) (all_note_fields geometry.max_members NOTES_AT notes.slots ++ filling geometry.max_members (record_size geometry) (length notes.slots) ∷ []) can.fields_fit in
    let inner = all-split Fits (all_note_fields geometry.max_members NOTES_AT notes.slots) (filling geometry.max_members (record_size geometry) (length notes.slots) ∷ []) parts.1 in
    rows_from geometry.max_members NOTES_AT notes.slots inner.0

first_has : {X Y : Type 0} (P : Y → Type 0) (f : X → Option Y) (xs : List X) (y : Y) → ((i : ℕ) (x : X) (z : Y) → slice_get xs i ≡ Some x → f x ≡ Some z → P z) → first_of (map f xs) ≡ Some y → P y
first_has P f [] y h is = absurd cc
first_has {Y = Y} P f (x ∷ xs) y h is = go (first_has P f xs y (λ i z w at e. h (suc i) z w at e)) (f x) refl is
  where
    go : (first_of (map f xs) ≡ Some y → P y) → (o : Option Y) → f x ≡ o → option_or o (first_of (map f xs)) ≡ Some y → P y
    go later None e is = later is
    go later (Some z) e is = let same : z ≡ y = cc in subst P same (h 0 x z refl e)

when_is : (b : Bool) (notes n : Notes) → when b notes ≡ Some n → notes ≡ n
when_is true notes n h = cc
when_is false notes n h = absurd cc

-- what holds of notes that can be written holds of those of a slot that can be
pub slot_notes : (P : Notes → Type 0) (geometry : Geometry) (count : ℕ) (listed : Bool) (group : List ℕ) (sequence : ℕ) (slot : RecordSlot) (n : Notes) → ((notes : Notes) → CanBeNotes geometry count notes → P notes)
    → CanBeSlot geometry count listed slot → valid_of group sequence slot ≡ Some n → P n
unfolding CanBeSlot
slot_notes P geometry count listed group sequence (slots.Notes notes) n has can h = subst P (when_is (are_valid group sequence notes) notes n h) (has notes can)
slot_notes P geometry count listed group sequence (slots.Element element) n has can h = absurd cc
slot_notes P geometry count listed group sequence (slots.Copied element) n has can h = absurd cc
slot_notes P geometry count listed group sequence (slots.Spare spare) n has can h = absurd cc
slot_notes P geometry count listed group sequence (slots.Vendor guid rest) n has can h = absurd cc
slot_notes P geometry count listed group sequence (slots.Unread fault kept) n has can h = absurd cc
slot_notes P geometry count listed group sequence (slots.Unused kept) n has can h = absurd cc

-- and of the notes of a copy that can be
pub copy_notes : (P : Notes → Type 0) (copy : DiskCopy) (n : Notes) → CanBeCopy copy → ((notes : Notes) → CanBeNotes copy.header.geometry (length copy.slots) notes → P notes) → notes_of copy ≡ Some n → P n
copy_notes P copy n is has e =
    first_has P (valid_of copy.header.guid copy.header.sequence) copy.slots n
    (λ i slot m at is_valid. slot_notes P copy.header.geometry (length copy.slots) (lists (valid_notes copy.header.guid copy.header.sequence copy.slots) i) copy.header.guid copy.header.sequence slot m has (is.slots_can.each i slot at) is_valid) e

abbrev RowsFit : Option Notes → Type 0
RowsFit None = Unit {0}
RowsFit (Some n) = AllByRecursion IsSmallNote n.slots

notes_rows : (copy : DiskCopy) → CanBeCopy copy → RowsFit (notes_of copy)
notes_rows copy is = go (notes_of copy) refl
  where
    go : (o : Option Notes) → notes_of copy ≡ o → RowsFit o
    go None e = tt
    go (Some n) e = copy_notes (λ (m : Notes). AllByRecursion IsSmallNote m.slots) copy n is (λ notes can. rows_small copy.header.geometry (length copy.slots) notes can) e

note_fits : (notes : Option Notes) (at : ℕ) → RowsFit notes → NoteFits (note_at notes at)
note_fits None at fit = tt
note_fits (Some n) at fit = go (slice_get n.slots at) refl
  where
    go : (o : Option SlotNote) → slice_get n.slots at ≡ o → NoteFits o
    go None e = tt
    go (Some note) e = all_at IsSmallNote n.slots at note fit e

abbrev make_held : ElementValue → Option SlotNote → HeldRecord
make_held element note = record { element = element; note = note }

held_notes : (notes : Option Notes) (at : ℕ) (all : List RecordSlot) → RowsFit notes → AllByRecursion (λ held. NoteFits held.note) (held_from notes at all)
held_notes notes at [] fit = tt
held_notes notes at (slot ∷ all) fit = go (held_notes notes (at + 1) all fit) (element_of slot)
  where
    go : AllByRecursion (λ held. NoteFits held.note) (held_from notes (at + 1) all) → (o : Option ElementValue)
        → AllByRecursion (λ held. NoteFits held.note) (cons_option (option_map (λ element. make_held element (note_at notes at)) o) (held_from notes (at + 1) all))
    go rest None = rest
    go rest (Some element) = (note_fits notes at fit, rest)

view_notes : (copy : DiskCopy) → CanBeCopy copy → AllByRecursion (λ held. NoteFits held.note) (view_of copy).elements
unfolding view_of
view_notes copy is = held_notes (notes_of copy) 0 copy.slots (notes_rows copy is)

leaders_noted : (geometry : Geometry) (copies : List DiskCopy) → AllByRecursion (IsLeader geometry) copies → AllByRecursion (λ held. NoteFits held.note) (elements_in (map view_of copies))
leaders_noted geometry [] all = tt
leaders_noted geometry (copy ∷ copies) all = all_append (λ held. NoteFits held.note) (view_of copy).elements (elements_in (map view_of copies)) (view_notes copy all.0.is_copy) (leaders_noted geometry copies all.1)

find_note_fits : (array : List ℕ) (index : ℕ) (elements : List HeldRecord) → AllByRecursion (λ held. NoteFits held.note) elements → NoteFits (find_note array index elements)
find_note_fits array index [] all = tt
find_note_fits array index (held ∷ elements) all = go (find_note_fits array index elements all.1) (is_element array index held) refl held.note refl all.0
  where
    go : NoteFits (find_note array index elements) → (b : Bool) → is_element array index held ≡ b → (o : Option SlotNote) → held.note ≡ o → NoteFits o → NoteFits (find_note array index (held ∷ elements))
    go later true e (Some note) f fits = rw (e, f) fits
    go later true e None f fits = rw (e, f) later
    go later false e o f fits = rw e later

-- ---- positions

row_fits : (note : Option SlotNote) (position : ℕ) → NoteFits note → row_of note position < 2 ^ 64
row_fits None position fits = omega arith
row_fits (Some note) position fits = go (eqb note.position position)
  where
    go : (b : Bool) → cond b note.row 0 < 2 ^ 64
    go true = fits.row
    go false = omega arith

-- the disk that stands in by a note
stand_in_fits : (note : Option SlotNote) → NoteFits note → stand_in_of note < 2 ^ 32
stand_in_fits None fits = omega arith
stand_in_fits (Some note) fits = fits.stand_in

positions_fit : (disks : List DiskEntry) (noted : Option SlotNote) (n : ℕ) (members : List Place) → NoteFits noted → AllByRecursion (λ k. k < 2 ^ 32) (map (λ (member : Place). member.reference) members) → AllByRecursion (λ k. k < 2 ^ 64) (map (λ (member : Place). member.start) members)
    → AllByRecursion FitsPosition (map (λ pair. position_of disks noted pair.0 pair.1) (enumerate_from n members))
positions_fit disks noted n [] fits references starts = tt
positions_fit disks noted n (member ∷ members) fits references starts =
    (record { reference = references.0; start = starts.0; row = row_fits noted n fits }, positions_fit disks noted (n + 1) members fits references.1 starts.1)

-- ---- how many elements

-- what is found has its name
pub found_named : (array : List ℕ) (index : ℕ) (elements : List HeldRecord) (held : HeldRecord) → find_held array index elements ≡ Some held → held.element.index ≡ index
found_named array index elements held h = eqb-true held.element.index index (and_parts (bytes_eq held.element.array array) (eqb held.element.index index) (passes elements h)).1
  where
    passes : (xs : List HeldRecord) → find_held array index xs ≡ Some held → is_element array index held ≡ true
    passes xs h = (found_place (is_element array index) xs held h).2

-- the record of element 0 names the array
pub first_names : (elements : List HeldRecord) (array : List ℕ) (held : HeldRecord) → find_held array 0 elements ≡ Some held → naming_record elements array ≡ Some held
unfolding naming_record
first_names elements array held h = ap (λ o. option_or o (first_of (map (λ index. find_held array index elements) (range_with_len 1 15)))) h

or_three : (a b c : Bool) → (a || b || c) ≡ false → c ≡ false
or_three true b c h = absurd (false≢true (sym h))
or_three false true c h = absurd (false≢true (sym h))
or_three false false c h = h

-- the place of an element is below their number
pub index_below : (most : ℕ) (element : ElementValue) → IsFit most element → element.index < element.elements
index_below most element fit = leb-false element.elements element.index (or_three (eqb element.elements 0) (ltb 16 element.elements) (leb element.elements element.index) fit.is.secondary)

-- an element's strip counts under the number of the naming record
strip_counts : (most : ℕ) (elements : List HeldRecord) (array : List ℕ) (index : ℕ) (held : HeldRecord) → AllByRecursion (λ one. IsFit most one.element) elements → find_held array index elements ≡ Some held → index < count_in elements array
    → (nat_lt 31 held.element.strip && not (has_no_strip held.element.level (count_in elements array))) ≡ false
strip_counts most elements array index held all at within =
    let fit = find_has (λ one. IsFit most one.element) (is_element array index) elements held all at in
    elim (cases_eq index 0) [
      | inl zero_is ↦
          let there : find_held array 0 elements ≡ Some held = subst (λ (i : ℕ). find_held array i elements ≡ Some held) zero_is at in
          let count : count_in elements array ≡ held.element.elements = ap (λ o. option_map_or (λ (one : HeldRecord). one.element.elements) o 1) (first_names elements array held there) in
          subst (λ (n : ℕ). (nat_lt 31 held.element.strip && not (has_no_strip held.element.level n)) ≡ false) (sym count) fit.is.strip
      | inr other ↦
          let own = found_named array index elements held at in
          let below = index_below most held.element fit in
          let one : eqb held.element.elements 1 ≡ false = ne_eqb held.element.elements 1 (λ (e : held.element.elements ≡ 1). other (omega (arith, e, own, below))) in
          let two : eqb (count_in elements array) 1 ≡ false = ne_eqb (count_in elements array) 1 (λ (e : count_in elements array ≡ 1). other (omega (arith, e, within))) in
          plain held.element.strip held.element.level held.element.elements (count_in elements array) one two fit.is.strip
    ]
  where
    plain : (strip level one other : ℕ) → eqb one 1 ≡ false → eqb other 1 ≡ false → (nat_lt 31 strip && not (has_no_strip level one)) ≡ false → (nat_lt 31 strip && not (has_no_strip level other)) ≡ false
    plain strip level one other e f h = rw f (rw e at h)

-- ---- an element that is read

read_plan : (most : ℕ) (disks : List DiskEntry) (elements : List HeldRecord) (entry : ArrayEntry) (wanted : Wanted) → AllByRecursion (λ one. IsFit most one.element) elements → AllByRecursion (λ held. NoteFits held.note) elements
    → (held : HeldRecord) → find_held entry.guid wanted.index elements ≡ Some held → wanted.plan ≡ plan_of disks (find_note entry.guid wanted.index elements) held.element → length wanted.array.elements ≡ count_in elements entry.guid → wanted.index < count_in elements entry.guid
    → FitsPlan most wanted
unfolding plan_of
read_plan most disks elements entry wanted all notes held at plan count within =
    let fit = find_has (λ one. IsFit most one.element) (is_element entry.guid wanted.index) elements held all at in
    let note = find_note_fits entry.guid wanted.index elements notes in
    let few = few_members most held.element fit.is in
    let members = held.element.members in
    let make = λ (pair : ℕ × Place). position_of disks (find_note entry.guid wanted.index elements) pair.0 pair.1 in
    let many : length wanted.plan.positions ≡ length members = ap (λ (p : ElementPlan). length p.positions) plan ∙ length-map (enumerate_from 0 members) make ∙ length-enumerate_from 0 members in
    let strip = strip_counts most elements entry.guid wanted.index held all at within in
    let strip_of : wanted.plan.strip ≡ held.element.strip = ap (λ (p : ElementPlan). p.strip) plan in
    let level_of : wanted.plan.level ≡ held.element.level = ap (λ (p : ElementPlan). p.level) plan in
    record {
      some = omega (arith, many, few.present);
      allowed = omega (arith, many, few.allowed);
      few = omega (arith, many, few.few);
      strip = subst (λ (p : ElementPlan). p.strip < 2 ^ 8) (sym plan) fit.has.strip;
      has_strip = rw (strip_of, level_of, count) strip;
      level = subst (λ (p : ElementPlan). p.level < 2 ^ 8) (sym plan) fit.has.level;
      qualifier = subst (λ (p : ElementPlan). p.qualifier < 2 ^ 8) (sym plan) fit.has.qualifier;
      blocks = subst (λ (p : ElementPlan). p.blocks < 2 ^ 64) (sym plan) fit.has.blocks;
      stand_in = subst (λ (p : ElementPlan). p.stand_in < 2 ^ 32) (sym plan) (stand_in_fits (find_note entry.guid wanted.index elements) note);
      positions = subst (λ (p : ElementPlan). AllByRecursion FitsPosition p.positions) (sym plan)
          (positions_fit disks (find_note entry.guid wanted.index elements) 0 members note fit.has.references fit.has.starts);
    }

make_plan : List DiskEntry → Option SlotNote → HeldRecord → ElementPlan
make_plan disks note held = plan_of disks note held.element

pub plan_found : (disks : List DiskEntry) (noted : Option SlotNote) (o : Option HeldRecord) (plan : ElementPlan) → option_map (λ (held : HeldRecord). plan_of disks noted held.element) o ≡ Some plan → (held : HeldRecord) × (o ≡ Some held) × (plan ≡ plan_of disks noted held.element)
unfolding make_plan
plan_found disks noted None plan h = absurd cc
plan_found disks noted (Some held) plan h = let same : make_plan disks noted held ≡ plan = cc in (held, refl, sym same)

-- ---- the whole

pub fits_all : (geometry : Geometry) (elements : List HeldRecord) → AllByRecursion (λ held. CanBeElement geometry held.element) elements → AllByRecursion (λ held. IsFit geometry.max_members held.element) elements
fits_all geometry [] all = tt
fits_all geometry (held ∷ elements) all = (fit_from geometry held.element all.0, fits_all geometry elements all.1)

members_fit : (views : List View) (disks : List DiskEntry) → AllByRecursion IsDiskEntry disks → AllByRecursion FitsMember (map (λ disk. (disk.reference, member_in views disk)) disks)
members_fit views [] all = tt
members_fit views (disk ∷ disks) all =
    let fit = all.0.0.fields_fit in
    (record { guid = fit.0; used = all.0.2; reference = fit.1.0; size = fit.1.1.1.1.0 }, members_fit views disks all.1)

secondary_fits : (most : ℕ) (elements : List HeldRecord) (array : List ℕ) → AllByRecursion (λ one. IsFit most one.element) elements → secondary_in elements array < 2 ^ 8
unfolding naming_record
secondary_fits most elements array all = go (naming_record elements array) refl
  where
    go : (o : Option HeldRecord) → naming_record elements array ≡ o → option_map_or (λ (held : HeldRecord). held.element.secondary) o 0 < 2 ^ 8
    go None e = omega arith
    go (Some held) e = first_has (λ (one : HeldRecord). one.element.secondary < 2 ^ 8) (λ index. find_held array index elements) (range_with_len 0 16) held
        (λ i index one at found. (find_has (λ (x : HeldRecord). IsFit most x.element) (is_element array index) elements one all found).has.secondary) e

arrays_fit : (most : ℕ) (disks : List DiskEntry) (elements : List HeldRecord) (arrays : List ArrayEntry) → AllByRecursion (λ one. IsFit most one.element) elements → AllByRecursion IsArrayEntry arrays → AllByRecursion FitsArray (map (λ entry. (entry.guid, array_in disks elements entry)) arrays)
unfolding array_in
arrays_fit most disks elements [] fit all = tt
arrays_fit most disks elements (entry ∷ arrays) fit all =
    let fields = all.0.0.fields_fit in (
      record {
        guid = fields.0;
        used = all.0.2;
        number = fields.1.0;
        state = fields.1.1.0;
        init = fields.1.1.1.0;
        name = fields.1.1.1.1.0;
        secondary = secondary_fits most elements entry.guid fit;
      },
      arrays_fit most disks elements arrays fit all.1,
    )

pub same_names : {X Y Z : Type 0} (f : X → Y × Z) (g : X → Y) → ((x : X) → (f x).0 ≡ g x) → (xs : List X) → map (λ (pair : Y × Z). pair.0) (map f xs) ≡ map g xs
same_names f g is [] = refl
same_names f g is (x ∷ xs) = let first = is x in let rest = same_names f g is xs in rw (first, rest) refl

pub view_arrays : (copy : DiskCopy) → CanBeCopy copy → AllByRecursion IsArrayEntry (view_of copy).arrays
unfolding view_of
view_arrays copy is = own_arrays_good copy.arrays.rows is.arrays_can.rows_good

-- a wanted element of a configuration that is read: its record, in its array
pub record IsRead (disks : List DiskEntry) (elements : List HeldRecord) (wanted : Wanted) : Type 0 where
  pub entry : ArrayEntry
  pub guid : wanted.guid ≡ entry.guid
  pub held : HeldRecord
  pub found : find_held entry.guid wanted.index elements ≡ Some held
  pub plan : wanted.plan ≡ plan_of disks (find_note entry.guid wanted.index elements) held.element
  pub count : length wanted.array.elements ≡ count_in elements entry.guid
  pub within : wanted.index < count_in elements entry.guid

pub is_read : (group : List ℕ) (sequence : ℕ) (views : List View) (n : ℕ) (wanted : Wanted) → slice_get (all_wanted (read group sequence views)) n ≡ Some wanted → IsRead (disks_in views) (elements_in views) wanted
unfolding read array_in
is_read group sequence views n wanted at =
    let elements = elements_in views in
    let disks = disks_in views in
    let of = wanted_place (read group sequence views) n wanted at in
    let from = in_map (λ (entry : ArrayEntry). (entry.guid, array_in disks elements entry)) (arrays_in views) of.a of.entry of.at in
    let entry = from.0 in
    let array_is : wanted.array ≡ array_in disks elements entry = of.array_is ∙ ap (λ (pair : List ℕ × Array). pair.1) (sym from.2) in
    let there : slice_get (array_in disks elements entry).elements wanted.index ≡ Some (Some wanted.plan) = ap (λ (pair : List ℕ × Array). slice_get pair.1.elements wanted.index) from.2 ∙ of.there in
    let placed = in_map (element_in disks elements entry.guid) (range_with_len 0 (count_in elements entry.guid)) wanted.index (Some wanted.plan) there in
    let ranged = range_get 0 (count_in elements entry.guid) wanted.index placed.0 placed.1 in
    let here : placed.0 ≡ wanted.index = ranged.0 ∙ omega arith in
    let given : element_in disks elements entry.guid wanted.index ≡ Some wanted.plan = ap (element_in disks elements entry.guid) (sym here) ∙ placed.2 in
    let found = plan_found disks (find_note entry.guid wanted.index elements) (find_held entry.guid wanted.index elements) wanted.plan given in
    record {
      entry = entry;
      guid = of.guid_is ∙ ap (λ (pair : List ℕ × Array). pair.0) (sym from.2);
      held = found.0;
      found = found.1;
      plan = found.2;
      count = ap (λ (a : Array). length a.elements) array_is ∙ length-map-range_with_len (element_in disks elements entry.guid) 0 (count_in elements entry.guid);
      within = ranged.1;
    }

-- A configuration that copies give together can be held.
pub read_can_hold : (geometry : Geometry) (copy : DiskCopy) (copies : List DiskCopy) → IsSound geometry → AllByRecursion (IsLeader geometry) (copy ∷ copies)
    → CanHold geometry.max_members (read copy.header.guid copy.header.sequence (map view_of (copy ∷ copies)))
unfolding read array_in
read_can_hold geometry copy copies sound all =
    let views = map view_of (copy ∷ copies) in
    let elements = elements_in views in
    let disks = disks_in views in
    let is = all.0.is_copy in
    let fit = fits_all geometry elements (leaders_held geometry (copy ∷ copies) sound all) in
    let noted = leaders_noted geometry (copy ∷ copies) all in
    let entries = leader_disks copy (map view_of copies) is in
    let names = names_differ copy (map view_of copies) is in
    record {
      group = is.header_can.is_record.fields_fit.0;
      sequence = is.header_can.is_record.fields_fit.1.1.0;
      members = members_fit views disks entries.can;
      references = subst (λ (l : List ℕ). IsDistinct nat_eq l) (sym (same_names (λ (disk : DiskEntry). (disk.reference, member_in views disk)) (λ (disk : DiskEntry). disk.reference) (λ disk. refl) disks)) entries.apart;
      guids = subst (λ (l : List (List ℕ)). IsDistinct bytes_eq l) (sym (same_names (λ (entry : ArrayEntry). (entry.guid, array_in disks elements entry)) (λ (entry : ArrayEntry). entry.guid) (λ entry. refl) (arrays_in views))) names.guids;
      arrays = arrays_fit geometry.max_members disks elements (arrays_in views) fit (view_arrays copy is);
      plans = λ n wanted at.
          let is_read = is_read copy.header.guid copy.header.sequence views n wanted at in
          read_plan geometry.max_members disks elements is_read.entry wanted fit noted is_read.held is_read.found is_read.plan is_read.count is_read.within;
    }
