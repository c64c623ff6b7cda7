-- No element of a configuration that copies give has more positions than a record has members.
use Rattle.std.proofs.Common.{◌≡◌, ℕ, suc, ◌+◌, ◌≤◌, Bool, true, false, List, [], ◌∷◌, map, length, Option, Some, None, Result, Ok, Err, if◌then◌else◌, refl, sym, ◌∙◌, inl, inr, ⊎_elim, subst, arith}
use Rattle.std.proofs.lemmas.Bool.{and_parts}
use Rattle.std.proofs.lemmas.List.{length-map}
use Rattle.std.proofs.lemmas.List.FromFn.{length-enumerate_from}
use Rattle.std.specs.Prelude.{is_none, nat_eq, nat_lt, option_map, slice_get, slice_index}
use Rattle.std.specs.Int.{w16, w32}
use Rattle.std.specs.List.{AllByRecursion, cons_option, enumerate_from, range_with_len}
use Rattle.std.specs.Map.{lookup}
use Rattle.ddf_lemmas.proofs.Lists.{all_append, all_from, in_map}
use Rattle.ddf_lemmas.proofs.Options.{none_from_is_none}
use Rattle.ddf_bytes.specs.Bytes.{bytes_at, number_at}
use Rattle.ddf_bytes.specs.Choices.{ok_unless}
use Rattle.ddf_bay.specs.Sectors.{Image}
use Rattle.ddf_header.specs.declared.geometry.Geometry.{Geometry}
use Rattle.ddf_header.specs.declared.reading.Header.{Header}
use Rattle.ddf_tables.specs.Arrays.{decoded_arrays}
use Rattle.ddf_tables.specs.Disks.{decoded_disks}
use Rattle.ddf_tables.specs.Sectors.{decoded_controller, decoded_disk_data}
use Rattle.ddf_tables.specs.declared.arrays.ArrayEntry.{ArrayEntry}
use Rattle.ddf_tables.specs.declared.disks.DiskEntry.{DiskEntry}
use Rattle.ddf_config_records.specs.ElementValue.{ElementValue}
use Rattle.ddf_config_records.specs.declared.fault.ElementFault.{ElementFault}
use Rattle.ddf_config_records.specs.declared.fault.SlotFault.{SlotFault}
use Rattle.ddf_config_records.specs.declared.fault.SlotFault.TheVariants as slot_faults
use Rattle.ddf_config_records.specs.declared.notes.Notes.{Notes}
use Rattle.ddf_config_records.specs.declared.notes.SlotNote.{SlotNote}
use Rattle.ddf_config_records.specs.declared.place.Place.{Place}
use Rattle.ddf_config_records.specs.declared.slot.RecordSlot.{RecordSlot}
use Rattle.ddf_config_records.specs.declared.slot.RecordSlot.TheVariants as slots
use Rattle.ddf_config_records.specs.declared.layout.TheConstants.{MEMBERS_AT, VENDOR_GUID_AT}
use Rattle.ddf_config_records.specs.Elements.{element_at, element_fault_at, element_with}
use Rattle.ddf_config_records.specs.NoteRecords.{is_notes, notes_at}
use Rattle.ddf_config_records.specs.Slots.{decoded_slots, element_signature, element_slot, is_copy, lists, notes_in, seal_fault, slot_at, slot_bytes, slot_count, slots_at, vendor_slot}
use Rattle.ddf_config_records.specs.Spares.{spare_at, spare_signature}
use Rattle.ddf_config_records.specs.Vendors.{vendor_rest, vendor_signature}
use Rattle.ddf_config_records.proofs.ElementRecords.{members_at_most}
use Rattle.ddf_config_records.proofs.Elements.{length-members_at}
use Rattle.ddf_copy.specs.declared.copy.DiskCopy.{DiskCopy}
use Rattle.ddf_copy.specs.declared.fault.AnchorFault.{AnchorFault}
use Rattle.ddf_copy.specs.declared.fault.CopyFault.{CopyFault}
use Rattle.ddf_copy.specs.declared.fault.SectionName.TheVariants as names
use Rattle.ddf_copy.specs.declared.newest_copy.Newest.{Newest}
use Rattle.ddf_copy.specs.declared.newest_copy.Newest.TheVariants as newests
use Rattle.ddf_copy.specs.declared.raw.Raw.{Raw}
use Rattle.ddf_copy.specs.declared.which.Which.{Which}
use Rattle.ddf_copy.specs.declared.which.Which.TheVariants.{Primary, Secondary}
use Rattle.ddf_copy.specs.Anchor.{anchor_at}
use Rattle.ddf_copy.specs.Copies.{are_level, copy_of, newest_at, newest_in, newest_of, newest_under}
use Rattle.ddf_copy.specs.Gate.{header_of}
use Rattle.ddf_copy.specs.Sections.{and_then, bytes_in, copy_in, in_section, in_sector, in_slots, log_in, raw_at}
use Rattle.ddf_copy.specs.Which.{place_of}
use Rattle.ddf_copy.proofs.LastCopies.{ok_or}
use Rattle.ddf_config.specs.declared.array.Array.{Array}
use Rattle.ddf_config.specs.Configuration.{Configuration}
use Rattle.ddf_config.specs.ElementValue.{ElementValue as ElementPlan}
use Rattle.ddf_config.proofs.Capacity.{AreFew}
use Rattle.ddf_view.specs.Reading.{array_in, arrays_in, count_in, disks_in, element_in, elements_in, plan_of, position_of, read}
use Rattle.ddf_view.specs.View.{HeldRecord, View, element_of, find_held, find_note, held_from, is_element, note_at, notes_of, view_of}
use Rattle.ddf_view.proofs.Finds.{find_has}
use Rattle.ddf_group.specs.Shown.{shown_of}
use Rattle.ddf_rewrite.proofs.Lists.{all_mapped}
use Rattle.ddf_history.specs.Groups.{groups, read_leaders}
use Rattle.ddf_history.specs.Leaders.{leading_copies, seen}
use Rattle.ddf_history.specs.Reading.{Each, IsCopyOf}
use Rattle.ddf_history.specs.Reading.Shown.{Nothing}
use Rattle.ddf_history.specs.Scenes.{scene_of, told_of}
use Rattle.ddf_history.proofs.Leading.{each_leading}

-- ---- what stands in a slot

-- an element has few members, if it is one
abbrev SlotFew : RecordSlot → Type 0
SlotFew slot = (element : ElementValue) → element_of slot ≡ Some element → length element.members ≤ 64

element_few : (most : ℕ) (bytes : List ℕ) → element_fault_at most bytes ≡ None → length (element_at most bytes).members ≤ 64
unfolding element_with
element_few most bytes none =
    let count = length-members_at most bytes (number_at w16 bytes MEMBERS_AT) in
    let few = (members_at_most most bytes none).few in
    omega (arith, count, few)

made_few : (most : ℕ) (bytes : List ℕ) (element : ElementValue) → element_fault_at most bytes ≡ None → element_at most bytes ≡ element → length element.members ≤ 64
made_few most bytes element none same = subst (λ (e : ElementValue). length e.members ≤ 64) same (element_few most bytes none)

element_slot_few : (most : ℕ) (bytes : List ℕ) (fault : Option ElementFault) → element_fault_at most bytes ≡ fault → SlotFew (element_slot most bytes fault)
element_slot_few most bytes None none element is = made_few most bytes element none (let same : element_at most bytes ≡ element = cc in same)
element_slot_few most bytes (Some fault) some element is = absurd cc

vendor_slot_few : (most count : ℕ) (listed : Bool) (bytes : List ℕ) → SlotFew (vendor_slot most count listed bytes)
vendor_slot_few most count listed bytes = by (is_notes most count bytes) (is_copy most listed bytes) refl
  where
    by : (noted copied : Bool) → is_copy most listed bytes ≡ copied
        → SlotFew (if noted then slots.Notes (notes_at most count bytes) else if copied then slots.Copied (element_at most bytes) else slots.Vendor (bytes_at bytes VENDOR_GUID_AT 24) (vendor_rest bytes))
    by true copied e element is = absurd cc
    by false true e element is =
        made_few most bytes element (none_from_is_none (element_fault_at most bytes) (and_parts listed (is_none (element_fault_at most bytes)) e).1) (let same : element_at most bytes ≡ element = cc in same)
    by false false e element is = absurd cc

slot_few : (most count : ℕ) (listed : Bool) (bytes : List ℕ) → SlotFew (slot_at most count listed bytes)
unfolding slot_at
slot_few most count listed bytes = by (nat_eq (number_at w32 bytes 0) element_signature) (nat_eq (number_at w32 bytes 0) vendor_signature) (nat_eq (number_at w32 bytes 0) spare_signature)
  where
    by : (a b c : Bool) → SlotFew (if a then element_slot most bytes (element_fault_at most bytes)
        else if b then vendor_slot most count listed bytes
        else if c then slots.Spare (spare_at bytes)
        else slots.Unused bytes)
    by true b c element is = element_slot_few most bytes (element_fault_at most bytes) refl element is
    by false true c element is = vendor_slot_few most count listed bytes element is
    by false false true element is = absurd cc
    by false false false element is = absurd cc

-- ---- a copy that is read

abbrev SlotsFew : List RecordSlot → Type 0
SlotsFew all = AllByRecursion SlotFew all

slots_few : (geometry : Geometry) (notes : Option Notes) (section : List ℕ) → SlotsFew (slots_at geometry notes section)
unfolding slots_at
slots_few geometry notes section =
    all_mapped SlotFew (λ slot. slot_at geometry.max_members (slot_count geometry section) (lists notes slot) (slot_bytes geometry section slot)) (range_with_len 0 (slot_count geometry section))
    (all_from (λ slot. SlotFew (slot_at geometry.max_members (slot_count geometry section) (lists notes slot) (slot_bytes geometry section slot))) (range_with_len 0 (slot_count geometry section))
    (λ k slot at. slot_few geometry.max_members (slot_count geometry section) (lists notes slot) (slot_bytes geometry section slot)))

unless_few : (fault : Option SlotFault) (made all : List RecordSlot) → SlotsFew made → in_slots (ok_unless fault made) ≡ Ok all → SlotsFew all
unless_few None made all few is = let same : made ≡ all = cc in subst SlotsFew same few
unless_few (Some (slot_faults.Seal slot fault)) made all few is = absurd cc
unless_few (Some slot_faults.Memory) made all few is = absurd cc

read_few : (geometry : Geometry) (group : List ℕ) (sequence : ℕ) (section : List ℕ) (all : List RecordSlot) → in_slots (decoded_slots geometry group sequence section) ≡ Ok all → SlotsFew all
read_few geometry group sequence section all is =
    unless_few (seal_fault geometry section) (slots_at geometry (notes_in geometry group sequence section) section) all (slots_few geometry (notes_in geometry group sequence section) section) is

abbrev HasFew : Result DiskCopy CopyFault → Type 0
HasFew (Ok copy) = SlotsFew copy.slots
HasFew (Err fault) = Unit {0}

in_copy : (header : Header) (raw : Raw) → HasFew (copy_in header raw)
unfolding copy_in
in_copy header raw = elim (ok_or (in_sector names.Controller (decoded_controller raw.controller))) [
  | inl controller ↦ elim (ok_or (in_section names.Disks (decoded_disks header.geometry.max_disks (bytes_in raw.disks)))) [
    | inl disks ↦ elim (ok_or (in_section names.Arrays (decoded_arrays header.geometry.max_arrays (bytes_in raw.arrays)))) [
      | inl arrays ↦ elim (ok_or (in_slots (decoded_slots header.geometry header.guid header.sequence (bytes_in raw.records)))) [
        | inl all ↦ elim (ok_or (in_sector names.DiskData (decoded_disk_data raw.disk_data))) [
          | inl disk_data ↦ elim (ok_or (log_in raw.bad_blocks)) [
            | inl bad ↦ rw (controller.1, disks.1, arrays.1, all.1, disk_data.1, bad.1) (read_few header.geometry header.guid header.sequence (bytes_in raw.records) all.0 all.1)
            | inr fault ↦ rw (controller.1, disks.1, arrays.1, all.1, disk_data.1, fault.1) tt
          ]
          | inr fault ↦ rw (controller.1, disks.1, arrays.1, all.1, fault.1) tt
        ]
        | inr fault ↦ rw (controller.1, disks.1, arrays.1, fault.1) tt
      ]
      | inr fault ↦ rw (controller.1, disks.1, fault.1) tt
    ]
    | inr fault ↦ rw (controller.1, fault.1) tt
  ]
  | inr fault ↦ rw fault.1 tt
]

copy_few : (size : ℕ) (sector : ℕ → List ℕ) (anchor : Header) (which : Which) → HasFew (copy_of size sector anchor which)
unfolding copy_of
copy_few size sector anchor which = by (header_of size sector anchor which)
  where
    by : (found : Result Header CopyFault) → HasFew (and_then found (λ (header : Header). copy_in header (raw_at sector (place_of which anchor) header.geometry)))
    by (Ok header) = in_copy header (raw_at sector (place_of which anchor) header.geometry)
    by (Err fault) = tt

-- ---- what a disk shows

-- each record that a view holds has few members
abbrev IsFew : HeldRecord → Type 0
IsFew held = length held.element.members ≤ 64

abbrev pub ViewFew : View → Type 0
ViewFew view = AllByRecursion IsFew view.elements

held_few : (notes : Option Notes) (at : ℕ) (all : List RecordSlot) → SlotsFew all → AllByRecursion IsFew (held_from notes at all)
held_few notes at [] few = tt
held_few notes at (slot ∷ all) few = by (element_of slot) refl (held_few notes (at + 1) all few.1)
  where
    by : (o : Option ElementValue) → element_of slot ≡ o → AllByRecursion IsFew (held_from notes (at + 1) all)
        → AllByRecursion IsFew (cons_option (option_map (λ (element : ElementValue). record { element = element; note = note_at notes at }) o) (held_from notes (at + 1) all))
    by None e rest = rest
    by (Some element) e rest = (few.0 element e, rest)

view_few : (copy : DiskCopy) → SlotsFew copy.slots → ViewFew (view_of copy)
unfolding view_of
view_few copy few = held_few (notes_of copy) 0 copy.slots few

abbrev NewestFew : Newest → Type 0
NewestFew (newests.One which copy) = SlotsFew copy.slots
NewestFew (newests.Level copy) = SlotsFew copy.slots
NewestFew (newests.TwoDiffer primary secondary) = SlotsFew primary.slots × SlotsFew secondary.slots
NewestFew (newests.Neither first second) = Unit {0}

newest_few : (size : ℕ) (sector : ℕ → List ℕ) (anchor : Header) → NewestFew (newest_of size sector anchor)
unfolding newest_of
newest_few size sector anchor =
    by (are_level (copy_of size sector anchor Primary) (copy_of size sector anchor Secondary)) (copy_of size sector anchor Primary) (copy_of size sector anchor Secondary)
    (copy_few size sector anchor Primary) (copy_few size sector anchor Secondary)
  where
    both : (level : Bool) (primary secondary : DiskCopy) (older newer : Bool) → SlotsFew primary.slots → SlotsFew secondary.slots
        → NewestFew (if older then newests.One Secondary secondary else if newer then newests.One Primary primary else if level then newests.Level primary else newests.TwoDiffer primary secondary)
    both level primary secondary true newer one other = other
    both level primary secondary false true one other = one
    both true primary secondary false false one other = one
    both false primary secondary false false one other = (one, other)

    by : (level : Bool) (primary secondary : Result DiskCopy CopyFault) → HasFew primary → HasFew secondary → NewestFew (newest_in level primary secondary)
    by level (Ok primary) (Ok secondary) one other =
        both level primary secondary (nat_lt primary.header.sequence secondary.header.sequence) (nat_lt secondary.header.sequence primary.header.sequence) one other
    by level (Ok primary) (Err fault) one other = one
    by level (Err fault) (Ok secondary) one other = other
    by level (Err first) (Err second) one other = tt

told_few : (newest : Newest) (view : View) → NewestFew newest → IsCopyOf (told_of (shown_of (Some newest))) view → ViewFew view
unfolding shown_of
told_few (newests.One which copy) view few is = subst ViewFew (sym is) (view_few copy few)
told_few (newests.Level copy) view few is = subst ViewFew (sym is) (view_few copy few)
told_few (newests.TwoDiffer primary secondary) view few is = ⊎_elim (λ one. subst ViewFew (sym one) (view_few primary few.0)) (λ other. subst ViewFew (sym other) (view_few secondary few.1)) is
told_few (newests.Neither first second) view few is = absurd is

anchored_few : (size : ℕ) (sector : ℕ → List ℕ) (view : View) (found : Result Header AnchorFault) → IsCopyOf (told_of (shown_of (newest_under size sector found))) view → ViewFew view
unfolding shown_of
anchored_few size sector view (Ok anchor) is = told_few (newest_of size sector anchor) view (newest_few size sector anchor) is
anchored_few size sector view (Err fault) is = absurd is

pub shown_few : (sizes : List ℕ) (image : Image) (slot : ℕ) (view : View) → IsCopyOf (scene_of sizes image slot) view → ViewFew view
shown_few sizes image slot view is = by (nat_lt slot (length sizes)) is
  where
    by : (there : Bool) → IsCopyOf (if there then told_of (shown_of (newest_at (slice_index sizes slot) (image slot))) else Nothing) view → ViewFew view
    by true is = anchored_few (slice_index sizes slot) (image slot) view (anchor_at (slice_index sizes slot) (image slot)) is
    by false is = absurd is

-- ---- what views give together

elements_few : (views : List View) → Each ViewFew views → AllByRecursion IsFew (elements_in views)
elements_few [] few = tt
elements_few (view ∷ views) few = all_append IsFew view.elements (elements_in views) few.0 (elements_few views few.1)

plan_few : (disks : List DiskEntry) (note : Option SlotNote) (held : HeldRecord) → IsFew held → length (plan_of disks note held.element).positions ≤ 64
unfolding plan_of
plan_few disks note held few =
    let many : length (map (λ (pair : ℕ × Place). position_of disks note pair.0 pair.1) (enumerate_from 0 held.element.members)) ≡ length held.element.members =
    length-map (enumerate_from 0 held.element.members) (λ (pair : ℕ × Place). position_of disks note pair.0 pair.1) ∙ length-enumerate_from 0 held.element.members in
    omega (arith, many, few)

module _ (disks : List DiskEntry) (elements : List HeldRecord) (few : AllByRecursion IsFew elements) where
  element_in_few : (array : List ℕ) (index : ℕ) (plan : ElementPlan) → element_in disks elements array index ≡ Some plan → length plan.positions ≤ 64
  element_in_few array index plan is = by (find_held array index elements) refl is
    where
      by : (found : Option HeldRecord) → find_held array index elements ≡ found
          → option_map (λ (held : HeldRecord). plan_of disks (find_note array index elements) held.element) found ≡ Some plan → length plan.positions ≤ 64
      by None e is = absurd cc
      by (Some held) e is =
          let same : plan_of disks (find_note array index elements) held.element ≡ plan = cc in
          subst (λ (p : ElementPlan). length p.positions ≤ 64) same
          (plan_few disks (find_note array index elements) held (find_has IsFew (is_element array index) elements held few e))

  array_few : (entry : ArrayEntry) → AreFew (array_in disks elements entry).elements
  unfolding array_in
  array_few entry =
      all_mapped (λ (part : Option ElementPlan). (plan : ElementPlan) → part ≡ Some plan → length plan.positions ≤ 64) (element_in disks elements entry.guid) (range_with_len 0 (count_in elements entry.guid))
      (all_from (λ index. (plan : ElementPlan) → element_in disks elements entry.guid index ≡ Some plan → length plan.positions ≤ 64) (range_with_len 0 (count_in elements entry.guid))
      (λ k index at plan is. element_in_few entry.guid index plan is))

-- each array has elements of few positions
abbrev pub ArraysFew : Configuration → Type 0
ArraysFew config = (place : ℕ) (entry : List ℕ × Array) → slice_get config.arrays place ≡ Some entry → AreFew entry.1.elements

read_arrays : (group : List ℕ) (sequence : ℕ) (views : List View) → Each ViewFew views → ArraysFew (read group sequence views)
unfolding read
read_arrays group sequence views few place entry at =
    let from = in_map (λ (one : ArrayEntry). (one.guid, array_in (disks_in views) (elements_in views) one)) (arrays_in views) place entry at in
    subst (λ (pair : List ℕ × Array). AreFew pair.1.elements) from.2 (array_few (disks_in views) (elements_in views) (elements_few views few) from.0)

leaders_few : (group : List ℕ) (views : List View) → Each ViewFew views → ArraysFew (read_leaders group views)
leaders_few group [] few = read_arrays group 0 [] few
leaders_few group (view ∷ views) few = read_arrays group view.sequence (view ∷ views) few

-- What leaders give that slots show.
pub given_few : (group : List ℕ) (sizes : List ℕ) (image : Image) (readable : ℕ → Bool) (sequence slots : ℕ) (config : Configuration)
    → read_leaders group (leading_copies (groups group) sequence (seen readable (scene_of sizes image)) slots) ≡ config → ArraysFew config
given_few group sizes image readable sequence slots config is =
    subst ArraysFew is
    (leaders_few group (leading_copies (groups group) sequence (seen readable (scene_of sizes image)) slots)
    (each_leading (groups group) (seen readable (scene_of sizes image)) sequence ViewFew (λ slot view there stands same. by slot view (readable slot) there) slots))
  where
    by : (slot : ℕ) (view : View) (b : Bool) → IsCopyOf (if b then scene_of sizes image slot else Nothing) view → ViewFew view
    by slot view true there = shown_few sizes image slot view there
    by slot view false there = absurd there

-- ---- an array that is looked up

pub looked_few : (config : Configuration) (test : List ℕ → Bool) (array : Array) → ArraysFew config → lookup test config.arrays ≡ Some array → AreFew array.elements
looked_few config test array few found = go config.arrays found few
  where
    go : (entries : List (List ℕ × Array)) → lookup test entries ≡ Some array → ((place : ℕ) (entry : List ℕ × Array) → slice_get entries place ≡ Some entry → AreFew entry.1.elements) → AreFew array.elements
    go [] found few = absurd cc
    go (entry ∷ entries) found few = by (test entry.0) found (λ rest. go entries rest (λ place. few (suc place)))
      where
        by : (b : Bool) → (if b then Some entry.1 else lookup test entries) ≡ Some array → (lookup test entries ≡ Some array → AreFew array.elements) → AreFew array.elements
        by true is later = let same : entry.1 ≡ array = cc in subst (λ (a : Array). AreFew a.elements) same (few 0 entry refl)
        by false is later = later is
