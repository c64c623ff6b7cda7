-- What the copy tells that two groups' leaders have in common.
use Rattle.std.proofs.Common.{◌≡◌, ◌∙◌, ◌++◌, ℕ, ◌+◌, Bool, true, false, ◌||◌, cond, List, [], ◌∷◌, length, map, filter, filter_map, Option, Some, None, is_some, option_map, refl, sym, ap, append-nil}
use Rattle.std.proofs.lemmas.Bool.{false≢true}
use Rattle.std.proofs.lemmas.List.{length-append, length-map, map-append}
use Rattle.std.specs.Map.{lookup}
use Rattle.std.specs.List.{AllByRecursion, cons_option}
use Rattle.std.specs.Option.{option_map_or, option_or}
use Rattle.std.proofs.lemmas.List.Elements.{filter-append, filter_map-append}
use Rattle.ddf_lemmas.proofs.Lists.{all_append}
use Rattle.ddf_tables.specs.declared.arrays.ArrayEntry.{ArrayEntry}
use Rattle.ddf_tables.specs.declared.arrays.ArrayRow.{ArrayRow}
use Rattle.ddf_tables.specs.declared.arrays.ArrayRow.TheVariants as array_rows
use Rattle.ddf_tables.specs.declared.disks.DiskEntry.{DiskEntry}
use Rattle.ddf_tables.specs.declared.disks.DiskRow.{DiskRow}
use Rattle.ddf_tables.specs.declared.disks.DiskRow.TheVariants as disk_rows
use Rattle.ddf_config_records.specs.ElementValue.{ElementValue}
use Rattle.ddf_config_records.specs.declared.notes.Notes.{Notes}
use Rattle.ddf_config_records.specs.declared.slot.RecordSlot.{RecordSlot}
use Rattle.ddf_config_records.specs.declared.slot.RecordSlot.TheVariants as slots
use Rattle.ddf_config_records.specs.Slots.{valid_notes, valid_of}
use Rattle.ddf_config.specs.declared.array.Array.{Array}
use Rattle.ddf_config.specs.Configuration.{Configuration}
use Rattle.ddf_config.specs.Members.{same_guid}
use Rattle.ddf_copy.specs.declared.copy.DiskCopy.{DiskCopy}
use Rattle.ddf_view.specs.Reading.{disks_in, elements_in}
use Rattle.ddf_view.specs.View.{HeldRecord, View, array_of, disk_of, element_of, elements_of, held_from, note_at, notes_of, view_of}
use Rattle.ddf_rewrite.specs.Before.{Before, before}
use Rattle.ddf_seats.specs.declared.seated.Seated.{Seated}
use Rattle.ddf_joining.specs.Joining.{by_itself, guids_in, is_of_listed}
use Rattle.ddf_seats.specs.Seated.{views_in}
use Rattle.ddf_joining.specs.Telling.{SideValue, Tells, array_rows_told, disk_rows_told, is_told, named_array, sides_told, slots_told, used_row}

-- The used rows are those of the disks.
pub rows_used : (rows : List DiskRow) → filter_map used_row rows ≡ map disk_rows.Entry (filter_map disk_of rows)
rows_used [] = refl
rows_used (disk_rows.Entry entry ∷ rows) = ap (λ (l : List DiskRow). disk_rows.Entry entry ∷ l) (rows_used rows)
rows_used (disk_rows.Unused whole ∷ rows) = rows_used rows

-- Those of the first view of disks are those that they tell.
pub rows_are : (rows : List DiskRow) (views : List View) (disks : List Seated) → filter_map disk_of rows ≡ disks_in views → views ≡ views_in disks → filter_map used_row rows ≡ disk_rows_told disks
rows_are rows views disks same are =
    rows_used rows ∙ ap (λ (entries : List DiskEntry). map disk_rows.Entry entries) (same ∙ ap (λ (some : List View). disks_in some) are)

-- ---- its tables

entries_in : (entries : List DiskEntry) → filter_map disk_of (map disk_rows.Entry entries) ≡ entries
entries_in [] = refl
entries_in (entry ∷ entries) = ap (λ (l : List DiskEntry). entry ∷ l) (entries_in entries)

guids_named : (guids : List (List ℕ)) → map (λ (entry : ArrayEntry). entry.guid) (filter_map array_of (map (λ (guid : List ℕ). array_rows.Entry (named_array guid)) guids)) ≡ guids
guids_named [] = refl
guids_named (guid ∷ guids) = ap (λ (l : List (List ℕ)). guid ∷ l) (guids_named guids)

-- ---- its records

-- a record of a slot by itself
abbrev alone : RecordSlot → Option HeldRecord
alone slot = option_map (λ element. record { element = element; note = None }) (element_of slot)

held_alone : (n : ℕ) (slots : List RecordSlot) → held_from None n slots ≡ filter_map alone slots
held_alone n [] = refl
held_alone n (slot ∷ slots) = by (element_of slot) (held_alone (n + 1) slots)
  where
    by : (found : Option ElementValue) → held_from None (n + 1) slots ≡ filter_map alone slots
        → cons_option (option_map (λ element. record { element = element; note = None }) found) (held_from None (n + 1) slots) ≡ cons_option (option_map (λ element. record { element = element; note = None }) found) (filter_map alone slots)
    by None rest = rest
    by (Some element) rest = ap (λ (l : List HeldRecord). record { element = element; note = None } ∷ l) rest

told_alone : (config : Configuration) (notes : Option Notes) (n : ℕ) (slots : List RecordSlot) → filter_map alone (filter (is_told config) slots) ≡ map by_itself (filter (is_of_listed config) (held_from notes n slots))
told_alone config notes n [] = refl
told_alone config notes n (slot ∷ slots) = by slot (told_alone config notes (n + 1) slots)
  where
    kept : (element : ElementValue) (b : Bool) → alone slot ≡ Some (record { element = element; note = None }) → filter_map alone (filter (is_told config) slots) ≡ map by_itself (filter (is_of_listed config) (held_from notes (n + 1) slots))
        → filter_map alone (cond b (slot ∷ filter (is_told config) slots) (filter (is_told config) slots))
        ≡ map by_itself (cond b (record { element = element; note = note_at notes n } ∷ filter (is_of_listed config) (held_from notes (n + 1) slots)) (filter (is_of_listed config) (held_from notes (n + 1) slots)))
    kept element true is rest = ap (λ (o : Option HeldRecord). cons_option o (filter_map alone (filter (is_told config) slots))) is ∙ ap (λ (l : List HeldRecord). record { element = element; note = None } ∷ l) rest
    kept element false is rest = rest

    by : (one : RecordSlot) → filter_map alone (filter (is_told config) slots) ≡ map by_itself (filter (is_of_listed config) (held_from notes (n + 1) slots))
        → filter_map alone (filter (is_told config) (slot ∷ slots)) ≡ map by_itself (filter (is_of_listed config) (held_from notes n (slot ∷ slots)))
    by one rest = from (element_of slot) refl rest
      where
        from : (found : Option ElementValue) → element_of slot ≡ found → filter_map alone (filter (is_told config) slots) ≡ map by_itself (filter (is_of_listed config) (held_from notes (n + 1) slots))
            → filter_map alone (cond (option_map_or (λ element. is_some (lookup (same_guid element.array) config.arrays)) found false) (slot ∷ filter (is_told config) slots) (filter (is_told config) slots))
            ≡ map by_itself (filter (is_of_listed config) (cons_option (option_map (λ element. record { element = element; note = note_at notes n }) found) (held_from notes (n + 1) slots)))
        from None e rest = rest
        from (Some element) e rest = kept element (is_some (lookup (same_guid element.array) config.arrays)) (ap (option_map (λ element. record { element = element; note = None })) e) rest

-- The records of the disks of a group that are told.
slots_alone : (config : Configuration) (disks : List Seated) → filter_map alone (slots_told config disks) ≡ map by_itself (filter (is_of_listed config) (elements_in (views_in disks)))
unfolding view_of
slots_alone config [] = refl
slots_alone config (disk ∷ disks) =
    filter_map-append alone (filter (is_told config) disk.copy.slots) (slots_told config disks)
    ∙ ap (λ (l : List HeldRecord). l ++ filter_map alone (slots_told config disks)) (told_alone config (notes_of disk.copy) 0 disk.copy.slots)
    ∙ ap (λ (l : List HeldRecord). map by_itself (filter (is_of_listed config) (elements_of disk.copy)) ++ l) (slots_alone config disks)
    ∙ sym (map-append by_itself (filter (is_of_listed config) (elements_of disk.copy)) (filter (is_of_listed config) (elements_in (views_in disks))))
    ∙ ap (map by_itself) (sym (filter-append (is_of_listed config) (elements_of disk.copy) (elements_in (views_in disks))))

-- ---- no notes

-- A slot that holds an element holds no notes.
not_noted : (group : List ℕ) (sequence : ℕ) (slot : RecordSlot) → is_some (element_of slot) ≡ true → valid_of group sequence slot ≡ None
not_noted group sequence (slots.Element element) h = refl
not_noted group sequence (slots.Copied element) h = refl
not_noted group sequence (slots.Spare spare) h = absurd (false≢true h)
not_noted group sequence (slots.Notes notes) h = absurd (false≢true h)
not_noted group sequence (slots.Vendor guid rest) h = absurd (false≢true h)
not_noted group sequence (slots.Unread fault bytes) h = absurd (false≢true h)
not_noted group sequence (slots.Unused bytes) h = absurd (false≢true h)

told_holds : (config : Configuration) (slot : RecordSlot) → is_told config slot ≡ true → is_some (element_of slot) ≡ true
told_holds config slot h = by (element_of slot) h
  where
    by : (found : Option ElementValue) → option_map_or (λ element. is_some (lookup (same_guid element.array) config.arrays)) found false ≡ true → is_some found ≡ true
    by None h = absurd (false≢true h)
    by (Some element) h = refl

abbrev DoHold : List RecordSlot → Type 0
DoHold slots = AllByRecursion (λ slot. is_some (element_of slot) ≡ true) slots

told_hold : (config : Configuration) (slots : List RecordSlot) → DoHold (filter (is_told config) slots)
told_hold config [] = tt
told_hold config (slot ∷ slots) = by (is_told config slot) refl (told_hold config slots)
  where
    by : (b : Bool) → is_told config slot ≡ b → DoHold (filter (is_told config) slots) → DoHold (cond b (slot ∷ filter (is_told config) slots) (filter (is_told config) slots))
    by true e rest = (told_holds config slot e, rest)
    by false e rest = rest

all_told_hold : (config : Configuration) (disks : List Seated) → DoHold (slots_told config disks)
all_told_hold config [] = tt
all_told_hold config (disk ∷ disks) = all_append (λ slot. is_some (element_of slot) ≡ true) (filter (is_told config) disk.copy.slots) (slots_told config disks) (told_hold config disk.copy.slots) (all_told_hold config disks)

none_valid : (group : List ℕ) (sequence : ℕ) (slots : List RecordSlot) → DoHold slots → valid_notes group sequence slots ≡ None
none_valid group sequence [] all = refl
none_valid group sequence (slot ∷ slots) all = ap (λ (o : Option Notes). option_or o (valid_notes group sequence slots)) (not_noted group sequence slot all.0) ∙ none_valid group sequence slots all.1

-- ---- the copy

-- What a copy tells by itself, where no slot of it holds notes.
alone_before : (copy : DiskCopy) → valid_notes copy.header.guid copy.header.sequence copy.slots ≡ None
    → before (view_of copy ∷ []) ≡ record { disks = filter_map disk_of copy.disks.rows; arrays = map (λ entry. entry.guid) (filter_map array_of copy.arrays.rows); elements = filter_map alone copy.slots; noted = false }
unfolding view_of
alone_before copy none =
    ap (λ (notes : Option Notes). record {
      disks = filter_map disk_of copy.disks.rows;
      arrays = map (λ (entry : ArrayEntry). entry.guid) (filter_map array_of copy.arrays.rows);
      elements = held_from notes 0 copy.slots ++ [];
      noted = is_some notes || false;
    }) none
    ∙ ap (λ (elements : List HeldRecord). record {
      disks = filter_map disk_of copy.disks.rows;
      arrays = map (λ (entry : ArrayEntry). entry.guid) (filter_map array_of copy.arrays.rows);
      elements = elements;
      noted = false;
    }) (append-nil (held_from None 0 copy.slots) ∙ held_alone 0 copy.slots)

abbrev as_before : List DiskEntry → List (List ℕ) → List HeldRecord → Before
as_before disks arrays elements = record { disks = disks; arrays = arrays; elements = elements; noted = false }

-- The copy tells what both record.
pub tells_both : (native other : SideValue) (copy : DiskCopy)
    → Tells (disk_rows_told native.leaders ++ disk_rows_told other.leaders) (array_rows_told native.config ++ array_rows_told other.config) (slots_told native.config native.leaders ++ slots_told other.config other.leaders) copy
    → before (view_of copy ∷ []) ≡ sides_told native other
tells_both native other copy is =
    let own = slots_told native.config native.leaders in
    let its = slots_told other.config other.leaders in
    let entries = (before (views_in native.leaders)).disks in
    let others = (before (views_in other.leaders)).disks in
    let row = λ (guid : List ℕ). array_rows.Entry (named_array guid) in
    let none = ap (valid_notes copy.header.guid copy.header.sequence) is.records ∙ none_valid copy.header.guid copy.header.sequence (own ++ its)
    (all_append (λ slot. is_some (element_of slot) ≡ true) own its (all_told_hold native.config native.leaders) (all_told_hold other.config other.leaders)) in
    let disks : filter_map disk_of copy.disks.rows ≡ entries ++ others =
    ap (filter_map disk_of) (is.disks ∙ sym (map-append disk_rows.Entry entries others)) ∙ entries_in (entries ++ others) in
    let arrays : map (λ (entry : ArrayEntry). entry.guid) (filter_map array_of copy.arrays.rows) ≡ guids_in native.config ++ guids_in other.config =
    ap (λ (rows : List ArrayRow). map (λ (entry : ArrayEntry). entry.guid) (filter_map array_of rows)) (is.listed ∙ sym (map-append row (guids_in native.config) (guids_in other.config)))
    ∙ guids_named (guids_in native.config ++ guids_in other.config) in
    let elements : filter_map alone copy.slots
    ≡ map by_itself (filter (is_of_listed native.config) (elements_in (views_in native.leaders))) ++ map by_itself (filter (is_of_listed other.config) (elements_in (views_in other.leaders))) =
    ap (filter_map alone) is.records ∙ filter_map-append alone own its
    ∙ ap (λ (l : List HeldRecord). l ++ filter_map alone its) (slots_alone native.config native.leaders)
    ∙ ap (λ (l : List HeldRecord). map by_itself (filter (is_of_listed native.config) (elements_in (views_in native.leaders))) ++ l) (slots_alone other.config other.leaders) in
    alone_before copy none
    ∙ ap (λ (l : List DiskEntry). as_before l (map (λ (entry : ArrayEntry). entry.guid) (filter_map array_of copy.arrays.rows)) (filter_map alone copy.slots)) disks
    ∙ ap (λ (l : List (List ℕ)). as_before (entries ++ others) l (filter_map alone copy.slots)) arrays
    ∙ ap (λ (l : List HeldRecord). as_before (entries ++ others) (guids_in native.config ++ guids_in other.config) l) elements

-- ---- how many rows it has

pub rows_counted : (disks others : List Seated) → length (disk_rows_told disks ++ disk_rows_told others) ≡ length (before (views_in disks)).disks + length (before (views_in others)).disks
rows_counted disks others =
    length-append (disk_rows_told disks) (disk_rows_told others)
    ∙ ap (λ (n : ℕ). n + length (disk_rows_told others)) (length-map (before (views_in disks)).disks disk_rows.Entry)
    ∙ ap (λ (n : ℕ). length (before (views_in disks)).disks + n) (length-map (before (views_in others)).disks disk_rows.Entry)

named_counted : (config : Configuration) → length (array_rows_told config) ≡ length config.arrays
named_counted config = length-map (guids_in config) (λ (guid : List ℕ). array_rows.Entry (named_array guid)) ∙ length-map config.arrays (λ (entry : List ℕ × Array). entry.0)

pub arrays_counted : (config other : Configuration) → length (array_rows_told config ++ array_rows_told other) ≡ length config.arrays + length other.arrays
arrays_counted config other =
    length-append (array_rows_told config) (array_rows_told other)
    ∙ ap (λ (n : ℕ). n + length (array_rows_told other)) (named_counted config)
    ∙ ap (λ (n : ℕ). length config.arrays + n) (named_counted other)
