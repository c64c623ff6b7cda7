-- A plain copy has room for what a configuration gives it that has as much as a new disk's tables have room for.
use Rattle.std.proofs.Common.{◌≡◌, if◌then◌else◌, ℕ, suc, ◌+◌, ◌≤◌, ◌==◌, Bool, true, false, not, ◌||◌, ltb, nat_eq, List, [], ◌∷◌, ◌++◌, length, map, filter, fold, Option, Some, None, refl, ap, sym, ◌∙◌, arith}
use Rattle.std.proofs.lemmas.Bool.{eq-eqb, le-ltb}
use Rattle.std.proofs.lemmas.List.{length-append, length-map}
use Rattle.std.proofs.Math.Path.{fun_ext}
use Rattle.std.specs.Prelude.{filter_map, slice_index}
use Rattle.std.specs.List.{AllByRecursion, cons_option, list_all, list_any}
use Rattle.std.specs.Map.{lookup}
use Rattle.std.specs.Str.{bytes_eq}
use Rattle.ddf_bytes.specs.Choices.{first_of, when}
use Rattle.ddf_header.specs.declared.geometry.Geometry.{Geometry}
use Rattle.ddf_config_records.specs.declared.slot.RecordSlot.{RecordSlot}
use Rattle.ddf_config_records.specs.Elements.{record_size}
use Rattle.ddf_config_records.specs.NoteRecords.{note_place}
use Rattle.ddf_config_records.specs.Building.{spare_entries}
use Rattle.ddf_copy.specs.declared.copy.DiskCopy.{DiskCopy}
use Rattle.ddf_config.specs.declared.member.Member.{Member}
use Rattle.ddf_config.specs.declared.member.SpareUse.{SpareUse}
use Rattle.ddf_config.specs.declared.member.SpareUse.TheVariants as uses
use Rattle.ddf_config.specs.declared.refusal.FullTable.TheVariants as tables
use Rattle.ddf_config.specs.Configuration.{Configuration}
use Rattle.ddf_config.specs.Members.{is_spare}
use Rattle.ddf_rewrite.specs.declared.item.Item.{Item}
use Rattle.ddf_rewrite.specs.declared.item.Item.TheVariants as items
use Rattle.ddf_rewrite.specs.Before.{Before}
use Rattle.ddf_rewrite.specs.Copies.{changed_holding, changed_holdings, element_item, items_of, one_if, slotted_on}
use Rattle.ddf_rewrite.specs.Elements.{contains, has_places, is_spare_for, spares_after}
use Rattle.ddf_rewrite.specs.Notes.{Holding}
use Rattle.ddf_rewrite.specs.Placement.{free_slots, is_others, slot_of, slotted_items, stays_in, take_one, take_slots}
use Rattle.ddf_rewrite.specs.Room.{full_after_change, lacks_entries, lacks_notes, lacks_places, lacks_slots, spares_before}
use Rattle.ddf_rewrite.specs.Spares.{arrays_of_spare, spare_use}
use Rattle.ddf_rewrite.specs.Wanted.{Wanted, all_wanted}
use Rattle.ddf_update.specs.declared.new_layout.NewLayout.TheVariants.{Small}
use Rattle.ddf_update.specs.NewCopies.{new_geometry}
use Rattle.ddf_seats.specs.declared.seated.Seated.{Seated}
use Rattle.ddf_steps.specs.Full.{full_of, full_on, full_where_written, least_full, lengths_differ, lesser}
use Rattle.ddf_seats.specs.Changing.{record_length}
use Rattle.ddf_steps.specs.Steps.{stays_in as stays}
use Rattle.ddf_uncut_group.specs.Plain.{ArePlain, HasRoom, IsPlain}
use Rattle.ddf_uncut_group.proofs.PlainFree.{failing, few_stand, free_places, is_taken, one_or_failing}

-- ---- items get slots

-- Items all get slots where enough are free.
all_take : (stands : Item → Option ℕ) (all : List Item) (free : List ℕ) → length all ≤ length (filter_map stands all) + length free → length (take_slots stands all free) ≡ length all
all_take stands [] free enough = refl
all_take stands (item ∷ all) free enough = by (stands item) (λ left fit. all_take stands all left fit) free enough
  where
    by : (place : Option ℕ) → ((left : List ℕ) → length all ≤ length (filter_map stands all) + length left → length (take_slots stands all left) ≡ length all)
        → (left : List ℕ) → suc (length all) ≤ length (cons_option place (filter_map stands all)) + length left → length (take_one item place (take_slots stands all) left) ≡ suc (length all)
    by (Some slot) rest left fit = ap suc (rest left (omega (arith, fit)))
    by None rest [] fit = let few = few_stand stands all in absurd (omega (arith, fit, few))
    by None rest (slot ∷ left) fit = ap suc (rest left (omega (arith, fit)))

-- Of slots that are this engine's enough are free.
pub all_slotted : (group : List ℕ) (sequence : ℕ) (own : List RecordSlot) (all : List Item) → AllByRecursion (λ slot. is_others slot ≡ false) own → length all ≤ length own
    → length (slotted_items group sequence own all) ≡ length all
unfolding slotted_items
all_slotted group sequence own all are fit =
    let stands : Item → Option ℕ = slot_of group sequence own in
    let taken = filter_map stands all in
    let free = free_places is_others (stays_in group sequence own all) 0 own are in
    let same : failing (stays_in group sequence own all) 0 (length own) ≡ failing (λ number. list_any (λ one. one == number) taken) 0 (length own) =
    ap (λ (test : ℕ → Bool). failing test 0 (length own)) (fun_ext (λ number. is_taken stands all number)) in
    let enough = one_or_failing taken 0 (length own) in
    let many : length (free_slots group sequence own all) ≡ failing (stays_in group sequence own all) 0 (length own) = free in
    all_take stands all (free_slots group sequence own all) (omega (arith, fit, enough, same, many))

-- ---- what a disk is to hold

-- at most one item is the notes, and at most one a spare record
few_if : {X : Type 0} (yes : Bool) (x : X) → length (one_if yes x) ≤ 1
few_if true x = omega arith
few_if false x = omega arith

few_items : (use_as : SpareUse) (holdings : List Holding) → length (items_of true use_as holdings) ≤ 2 + length holdings
few_items use_as holdings =
    let spares = one_if (is_spare use_as) items.Spare in
    let long = length-append (one_if true items.Notes ++ spares) (map element_item holdings) in
    let front = length-append (one_if true items.Notes) spares in
    let few = few_if (is_spare use_as) items.Spare in
    let elements = length-map holdings element_item in
    omega (arith, long, front, few, elements)

-- ---- spares

-- A spare for no arrays alone is none of an array's.
spare_for_none : (array : List ℕ) (use_as : SpareUse) → arrays_of_spare use_as ≡ [] → is_spare_for array use_as ≡ false
spare_for_none array uses.No none = refl
spare_for_none array uses.Global none = refl
spare_for_none array uses.Revertible none = refl
spare_for_none array (uses.Dedicated arrays) none = ap (λ (all : List (List ℕ)). list_any (bytes_eq array) all) none

-- So no array has one.
no_spares : (array : List ℕ) (members : List (ℕ × Member)) → AllByRecursion (λ entry. arrays_of_spare entry.1.spare ≡ []) members
    → map (λ entry. entry.0) (filter (λ entry. is_spare_for array entry.1.spare) members) ≡ []
no_spares array [] none = refl
no_spares array (entry ∷ members) none =
    let first = spare_for_none array entry.1.spare none.0 in
    rw first (no_spares array members none.1)

-- No disk is a spare of some arrays.
spare_of_none : (reference : ℕ) (members : List (ℕ × Member)) → AllByRecursion (λ entry. arrays_of_spare entry.1.spare ≡ []) members
    → arrays_of_spare (elim (lookup (nat_eq reference) members) [ None ↦ uses.No | Some member ↦ member.spare ]) ≡ []
spare_of_none reference [] none = refl
spare_of_none reference (entry ∷ members) none = by (nat_eq reference entry.0) (lookup (nat_eq reference) members) (spare_of_none reference members none.1)
  where
    by : (here : Bool) (later : Option Member) → arrays_of_spare (elim later [ None ↦ uses.No | Some member ↦ member.spare ]) ≡ []
        → arrays_of_spare (elim (if here then Some entry.1 else later) [ None ↦ uses.No | Some member ↦ member.spare ]) ≡ []
    by true later rest = none.0
    by false later rest = rest

-- Without spares there is place for all.
all_places : (leaders : Before) (config : Configuration) → AllByRecursion (λ entry. arrays_of_spare entry.1.spare ≡ []) config.members → (wanted : List Wanted)
    → list_all (λ one. has_places config one.guid (spares_before leaders one)) wanted ≡ true
all_places leaders config none [] = refl
all_places leaders config none (one ∷ wanted) =
    let no_one = no_spares one.guid config.members none in
    let here : has_places config one.guid (spares_before leaders one) ≡ true =
    ap (λ (spares : List ℕ). list_all (contains (spares_after config one.guid (spares_before leaders one))) spares) no_one in
    let rest = all_places leaders config none wanted in
    rw (here, rest) refl

-- ---- room

none_full : (a b c d e : Bool) → a ≡ false → b ≡ false → c ≡ false → d ≡ false → e ≡ false
    → first_of (when a tables.Disks ∷ when b tables.Arrays ∷ when c tables.Records ∷ when d tables.Notes ∷ when e tables.Spares ∷ []) ≡ None
none_full a b c d e p q r s t = rw (p, q, r, s, t) refl

module _ (size : ℕ) (old : DiskCopy) (is : IsPlain size old) (config : Configuration) (room : HasRoom config) where
  enough_slots : (leaders : Before) (timestamp : ℕ) → lacks_slots old true config (changed_holdings old leaders config timestamp) ≡ false
  unfolding changed_holdings
  enough_slots leaders timestamp =
      let holdings : List Holding = map (changed_holding old leaders config timestamp) (all_wanted config) in
      let all = items_of true (spare_use config old.disk_data.reference) holdings in
      let few = few_items (spare_use config old.disk_data.reference) holdings in
      let held : length holdings ≡ length (all_wanted config) = length-map (all_wanted config) (changed_holding old leaders config timestamp) in
      let wanted = room.elements in
      let counted = is.counted in
      let slotted = all_slotted old.header.guid old.header.sequence old.slots all is.own (omega (arith, few, held, wanted, counted)) in
      le-ltb (length (slotted_on old true config holdings)) (length all) (omega (arith, slotted))

  enough_entries : lacks_entries old config ≡ false
  enough_entries =
      let none = spare_of_none old.disk_data.reference config.members room.none_dedicated in
      le-ltb (spare_entries old.header.geometry) (length (arrays_of_spare (spare_use config old.disk_data.reference))) (rw none (omega arith))

  enough_notes : lacks_notes old true ≡ false
  enough_notes =
      ap (λ (geometry : Geometry). ltb (record_size geometry) (note_place geometry.max_members (length old.slots))) is.same_geometry
      ∙ ap (λ (count : ℕ). ltb (record_size (new_geometry Small size)) (note_place 16 count)) is.counted

  enough_places : (leaders : Before) → lacks_places leaders config ≡ false
  enough_places leaders = ap not (all_places leaders config room.none_dedicated (all_wanted config))

  -- No table of a plain copy is full.
  pub plain_room : (leaders : Before) (timestamp : ℕ) → full_after_change old leaders config timestamp ≡ None
  unfolding full_after_change
  plain_room leaders timestamp =
      let holdings = changed_holdings old leaders config timestamp in
      none_full (ltb old.header.geometry.max_disks (length config.members)) (ltb old.header.geometry.max_arrays (length config.arrays))
      (lacks_slots old true config holdings || lacks_entries old config) (lacks_notes old true) (lacks_places leaders config)
      (ap (λ (geometry : Geometry). ltb geometry.max_disks (length config.members)) is.same_geometry ∙ le-ltb 15 (length config.members) room.members)
      (ap (λ (geometry : Geometry). ltb geometry.max_arrays (length config.arrays)) is.same_geometry ∙ le-ltb 15 (length config.arrays) room.arrays)
      (rw (enough_slots leaders timestamp, enough_entries) refl) enough_notes (enough_places leaders)

-- ---- all disks

module _ (sizes : List ℕ) where
  -- The records of plain disks are two sectors long.
  two_sectors : (disk : Seated) → IsPlain (slice_index sizes disk.seat.slot) disk.copy → record_length disk ≡ 2
  two_sectors disk is = ap (λ (geometry : Geometry). geometry.record_length) is.same_geometry

  all_two : (first : Seated) → record_length first ≡ 2 → (disks : List Seated) → ArePlain sizes disks → list_all (λ other. record_length other == record_length first) disks ≡ true
  all_two first two [] are = refl
  all_two first two (disk ∷ disks) are =
      let here = eq-eqb (record_length disk) (record_length first) (two_sectors disk are.0 ∙ sym two) in
      let rest = all_two first two disks are.1 in
      rw (here, rest) refl

  same_lengths : (disks : List Seated) → ArePlain sizes disks → lengths_differ disks ≡ false
  same_lengths [] are = refl
  same_lengths (disk ∷ disks) are = ap not (all_two disk (two_sectors disk are.0) disks are.1)

  module _ (leaders : Before) (config : Configuration) (room : HasRoom config) (timestamp : ℕ) where
    none_written : (disk : Seated) → IsPlain (slice_index sizes disk.seat.slot) disk.copy → full_where_written leaders config timestamp disk ≡ None
    none_written disk is = by (stays config disk)
      where
        by : (written : Bool) → (if written then full_on leaders config timestamp disk else None) ≡ None
        by true = plain_room (slice_index sizes disk.seat.slot) disk.copy is config room leaders timestamp
        by false = refl

    none_least : (disks : List Seated) → ArePlain sizes disks → fold (λ least disk. lesser least (full_where_written leaders config timestamp disk)) None disks ≡ None
    none_least [] are = refl
    none_least (disk ∷ disks) are =
        let here = none_written disk are.0 in
        rw here (none_least disks are.1)

    -- No table of plain disks is full.
    pub plain_full : (disks : List Seated) → ArePlain sizes disks → full_of timestamp leaders config disks ≡ None
    unfolding full_of least_full
    plain_full disks are =
        let same = same_lengths disks are in
        rw same (none_least disks are)
