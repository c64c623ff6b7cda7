-- The notes and the spare record of a recovered copy say what the leaders give.
use Rattle.std.proofs.Common.{◌≡◌, ◌⊎◌, ℕ, Bool, true, false, cond, List, [], ◌∷◌, map, Option, Some, None, refl, ap, sym, ◌∙◌, inl, inr, ⊎_elim, subst, eqb}
use Rattle.std.proofs.lemmas.Bool.{and_parts, eqb-true, false≢true}
use Rattle.std.specs.Prelude.{filter, nat_eq, option_map}
use Rattle.std.specs.Option.{option_map_or, option_or}
use Rattle.std.specs.List.{enumerate_from, list_any}
use Rattle.std.specs.Map.{lookup}
use Rattle.std.specs.Str.{bytes_eq}
use Rattle.ddf_header.specs.declared.geometry.Geometry.{Geometry}
use Rattle.ddf_tables.specs.declared.disks.DiskEntry.{DiskEntry}
use Rattle.ddf_tables.specs.declared.arrays.ArrayEntry.{ArrayEntry}
use Rattle.ddf_config_records.specs.declared.notes.Notes.{Notes}
use Rattle.ddf_config_records.specs.declared.spare.SpareRecord.{SpareRecord}
use Rattle.ddf_config_records.specs.declared.slot.RecordSlot.{RecordSlot}
use Rattle.ddf_config_records.specs.declared.slot.RecordSlot.TheVariants as slots
use Rattle.ddf_config.specs.Configuration.{Configuration}
use Rattle.ddf_config.specs.declared.member.Member.{Member}
use Rattle.ddf_config.specs.declared.member.SpareUse.{SpareUse}
use Rattle.ddf_config.specs.declared.member.SpareUse.TheVariants as uses
use Rattle.ddf_copy.specs.declared.copy.DiskCopy.{DiskCopy}
use Rattle.ddf_view.specs.Reading.{are_noted, arrays_in, dedicated_or_not, disks_in, is_dedicated, member_entry_in, names_array, read, spare_in}
use Rattle.ddf_view.specs.View.{View, first_spare, has_bit, spare_of, view_of}
use Rattle.ddf_view.proofs.Tests.{same_bytes}
use Rattle.ddf_rewrite.specs.declared.item.Item.{Item}
use Rattle.ddf_rewrite.specs.declared.item.Item.TheVariants as items
use Rattle.ddf_rewrite.specs.declared.item.Slotted.{Slotted}
use Rattle.ddf_rewrite.specs.Before.{before}
use Rattle.ddf_rewrite.specs.Copies.{element_slot, left_slot, record_of, recovered_copy, recovered_holdings, slot_after, slots_after, spare_on, unused_slot}
use Rattle.ddf_rewrite.specs.Disks.{recovered_disks}
use Rattle.ddf_rewrite.specs.Hold.{CanBeRecovered}
use Rattle.ddf_rewrite.specs.Notes.{Holding, find_holding}
use Rattle.ddf_rewrite.specs.Placement.{item_at}
use Rattle.ddf_rewrite.specs.Spares.{arrays_of_spare, spare_after, spare_use}
use Rattle.ddf_rewrite.proofs.Led.{led_apart}
use Rattle.ddf_rewrite.proofs.Made.{made_noted}

-- There are valid notes where a leader has some.
pub recovered_noted : (old : DiskCopy) (group : List ℕ) (sequence : ℕ) (views : List View) (timestamp : ℕ) (can : CanBeRecovered old (before views) (read group sequence views) timestamp)
    → (view_of (recovered_copy old (before views) (read group sequence views) timestamp)).noted ≡ are_noted views
unfolding recovered_copy recovered_holdings
recovered_noted old group sequence views timestamp can =
    let config = read group sequence views in
    made_noted old (before views).noted config timestamp (recovered_disks (disks_in views) (view_of old).disks) (recovered_holdings old (before views) config) (led_apart old (before views) config can.names) can.records_fit

-- ---- the spare record

-- there is none, or it is this one
abbrev IsNoneOr : {X : Type 0} → X → Option X → Type 0
IsNoneOr x o = (o ≡ None) ⊎ (o ≡ Some x)

-- of two of which each is none or this one, so is the first that is there
none_or_first : {X : Type 0} (x : X) (o p : Option X) → IsNoneOr x o → IsNoneOr x p → IsNoneOr x (option_or o p)
none_or_first x o p (inl none) rest = subst (λ (o : Option _). IsNoneOr x (option_or o p)) (sym none) rest
none_or_first x o p (inr some) rest = inr (ap (λ (o : Option _). option_or o p) some)

module _ (geometry : Geometry) (holdings : List Holding) (notes : Notes) (spare : SpareRecord) where
  -- A slot where nothing is placed is no spare record's.
  left_none : (slot : RecordSlot) → spare_of (left_slot geometry slot) ≡ None
  left_none (slots.Unused kept) = refl
  left_none (slots.Vendor guid rest) = refl
  left_none (slots.Unread fault kept) = refl
  left_none (slots.Element element) = refl
  left_none (slots.Copied element) = refl
  left_none (slots.Spare own) = refl
  left_none (slots.Notes own) = refl

  -- That of an element isn't either.
  element_none : (o : Option Holding) → spare_of (option_map_or element_slot o (unused_slot geometry)) ≡ None
  element_none None = refl
  element_none (Some holding) = go holding.copied refl
    where
      go : (b : Bool) → holding.copied ≡ b → spare_of (element_slot holding) ≡ None
      go true e = ap (λ (b : Bool). spare_of (cond b (slots.Copied holding.element) (slots.Element holding.element))) e
      go false e = ap (λ (b : Bool). spare_of (cond b (slots.Copied holding.element) (slots.Element holding.element))) e

  -- The record of an item is no spare record, or this one.
  item_spare : (item : Item) → IsNoneOr spare (spare_of (record_of geometry holdings notes spare item))
  item_spare items.Notes = inl refl
  item_spare items.Spare = inr refl
  item_spare (items.Element array index) = inl (element_none (find_holding array index holdings))

  -- So is each slot's.
  slot_spare : (placed : List Slotted) (pair : ℕ × RecordSlot) → IsNoneOr spare (spare_of (slot_after geometry holdings notes spare placed pair))
  slot_spare placed pair = go (item_at placed pair.0)
    where
      go : (o : Option Item) → IsNoneOr spare (spare_of (option_map_or (record_of geometry holdings notes spare) o (left_slot geometry pair.1)))
      go None = inl (left_none pair.1)
      go (Some item) = item_spare item

  -- So is the first of all.
  first_is : (placed : List Slotted) (pairs : List (ℕ × RecordSlot)) → IsNoneOr spare (first_spare (map (slot_after geometry holdings notes spare placed) pairs))
  first_is placed [] = inl refl
  first_is placed (pair ∷ pairs) = none_or_first spare (spare_of (slot_after geometry holdings notes spare placed pair)) (first_spare (map (slot_after geometry holdings notes spare placed) pairs)) (slot_spare placed pair) (first_is placed pairs)

-- The spare record of a disk names the arrays that it is a spare for.
spare_arrays : (geometry : Geometry) (timestamp : ℕ) (use_as : SpareUse) (own : Option SpareRecord) → (spare_after geometry timestamp use_as own).arrays ≡ arrays_of_spare use_as
unfolding spare_after
spare_arrays geometry timestamp use_as None = refl
spare_arrays geometry timestamp use_as (Some own) = refl

-- A recovered copy names no arrays in a spare record, or those that its disk is a spare for.
recovered_spare : (old : DiskCopy) (views : List View) (config : Configuration) (timestamp : ℕ)
    → IsNoneOr (arrays_of_spare (spare_use config old.disk_data.reference)) (view_of (recovered_copy old (before views) config timestamp)).spare
unfolding recovered_copy slots_after view_of
recovered_spare old views config timestamp = ⊎_elim
    (λ none. inl (ap (option_map (λ (spare : SpareRecord). spare.arrays)) none))
    (λ some. inr (ap (option_map (λ (spare : SpareRecord). spare.arrays)) some ∙ ap (λ (arrays : List (List ℕ)). Some arrays) (spare_arrays old.header.geometry timestamp (spare_use config old.disk_data.reference) (first_spare old.slots))))
    (first_is old.header.geometry (recovered_holdings old (before views) config) _ (spare_on old config timestamp) _ (enumerate_from 0 old.slots))

-- ---- what it names is what the leaders say

-- a name of rows that pass is that of one
names_pass : (test : ArrayEntry → Bool) (guid : List ℕ) (rows : List ArrayEntry) → list_any (bytes_eq guid) (map (λ row. row.guid) (filter test rows)) ≡ true → (row : ArrayEntry) × (test row ≡ true) × (row.guid ≡ guid)
names_pass test guid [] h = absurd (false≢true h)
names_pass test guid (row ∷ rows) h = go (names_pass test guid rows) (test row) refl (bytes_eq guid row.guid) refl h
  where
    Found : Type 0
    Found = (one : ArrayEntry) × (test one ≡ true) × (one.guid ≡ guid)

    go : (list_any (bytes_eq guid) (map (λ one. one.guid) (filter test rows)) ≡ true → Found) → (b : Bool) → test row ≡ b → (c : Bool) → bytes_eq guid row.guid ≡ c → list_any (bytes_eq guid) (map (λ one. one.guid) (filter test (row ∷ rows))) ≡ true → Found
    go later true e true f h = (row, e, sym (same_bytes guid row.guid f))
    go later true e false f h = later (rw (e, f) at h)
    go later false e c f h = later (rw e at h)

-- the arrays of a use that isn't for all
listed_arrays : (names : List (List ℕ)) → arrays_of_spare (dedicated_or_not names) ≡ names
listed_arrays [] = refl
listed_arrays (name ∷ names) = refl

-- A disk that is read to be a spare for an array is dedicated to it.
spare_listed : (views : List View) (disk : DiskEntry) (row : ArrayEntry) → list_any (bytes_eq row.guid) (arrays_of_spare (spare_in views disk)) ≡ true → is_dedicated views disk.reference row ≡ true
unfolding spare_in
spare_listed views disk row h = go (has_bit disk.kind.0 2) refl h
  where
    names : List (List ℕ)
    names = map (λ one. one.guid) (filter (is_dedicated views disk.reference) (arrays_in views))

    -- it is a test of the GUID alone
    test : List ℕ → Bool
    test guid = is_dedicated views disk.reference (record row { guid = guid })

    -- a spare for every array, whichever, is one for no array alone
    none : (third : Bool) → list_any (bytes_eq row.guid) (arrays_of_spare (cond third uses.Revertible uses.Global)) ≡ true → ⊥
    none true h = false≢true h
    none false h = false≢true h

    global : SpareUse
    global = cond (has_bit disk.kind.0 3) uses.Revertible uses.Global

    go : (b : Bool) → has_bit disk.kind.0 2 ≡ b → list_any (bytes_eq row.guid) (arrays_of_spare (cond (has_bit disk.kind.0 2) global (dedicated_or_not names))) ≡ true → is_dedicated views disk.reference row ≡ true
    go true e h = absurd (none (has_bit disk.kind.0 3) (subst (λ (b : Bool). list_any (bytes_eq row.guid) (arrays_of_spare (cond b global (dedicated_or_not names))) ≡ true) e h))
    go false e h =
        let listed = subst (λ (b : Bool). list_any (bytes_eq row.guid) (arrays_of_spare (cond b global (dedicated_or_not names))) ≡ true) e h in
        let found = names_pass (is_dedicated views disk.reference) row.guid (arrays_in views) (subst (λ (list : List (List ℕ)). list_any (bytes_eq row.guid) list ≡ true) (listed_arrays names) listed) in
        ap test (sym found.2) ∙ found.1

-- the use of a member of a reference
abbrev use_of : Option Member → SpareUse
use_of o = elim o [ None ↦ uses.No | Some member ↦ member.spare ]

-- A disk whose member is a spare for an array is dedicated to it.
member_listed : (views : List View) (reference : ℕ) (row : ArrayEntry) (disks : List DiskEntry) → list_any (bytes_eq row.guid) (arrays_of_spare (use_of (lookup (nat_eq reference) (map (member_entry_in views) disks)))) ≡ true
    → is_dedicated views reference row ≡ true
member_listed views reference row [] h = absurd (false≢true h)
member_listed views reference row (disk ∷ disks) h = go (member_listed views reference row disks) (nat_eq reference disk.reference) refl h
  where
    rest : Option Member
    rest = lookup (nat_eq reference) (map (member_entry_in views) disks)

    go : (list_any (bytes_eq row.guid) (arrays_of_spare (use_of rest)) ≡ true → is_dedicated views reference row ≡ true) → (b : Bool) → nat_eq reference disk.reference ≡ b
        → list_any (bytes_eq row.guid) (arrays_of_spare (use_of (cond (nat_eq reference disk.reference) (Some (member_entry_in views disk).1) rest))) ≡ true → is_dedicated views reference row ≡ true
    go later true e h =
        let same : disk.reference ≡ reference = sym (eqb-true reference disk.reference e) in
        subst (λ (n : ℕ). is_dedicated views n row ≡ true) same
        (spare_listed views disk row (subst (λ (b : Bool). list_any (bytes_eq row.guid) (arrays_of_spare (use_of (cond b (Some (member_entry_in views disk).1) rest))) ≡ true) e h))
    go later false e h = later (subst (λ (b : Bool). list_any (bytes_eq row.guid) (arrays_of_spare (use_of (cond b (Some (member_entry_in views disk).1) rest))) ≡ true) e h)

-- A recovered copy stands on the disk that the old copy names.
recovered_reference : (old : DiskCopy) (views : List View) (config : Configuration) (timestamp : ℕ) → (view_of (recovered_copy old (before views) config timestamp)).reference ≡ old.disk_data.reference
unfolding recovered_copy view_of
recovered_reference old views config timestamp = refl

-- What the spare record of a recovered copy names its disk is dedicated to, as the leaders say.
pub recovered_dedicated : (old : DiskCopy) (group : List ℕ) (sequence : ℕ) (views : List View) (timestamp reference : ℕ) (row : ArrayEntry)
    → names_array reference row.guid (view_of (recovered_copy old (before views) (read group sequence views) timestamp)) ≡ true → is_dedicated views reference row ≡ true
unfolding read
recovered_dedicated old group sequence views timestamp reference row h =
    let config = read group sequence views in
    let view = view_of (recovered_copy old (before views) config timestamp) in
    let parts = and_parts (eqb view.reference reference) (option_map_or (λ arrays. list_any (bytes_eq row.guid) arrays) view.spare false) h in
    let same : old.disk_data.reference ≡ reference = sym (recovered_reference old views config timestamp) ∙ eqb-true view.reference reference parts.0 in
    ⊎_elim
    (λ none. absurd (false≢true (subst (λ (o : Option (List (List ℕ))). option_map_or (λ arrays. list_any (bytes_eq row.guid) arrays) o false ≡ true) none parts.1)))
    (λ some.
    let listed = subst (λ (o : Option (List (List ℕ))). option_map_or (λ arrays. list_any (bytes_eq row.guid) arrays) o false ≡ true) some parts.1 in
    subst (λ (n : ℕ). is_dedicated views n row ≡ true) same (member_listed views old.disk_data.reference row (disks_in views) listed))
    (recovered_spare old views config timestamp)
