-- What a moved copy keeps.
use Rattle.std.proofs.Common.{◌≡◌, ℕ, zero, suc, ◌-◌, ◌<◌, ◌≤◌, Bool, true, false, leb, cond, List, [], ◌∷◌, ◌++◌, length, filter, take, replicate, Some, refl, ap, ◌∙◌, subst, arith}
use Rattle.std.specs.Prelude.{slice_get}
use Rattle.std.specs.List.{range_with_len}
use Rattle.std.proofs.lemmas.Bool.{le-leb}
use Rattle.ddf_lemmas.proofs.Lists.{mapped_at, range_at}
use Rattle.ddf_header.specs.declared.geometry.Geometry.{Geometry}
use Rattle.ddf_tables.specs.Arrays.{is_used_array}
use Rattle.ddf_tables.specs.Disks.{is_used_disk}
use Rattle.ddf_config_records.specs.declared.fault.ElementFault.{ElementFault}
use Rattle.ddf_config_records.specs.declared.slot.RecordSlot.{RecordSlot}
use Rattle.ddf_config_records.specs.declared.slot.RecordSlot.TheVariants as slots
use Rattle.ddf_config_records.specs.ElementValue.{ElementValue}
use Rattle.ddf_config_records.specs.NoteRecords.{is_named}
use Rattle.ddf_copy.specs.declared.copy.DiskCopy.{DiskCopy}
use Rattle.ddf_moving.specs.Copies.{moved_copy, moved_element, moved_slot, moved_slot_at, relaid, unused_array, unused_disk}
use Rattle.ddf_moving.specs.Numbers.{same_records}
use Rattle.ddf_moving.specs.Places.{moved_geometry}
use Rattle.ddf_moving.proofs.Can.{IsMovedTo, moved_to}

-- ---- the rows

module _ {Row : Type 0} (p : Row → Bool) (unused : Row) (none : p unused ≡ false) where
  no_unused : (count : ℕ) → filter p (replicate count unused) ≡ []
  no_unused zero = refl
  no_unused (suc count) = rw none (no_unused count)

  -- rows of which so many fit, and unused ones behind them
  abbrev HasKept : (n count : ℕ) → List Row → Type 0
  HasKept n count rows = filter p (take n (filter p rows) ++ replicate count unused) ≡ filter p rows

  kept_on : (n count : ℕ) (row : Row) (rows : List Row) (used : Bool) → p row ≡ used
      → ((less : ℕ) → length (filter p rows) ≤ less → HasKept less count rows)
      → length (cond used (row ∷ filter p rows) (filter p rows)) ≤ n
      → filter p (take n (cond used (row ∷ filter p rows) (filter p rows)) ++ replicate count unused) ≡ cond used (row ∷ filter p rows) (filter p rows)
  kept_on n count row rows false is rest fits = rest n fits
  kept_on zero count row rows true is rest fits = absurd (omega (arith, fits))
  kept_on (suc n) count row rows true is rest fits = rw is (ap (λ (all : List Row). row ∷ all) (rest n (omega (arith, fits))))

  kept : (count : ℕ) (rows : List Row) (n : ℕ) → length (filter p rows) ≤ n → HasKept n count rows
  kept count [] zero fits = no_unused count
  kept count [] (suc n) fits = no_unused count
  kept count (row ∷ rows) n fits = kept_on n count row rows (p row) refl (λ less few. kept count rows less few) fits

pub kept_disks : (old like made : DiskCopy) → moved_copy old like ≡ Some made → length (filter is_used_disk old.disks.rows) ≤ like.header.geometry.max_disks
    → filter is_used_disk made.disks.rows ≡ filter is_used_disk old.disks.rows
kept_disks old like made is fits =
    let to = moved_to old like made is in
    let rows = old.disks.rows in
    let max = like.header.geometry.max_disks in
    subst (λ (one : DiskCopy). filter is_used_disk one.disks.rows ≡ filter is_used_disk rows) to.is_made
    (kept is_used_disk unused_disk refl (max - length (filter is_used_disk rows)) rows max fits)

pub kept_arrays : (old like made : DiskCopy) → moved_copy old like ≡ Some made → length (filter is_used_array old.arrays.rows) ≤ like.header.geometry.max_arrays
    → filter is_used_array made.arrays.rows ≡ filter is_used_array old.arrays.rows
kept_arrays old like made is fits =
    let to = moved_to old like made is in
    let rows = old.arrays.rows in
    let max = like.header.geometry.max_arrays in
    subst (λ (one : DiskCopy). filter is_used_array one.arrays.rows ≡ filter is_used_array rows) to.is_made
    (kept is_used_array unused_array refl (max - length (filter is_used_array rows)) rows max fits)

-- ---- the slots

module _ (old like made : DiskCopy) (is : moved_copy old like ≡ Some made) (k : ℕ) (there : k < length like.slots) (slot : RecordSlot) (at : slice_get old.slots k ≡ Some slot) where
  pub to : IsMovedTo old like made
  to = moved_to old like made is

  abbrev own : Geometry
  own = moved_geometry old.header.geometry like.header.geometry to.places.length

  -- the slot at its place
  pub slot_kept : slice_get made.slots k ≡ Some (moved_slot own (same_records old.header.geometry own) slot)
  slot_kept =
      let here : slice_get (relaid old like to.places).slots k ≡ Some (moved_slot_at old.header.geometry own old.slots k) =
      mapped_at (moved_slot_at old.header.geometry own old.slots) (range_with_len 0 (length like.slots)) k k (range_at (length like.slots) k there) in
      let slot_is : moved_slot_at old.header.geometry own old.slots k ≡ moved_slot own (same_records old.header.geometry own) slot = rw at refl in
      subst (λ (one : DiskCopy). slice_get one.slots k ≡ Some (moved_slot own (same_records old.header.geometry own) slot)) to.is_made (here ∙ ap Some slot_is)

pub element_kept : (old like made : DiskCopy) (k : ℕ) (element : ElementValue) → moved_copy old like ≡ Some made → k < length like.slots
    → slice_get old.slots k ≡ Some (slots.Element element) → length element.members ≤ like.header.geometry.max_members
    → (rest : List ℕ) × (slice_get made.slots k ≡ Some (slots.Element (record element { rest = rest })))
element_kept old like made k element is there at few =
    let to = moved_to old like made is in
    let own = moved_geometry old.header.geometry like.header.geometry to.places.length in
    let fits : leb (length element.members) like.header.geometry.max_members ≡ true = le-leb (length element.members) like.header.geometry.max_members few in
    ((moved_element own element).rest, slot_kept old like made is k there (slots.Element element) at ∙ rw fits refl)

pub vendor_kept : (old like made : DiskCopy) (k : ℕ) (guid rest : List ℕ) → moved_copy old like ≡ Some made → k < length like.slots
    → slice_get old.slots k ≡ Some (slots.Vendor guid rest) → same_records old.header.geometry like.header.geometry ≡ true → is_named rest ≡ false
    → slice_get made.slots k ≡ Some (slots.Vendor guid rest)
vendor_kept old like made k guid rest is there at same unnamed = slot_kept old like made is k there (slots.Vendor guid rest) at ∙ rw (same, unnamed) refl

pub unread_kept : (old like made : DiskCopy) (k : ℕ) (fault : ElementFault) (kept : List ℕ) → moved_copy old like ≡ Some made → k < length like.slots
    → slice_get old.slots k ≡ Some (slots.Unread fault kept) → same_records old.header.geometry like.header.geometry ≡ true
    → slice_get made.slots k ≡ Some (slots.Unread fault kept)
unread_kept old like made k fault kept is there at same = slot_kept old like made is k there (slots.Unread fault kept) at ∙ rw same refl

-- ---- what stays

abbrev Stays : (old made : DiskCopy) → Type 0
Stays old made = (made.controller ≡ old.controller) × (made.disk_data ≡ old.disk_data) × (made.header.guid ≡ old.header.guid) × (made.header.sequence ≡ old.header.sequence)

pub stays : (old like made : DiskCopy) → moved_copy old like ≡ Some made → Stays old made
stays old like made is = let to = moved_to old like made is in subst (λ (one : DiskCopy). Stays old one) to.is_made (refl, refl, refl, refl)
