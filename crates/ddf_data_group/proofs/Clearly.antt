-- So what is written to one array changes no sector of another.
use Rattle.std.proofs.Common.{◌≡◌, ◌≢◌, ◌∙◌, ◌⊎◌, inl, inr, ⊎_elim, ℕ, ◌+◌, ◌<◌, true, List, Option, Some, None, Ok, sym, ap, subst, arith, length, slice_get}
use Rattle.std.specs.List.{list_all}
use Rattle.std.specs.Map.{lookup}
use Rattle.ddf_lemmas.proofs.Lists.{mapped_at}
use Rattle.ddf_lemmas.proofs.Options.{some_is}
use Rattle.ddf_bay.specs.Sectors.{Image}
use Rattle.ddf_primary.proofs.ShapeFacts.{depth_le}
use Rattle.ddf_config.specs.declared.array.Array.{Array}
use Rattle.ddf_config.specs.declared.element.Position.{Position}
use Rattle.ddf_config.specs.declared.extent.Extent.{Extent}
use Rattle.ddf_config.specs.declared.seat.Seat.{Seat}
use Rattle.ddf_config.specs.Configuration.{Configuration}
use Rattle.ddf_config.specs.ElementValue.{ElementValue}
use Rattle.ddf_config.specs.Extents.{array_extents, extent, extents, part_extents}
use Rattle.ddf_config.specs.Members.{same_guid}
use Rattle.ddf_config.specs.Seats.{floor_of, slot_of}
use Rattle.ddf_config.specs.Served.{lies_well, meets_extent}
use Rattle.ddf_array.specs.Apart.{AreSeats}
use Rattle.ddf_array.specs.declared.part.Part.{Part}
use Rattle.ddf_array.specs.Places.{site_on}
use Rattle.ddf_array.specs.Sources.{copies}
use Rattle.ddf_array.specs.Viewing.{view_of}
use Rattle.ddf_array.specs.Volume.{Volume, IsVolume}
use Rattle.ddf_array.proofs.Consistent.{to_flat}
use Rattle.ddf_array.proofs.Enough.{all_pass}
use Rattle.ddf_array.proofs.Usable.{complete, lie_well, shapes}
use Rattle.ddf_array.proofs.Viewed.{from_view}
use Rattle.ddf_cells.specs.Alike.{IsCell}
use Rattle.ddf_cells.specs.Apart.{LiesAt}
use Rattle.ddf_cells.specs.Parity.{IsParityCell}
use Rattle.ddf_cells.specs.Writing.{StaysBut}
use Rattle.ddf_cells.proofs.Alike.{cell_site, copy_is_cell, depth_below}
use Rattle.ddf_cells.proofs.CopiesOn.{block_at_sits}
use Rattle.ddf_cells.proofs.OnCells.{block_below}
use Rattle.ddf_write.specs.Writing.{IsLeftByWrite, IsParityOf}
use Rattle.ddf_resync.specs.Resyncing.{MayResync}
use Rattle.ddf_rebuild.specs.Target.{IsTargetCell}
use Rattle.ddf_rebuild.proofs.Aiming.{cell_lies}
use Rattle.ddf_data_array.specs.Rows.{AreAlikeThroughout}
use Rattle.ddf_data_group.specs.Clear.{ChangesItsCells, IsItsCell}
use Rattle.ddf_data_group.specs.Over.{AreCurrentSeats, IsOver}
use Rattle.ddf_data_group.proofs.Apart.{HasExtent, count_in, count_in_two, count_one, entry_of, few, has_extent, meets_itself, own_slots, slot_is, they_meet}
use Rattle.ddf_data_group.proofs.Entries.{guid_is}
use Rattle.ddf_data_group.proofs.Lessened.{slot_ends}

same_key : (o : Option (List ℕ × Array)) (a b : List ℕ) (x y : Array) → o ≡ Some (a, x) → o ≡ Some (b, y) → a ≡ b
same_key None a b x y one other = absurd (cc)
same_key (Some entry) a b x y one other =
    let pair : ◌≡◌ {A = Option (List ℕ × Array)} (Some (a, x)) (Some (b, y)) = sym one ∙ other in
    ap (λ (found : Option (List ℕ × Array)). elim found [ None ↦ a | Some e ↦ e.0 ]) pair

-- ---- one array over seats

pub record IsUsed (config : Configuration) (guid : List ℕ) (seats : List Seat) (v : Volume) : Type 0 where
  pub array : Array
  pub is_found : lookup (same_guid guid) config.arrays ≡ Some array
  pub over : IsOver seats array v
  pub well : list_all (lies_well config.members (extents config.arrays)) (array_extents array) ≡ true

pub used : (config : Configuration) (guid : List ℕ) (seats : List Seat) (v : Volume) → view_of config guid seats ≡ Ok v → IsVolume v → IsUsed config guid seats v
used config guid seats v e known =
    let view = from_view config guid seats v e in
    record {
      array = view.array;
      is_found = view.array_is;
      over = record {
        tiers_are = view.tiers_are;
        parts_are = view.parts_are;
        marked_is = view.marked_is;
        is_volume = known;
        complete = complete config.members seats (extents config.arrays) guid view.array view.usable;
        shapes = shapes config.members seats (extents config.arrays) guid view.array view.usable;
      };
      well = lie_well config.members seats (extents config.arrays) guid view.array view.usable;
    }

module _ (config : Configuration) (guid : List ℕ) (seats : List Seat) (v : Volume) (use_of : IsUsed config guid seats v) (are : AreCurrentSeats config.members seats) (seated : AreSeats config.members seats) where
  abbrev array : Array
  array = use_of.array

  abbrev all : List Extent
  all = extents config.arrays

  -- where an extent stands among those of its element
  in_part : (element : ElementValue) (position : Position) (p : ℕ) → slice_get element.positions p ≡ Some position → slice_get (part_extents (Some element)) p ≡ Some (extent element.blocks position)
  in_part element position p at = mapped_at (extent element.blocks) element.positions p position at

  module _ (e p x slot lba : ℕ) (here : HasExtent seats use_of.array e p x slot lba) where
    is_well : lies_well config.members (extents config.arrays) (extent here.element.blocks here.position) ≡ true
    is_well =
        let there = to_flat part_extents use_of.array.elements e p (Some here.element) (extent here.element.blocks here.position) here.is_element (in_part here.element here.position p here.is_position) in
        all_pass (lies_well config.members (extents config.arrays)) (array_extents use_of.array) use_of.well there.0 (extent here.element.blocks here.position) there.1

    -- beside it no extent of another array
    not_other : (other_guid : List ℕ) (other : Array) → other_guid ≢ guid → lookup (same_guid other_guid) config.arrays ≡ Some other → (f q y : ℕ) → HasExtent seats other f q y slot lba → ⊥
    not_other other_guid other apart found f q y there =
        let test = meets_extent (extent here.element.blocks here.position) in
        let mine = entry_of guid config.arrays use_of.array use_of.is_found in
        let its = entry_of other_guid config.arrays other found in
        let places_differ : mine.at ≢ its.at = λ same.
        let keys = same_key (slice_get config.arrays its.at) mine.key its.key use_of.array other (ap (slice_get config.arrays) (sym same) ∙ mine.is_entry) its.is_entry in
        apart (guid_is other_guid its.key its.is_key ∙ sym keys ∙ sym (guid_is guid mine.key mine.is_key)) in
        let two = count_in_two test (λ (entry : List ℕ × Array). array_extents entry.1) config.arrays mine.at its.at (mine.key, use_of.array) (its.key, other) places_differ mine.is_entry its.is_entry in
        let in_mine = count_in test part_extents use_of.array.elements e (Some here.element) here.is_element in
        let in_its = count_in test part_extents other.elements f (Some there.element) there.is_element in
        let first = count_one test (part_extents (Some here.element)) p (extent here.element.blocks here.position) (in_part here.element here.position p here.is_position)
        (meets_itself config seats are (own_slots config.members seats seated) use_of.array other e p x f q y slot lba here there) in
        let second = count_one test (part_extents (Some there.element)) q (extent there.element.blocks there.position) (in_part there.element there.position q there.is_position)
        (they_meet config seats are (own_slots config.members seats seated) use_of.array other e p x f q y slot lba here there) in
        omega (arith, two, in_mine, in_its, first, second, few config seats are (own_slots config.members seats seated) use_of.array other e p x f q y slot lba here there is_well)

  -- what is written to it is no sector of another array
  pub others_same : (before image : Image) → ChangesItsCells v before image → (other_guid : List ℕ) (other : Array) (w : Volume) → other_guid ≢ guid → lookup (same_guid other_guid) config.arrays ≡ Some other
      → IsOver seats other w → AreAlikeThroughout w before image
  others_same before image changes other_guid other w apart found over f q y slot lba there =
      ⊎_elim (λ same. sym same)
      (λ its. absurd (not_other its.element its.position its.sector slot lba (has_extent seats use_of.array v use_of.over its.element its.position its.sector slot lba its.lies)
      other_guid other apart found f q y (has_extent seats other w over f q y slot lba there)))
      (changes slot lba)

-- ---- what writes, resyncs and rebuilds change

pub cell_its : (v : Volume) (slot lba : ℕ) → IsCell v slot lba → IsItsCell v slot lba
cell_its v slot lba cell = record { element = cell.element; position = cell.position; sector = cell.sector; lies = cell_lies v slot lba cell }

pub copy_its : (v : Volume) → IsVolume v → (block k slot lba : ℕ) → slice_get (copies v block) k ≡ Some (site_on slot lba) → IsItsCell v slot lba
copy_its v known block k slot lba at = cell_its v slot lba (copy_is_cell v known block k (site_on slot lba) at)

pub parity_its : (v : Volume) → IsVolume v → (slot lba : ℕ) → IsParityCell v slot lba → IsItsCell v slot lba
parity_its v known slot lba of =
    cell_its v slot lba (cell_site v known of.element of.part of.is_part of.position of.sector (site_on slot lba) (depth_below v known of.part of.sector of.deep) of.is_there)

pub touched_its : (v : Volume) → IsVolume v → (start count slot lba : ℕ) → IsParityOf v start count slot lba → IsItsCell v slot lba
touched_its v known start count slot lba of =
    let is = of.is_at in
    let sits = block_at_sits v known of.element is.touched.position of.sector (start + is.touched.k) is.touched.holds_it in
    let part_same : sits.part ≡ of.part = some_is (sym sits.is_part ∙ is.is_part) in
    let within = subst (λ (q : Part). of.sector < q.shape.blocks) part_same (block_below v known of.element is.touched.position of.sector (start + is.touched.k) sits) in
    cell_its v slot lba (cell_site v known of.element of.part is.is_part is.position of.sector (site_on slot lba) within is.is_there)

pub write_changes : (v : Volume) (start : ℕ) (sectors : List (List ℕ)) (before image : Image) → IsVolume v → IsLeftByWrite v start sectors before image → ChangesItsCells v before image
write_changes v start sectors before image known left slot lba =
    ⊎_elim (λ same. inl same)
    (λ given. inr (⊎_elim (λ wrote. copy_its v known (start + wrote.0.k) wrote.0.i slot lba wrote.0.is_cell) (λ parity. touched_its v known start (length sectors) slot lba parity) given))
    (left slot lba)

pub resync_changes : (v : Volume) (first before image : Image) → IsVolume v → ((s l : ℕ) → (image s l ≡ before s l) ⊎ MayResync v (Unit {0}) first s l (image s l)) → ChangesItsCells v before image
resync_changes v first before image known left slot lba =
    ⊎_elim (λ same. inl same)
    (λ given. inr (⊎_elim (λ taken. copy_its v known taken.block taken.i slot lba taken.is_cell) (λ parity. parity_its v known slot lba parity) given)) (left slot lba)

pub rebuild_changes : (v : Volume) (element position from to : ℕ) (before image : Image) → StaysBut (IsTargetCell v element position from to) before image → ChangesItsCells v before image
rebuild_changes v element position from to before image left slot lba =
    ⊎_elim (λ same. inl same)
    (λ (is : IsTargetCell v element position from to slot lba).
    let le = depth_le is.part.shape.layout is.part.shape.strip is.part.shape.blocks in
    inr (record {
      element = element;
      position = position;
      sector = is.sector;
      lies = record {
        part = is.part;
        place = is.place;
        is_part = is.is_target.is_part;
        is_place = is.is_target.is_place;
        below = omega (arith, is.in_rows.below, le);
        is_there = is.is_target.is_there;
        lba_is = is.lba_is;
      };
    }))
    (left slot lba)

-- ---- below the floors

pub below_floor : (seats : List Seat) (array : Array) (v : Volume) → IsOver seats array v → (e p x slot lba : ℕ) → LiesAt v e p x slot lba
    → (reference : ℕ) × (floor : ℕ) × (floor_of seats reference ≡ Some floor) × (slot_of seats reference ≡ slot) × (lba < floor)
below_floor seats array v over e p x slot lba lies =
    let has = has_extent seats array v over e p x slot lba lies in
    let end = slot_ends seats (extent has.element.blocks has.position) slot has.is_slot in
    (has.position.reference, end.0, end.1, slot_is seats (extent has.element.blocks has.position) slot has.is_slot, omega (arith, end.2, has.is_lba, has.is_within))
