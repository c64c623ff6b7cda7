-- A free extent of a configuration is no array's.
use Rattle.std.proofs.Common.{◌≡◌, ◌∙◌, inl, inr, ⊎_elim, ℕ, zero, suc, ◌+◌, ◌<◌, ◌≤◌, ◌^◌, Bool, true, false, not, List, [], ◌∷◌, Option, Some, None, refl, sym, ap, subst, arith, nat_eq, length, slice_get, ◌||◌}
use Rattle.std.specs.Prelude.{max, min, nat_le, slice_index, if◌then◌else◌}
use Rattle.std.specs.List.{list_any}
use Rattle.std.specs.Map.{lookup}
use Rattle.std.proofs.lemmas.Bool.{eq-eqb, false≢true, lt-ltb}
use Rattle.ddf_lemmas.proofs.Lists.{mapped_at}
use Rattle.ddf_lemmas.proofs.Tests.{and_second}
use Rattle.ddf_bay.specs.Sectors.{Image}
use Rattle.ddf_primary.specs.Cells.{depth_of}
use Rattle.ddf_primary.proofs.ShapeFacts.{depth_le}
use Rattle.ddf_config.specs.declared.array.Array.{Array}
use Rattle.ddf_config.specs.declared.extent.Extent.{Extent}
use Rattle.ddf_config.specs.declared.member.Member.{Member}
use Rattle.ddf_config.specs.declared.seat.Seat.{Seat}
use Rattle.ddf_config.specs.Configuration.{Configuration}
use Rattle.ddf_config.specs.Extents.{array_extents, extent, extents, extents_on, part_extents, ranges}
use Rattle.ddf_config.specs.Members.{same_guid}
use Rattle.ddf_config.specs.Room.{is_free, meets}
use Rattle.ddf_config.specs.Seats.{SeatsFit, floor_of}
use Rattle.ddf_plan.specs.Create.{lies_clear}
use Rattle.ddf_array.specs.Apart.{AreSeats}
use Rattle.ddf_array.specs.declared.part.Part.{Part}
use Rattle.ddf_array.specs.Viewing.{seat_slot}
use Rattle.ddf_array.specs.Volume.{Volume}
use Rattle.ddf_array.proofs.Consistent.{to_flat}
use Rattle.ddf_cells.specs.Apart.{LiesAt}
use Rattle.ddf_cells.specs.Writing.{IsAmongSectors, StaysBut}
use Rattle.ddf_rebuild.specs.Filling.{IsFilled}
use Rattle.ddf_rebuild.specs.Target.{IsAside}
use Rattle.ddf_rebuild.proofs.Aiming.{cell_lies}
use Rattle.ddf_data_array.specs.Rows.{AreAlikeThroughout}
use Rattle.ddf_data_group.specs.Over.{IsOver}
use Rattle.ddf_data_group.proofs.Apart.{entry_of, has_extent, own_slots, seat_of, slot_is}
use Rattle.ddf_data_group.proofs.Lessened.{slot_ends}

-- ---- the extents on a disk

module _ (test : ℕ × ℕ → Bool) (reference : ℕ) where
  first_by : (one x : Extent) (rest : List Extent) → x ≡ one → one.reference ≡ reference → test (one.start, one.blocks) ≡ true → list_any test (ranges (extents_on reference (x ∷ rest))) ≡ true
  first_by one x rest same on passes =
      ap (λ (b : Bool). list_any test (ranges (if b then x ∷ extents_on reference rest else extents_on reference rest))) (ap (λ (e : Extent). nat_eq e.reference reference) same ∙ eq-eqb one.reference reference on)
      ∙ ap (λ (e : Extent). test (e.start, e.blocks) || list_any test (ranges (extents_on reference rest))) same
      ∙ ap (λ (b : Bool). b || list_any test (ranges (extents_on reference rest))) passes

  later_by : (b c : Bool) (x : Extent) (rest : List Extent) → list_any test (ranges rest) ≡ true → list_any test (ranges (if b then x ∷ rest else rest)) ≡ true
  later_by true c x rest later = by (test (x.start, x.blocks)) later
    where
      by : (d : Bool) → list_any test (ranges rest) ≡ true → (d || list_any test (ranges rest)) ≡ true
      by true e = refl
      by false e = e
  later_by false c x rest later = later

  any_on : (all : List Extent) (k : ℕ) (one : Extent) → slice_get all k ≡ Some one → one.reference ≡ reference → test (one.start, one.blocks) ≡ true → list_any test (ranges (extents_on reference all)) ≡ true
  any_on [] k one at on passes = absurd (cc)
  any_on (x ∷ all) zero one at on passes = first_by one x all (let same : x ≡ one = cc in same) on passes
  any_on (x ∷ all) (suc k) one at on passes = later_by (nat_eq x.reference reference) true x (extents_on reference all) (any_on all k one at on passes)

-- ---- a free one

meets_at : (a b m n lba : ℕ) → a ≤ lba → lba < a + m → b ≤ lba → lba < b + n → max a b < min (a + m) (b + n)
meets_at a b m n lba low high low' high' = omega (arith, low, high, low', high')

module _ (config : Configuration) (seats : List Seat) (seated : AreSeats config.members seats) (one : Extent) (slot : ℕ) (on : seat_slot seats one ≡ Some slot)
    (clear : lies_clear config.members (extents config.arrays) one ≡ true) where
  clear_by : (found : Option Member) → ◌≡◌ {A = Bool} (elim found [ None ↦ false | Some member ↦ is_free (ranges (extents_on one.reference (extents config.arrays))) member.size one.blocks one.start ]) true
      → list_any (meets one.start one.blocks) (ranges (extents_on one.reference (extents config.arrays))) ≡ true → ⊥
  clear_by None free any = false≢true free
  clear_by (Some member) free any =
      let none = and_second (nat_le (one.start + one.blocks) member.size) (not (list_any (meets one.start one.blocks) (ranges (extents_on one.reference (extents config.arrays))))) free in
      false≢true (ap not (sym any) ∙ none)

  module _ (guid : List ℕ) (array : Array) (w : Volume) (found : lookup (same_guid guid) config.arrays ≡ Some array) (over : IsOver seats array w) where
    -- no sector of it is one of an array
    pub never : (e p x lba : ℕ) → LiesAt w e p x slot lba → one.start ≤ lba → lba < one.start + one.blocks → ⊥
    never e p x lba lies low high =
        let here = has_extent seats array w over e p x slot lba lies in
        let its : Extent = extent here.element.blocks here.position in
        let mine = slot_ends seats one slot on in
        let ends = slot_ends seats (extent here.element.blocks here.position) slot here.is_slot in
        let same : here.position.reference ≡ one.reference =
        own_slots config.members seats seated here.position.reference one.reference ends.0 mine.0 ends.1 mine.1
        (slot_is seats (extent here.element.blocks here.position) slot here.is_slot ∙ sym (slot_is seats one slot on)) in
        let entry = entry_of guid config.arrays array found in
        let in_array = to_flat part_extents array.elements e p (Some here.element) (extent here.element.blocks here.position) here.is_element (mapped_at (extent here.element.blocks) here.element.positions p here.position here.is_position) in
        let in_all = to_flat (λ (entry : List ℕ × Array). array_extents entry.1) config.arrays entry.at in_array.0 (entry.key, array) (extent here.element.blocks here.position) entry.is_entry in_array.1 in
        let from : here.position.start ≤ lba = omega (arith, here.is_lba) in
        let below : lba < here.position.start + here.element.blocks = omega (arith, here.is_lba, here.is_within) in
        clear_by (lookup (nat_eq one.reference) config.members) clear
        (any_on (meets one.start one.blocks) one.reference (extents config.arrays) in_all.0 (extent here.element.blocks here.position) in_all.1 same
        (lt-ltb (max one.start here.position.start) (min (one.start + one.blocks) (here.position.start + here.element.blocks))
        (meets_at one.start here.position.start one.blocks here.element.blocks lba low high from below)))

    pub alike : (before image : Image) → StaysBut (IsAmongSectors slot one.start one.blocks) before image → AreAlikeThroughout w before image
    alike before image stays e p x s lba lies =
        ⊎_elim (λ same. sym same)
        (λ (among : IsAmongSectors slot one.start one.blocks s lba).
        absurd (never e p x lba (subst (λ (n : ℕ). LiesAt w e p x n lba) among.on_slot lies) among.from among.below))
        (stays s lba)

    -- so it lies aside of each
    pub aside : ((floor : ℕ) → floor_of seats one.reference ≡ Some floor → floor < 2 ^ 64) → (sizes : List ℕ) (element : ℕ) (part : Part) → SeatsFit sizes seats → slice_get w.parts element ≡ Some part → part.shape.blocks ≡ one.blocks → IsAside sizes w element slot one.start
    aside small sizes element part fits part_at blocks =
        let ends = slot_ends seats one slot on in
        let seat = seat_of seats one.reference ends.0 ends.1 in
        let fit = fits seat.at seat.seat seat.is_at in
        let there : seat.seat.slot ≡ slot = sym seat.is_slot ∙ slot_is seats one slot on in
        record {
          part = part;
          is_part = part_at;
          on_slot = subst (λ (n : ℕ). n < length sizes) there fit.0;
          within = subst (λ (n : ℕ). one.start + part.shape.blocks ≤ slice_index sizes n) there (omega (arith, fit.1, seat.is_floor, ends.2, blocks));
          small = let low = small ends.0 ends.1 in omega (arith, low, ends.2, blocks);
          apart = λ sector below cell.
              let lies = cell_lies w slot (one.start + sector) cell in
              never cell.element cell.position cell.sector (one.start + sector) lies (omega arith) (omega (arith, below, blocks));
        }

-- what is filled of an extent lies in it
pub filled_in : (v : Volume) (element slot start : ℕ) (part : Part) → slice_get v.parts element ≡ Some part → (before image : Image) → StaysBut (IsFilled v element slot start) before image
    → StaysBut (IsAmongSectors slot start part.shape.blocks) before image
filled_in v element slot start part part_at before image stays s l =
    ⊎_elim (λ same. inl same)
    (λ (filled : IsFilled v element slot start s l).
    let own : filled.part ≡ part = some_is (sym filled.is_part ∙ part_at) in
    let among : IsAmongSectors slot start (depth_of part.shape) s l = subst (λ (q : Part). IsAmongSectors slot start (depth_of q.shape) s l) own filled.among in
    inr (record { on_slot = among.on_slot; from = among.from; below = omega (arith, among.below, depth_le part.shape.layout part.shape.strip part.shape.blocks) }))
    (stays s l)
  where
    some_is : {X : Type 0} {a b : X} → Some a ≡ Some b → a ≡ b
    some_is e = cc
