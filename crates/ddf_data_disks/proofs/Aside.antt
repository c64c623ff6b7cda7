-- What is written to the blocks of an array is no part of what slots show.
use Rattle.std.proofs.Common.{◌≡◌, ◌∙◌, ⊎_elim, ℕ, zero, suc, ◌-◌, ◌<◌, ◌≤◌, Bool, true, false, List, [], ◌∷◌, Option, Some, None, Ok, find, refl, sym, ap, subst, arith, map, nat_eq, length, slice_get}
use Rattle.std.proofs.Math.Path.{fun_ext}
use Rattle.std.specs.Prelude.{nat_lt, option_map, if◌then◌else◌}
use Rattle.std.proofs.lemmas.Bool.{false≢true}
use Rattle.ddf_lemmas.proofs.Lists.{in_map, mapped_at}
use Rattle.ddf_bay.specs.Sectors.{Image, IsLeft}
use Rattle.ddf_bay.specs.State.{BayState, size_of}
use Rattle.ddf_header.specs.declared.reading.Header.{Header}
use Rattle.ddf_config.specs.declared.seat.Seat.{Seat}
use Rattle.ddf_config.specs.Seats as seats_by
use Rattle.ddf_copy.specs.declared.copy.DiskCopy.{DiskCopy}
use Rattle.ddf_copy.specs.declared.newest_copy.Newest.{Newest}
use Rattle.ddf_copy.specs.declared.newest_copy.Newest.TheVariants as newests
use Rattle.ddf_copy.specs.declared.which.Which.TheVariants.{Primary, Secondary}
use Rattle.ddf_copy.specs.Anchor.{anchor_at}
use Rattle.ddf_copy.specs.Which.{place_of}
use Rattle.ddf_copy.proofs.Stands.{place_within}
use Rattle.ddf_group.specs.Shown.{shown_of}
use Rattle.ddf_rewrite.proofs.Lists.{all_at}
use Rattle.ddf_array.specs.Viewing.{view_of}
use Rattle.ddf_array.specs.Volume.{Volume, IsVolume}
use Rattle.ddf_seats.specs.declared.seated.Seated.{Seated}
use Rattle.ddf_steps.specs.Committed.{slots_of}
use Rattle.ddf_seats.specs.Group.{GroupValue, floor_of}
use Rattle.ddf_seats.specs.Seated.{seated}
use Rattle.ddf_seats.proofs.Common.{floor_below}
use Rattle.ddf_assembly.specs.Settled.{IsLevelIn}
use Rattle.ddf_history.specs.Groups.{groups}
use Rattle.ddf_history.specs.Issued.{Past}
use Rattle.ddf_history.specs.Promise.{IsKept}
use Rattle.ddf_history.specs.Reading.Shown.{Nothing}
use Rattle.ddf_history.specs.Scenes.{scene_of, told_of}
use Rattle.ddf_history_steps.specs.AtEnd.{IsAtEnd}
use Rattle.ddf_history_steps.specs.Kept.{is_slot}
use Rattle.ddf_history_steps.proofs.Slots.{slot_is, slot_placed}
use Rattle.ddf_data_group.specs.Clear.{ChangesItsCells, IsItsCell}
use Rattle.ddf_data_group.proofs.Clearly.{below_floor, used}
use Rattle.ddf_data_disks.specs.Seats.{HaveFloors}
use Rattle.ddf_data_disks.proofs.SlotReads.{IsReadSame, read_here, read_newest, read_past}

-- ---- a settled group

same_level : (o : Option (Option Newest)) (one other : DiskCopy) → o ≡ Some (Some (newests.Level one)) → o ≡ Some (Some (newests.Level other)) → one ≡ other
same_level o one other a b = let both : ◌≡◌ {A = Option (Option Newest)} (Some (Some (newests.Level one))) (Some (Some (newests.Level other))) = sym a ∙ b in cc

module _ (group : List ℕ) {D : Type 0} (past : Past (groups group)) (disks : BayState D) (found : GroupValue) (end : IsAtEnd group past disks found) (floors : HaveFloors found) where
  -- a seat's slot with its copy, its anchor, and where these lie
  record IsSeatSlot (slot : ℕ) : Type 0 where
    pub copy : DiskCopy
    pub is_newest : slice_get found.newest slot ≡ Some (Some (newests.Level copy))
    pub anchor : Header
    pub is_anchored : anchor_at (size_of disks slot) (disks.held slot) ≡ Ok anchor
    pub primary : floor_of copy ≤ place_of Primary anchor
    pub secondary : floor_of copy ≤ place_of Secondary anchor
    pub last : floor_of copy ≤ size_of disks slot - 1

  of_disk : (place : ℕ) (disk : Seated) → slice_get (seated found) place ≡ Some disk → IsSeatSlot disk.seat.slot
  of_disk place disk at =
      let slot = disk.seat.slot in
      let level = all_at (IsLevelIn found) (seated found) place disk end.is_settled.are_level at in
      let held = end.holds.are_held slot (newests.Level disk.copy) level.is_newest in
      let under = end.holds.are_under slot (newests.Level disk.copy) level.is_newest held.anchor held.is_anchored in
      let first = floor_below disk.copy Primary in
      let second = floor_below disk.copy Secondary in
      let primary : floor_of disk.copy ≤ place_of Primary held.anchor = omega (arith, first, under.in_place Primary) in
      let within = place_within (size_of disks slot) held.anchor disk.copy Primary under in
      record {
        copy = disk.copy;
        is_newest = level.is_newest;
        anchor = held.anchor;
        is_anchored = held.is_anchored;
        primary = primary;
        secondary = omega (arith, second, under.in_place Secondary);
        last = omega (arith, primary, within);
      }

  disk_at : (place : ℕ) (seat : Seat) → slice_get found.seats place ≡ Some seat → (disk : Seated) × ((slice_get (seated found) place ≡ Some disk) × (disk.seat ≡ seat))
  disk_at place seat at =
      let there : slice_get (map (λ (disk : Seated). disk.seat) (seated found)) place ≡ Some seat = ap (λ (l : List Seat). slice_get l place) end.is_settled.are_seated ∙ at in
      let own = in_map (λ (disk : Seated). disk.seat) (seated found) place seat there in
      (own.0, (own.1, own.2))

  seat_slot : (place : ℕ) (seat : Seat) → slice_get found.seats place ≡ Some seat → IsSeatSlot seat.slot
  seat_slot place seat at = let own = disk_at place seat at in subst (λ (s : Seat). IsSeatSlot s.slot) own.1.1 (of_disk place own.0 own.1.0)

  -- a seat that is found stands in the list
  record IsListed (slot floor : ℕ) : Type 0 where
    pub place : ℕ
    pub seat : Seat
    pub is_at : slice_get found.seats place ≡ Some seat
    pub on_slot : seat.slot ≡ slot
    pub has_floor : seat.floor ≡ floor

  listed : (reference floor slot : ℕ) → seats_by.floor_of found.seats reference ≡ Some floor → seats_by.slot_of found.seats reference ≡ slot → IsListed slot floor
  listed reference floor slot e at = by (find (λ (s : Seat). nat_eq s.reference reference) found.seats) refl e at
    where
      find_at : (seats : List Seat) (seat : Seat) → find (λ (s : Seat). nat_eq s.reference reference) seats ≡ Some seat → (k : ℕ) × (slice_get seats k ≡ Some seat)
      find_at [] seat h = absurd (cc)
      find_at (first ∷ seats) seat h = here (nat_eq first.reference reference) h (find_at seats seat)
        where
          here : (b : Bool) → (if b then Some first else find (λ (s : Seat). nat_eq s.reference reference) seats) ≡ Some seat
              → (find (λ (s : Seat). nat_eq s.reference reference) seats ≡ Some seat → (k : ℕ) × (slice_get seats k ≡ Some seat)) → (k : ℕ) × (slice_get (first ∷ seats) k ≡ Some seat)
          here true h later = (0, h)
          here false h later = let rest = later h in (suc rest.0, rest.1)

      by : (o : Option Seat) → find (λ (s : Seat). nat_eq s.reference reference) found.seats ≡ o → option_map (λ (s : Seat). s.floor) o ≡ Some floor → ◌≡◌ {A = ℕ} (elim o [ None ↦ 64 | Some s ↦ s.slot ]) slot → IsListed slot floor
      by None is e at = absurd (cc)
      by (Some seat) is e at = let there = find_at found.seats seat is in record { place = there.0; seat = seat; is_at = there.1; on_slot = at; has_floor = cc }

  module _ (guid : List ℕ) (v : Volume) (view : view_of found.config guid found.seats ≡ Ok v) (known : IsVolume v) where
    -- a sector of the array is below the floor of the copy of a seat's slot
    record IsBelow (slot lba : ℕ) : Type 0 where
      pub place : ℕ
      pub seat : Seat
      pub is_at : slice_get found.seats place ≡ Some seat
      pub on_slot : seat.slot ≡ slot
      pub copy : DiskCopy
      pub is_newest : slice_get found.newest slot ≡ Some (Some (newests.Level copy))
      pub below : lba < floor_of copy

    cell_below : (slot lba : ℕ) → IsItsCell v slot lba → IsBelow slot lba
    cell_below slot lba its =
        let use_of = used found.config guid found.seats v view known in
        let low = below_floor found.seats use_of.array v use_of.over its.element its.position its.sector slot lba its.lies in
        let seat = listed low.0 low.1 slot low.2 low.3 in
        let own = disk_at seat.place seat.seat seat.is_at in
        let level = all_at (IsLevelIn found) (seated found) seat.place own.0 end.is_settled.are_level own.1.0 in
        let slots : own.0.seat.slot ≡ slot = ap (λ (s : Seat). s.slot) own.1.1 ∙ seat.on_slot in
        let height : low.1 ≡ floor_of own.0.copy = sym seat.has_floor ∙ ap (λ (s : Seat). s.floor) (sym own.1.1) ∙ floors seat.place own.0 own.1.0 in
        record {
          place = seat.place;
          seat = seat.seat;
          is_at = seat.is_at;
          on_slot = seat.on_slot;
          copy = own.0.copy;
          is_newest = ap (slice_get found.newest) (sym slots) ∙ level.is_newest;
          below = omega (arith, low.4, height);
        }

    module _ (before image : Image) (left : IsLeft disks.may_hold before) (changes : ChangesItsCells v before image) where
      -- a seat's slot is read as before
      seat_read : (place : ℕ) (seat : Seat) → slice_get found.seats place ≡ Some seat → IsReadSame (size_of disks seat.slot) (image seat.slot) (before seat.slot)
      seat_read place seat at =
          let is = seat_slot place seat at in
          let held : (l : ℕ) → before seat.slot l ≡ disks.held seat.slot l =
          λ l. end.holds.are_settled place seat (within found.seats place seat at) at l (before seat.slot l) (left seat.slot l) in
          let past_floor : (l : ℕ) → floor_of is.copy ≤ l → image seat.slot l ≡ disks.held seat.slot l =
          λ l high. ⊎_elim (λ stays. stays ∙ held l) (λ its.
          let cell = cell_below seat.slot l its in
          let copies = same_level (slice_get found.newest seat.slot) is.copy cell.copy is.is_newest cell.is_newest in
          absurd (omega (arith, high, cell.below, ap floor_of copies))) (changes seat.slot l) in
          subst (IsReadSame (size_of disks seat.slot) (image seat.slot)) (sym (fun_ext held))
          (read_past (size_of disks seat.slot) (image seat.slot) (disks.held seat.slot) (floor_of is.copy) past_floor is.anchor is.is_anchored is.last is.primary is.secondary)
        where
          within : {X : Type 0} (xs : List X) (k : ℕ) (x : X) → slice_get xs k ≡ Some x → k < length xs
          within [] k x at = absurd (cc)
          within (y ∷ xs) zero x at = omega arith
          within (y ∷ xs) (suc k) x at = omega (arith, within xs k x at)

      -- and any other slot is as it was
      other_same : (slot : ℕ) → is_slot (slots_of found.seats) slot ≡ false → image slot ≡ before slot
      other_same slot none =
          fun_ext (λ l. ⊎_elim (λ stays. stays) (λ its.
          let cell = cell_below slot l its in
          absurd (false≢true (sym none ∙ slot_is (slots_of found.seats) cell.place slot (mapped_at (λ (s : Seat). s.slot) found.seats cell.place cell.seat cell.is_at ∙ ap Some cell.on_slot)))) (changes slot l))

      read_by : (slot : ℕ) (b : Bool) → is_slot (slots_of found.seats) slot ≡ b → IsReadSame (size_of disks slot) (image slot) (before slot)
      read_by slot true is =
          let placed = slot_placed (slots_of found.seats) slot is in
          let own = in_map (λ (s : Seat). s.slot) found.seats placed.0 slot placed.1 in
          subst (λ (s : ℕ). IsReadSame (size_of disks s) (image s) (before s)) own.2 (seat_read placed.0 own.0 own.1)
      read_by slot false is = read_here (size_of disks slot) (image slot) (before slot) (other_same slot is)

      pub slot_read : (slot : ℕ) → IsReadSame (size_of disks slot) (image slot) (before slot)
      slot_read slot = read_by slot (is_slot (slots_of found.seats) slot) refl

      scene_same : (slot : ℕ) → scene_of disks.sizes image slot ≡ scene_of disks.sizes before slot
      scene_same slot =
          ap (λ (n : Option Newest). if nat_lt slot (length disks.sizes) then told_of (shown_of n) else Nothing) (read_newest (size_of disks slot) (image slot) (before slot) (slot_read slot))

      pub still_kept : IsKept past (scene_of disks.sizes image)
      still_kept = subst (IsKept past) (sym (fun_ext scene_same)) (end.all_kept before left)
