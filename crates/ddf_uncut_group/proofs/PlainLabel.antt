-- Disks that were just labelled are a settled group that all of them tell, and their copies are plain.
use Rattle.std.proofs.Common.{◌≡◌, ℕ, zero, suc, ◌+◌, ◌-◌, ◌<◌, ◌≤◌, ◌^◌, true, false, List, ◌∷◌, length, get_or, map, replicate, Option, Some, Result, Ok, Err, refl, ap, sym, ◌∙◌, subst, inl, arith}
use Rattle.std.proofs.lemmas.List.{length-replicate}
use Rattle.std.proofs.lemmas.List.FromFn.{length-map-range_with_len}
use Rattle.std.proofs.lemmas.Option.{get_or_from_slice_get, slice_get-get_or, slice_get_within}
use Rattle.std.specs.Prelude.{IfSome, slice_get, slice_index}
use Rattle.std.specs.List.{AllByRecursion, enumerate_from, range_with_len}
use Rattle.std.specs.Option.{option_and_then}
use Rattle.ddf_lemmas.proofs.Lists.{all_from, filter_all, mapped_at, range_get}
use Rattle.ddf_bay.specs.Sectors.{Image}
use Rattle.ddf_bytes.specs.declared.stamp.Stamp.{Stamp}
use Rattle.ddf_header.specs.declared.kind.Revision.{Revision}
use Rattle.ddf_header.specs.declared.reading.Header.{Header}
use Rattle.ddf_config.specs.declared.seat.Seat.{Seat}
use Rattle.ddf_copy.specs.declared.copy.DiskCopy.{DiskCopy}
use Rattle.ddf_copy.specs.declared.fault.AnchorFault.{AnchorFault}
use Rattle.ddf_copy.specs.declared.newest_copy.Newest.{Newest}
use Rattle.ddf_copy.specs.declared.newest_copy.Newest.TheVariants.{Level}
use Rattle.ddf_copy.specs.declared.which.Which.{Which}
use Rattle.ddf_copy.specs.declared.which.Which.TheVariants.{Primary, Secondary}
use Rattle.ddf_copy.specs.Copies.{newest_at, newest_under, standing_copy}
use Rattle.ddf_copy.specs.Headers.{anchor_header}
use Rattle.ddf_copy.specs.Whole.{IsNewestCopy}
use Rattle.ddf_copy.specs.Which.{place_of}
use Rattle.ddf_copy.specs.Written.{CanBeCopy}
use Rattle.ddf_update.specs.declared.prepared.Mode.TheVariants.{Change}
use Rattle.ddf_update.specs.declared.new_layout.NewLayout.TheVariants.{Small}
use Rattle.ddf_update.specs.NewCopies.{group_of as name_of, new_copy}
use Rattle.ddf_update.specs.Update.{AreBoth}
use Rattle.ddf_group.specs.declared.answer.Assembled.{Assembled}
use Rattle.ddf_group.specs.declared.answer.Assembly.{Assembly}
use Rattle.ddf_group.specs.Assembled.{assembled}
use Rattle.ddf_group.specs.Shown.{shown_of}
use Rattle.ddf_history.specs.Groups.{ShowsFully}
use Rattle.ddf_view.specs.View.{view_of}
use Rattle.ddf_rewrite.proofs.Lists.{all_mapped, enumerated_get, get_enumerated}
use Rattle.ddf_seats.specs.declared.seated.Seated.{Seated}
use Rattle.ddf_assembly.specs.Assembled.{IsAssembledGroup}
use Rattle.ddf_steps.specs.Committed.{slots_of}
use Rattle.ddf_seats.specs.Group.{GroupValue, floor_of, seats_of}
use Rattle.ddf_assembly.specs.Group.{group_as, group_of, group_or_fault}
use Rattle.ddf_assembly.specs.Reading.{AreNewest}
use Rattle.ddf_seats.specs.Seated.{seated, seated_at, seated_by}
use Rattle.ddf_assembly.specs.Settled.{IsSettledGroup}
use Rattle.ddf_assembly.proofs.Assembled.{answer_assembled}
use Rattle.ddf_steps.proofs.Rewritten.{closed_can}
use Rattle.ddf_assembly.proofs.Settled.{settled}
use Rattle.ddf_history_steps.specs.Floors.{HasFloor}
use Rattle.ddf_history_steps.specs.Kept.{is_slot}
use Rattle.ddf_history_steps.proofs.Slots.{slot_is}
use Rattle.ddf_uncut_group.specs.Labelled.{labelled_config, labelled_copy, labelled_group, labelled_newest, labelled_seat}
use Rattle.ddf_uncut_group.specs.Plain.{ArePlain, IsPlain}
use Rattle.ddf_uncut_group.specs.Settled.{AreSettledAs, IsToldByAll, newest_held}
use Rattle.ddf_uncut_group.proofs.PlainCopies.{new_plain, plain_floor, written_plain}
use Rattle.ddf_uncut_group.proofs.PlainLabelled.{labelled_found, labelled_shows, newest_there}
use Rattle.ddf_uncut_group.proofs.PlainMade.{new_under}

-- ---- a group that was found

module _ (newest : List (Option Newest)) (are : AreNewest newest) (named : Option (List ℕ)) (group : GroupValue) where
  by_answer : (answer : Result Assembled Assembly) → assembled (map shown_of newest) named ≡ answer → group_or_fault newest answer ≡ Ok group → IsAssembledGroup group
  by_answer (Ok found) is h =
      let same : group_as newest found ≡ group = cc in
      subst IsAssembledGroup same (answer_assembled newest are named found (inl (sym is)) (seats_of newest found.seats) newest refl refl)
  by_answer (Err fault) is h = absurd cc

  -- It is assembled as it is to be.
  pub found_assembled : group_of newest named ≡ Ok group → IsAssembledGroup group
  unfolding group_of
  found_assembled h = by_answer (assembled (map shown_of newest) named) refl h

-- ---- what was labelled

module _ (revision : Revision) (stamp : Stamp) (size : ℕ) (more : List ℕ) where
  abbrev sizes : List ℕ
  sizes = size ∷ more

  abbrev newest : List (Option Newest)
  newest = labelled_newest revision stamp sizes

  abbrev group : GroupValue
  group = labelled_group revision stamp sizes

  -- a disk that was labelled, as a seat of the group
  abbrev disk_at : (ℕ × ℕ) → Seated
  disk_at disk = record { seat = labelled_seat stamp disk; copy = labelled_copy revision stamp sizes disk.0; last = Secondary; mode = Change }

  -- The place of a disk is one of the bay.
  placed : (k : ℕ) (disk : ℕ × ℕ) → slice_get (enumerate_from 0 sizes) k ≡ Some disk → (disk.0 ≡ k) × (k < length sizes) × (slice_get sizes k ≡ Some disk.1)
  placed k disk at =
      let there = enumerated_get 0 sizes k disk at in
      let place = there.0 in
      (omega (arith, place), slice_get_within sizes k disk.1 there.1, there.1)

  -- The disks of the seats are these.
  pub labelled_disks : seated group ≡ map disk_at (enumerate_from 0 sizes)
  unfolding seated
  labelled_disks =
      filter_all (seated_at newest) (labelled_seat stamp) disk_at (enumerate_from 0 sizes)
      (λ k disk at.
      let there = placed k disk at in
      let same = there.0 in
      let low = there.1 in
      ap (λ (found : Option (Option Newest)). option_and_then (λ one. option_and_then (seated_by (labelled_seat stamp disk)) one) found)
      (newest_there revision stamp size more disk.0 (omega (arith, same, low))))

  all_disks : (P : Seated → Type 0) → ((k : ℕ) (disk : ℕ × ℕ) → slice_get (enumerate_from 0 sizes) k ≡ Some disk → P (disk_at disk)) → AllByRecursion P (seated group)
  all_disks P each =
      subst (λ (disks : List Seated). AllByRecursion P disks) (sym labelled_disks)
      (all_mapped P disk_at (enumerate_from 0 sizes) (all_from (λ (disk : ℕ × ℕ). P (disk_at disk)) (enumerate_from 0 sizes) each))

  -- Their copies are plain.
  pub labelled_plain : ArePlain sizes (seated group)
  labelled_plain =
      all_disks (λ disk. IsPlain (slice_index sizes disk.seat.slot) disk.copy)
      (λ k disk at. written_plain (slice_index sizes disk.0) (new_copy Small revision stamp sizes disk.0) Primary (new_plain revision stamp sizes disk.0))

  -- Each shows the configuration fully.
  labelled_full : AllByRecursion (λ disk. ShowsFully (view_of disk.copy) (labelled_config stamp sizes)) (seated group)
  labelled_full = all_disks (λ disk. ShowsFully (view_of disk.copy) (labelled_config stamp sizes)) (λ k disk at. labelled_shows revision stamp sizes disk.0)

  -- No slot beside the seats has a newest copy.
  none_beside : (slot : ℕ) (one : Newest) → slice_get newest slot ≡ Some (Some one) → is_slot (slots_of group.seats) slot ≡ true
  none_beside slot one at =
      let long : length newest ≡ length sizes = length-map-range_with_len (λ place. Some (Level (labelled_copy revision stamp sizes place))) 0 (length sizes) in
      let within = slice_get_within newest slot (Some one) at in
      let low : slot < length sizes = omega (arith, long, within) in
      let here = get_enumerated 0 sizes slot (get_or sizes slot 0) (slice_get-get_or sizes slot 0 low) in
      let there : here.0 ≡ slot = let same = here.1 in omega (arith, same) in
      let seat = mapped_at (labelled_seat stamp) (enumerate_from 0 sizes) slot (here.0, get_or sizes slot 0) here.2 in
      let own = mapped_at (λ (one : Seat). one.slot) group.seats slot (labelled_seat stamp (here.0, get_or sizes slot 0)) seat in
      slot_is (slots_of group.seats) slot slot (own ∙ ap (λ (n : ℕ). Some n) there)

  module _ (few : length sizes ≤ 15) (large : (place : ℕ) → place < length sizes → 33000 ≤ get_or sizes place 0) (fit : (place : ℕ) → get_or sizes place 0 < 2 ^ 64) where
    copy_can : (place : ℕ) → place < length sizes → CanBeCopy (labelled_copy revision stamp sizes place)
    copy_can place low = closed_can (new_copy Small revision stamp sizes place) (new_under revision stamp sizes place few fit low (large place low)).is_copy

    -- The newest copies can be written.
    labelled_copies : AreNewest newest
    labelled_copies =
        all_mapped (λ one. IfSome one IsNewestCopy) (λ place. Some (Level (labelled_copy revision stamp sizes place))) (range_with_len 0 (length sizes))
        (all_from (λ place. CanBeCopy (labelled_copy revision stamp sizes place)) (range_with_len 0 (length sizes))
        (λ k place at.
        let there = range_get 0 (length sizes) k place at in
        let same = there.0 in
        let below = there.1 in
        copy_can place (omega (arith, same, below))))

    -- The group is settled.
    labelled_settled : IsSettledGroup group
    labelled_settled = settled group (found_assembled newest labelled_copies (Some (name_of stamp)) group (labelled_found revision stamp size more)) refl refl

    -- All of its disks tell it.
    pub labelled_told : IsToldByAll group
    labelled_told = record {
      is_found = labelled_found revision stamp size more;
      are_newest = labelled_copies;
      is_settled = labelled_settled;
      some_seat = omega arith;
      are_full = labelled_full;
      none_beside = none_beside;
    }

    -- ---- what the disks hold

    module _ (image : Image) (both : (place : ℕ) → place < length sizes → AreBoth (slice_index sizes place) (image place) (anchor_header (new_copy Small revision stamp sizes place)) (new_copy Small revision stamp sizes place)) where
      -- A slot holds its newest copy.
      held_there : (place : ℕ) → place < length sizes → newest_at (slice_index sizes place) (image place) ≡ Some (Level (labelled_copy revision stamp sizes place))
      held_there place low =
          let is = both place low in
          ap (λ (found : Result Header AnchorFault). newest_under (slice_index sizes place) (image place) found) is.is_anchored
          ∙ ap (λ (one : Newest). Some one) is.are_level

      held_from : (first count : ℕ) → first + count ≤ length sizes
          → newest_held sizes image first (replicate count false) ≡ map (λ place. Some (Level (labelled_copy revision stamp sizes place))) (range_with_len first count)
      held_from first zero within = refl
      held_from first (suc count) within =
          let next : suc first ≡ first + 1 = omega arith in
          ap (λ (one : Option Newest). one ∷ newest_held sizes image (suc first) (replicate count false)) (held_there first (omega (arith, within)))
          ∙ ap (λ (n : ℕ). Some (Level (labelled_copy revision stamp sizes first)) ∷ newest_held sizes image n (replicate count false)) next
          ∙ ap (λ (rest : List (Option Newest)). Some (Level (labelled_copy revision stamp sizes first)) ∷ rest) (held_from (first + 1) count (omega (arith, within)))

      -- A disk has the floor of its seat.
      floor_there : (place : ℕ) → place < length sizes → HasFloor (slice_index sizes place) (image place) (slice_index sizes place - 32849)
      floor_there place low =
          let sectors = slice_index sizes place in
          let is = both place low in
          let wide : 33000 ≤ sectors = large place low in
          record {
            same_floor = λ one copy here stands.
                let found : ◌≡◌ {A = Option Newest} (Some (Level (labelled_copy revision stamp sizes place))) (Some one) = sym (held_there place low) ∙ here in
                let level : Level (labelled_copy revision stamp sizes place) ≡ one = cc in
                let standing : ◌≡◌ {A = Option DiskCopy} (Some (labelled_copy revision stamp sizes place)) (Some copy) = ap standing_copy level ∙ stands in
                let own : labelled_copy revision stamp sizes place ≡ copy = cc in
                ap floor_of (sym own)
                ∙ plain_floor sectors (labelled_copy revision stamp sizes place) (written_plain sectors (new_copy Small revision stamp sizes place) Primary (new_plain revision stamp sizes place));
            below = λ anchor anchored which.
                let found : ◌≡◌ {A = Result Header AnchorFault} (Ok (anchor_header (new_copy Small revision stamp sizes place))) (Ok anchor) = sym is.is_anchored ∙ anchored in
                let own : anchor_header (new_copy Small revision stamp sizes place) ≡ anchor = cc in
                subst (λ (header : Header). sectors - 32849 ≤ place_of which header) own (behind sectors (anchor_header (new_copy Small revision stamp sizes place)) refl refl which);
            within = omega (arith, wide);
          }
        where
          behind : (sectors : ℕ) (header : Header) → header.primary_lba ≡ sectors - 41 → header.secondary_lba ≡ sectors - 81 → (which : Which) → sectors - 32849 ≤ place_of which header
          behind sectors header first second Primary = omega (arith, first)
          behind sectors header first second Secondary = omega (arith, second)

      -- The disks are the group, settled, where no slot is left out.
      pub labelled_as : AreSettledAs sizes image (replicate (length sizes) false) group
      labelled_as = record {
        every_slot = length-replicate (length sizes) false;
        are_held = held_from 0 (length sizes) (omega arith);
        is_told = labelled_told;
        have_floors = all_mapped (λ seat. HasFloor (slice_index sizes seat.slot) (image seat.slot) seat.floor) (labelled_seat stamp) (enumerate_from 0 sizes)
            (all_from (λ (disk : ℕ × ℕ). HasFloor (slice_index sizes disk.0) (image disk.0) (disk.1 - 32849)) (enumerate_from 0 sizes)
            (λ k disk at.
            let there = placed k disk at in
            let same = there.0 in
            let low = there.1 in
            let sectors : slice_index sizes disk.0 ≡ disk.1 = ap (slice_index sizes) same ∙ get_or_from_slice_get sizes k disk.1 0 there.2 in
            subst (λ (count : ℕ). HasFloor (slice_index sizes disk.0) (image disk.0) (count - 32849)) sectors (floor_there disk.0 (omega (arith, same, low)))));
      }
