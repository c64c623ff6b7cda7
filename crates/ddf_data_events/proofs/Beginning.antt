-- Where a history of a group begins, one of its data does: each member's disk has the floor of its copy.
use Rattle.std.proofs.Common.{◌≡◌, ◌∙◌, inl, inr, ℕ, zero, suc, ◌<◌, ◌≤◌, ◌^◌, Bool, true, false, List, [], ◌∷◌, ◌||◌, length, Option, Some, None, refl, sym, ap, subst, arith}
use Rattle.std.proofs.Math.Path.{fun_ext}
use Rattle.std.proofs.lemmas.Option.{slice_get_within}
use Rattle.std.specs.Prelude.{slice_get, slice_index}
use Rattle.std.specs.Option.{option_and_then}
use Rattle.ddf_bytes.specs.declared.stamp.Stamp.{Stamp}
use Rattle.ddf_bay.specs.Moments.{IsSettled}
use Rattle.ddf_bay.specs.Sectors.{Image, IsLeft, IsWhole}
use Rattle.ddf_bay.specs.State.{BayState}
use Rattle.ddf_config.specs.Configuration.{Configuration}
use Rattle.ddf_header.specs.declared.kind.Revision.{Revision}
use Rattle.ddf_header.specs.declared.reading.Header.{Header}
use Rattle.ddf_copy.specs.declared.copy.DiskCopy.{DiskCopy}
use Rattle.ddf_copy.specs.declared.newest_copy.Newest.{Newest}
use Rattle.ddf_copy.specs.declared.newest_copy.Newest.TheVariants as newests
use Rattle.ddf_copy.specs.declared.which.Which.TheVariants.{Primary}
use Rattle.ddf_copy.specs.Copies.{newest_at, newest_under, standing_copy}
use Rattle.ddf_copy.specs.Headers.{anchor_header, written_as}
use Rattle.ddf_update.specs.Group.{HaveFirstCopies, IsLeftFoundingAll}
use Rattle.ddf_update.specs.NewCopies.{group_of as name_of}
use Rattle.ddf_update.specs.Update.{AreBoth}
use Rattle.ddf_view.specs.View.{View}
use Rattle.ddf_group.specs.Shown.{shown_of}
use Rattle.ddf_history.specs.Groups.{groups, has_current}
use Rattle.ddf_history.specs.Issued.{Changes, IsSince, Past}
use Rattle.ddf_history.specs.Promise.{IsKept, IsRight}
use Rattle.ddf_history.specs.Reading.{IsCopyOf, Reading, Shown}
use Rattle.ddf_history.specs.Scenes.{scene_of, told_of}
use Rattle.ddf_seats.specs.Group.{GroupValue, floor_of}
use Rattle.ddf_history_steps.specs.Floors.{HasFloor}
use Rattle.ddf_history_steps.specs.Founding.{AreFounded, IsNewGroup, founding_config}
use Rattle.ddf_history_steps.specs.Kept.{AreAllKept, is_slot}
use Rattle.ddf_history_steps.proofs.FoundingCut.{before_founding, cut_kept}
use Rattle.ddf_history_steps.proofs.Slots.{slot_is, slot_placed}
use Rattle.ddf_history_steps.proofs.Stops.{scene_at}
use Rattle.ddf_disk_commands.specs.Label.{label_copy, label_slots}
use Rattle.ddf_disk_commands.specs.LabelRefusal.{label_layout}
use Rattle.ddf_disk_commands.proofs.Chosen.{chosen_once}
use Rattle.ddf_command.specs.Cut.{IsLeftByLabel, IsNewLabel}
use Rattle.ddf_history_memory.specs.Found.{shown_on}
use Rattle.ddf_history_memory.proofs.Found.{shown_within}
use Rattle.ddf_data_calls.specs.Floors.{AllHaveFloors}
use Rattle.ddf_data_events.specs.Beginnings.{Begins}
use Rattle.ddf_data_events.proofs.Bays.{AreBays}
use Rattle.ddf_data_events.proofs.Floors.{by_slots}
use Rattle.ddf_data_events.proofs.Standing.{copy_floor, floor_read, read_floor, read_small}

-- ---- what stands for a slot

-- A slot that shows a copy has one that stands for it.
stands_for : (found : Option Newest) (view : View) → IsCopyOf (told_of (shown_of found)) view → (copy : DiskCopy) × (option_and_then standing_copy found ≡ Some copy)
unfolding shown_of
stands_for None view shows = absurd shows
stands_for (Some (newests.One which copy)) view shows = (copy, refl)
stands_for (Some (newests.Level copy)) view shows = (copy, refl)
stands_for (Some (newests.TwoDiffer primary secondary)) view shows = (primary, refl)
stands_for (Some (newests.Neither first second)) view shows = absurd shows

-- The slot of a current member of the last acknowledged configuration shows a copy.
shows_copy : (reading : Reading) (changes : Changes reading) (disk : reading.Disk) (shown : Shown reading.Copy) → IsRight changes disk shown → (config : reading.Config)
    → slice_get changes.issued changes.acked ≡ Some config → reading.has_current config disk ≡ true → (copy : reading.Copy) × IsCopyOf shown copy
shows_copy reading changes disk shown (inl on) config last current = (on.copy, subst (λ (one : Shown reading.Copy). IsCopyOf one on.copy) (sym on.is_only) refl)
shows_copy reading changes disk shown (inr (inl outside)) config last current = absurd (outside.no_member config last current)
shows_copy reading changes disk shown (inr (inr lagging)) config last current = (lagging.shows_some.copy, lagging.shows_some.is_copy)

-- The first configuration is the only one.
only_one : {C : Type 0} (first config : C) (number : ℕ) → slice_get (first ∷ []) number ≡ Some config → (first ≡ config) × (number ≡ 0)
only_one first config zero at = (cc, refl)
only_one first config (suc number) at = absurd cc

-- A copy in both places stands for its disk.
both_stand : (size : ℕ) (sector : ℕ → List ℕ) (anchor : Header) (copy : DiskCopy) → AreBoth size sector anchor copy → option_and_then standing_copy (newest_at size sector) ≡ Some (written_as copy Primary)
both_stand size sector anchor copy both =
    ap (λ (found : Option Newest). option_and_then standing_copy found) (ap (newest_under size sector) both.is_anchored ∙ ap Some both.are_level)

module _ {B : Type 0} (disks : B → BayState B) (are : AreBays disks) (sized : (bay : B) (slot : ℕ) → slice_index (disks bay).sizes slot ≤ 2 ^ 55) (guid : List ℕ) (past : Past (groups guid))
    (bay : B) (tells_left : (disks bay).tells_left) where
  -- the floor of each slot's disk, as it reads
  abbrev floor_on : ℕ → ℕ
  floor_on slot = floor_read (slice_index (disks bay).sizes slot) ((disks bay).held slot)

  whole_left : (image : Image) → IsLeft (disks bay).may_hold image → (slot l : ℕ) → IsWhole (image slot l)
  whole_left image left slot l = (are bay).whole slot l (image slot l) (left slot l)

  floors_small : (slot : ℕ) → floor_on slot < 2 ^ 64
  floors_small slot =
      let low = read_small (slice_index (disks bay).sizes slot) ((disks bay).held slot) (whole_left (disks bay).held ((are bay).held tells_left) slot) (2 ^ 55) (sized bay slot) in
      omega (arith, low)

  pub begins : AreAllKept guid past (disks bay) → AllHaveFloors guid past (disks bay) floor_on → Begins guid disks past bay
  begins shows floored = record {
    floor = floor_on;
    small = floors_small;
    keeps = record { shows = shows; keeps = λ image left number config since array allowed entry promised. absurd cc; floored = floored };
  }

  -- ---- a new group

  module _ (sizes slots : List ℕ) (same_sizes : (disks bay).sizes ≡ sizes) (copy : ℕ → DiskCopy) (founded : ℕ → Bool) (is_new : IsNewGroup guid past sizes slots copy founded)
      (are_founded : (image : Image) → IsLeft (disks bay).may_hold image → AreFounded sizes slots copy image founded) where
    -- A member's slot is founded.
    member_founded : (slot number : ℕ) (config : Configuration) → IsSince past.changes number config → has_current config (past.disk slot) ≡ true → founded slot ≡ true
    member_founded slot number config since current = by (founded slot) refl
      where
        by : (b : Bool) → founded slot ≡ b → founded slot ≡ true
        by true here = here
        by false out =
            let first = only_one (founding_config copy) config number (subst (λ (issued : List Configuration). slice_get issued number ≡ Some config) is_new.issued_is since.is_there) in
            let now = subst (λ (one : Configuration). has_current one (past.disk slot) ≡ true) (sym first.0) current in
            let none = is_new.no_member slot out in
            absurd (let both = sym none ∙ now in cc)

    -- Each image has the floors of the copies.
    image_floor : (image : Image) → IsLeft (disks bay).may_hold image → (slot : ℕ) → founded slot ≡ true → HasFloor (slice_index sizes slot) (image slot) (floor_on slot)
    image_floor image left slot here =
        let now = are_founded image left in
        let held = are_founded (disks bay).held ((are bay).held tells_left) in
        let place = slot_placed slots slot (now.are_among slot here) in
        let own = written_as (copy place.0) Primary in
        let stands = both_stand (slice_index sizes slot) (image slot) (anchor_header (copy place.0)) (copy place.0) (now.have_copies place.0 slot place.1 here) in
        let reads = both_stand (slice_index sizes slot) ((disks bay).held slot) (anchor_header (copy place.0)) (copy place.0) (held.have_copies place.0 slot place.1 here) in
        let floor : floor_on slot ≡ floor_of own =
        ap (λ (all : List ℕ). floor_read (slice_index all slot) ((disks bay).held slot)) same_sizes ∙ read_as (slice_index sizes slot) ((disks bay).held slot) own reads in
        subst (λ (one : ℕ). HasFloor (slice_index sizes slot) (image slot) one) (sym floor) (copy_floor (slice_index sizes slot) (image slot) (whole_left image left slot) own stands)
      where
        read_as : (size : ℕ) (sector : ℕ → List ℕ) (own : DiskCopy) → option_and_then standing_copy (newest_at size sector) ≡ Some own → floor_read size sector ≡ floor_of own
        read_as size sector own stands = rw stands refl

    pub founded_begins : AreAllKept guid past (disks bay) → Begins guid disks past bay
    founded_begins shows =
        begins shows
        (by_slots guid disks are past floor_on bay tells_left sizes same_sizes
        (λ image left slot number config since stays current. image_floor image left slot (member_founded slot number config since current)))

  -- ---- a group that was found

  module _ (found : GroupValue) (starts : past.changes.acked ≡ 0) (issued : past.changes.issued ≡ found.config ∷ []) (lost_none : (slot : ℕ) → past.lost slot ≡ false) (returned_none : (slot : ℕ) → past.returned slot ≡ false)
      (kept : IsKept past (shown_on (disks bay))) (settled : (slot : ℕ) → IsSettled (disks bay).may_hold (disks bay).held slot) where
    abbrev size : ℕ → ℕ
    size slot = slice_index (disks bay).sizes slot

    -- A member's disk as it reads has the floor of its copy.
    held_floor : (slot number : ℕ) (config : Configuration) → IsSince past.changes number config → has_current config (past.disk slot) ≡ true → HasFloor (size slot) ((disks bay).held slot) (floor_on slot)
    held_floor slot number config since current =
        let first = only_one found.config config number (subst (λ (all : List Configuration). slice_get all number ≡ Some config) issued since.is_there) in
        let last : slice_get past.changes.issued past.changes.acked ≡ Some config = ap (slice_get past.changes.issued) (starts ∙ sym first.1) ∙ since.is_there in
        let shows = shows_copy (groups guid) past.changes (past.disk slot) (shown_on (disks bay) slot) (kept.each slot (not_away (past.lost slot) (past.returned slot) (lost_none slot) (returned_none slot))) config last current in
        let low = shown_within (disks bay).sizes (disks bay).held slot shows.0 shows.1 in
        let stands = stands_for (newest_at (size slot) ((disks bay).held slot)) shows.0
        (subst (λ (shown : Shown View). IsCopyOf shown shows.0) (scene_at (disks bay).sizes (disks bay).held slot low) shows.1) in
        read_floor (size slot) ((disks bay).held slot) (whole_left (disks bay).held ((are bay).held tells_left) slot) stands.0 stands.1
      where
        not_away : (a b : Bool) → a ≡ false → b ≡ false → (a || b) ≡ false
        not_away a b one other = rw (one, other) refl

    pub found_begins : Begins guid disks past bay
    found_begins =
        begins
        (λ image left.
        let same : image ≡ (disks bay).held = fun_ext (λ s. fun_ext (λ l. settled s l (image s l) (left s l))) in
        subst (λ (one : Image). IsKept past (shown_in one)) (sym same) kept)
        (λ slot number config since stays current sector left.
        let same : sector ≡ (disks bay).held slot = fun_ext (λ l. settled slot l (sector l) (left l)) in
        subst (λ (one : ℕ → List ℕ). HasFloor (size slot) one (floor_on slot)) (sym same) (held_floor slot number config since current))
      where
        shown_in : Image → ℕ → Shown View
        shown_in image = scene_of (disks bay).sizes image

-- ---- disks that all have their first copies

module _ {D : Type 0} (old new : BayState D) (slots : List ℕ) (copy : ℕ → DiskCopy) (have : HaveFirstCopies old new slots copy (length slots)) where
  -- So they have in each image that a stop may leave.
  pub all_in : (image : Image) → IsLeft new.may_hold image → AreFounded old.sizes slots copy image (is_slot slots)
  all_in image left = record {
    are_among = λ slot here. here;
    have_copies = λ place slot at here.
        let within = slice_get_within slots place slot at in
        let same : image slot ≡ new.held slot = fun_ext (λ l. have.are_settled place slot within at l (image slot l) (left slot l)) in
        subst (λ (sector : ℕ → List ℕ). AreBoth (slice_index old.sizes slot) sector (anchor_header (copy place)) (copy place)) (sym same) (have.are_both place slot within at);
    no_others = λ place slot at both. slot_is slots place slot at;
  }

-- ---- a `label` that was cut short

module _ {D : Type 0} (large : Bool) (revision : Revision) (stamp : Stamp) (named : List ℕ) (old new cut : BayState D) (only_now : (image : Image) → old.left_since old.moment image → IsLeft old.may_hold image)
    (label : IsNewLabel old new large revision stamp named) (founded : ℕ → Bool) (left_by : IsLeftByLabel old new cut large revision stamp named founded) where
  abbrev slots : List ℕ
  slots = label_slots old.sizes named

  left_so : (image : Image) → new.left_since old.moment image → IsLeftFoundingAll old slots (label_copy large revision stamp old.sizes named) image
  left_so image was_left = elim (label.any_moment.since old.moment image (omega arith) was_left) [
    | inl first ↦ before_founding (label_layout large old.sizes named) revision stamp old slots (chosen_once old.sizes named) label.is_held image (only_now image first)
    | inr founding ↦ founding
  ]

  pub cut_shows : (past : Past (groups (name_of stamp))) → IsNewGroup (name_of stamp) past old.sizes slots (label_copy large revision stamp old.sizes named) founded → AreAllKept (name_of stamp) past cut
  cut_shows past is_new = λ image left.
      rw left_by.same_sizes
      (cut_kept (label_layout large old.sizes named) revision stamp old slots (chosen_once old.sizes named) label.is_held image label.names_new (left_so image (left_by.was_left image left)) founded (left_by.are_founded image left) past is_new)
