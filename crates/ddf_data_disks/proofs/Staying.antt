-- A settled group is settled once blocks were written.
use Rattle.std.proofs.Common.{◌≡◌, ◌∙◌, ℕ, List, Ok, sym, ap, subst, length}
use Rattle.std.specs.Prelude.{slice_index}
use Rattle.ddf_bay.specs.Sectors.{Image, IsLeft}
use Rattle.ddf_bay.specs.State.{BayState, size_of}
use Rattle.ddf_header.specs.declared.reading.Header.{Header}
use Rattle.ddf_copy.specs.declared.which.Which.TheVariants.{Primary, Secondary}
use Rattle.ddf_copy.specs.declared.newest_copy.Newest.{Newest}
use Rattle.ddf_copy.specs.Anchor.{anchor_at}
use Rattle.ddf_copy.specs.Copies.{copy_of, newest_of}
use Rattle.ddf_copy.specs.Whole.{IsNewestUnder}
use Rattle.ddf_array.specs.Viewing.{view_of}
use Rattle.ddf_array.specs.Volume.{Volume, IsVolume}
use Rattle.ddf_recovery.specs.Committed.{HoldsGroup}
use Rattle.ddf_seats.specs.Group.{GroupValue}
use Rattle.ddf_assembly.specs.Held.{IsHeldOn, StandsUnder}
use Rattle.ddf_assembly.specs.Reading.{HaveAnchors}
use Rattle.ddf_history.specs.Groups.{groups}
use Rattle.ddf_history.specs.Issued.{Past}
use Rattle.ddf_history.specs.Promise.{IsKept}
use Rattle.ddf_history.specs.Scenes.{scene_of}
use Rattle.ddf_history_steps.specs.AtEnd.{IsAtEnd}
use Rattle.ddf_history_steps.specs.Kept.{SaysOne}
use Rattle.ddf_data_disks.specs.Blocks.{HaveBlocksWritten}
use Rattle.ddf_data_disks.specs.Seats.{HaveFloors}
use Rattle.ddf_data_disks.proofs.Aside.{slot_read, still_kept}
use Rattle.ddf_data_disks.proofs.SlotReads.{IsReadSame}

module _ (group : List ℕ) {D : Type 0} (past : Past (groups group)) (old new : BayState D) (found : GroupValue) (end : IsAtEnd group past old found) (floors : HaveFloors found)
    (guid : List ℕ) (v : Volume) (view : view_of found.config guid found.seats ≡ Ok v) (known : IsVolume v) (written : HaveBlocksWritten old new v) (told : IsLeft new.may_hold new.held) where
  size_same : (slot : ℕ) → size_of new slot ≡ size_of old slot
  size_same slot = ap (λ (sizes : List ℕ). slice_index sizes slot) written.same_sizes

  read : (slot : ℕ) → IsReadSame (size_of old slot) (new.held slot) (old.held slot)
  read slot = slot_read group past old found end floors guid v view known old.held new.held end.is_left written.held slot

  kept : (image : Image) → IsLeft new.may_hold image → IsKept past (scene_of new.sizes image)
  kept image left =
      let before = written.left image left in
      subst (λ (sizes : List ℕ). IsKept past (scene_of sizes image)) (sym written.same_sizes)
      (still_kept group past old found end floors guid v view known before.0 image before.1.0 before.1.1)

  anchored : (slot : ℕ) (anchor : Header) → anchor_at (size_of new slot) (new.held slot) ≡ Ok anchor → anchor_at (size_of old slot) (old.held slot) ≡ Ok anchor
  anchored slot anchor is = sym (read slot).anchors ∙ ap (λ (n : ℕ). anchor_at n (new.held slot)) (sym (size_same slot)) ∙ is

  held_on : (slot : ℕ) (newest : Newest) → IsHeldOn old slot newest → IsHeldOn new slot newest
  held_on slot newest is = record {
    anchor = is.anchor;
    is_anchored = ap (λ (n : ℕ). anchor_at n (new.held slot)) (size_same slot) ∙ (read slot).anchors ∙ is.is_anchored;
    is_newest = ap (λ (n : ℕ). newest_of n (new.held slot) is.anchor) (size_same slot) ∙ (read slot).newest is.anchor is.is_anchored ∙ is.is_newest;
  }

  under : (slot : ℕ) (newest : Newest) → StandsUnder old slot newest → StandsUnder new slot newest
  under slot newest is anchor at = subst (λ (n : ℕ). IsNewestUnder n anchor newest) (sym (size_same slot)) (is anchor (anchored slot anchor at))

  holds : HoldsGroup new found
  holds = record {
    are_held = λ slot newest at. held_on slot newest (end.holds.are_held slot newest at);
    are_under = λ slot newest at. under slot newest (end.holds.are_under slot newest at);
    are_settled = λ place seat below at. written.settled seat.slot (end.holds.are_settled place seat below at);
  }

  says : (slot : ℕ) → SaysOne (size_of new slot) (new.held slot)
  says slot = record {
    one_view = λ anchor primary secondary is first second level.
        let at = anchored slot anchor is in
        (end.says_one slot).one_view anchor primary secondary at
        (sym ((read slot).copies anchor Primary at) ∙ ap (λ (n : ℕ). copy_of n (new.held slot) anchor Primary) (sym (size_same slot)) ∙ first)
        (sym ((read slot).copies anchor Secondary at) ∙ ap (λ (n : ℕ). copy_of n (new.held slot) anchor Secondary) (sym (size_same slot)) ∙ second) level;
  }

  pub still_at_end : IsAtEnd group past new found
  still_at_end = record {
    all_kept = kept;
    is_last = end.is_last;
    is_settled = end.is_settled;
    holds = holds;
    under = subst (λ (sizes : List ℕ). HaveAnchors sizes found.newest) (sym written.same_sizes) end.under;
    same_slots = subst (λ (sizes : List ℕ). past.slots ≡ length sizes) (sym written.same_sizes) end.same_slots;
    same_group = end.same_group;
    are_seated = end.are_seated;
    are_members = end.are_members;
    says_one = says;
    is_left = told;
  }
