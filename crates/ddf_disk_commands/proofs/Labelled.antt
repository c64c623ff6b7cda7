-- A founding behind calls that only read.
use Rattle.std.proofs.Common.{◌≡◌, ℕ, Bool, List, length, None, ap, ◌∙◌, inl, inr, ⊎_elim}
use Rattle.ddf_bytes.specs.declared.stamp.Stamp.{Stamp}
use Rattle.ddf_bay.specs.State.{BayState}
use Rattle.ddf_bay.specs.Sectors.{Image, IsLeft}
use Rattle.ddf_bay.specs.Moments.{StopsLeave}
use Rattle.ddf_bay.specs.ReadsOnly.{ReadsOnly}
use Rattle.ddf_bay.proofs.Steps.{stops_then, stops_weaken}
use Rattle.ddf_header.specs.declared.kind.Revision.{Revision}
use Rattle.ddf_copy.specs.declared.copy.DiskCopy.{DiskCopy}
use Rattle.ddf_update.specs.declared.prepared.Prepared.{Prepared}
use Rattle.ddf_update.specs.Group.{AreFirst, HaveFirstCopies, IsLeftFoundingAll, LieOnSlots, MayFoundAll, slot_sizes}
use Rattle.ddf_update.specs.NewCopies.{new_copy}
use Rattle.ddf_update.proofs.FirstCopies.{lie_on_slots, may_found_all}
use Rattle.ddf_disk_commands.specs.Label.{label_copy, label_slots}
use Rattle.ddf_disk_commands.specs.LabelRefusal.{label_refusal, layout_of}
use Rattle.ddf_disk_commands.proofs.Chosen.{chosen_once}
use Rattle.ddf_disk_commands.proofs.Fits.{all_blank}

module _ {D : Type 0} (a b : BayState D) (slots : List ℕ) (copy : ℕ → DiskCopy) (reads : ReadsOnly a b) where
  -- an image of before
  left_before : (image : Image) → IsLeft a.may_hold image → IsLeftFoundingAll a slots copy image
  left_before image left = record { each = λ place slot at. inl (left slot); before = λ place slot l at front. inr (left slot l); others = λ s l none. left s l }

  -- an image while the slots are written
  left_while : (image : Image) → IsLeftFoundingAll b slots copy image → IsLeftFoundingAll a slots copy image
  left_while image left = record {
    each = λ place slot at. ⊎_elim (λ before. inl (λ l. reads.keeps slot l (image slot l) (before l))) (λ now. inr (rw reads.same_sizes at now)) (left.each place slot at);
    before = λ place slot l at front. ⊎_elim (λ same. inl (rw reads.same_held at same)) (λ might. inr (reads.keeps slot l (image slot l) might)) (left.before place slot l at front);
    others = λ s l none. reads.keeps s l (image s l) (left.others s l none);
  }

  pub stops_founding : (c : BayState D) → StopsLeave b c (IsLeftFoundingAll b slots copy) → StopsLeave a c (IsLeftFoundingAll a slots copy)
  stops_founding c step = stops_then (stops_weaken reads.any_moment left_before) step left_while

  pub founded_since : (c : BayState D) (count : ℕ) → HaveFirstCopies b c slots copy count → HaveFirstCopies a c slots copy count
  founded_since c count founded = record {
    are_both = rw reads.same_sizes at founded.are_both;
    are_settled = founded.are_settled;
    before = λ place slot l lt at front. founded.before place slot l lt at front ∙ ap (λ (image : Image). image slot l) reads.same_held;
    others = λ s l none. founded.others s l none ∙ ap (λ (image : Image). image s l) reads.same_held;
    others_left = λ s l bytes none may. reads.keeps s l bytes (founded.others_left s l bytes none may);
  }

-- The slots that were found fit get their first copies.
module _ {D : Type 0} (a b : BayState D) (large : Bool) (named slots : List ℕ) (revision : Revision) (stamp : Stamp) (updates : List Prepared)
    (reads : ReadsOnly a b) (are : slots ≡ label_slots a.sizes named) (counted : length updates ≡ length slots)
    (first : AreFirst (slot_sizes b.sizes slots) (new_copy (layout_of large (length slots)) revision stamp (slot_sizes b.sizes slots)) updates) where
  abbrev sizes : List ℕ
  sizes = a.sizes

  abbrev copy : ℕ → DiskCopy
  copy = label_copy large revision stamp sizes named

  first_here : AreFirst (slot_sizes sizes (label_slots sizes named)) copy updates
  first_here = rw (are, reads.same_sizes) at first

  counted_here : length updates ≡ length (label_slots sizes named)
  counted_here = counted ∙ ap length are

  pub slots_lie : LieOnSlots b.sizes slots updates
  slots_lie = rw (reads.same_sizes, are) (lie_on_slots sizes (label_slots sizes named) copy updates first_here counted_here (chosen_once sizes named))

  may : label_refusal large sizes a.held named ≡ None → MayFoundAll b (label_slots sizes named) copy updates
  may none = may_found_all sizes (label_slots sizes named) copy updates first_here counted_here b reads.same_sizes (rw reads.same_held (all_blank large sizes a.held named none))

  pub label_stops : (c : BayState D) → label_refusal large sizes a.held named ≡ None
      → ((one : ℕ → DiskCopy) → MayFoundAll b slots one updates → StopsLeave b c (IsLeftFoundingAll b slots one))
      → StopsLeave a c (IsLeftFoundingAll a (label_slots sizes named) copy)
  label_stops c none step = stops_founding a b (label_slots sizes named) copy reads c (rw are at step copy (may none))

  pub label_founded : (c : BayState D) → label_refusal large sizes a.held named ≡ None
      → ((one : ℕ → DiskCopy) → MayFoundAll b slots one updates → HaveFirstCopies b c slots one (length slots))
      → HaveFirstCopies a c (label_slots sizes named) copy (length (label_slots sizes named))
  label_founded c none step = founded_since a b (label_slots sizes named) copy reads c (length (label_slots sizes named)) (rw are at step copy (may none))
