-- Names that are new to a bay are so once disks have the first copies of a group with them.
use Rattle.std.proofs.Common.{◌≡◌, ℕ, false, List, length, sym, ap, ◌∙◌, subst, inl, inr}
use Rattle.ddf_bay.specs.Sectors.{Image, IsLeft}
use Rattle.ddf_bay.specs.State.{BayState}
use Rattle.ddf_copy.specs.declared.copy.DiskCopy.{DiskCopy}
use Rattle.ddf_update.specs.Group.{HaveFirstCopies}
use Rattle.ddf_view.specs.View.{View}
use Rattle.ddf_history.specs.Reading.{Shown, IsCopyOf}
use Rattle.ddf_history.specs.Scenes.{scene_of}
use Rattle.ddf_history.proofs.Since.{which}
use Rattle.ddf_history_steps.specs.Founding.{AreNamesNew}
use Rattle.ddf_history_steps.specs.Kept.{is_slot, unwritten}
use Rattle.ddf_history_steps.proofs.Slots.{not_placed}
use Rattle.ddf_history_steps.proofs.Stops.{same_scene, unwritten_else, unwritten_here}

module _ {D : Type 0} (group : List ℕ) (old new : BayState D) (same_sizes : new.sizes ≡ old.sizes) (slots : List ℕ) (copy : ℕ → DiskCopy)
    (first : HaveFirstCopies old new slots copy (length slots)) (is_left : IsLeft old.may_hold old.held) (image : Image) (left : IsLeft new.may_hold image) where
  -- Beside the slots with first copies a stop leaves what it might have left before.
  left_before : IsLeft old.may_hold (unwritten old slots image)
  left_before s l = elim (which (is_slot slots s)) [
    | inl here ↦ subst (λ (sector : ℕ → List ℕ). old.may_hold s l (sector l)) (sym (unwritten_here old slots image s here)) (is_left s l)
    | inr none ↦
        subst (λ (sector : ℕ → List ℕ). old.may_hold s l (sector l)) (sym (unwritten_else old slots image s none))
        (first.others_left s l (image s l) (λ place lt. not_placed slots s none place) (left s l))
  ]

  -- There each slot shows what it showed.
  same_else : (slot : ℕ) → is_slot slots slot ≡ false → scene_of new.sizes image slot ≡ scene_of old.sizes (unwritten old slots image) slot
  same_else slot none =
      ap (λ (sizes : List ℕ). scene_of sizes image slot) same_sizes
      ∙ same_scene old.sizes image (unwritten old slots image) slot (sym (unwritten_else old slots image slot none))

  -- What such a slot shows it might have shown before.
  shown_before : (slot : ℕ) (other : View) → is_slot slots slot ≡ false → IsCopyOf (scene_of new.sizes image slot) other
      → IsCopyOf (scene_of old.sizes (unwritten old slots image) slot) other
  shown_before slot other none is_copy = subst (λ (shown : Shown View). IsCopyOf shown other) (same_else slot none) is_copy

  -- So names that were new are.
  pub names_stay : ((before : Image) → IsLeft old.may_hold before → AreNamesNew group (is_slot slots) copy (scene_of old.sizes before))
      → AreNamesNew group (is_slot slots) copy (scene_of new.sizes image)
  names_stay were_new =
      let names_new = were_new (unwritten old slots image) left_before in
      record {
        shows_none = λ slot other none is_copy stand. names_new.shows_none slot other none (shown_before slot other none is_copy) stand;
        names_none = λ slot other none is_copy now. names_new.names_none slot other none (shown_before slot other none is_copy) now;
      }
