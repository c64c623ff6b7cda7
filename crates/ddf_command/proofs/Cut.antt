-- What a `label` that a stop cut short leaves of the new group.
use Rattle.std.proofs.Common.{◌≡◌, ℕ, Bool, true, List, length, refl, inl, inr, arith}
use Rattle.ddf_bytes.specs.declared.stamp.Stamp.{Stamp}
use Rattle.ddf_header.specs.declared.kind.Revision.{Revision}
use Rattle.ddf_bay.specs.Sectors.{Image, IsLeft}
use Rattle.ddf_bay.specs.State.{BayState}
use Rattle.ddf_copy.specs.declared.copy.DiskCopy.{DiskCopy}
use Rattle.ddf_update.specs.Group.{AreSlots, IsLeftFoundingAll}
use Rattle.ddf_update.specs.NewCopies.{group_of}
use Rattle.ddf_history.specs.Groups.{groups}
use Rattle.ddf_history.specs.Issued.{Past}
use Rattle.ddf_history.specs.Scenes.{scene_of}
use Rattle.ddf_history_steps.specs.Founding.{AreNamesNew, IsNewGroup, founding_config}
use Rattle.ddf_history_steps.specs.Kept.{AreAllKept, is_read}
use Rattle.ddf_history_steps.proofs.FoundingCut.{before_founding, cut_kept, cut_read, founded_told, others_new}
use Rattle.ddf_command.specs.Cut.{AreLabelled, Gives, IsLeftByLabel, IsNewLabel}
use Rattle.ddf_disk_commands.specs.Label.{label_copy, label_slots}
use Rattle.ddf_disk_commands.specs.LabelRefusal.{label_layout}
use Rattle.ddf_disk_commands.proofs.Chosen.{chosen_once}

module _ {D : Type 0} (large : Bool) (revision : Revision) (stamp : Stamp) (named : List ℕ) (old new : BayState D)
    (only_now : (image : Image) → old.left_since old.moment image → IsLeft old.may_hold image) (label : IsNewLabel old new large revision stamp named) where
  abbrev slots : List ℕ
  slots = label_slots old.sizes named

  abbrev copy : ℕ → DiskCopy
  copy = label_copy large revision stamp old.sizes named

  are : AreSlots old.sizes slots
  are = chosen_once old.sizes named

  -- A stop leaves each of the slots as before, blank, or with its copy.
  left_so : (image : Image) → new.left_since old.moment image → IsLeftFoundingAll old slots copy image
  left_so image was_left = elim (label.any_moment.since old.moment image (omega arith) was_left) [
    | inl first ↦ before_founding (label_layout large old.sizes named) revision stamp old slots are label.is_held image (only_now image first)
    | inr founding ↦ founding
  ]

  module _ (image : Image) (was_left : new.left_since old.moment image) where
    pub cut_founded : (founded : ℕ → Bool) × AreLabelled old large revision stamp named image founded
    cut_founded = founded_told (label_layout large old.sizes named) revision stamp old slots are label.is_held image label.names_new (left_so image was_left)

    pub cut_others : (founded : ℕ → Bool) → AreLabelled old large revision stamp named image founded → AreNamesNew (group_of stamp) founded copy (scene_of old.sizes image)
    cut_others founded are_founded = others_new (label_layout large old.sizes named) revision stamp old slots are label.is_held image label.names_new (left_so image was_left) founded are_founded

  pub cut_begins : (cut : BayState D) (founded : ℕ → Bool) → IsLeftByLabel old new cut large revision stamp named founded → (past : Past (groups (group_of stamp)))
      → IsNewGroup (group_of stamp) past old.sizes slots copy founded → AreAllKept (group_of stamp) past cut
  cut_begins cut founded is past is_new = λ image left.
      rw is.same_sizes
      (cut_kept (label_layout large old.sizes named) revision stamp old slots are label.is_held image label.names_new (left_so image (is.was_left image left)) founded (is.are_founded image left) past is_new)

  pub cut_assembles : (cut : BayState D) (founded : ℕ → Bool) → IsLeftByLabel old new cut large revision stamp named founded → IsLeft cut.may_hold cut.held
      → (left : List Bool) → length left ≡ length cut.sizes → (slot : ℕ) → founded slot ≡ true → is_read left slot ≡ true → Gives cut left (group_of stamp) (founding_config copy)
  cut_assembles cut founded is held left long slot here readable =
      cut_read (label_layout large old.sizes named) revision stamp old slots are label.is_held cut.held label.names_new (left_so cut.held (is.was_left cut.held held)) founded (is.are_founded cut.held held)
      cut is.same_sizes refl left long slot here readable
