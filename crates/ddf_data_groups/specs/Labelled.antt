-- A `label` of some slots beside a group, of whose history they are aside.
use Rattle.std.specs.Prelude.{◌≡◌, ℕ, Bool, true, List, Some, Ok, slice_get}
use Rattle.ddf_bytes.specs.declared.stamp.Stamp.{Stamp}
use Rattle.ddf_bay.specs.Moments.{StopsLeave}
use Rattle.ddf_bay.specs.Sectors.{Image, IsLeft}
use Rattle.ddf_bay.specs.State.{BayState}
use Rattle.ddf_config.specs.Configuration.{Configuration}
use Rattle.ddf_header.specs.declared.kind.Revision.{Revision}
use Rattle.ddf_update.specs.Group.{IsLeftFoundingAll}
use Rattle.ddf_update.specs.NewCopies.{group_of}
use Rattle.ddf_view.specs.View.{view_of}
use Rattle.ddf_history.specs.Calls.{IsAside}
use Rattle.ddf_history.specs.Groups.{disk_of, groups, has_current}
use Rattle.ddf_history.specs.Issued.{IsSince, Past}
use Rattle.ddf_history.specs.Scenes.{scene_of}
use Rattle.ddf_history_steps.specs.Founding.{AreNamesNew}
use Rattle.ddf_history_steps.specs.Kept.{is_slot}
use Rattle.ddf_answer.specs.Call.{work_of}
use Rattle.ddf_disk_commands.specs.Label.{IsTried, label_copy, label_slots}

-- A `label` that was done, as it promises it, while a group was there. Its group is another one. Whatever a stop might have left before, the slots that it labels were
-- aside of that group's history, and its names were new: no disk that it labels is a current member of that group, and no slot but those that it labels shows the new
-- group, or names a member of it.
pub record IsLabelBeside {D : Type 0} (tells : Type 0) (old new : BayState D) (one : List ℕ) (past : Past (groups one)) (large : Bool) (revision : Revision) (stamp : Stamp) (named : List ℕ) : Type 0 where
  pub tried : IsTried (work_of tells old new) large revision stamp named (Ok tt)
  pub any_moment : StopsLeave old new (IsLeftFoundingAll old (label_slots old.sizes named) (label_copy large revision stamp old.sizes named))
  pub same_sizes : new.sizes ≡ old.sizes
  pub told : old.tells_left
  pub told_then : new.tells_left
  pub another : one ≡ group_of stamp → ⊥
  pub are_aside : (image : Image) → IsLeft old.may_hold image → (slot : ℕ) → is_slot (label_slots old.sizes named) slot ≡ true → IsAside past slot (scene_of old.sizes image slot)
  pub names_none : (place slot number : ℕ) (config : Configuration) → slice_get (label_slots old.sizes named) place ≡ Some slot → IsSince past.changes number config
      → has_current config (disk_of (view_of (label_copy large revision stamp old.sizes named place))) ≡ true → ⊥
  pub names_new : (image : Image) → IsLeft old.may_hold image
      → AreNamesNew (group_of stamp) (is_slot (label_slots old.sizes named)) (label_copy large revision stamp old.sizes named) (scene_of old.sizes image)
