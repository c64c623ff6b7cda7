-- A `label` that a stop cut short.
use Rattle.std.specs.Prelude.{◌≡◌, ℕ, Bool, false, List, Some, Ok}
use Rattle.ddf_bytes.specs.declared.stamp.Stamp.{Stamp}
use Rattle.ddf_header.specs.declared.kind.Revision.{Revision}
use Rattle.ddf_bay.specs.Moments.{StopsLeave}
use Rattle.ddf_bay.specs.Sectors.{Image, IsLeft}
use Rattle.ddf_bay.specs.State.{BayState}
use Rattle.ddf_config.specs.Configuration.{Configuration}
use Rattle.ddf_update.specs.Group.{IsLeftFoundingAll}
use Rattle.ddf_update.specs.NewCopies.{group_of}
use Rattle.ddf_history.specs.Scenes.{scene_of}
use Rattle.ddf_seats.specs.Group.{GroupValue}
use Rattle.ddf_assembly.specs.Group.{group_of as group_in}
use Rattle.ddf_assembly.specs.Slots.{newest_from}
use Rattle.ddf_history_steps.specs.Founding.{AreFounded, AreNamesNew}
use Rattle.ddf_disk_commands.specs.Label.{label_copy, label_slots}

-- A `label`, by what it promises of each moment on its way (`IsLabelled`: `any_moment`). The disks as they read at its entry are one of the
-- images that a stop might have left then, and the names of the group and of its disks are new: in none of these does a slot show them.
pub record IsNewLabel {D : Type 0} (old new : BayState D) (large : Bool) (revision : Revision) (stamp : Stamp) (named : List ℕ) : Type 0 where
  pub any_moment : StopsLeave old new (IsLeftFoundingAll old (label_slots old.sizes named) (label_copy large revision stamp old.sizes named))
  pub is_held : IsLeft old.may_hold old.held
  pub names_new : (image : Image) → IsLeft old.may_hold image → AreNamesNew (group_of stamp) (λ slot. false) (label_copy large revision stamp old.sizes named) (scene_of old.sizes image)

-- of the slots to label these are founded in an image
abbrev pub AreLabelled : {D : Type 0} → BayState D → (large : Bool) → Revision → Stamp → (named : List ℕ) → Image → (founded : ℕ → Bool) → Type 0
AreLabelled old large revision stamp named image founded = AreFounded old.sizes (label_slots old.sizes named) (label_copy large revision stamp old.sizes named) image founded

-- A bay as a stop left it within a `label`, or behind it: it may leave no image but such as a stop since the call's entry left, and in each of
-- these the same slots are founded.
pub record IsLeftByLabel {D : Type 0} (old new cut : BayState D) (large : Bool) (revision : Revision) (stamp : Stamp) (named : List ℕ) (founded : ℕ → Bool) : Type 0 where
  pub same_sizes : cut.sizes ≡ old.sizes
  pub was_left : (image : Image) → IsLeft cut.may_hold image → new.left_since old.moment image
  pub are_founded : (image : Image) → IsLeft cut.may_hold image → AreLabelled old large revision stamp named image founded

-- The newest copies of the slots that aren't left out give this configuration of the group.
abbrev pub Gives : {D : Type 0} → BayState D → (left : List Bool) → (group : List ℕ) → Configuration → Type 0
Gives disks left group config = (given : GroupValue) × (group_in (newest_from disks 0 left) (Some group) ≡ Ok given) × (given.config ≡ config)
