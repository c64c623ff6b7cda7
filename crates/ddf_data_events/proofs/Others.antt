-- A call on other disks keeps the history of a group and its data.
use Rattle.std.proofs.Common.{◌≡◌, ◌⊎◌, ◌∙◌, inl, inr, ⊎_elim, ℕ, Bool, true, false, List, if◌then◌else◌, refl, sym, ap, arith}
use Rattle.std.proofs.Math.Path.{fun_ext}
use Rattle.ddf_bytes.specs.Streams.{SourceState}
use Rattle.ddf_bay.specs.Sectors.{Image, IsLeft}
use Rattle.ddf_bay.specs.State.{BayState}
use Rattle.ddf_array.specs.Sound.{AreSectors}
use Rattle.ddf_history.specs.Calls.{AreAside, IsAside}
use Rattle.ddf_history.specs.Groups.{groups}
use Rattle.ddf_history.specs.Promise.{IsKept}
use Rattle.ddf_history.specs.Scenes.{scene_of}
use Rattle.ddf_history.proofs.Aside.{aside_kept}
use Rattle.ddf_history.proofs.Sound.{groups_are_sound}
use Rattle.ddf_history_steps.specs.Kept.{is_slot}
use Rattle.ddf_history_steps.proofs.Stops.{same_scene}
use Rattle.ddf_data_history.specs.Promised.{KeepsData}
use Rattle.ddf_data_calls.proofs.Aside.{aside_keeps}
use Rattle.ddf_data_events.specs.Calls.{OtherCall}
use Rattle.ddf_data_events.specs.Moments.{KeepsAll, Moment}

module _ {B : Type 0} {tells : Type 0} (told : tells) (disks : B → BayState B) {S : Type 0} (tells_bytes : Type 0) (streams : S → SourceState) (guid : List ℕ)
    (only_now : (bay : B) (image : Image) → (disks bay).left_since (disks bay).moment image → IsLeft (disks bay).may_hold image)
    (old : Moment guid B) (all : KeepsAll disks old) (call : OtherCall told disks tells_bytes streams guid old) (image : Image) (was_left : (disks call.beside.exit).left_since (disks old.bay).moment image) where
  abbrev entry : BayState B
  entry = disks old.bay

  -- what isn't written might have been left before
  pub others : (s l : ℕ) → is_slot call.beside.written s ≡ false → entry.may_hold s l (image s l)
  others s l other = ⊎_elim (λ first. only_now old.bay image first s l) (λ left. left s l other) (call.beside.leaves_others.since entry.moment image (omega arith) was_left)

  -- what stands in the other slots then, with what the written ones held
  before : Image
  before s l = if is_slot call.beside.written s then entry.held s l else image s l

  before_left : IsLeft entry.may_hold before
  unfolding before
  before_left s l = by (is_slot call.beside.written s) refl
    where
      by : (b : Bool) → is_slot call.beside.written s ≡ b → entry.may_hold s l (if b then entry.held s l else image s l)
      by true here = call.beside.is_held s l
      by false other = others s l other

  aside : AreAside old.past (scene_of entry.sizes before) (scene_of entry.sizes image)
  unfolding before
  aside slot = by (is_slot call.beside.written slot) refl
    where
      by : (b : Bool) → is_slot call.beside.written slot ≡ b
          → (scene_of entry.sizes image slot ≡ scene_of entry.sizes before slot) ⊎ IsAside old.past slot (scene_of entry.sizes image slot)
      by true here = ⊎_elim
          (λ same. inl (same ∙ same_scene entry.sizes entry.held before slot (fun_ext (λ (l : ℕ). sym (ap (λ (b : Bool). if b then entry.held slot l else image slot l) here)))))
          inr (call.beside.are_aside image was_left slot here)
      by false other = inl (same_scene entry.sizes image before slot (fun_ext (λ (l : ℕ). sym (ap (λ (b : Bool). if b then entry.held slot l else image slot l) other))))

  pub other_shows : IsKept old.past (scene_of entry.sizes image)
  other_shows = aside_kept (groups guid) (groups_are_sound guid) old.past (scene_of entry.sizes before) (scene_of entry.sizes image) (all.shows before before_left) aside

  pub other_keeps : AreSectors image → KeepsData guid old.past old.floor image old.promises
  other_keeps are =
      aside_keeps guid old.floor old.small old.past old.promises entry call.beside.written (λ slot here number config since current. call.no_member slot number config here since current) call.beside.is_held all.keeps image are others
