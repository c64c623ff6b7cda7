-- What recovery writes may be written over the copies of the group's disks.
use Rattle.std.proofs.Common.{◌≡◌, ◌≢◌, ℕ, ◌<◌, Bool, true, false, map, filter, Some, None, refl, sym, ap, subst, ◌∙◌, arith, if◌then◌else◌}
use Rattle.std.specs.List.{AllByRecursion}
use Rattle.ddf_lemmas.proofs.Lists.{all_from, all_weaken, filter_get, in_map}
use Rattle.ddf_config.specs.Configuration.{Configuration}
use Rattle.ddf_copy.specs.declared.copy.DiskCopy.{DiskCopy}
use Rattle.ddf_copy.specs.declared.newest_copy.Newest.{Newest}
use Rattle.ddf_copy.specs.declared.newest_copy.Newest.TheVariants as newests
use Rattle.ddf_copy.specs.declared.which.Which.TheVariants.{Primary}
use Rattle.ddf_copy.specs.Copies.{standing_copy}
use Rattle.ddf_copy.specs.Headers.{written_as}
use Rattle.ddf_copy.specs.Shows.{IsNewest}
use Rattle.ddf_copy.specs.Written.{counted, is_level}
use Rattle.ddf_view.specs.Shows.{shows}
use Rattle.ddf_view.specs.View.{view_of}
use Rattle.ddf_rewrite.specs.Before.{Before}
use Rattle.ddf_rewrite.specs.Copies.{recovered_copy}
use Rattle.ddf_rewrite.proofs.Lists.{all_at}
use Rattle.ddf_seats.specs.declared.seated.Seated.{Seated}
use Rattle.ddf_assembly.specs.Assembled.{HasOneNewest, IsAssembledGroup}
use Rattle.ddf_steps.specs.Committed.{HasPlacesOf, IsRewritten}
use Rattle.ddf_seats.specs.Group.{GroupValue}
use Rattle.ddf_recovery.specs.Recovery.{config_lost, lost_step, mended, mended_copy, mending_step, recovery_of}
use Rattle.ddf_seats.specs.Leading.{lags, leading, some}
use Rattle.ddf_steps.specs.Ready.{ReadyStep}
use Rattle.ddf_seats.specs.Seated.{seated}
use Rattle.ddf_steps.specs.Steps.{Step}
use Rattle.ddf_recovery.proofs.Committed.{IsNewerOver, MayReplace}
use Rattle.ddf_recovery.proofs.CommittedReadied.{disks_rewritten}
use Rattle.ddf_recovery.proofs.Recovered.{IsOwn}
use Rattle.ddf_steps.proofs.Rewritten.{changed_own}
use Rattle.ddf_assembly.proofs.SettledSeats.{same_group, same_sequence}

-- ---- level copies

-- A copy as its primary place has it is level with what it is level with.
closed_level : (copy old : DiskCopy) → is_level (written_as copy Primary) old ≡ is_level copy old
unfolding is_level counted
closed_level copy old = refl

-- The copy that stands for a slot is level with the one that an update takes for the newest, where no two differ.
standing_level : (found : Newest) (copy old : DiskCopy) → standing_copy found ≡ Some copy → IsNewest found old → ((primary secondary : DiskCopy) → found ≢ newests.TwoDiffer primary secondary)
    → is_level copy old ≡ true
standing_level (newests.One which one) copy old stands is alone = let same : one ≡ copy = cc in ap (λ (c : DiskCopy). is_level c old) (sym same) ∙ is.are_level
standing_level (newests.Level one) copy old stands is alone = let same : one ≡ copy = cc in ap (λ (c : DiskCopy). is_level c old) (sym same) ∙ is.are_level
standing_level (newests.TwoDiffer primary secondary) copy old stands is alone = absurd (alone primary secondary refl)
standing_level (newests.Neither first second) copy old stands is alone = absurd cc

-- ---- a loss

-- The loss is of a greater sequence number than each copy.
lost_replace : (timestamp : ℕ) (group : GroupValue) → AllByRecursion (IsOwn group.config) (seated group) → group.config.sequence < (config_lost group).sequence
    → AllByRecursion (MayReplace group (config_lost group)) (lost_step timestamp group).disks
lost_replace timestamp group own less =
    all_weaken (IsRewritten (seated group) (config_lost group)) (MayReplace group (config_lost group))
    (λ disk is. record {
      rewrites = is;
      newer = λ changes found is_found stands old alike newest same.
          let before = all_at (IsOwn group.config) (seated group) is.place is.before own is.is_there in
          let no_later = before.no_later (changed_own (config_lost group) is.before (sym is.has_mode ∙ changes)) in
          absurd (omega (arith, no_later, is.has_sequence, alike, same, less));
    })
    (lost_step timestamp group).disks (disks_rewritten timestamp (leading group) (config_lost group) (seated group))

-- ---- the leaders' configuration

module _ (leaders : Before) (config : Configuration) (timestamp : ℕ) (copy : DiskCopy) where
  recovered_sequence : (recovered_copy copy leaders config timestamp).header.sequence ≡ config.sequence
  unfolding recovered_copy
  recovered_sequence = refl

  -- The copy that a disk gets is of the configuration's sequence number.
  mended_sequence : (mended_copy leaders config timestamp copy).header.sequence ≡ config.sequence
  mended_sequence = by (shows config (view_of copy)) refl
    where
      by : (b : Bool) → shows config (view_of copy) ≡ b → (if b then copy else recovered_copy copy leaders config timestamp).header.sequence ≡ config.sequence
      by true e = same_sequence config copy e
      by false e = recovered_sequence

  recovered_own : (recovered_copy copy leaders config timestamp).header.guid ≡ config.group
  unfolding recovered_copy
  recovered_own = refl

  -- It is of the group.
  mended_own : (mended_copy leaders config timestamp copy).header.guid ≡ config.group
  mended_own = by (shows config (view_of copy)) refl
    where
      by : (b : Bool) → shows config (view_of copy) ≡ b → (if b then copy else recovered_copy copy leaders config timestamp).header.guid ≡ config.group
      by true e = same_group config copy e
      by false e = recovered_own

  recovered_places : HasPlacesOf copy (recovered_copy copy leaders config timestamp)
  unfolding recovered_copy
  recovered_places = record { same_primary = refl; same_secondary = refl; same_sections = refl }

  -- It has the old one's places.
  mended_places : HasPlacesOf copy (written_as (mended_copy leaders config timestamp copy) Primary)
  mended_places = by (shows config (view_of copy))
    where
      by : (b : Bool) → HasPlacesOf copy (written_as (if b then copy else recovered_copy copy leaders config timestamp) Primary)
      by true = record { same_primary = refl; same_secondary = refl; same_sections = refl }
      by false = record { same_primary = recovered_places.same_primary; same_secondary = recovered_places.same_secondary; same_sections = recovered_places.same_sections }

-- A disk at the configuration's sequence number shows the configuration, so it keeps its copy.
mended_newer : (timestamp : ℕ) (group : GroupValue) (disk : Seated) → IsOwn group.config disk → disk.copy.header.guid ≡ group.config.group → HasOneNewest group disk → IsNewerOver group disk (mended (leading group) group.config timestamp disk)
mended_newer timestamp group disk own of_group one found is_found stands old alike newest same =
    let leaders = leading group in
    let at_sequence : disk.copy.header.sequence ≡ group.config.sequence = sym alike ∙ sym same ∙ mended_sequence leaders group.config timestamp disk.copy in
    let shown = own.is_shown of_group at_sequence in
    let kept : mended_copy leaders group.config timestamp disk.copy ≡ disk.copy = ap (λ (b : Bool). if b then disk.copy else recovered_copy disk.copy leaders group.config timestamp) shown in
    closed_level (mended_copy leaders group.config timestamp disk.copy) old
    ∙ ap (λ (copy : DiskCopy). is_level copy old) kept
    ∙ standing_level found disk.copy old stands newest
    (λ primary secondary (is : found ≡ newests.TwoDiffer primary secondary). one shown primary secondary (is_found ∙ ap (λ (n : Newest). Some (Some n)) is))

mending_replace : (timestamp : ℕ) (group : GroupValue) → IsAssembledGroup group → AllByRecursion (IsOwn group.config) (seated group)
    → AllByRecursion (MayReplace group group.config) (mending_step timestamp group).disks
mending_replace timestamp group is own =
    all_from (MayReplace group group.config) (map (mended (leading group) group.config timestamp) (filter (lags group) (seated group)))
    (λ k disk at.
    let found = in_map (mended (leading group) group.config timestamp) (filter (lags group) (seated group)) k disk at in
    let here = filter_get (lags group) (seated group) k found.0 found.1 in
    subst (MayReplace group group.config) found.2
    (record {
      rewrites = record {
        place = here.0;
        before = found.0;
        is_there = here.1;
        same_seat = refl;
        same_last = refl;
        as_primary = refl;
        has_sequence = mended_sequence (leading group) group.config timestamp found.0.copy;
        has_group = mended_own (leading group) group.config timestamp found.0.copy;
        has_places = mended_places (leading group) group.config timestamp found.0.copy;
        has_mode = refl;
      };
      newer = λ changes. mended_newer timestamp group found.0 (all_at (IsOwn group.config) (seated group) here.0 found.0 own here.1) (changed_own group.config found.0 changes) (all_at (HasOneNewest group) (seated group) here.0 found.0 is.have_one here.1);
    }))

-- ---- both

-- What recovery writes may be written over the group's disks.
pub recovery_replace : (timestamp : ℕ) (group : GroupValue) → IsAssembledGroup group → AllByRecursion (IsOwn group.config) (seated group)
    → (some group.absent ≡ true → group.config.sequence < (config_lost group).sequence)
    → (one : ReadyStep) → Some one.step ≡ recovery_of timestamp group → AllByRecursion (MayReplace group one.step.config) one.step.disks
unfolding recovery_of
recovery_replace timestamp group is own rises one same = by (some group.absent) refl (some group.lagging) same
  where
    whole : (step : Step) → one.step ≡ step → AllByRecursion (MayReplace group step.config) step.disks → AllByRecursion (MayReplace group one.step.config) one.step.disks
    whole step e all = subst (λ (s : Step). AllByRecursion (MayReplace group s.config) s.disks) (sym e) all

    by : (a : Bool) → some group.absent ≡ a → (l : Bool) → Some one.step ≡ (if a then Some (lost_step timestamp group) else if l then Some (mending_step timestamp group) else None)
        → AllByRecursion (MayReplace group one.step.config) one.step.disks
    by true e l h = let its : one.step ≡ lost_step timestamp group = cc in whole (lost_step timestamp group) its (lost_replace timestamp group own (rises e))
    by false e true h = let its : one.step ≡ mending_step timestamp group = cc in whole (mending_step timestamp group) its (mending_replace timestamp group is own)
    by false e false h = absurd cc
