-- The steps of changes of a group of which members are absent: their loss, and then those of the group behind it.
use Rattle.std.proofs.Common.{◌≡◌, ℕ, ◌<◌, ◌^◌, Bool, true, false, List, map, Option, Some, None, Err, ap, sym, ◌∙◌, if◌then◌else◌}
use Rattle.std.specs.List.{AllByRecursion}
use Rattle.ddf_lemmas.proofs.Lists.{all_from}
use Rattle.ddf_config.specs.declared.refusal.FullTable.{FullTable}
use Rattle.ddf_config.specs.declared.refusal.Refusal.TheVariants.{Unsettled}
use Rattle.ddf_config.specs.Configuration.{Configuration}
use Rattle.ddf_plan.specs.declared.change.Change.{Change}
use Rattle.ddf_group.specs.Shown.{shown_of}
use Rattle.ddf_view.specs.Reading.{are_noted}
use Rattle.ddf_view.specs.Shows.{shows}
use Rattle.ddf_view.specs.View.{view_of}
use Rattle.ddf_rewrite.proofs.Lists.{all_at}
use Rattle.ddf_copy.specs.Written.{CanBeCopy}
use Rattle.ddf_seats.specs.declared.fault.GroupFault.TheVariants.{Refused}
use Rattle.ddf_seats.specs.declared.seated.Seated.{Seated}
use Rattle.ddf_seats.specs.Group.{GroupValue}
use Rattle.ddf_recovery.specs.Ready.{readied, with_recovery}
use Rattle.ddf_steps.specs.Ready.{steps_from, unless_spent}
use Rattle.ddf_recovery.specs.Recovery.{config_lost, config_recovered, disks_recovered, full_of_recovery, has_stray, loss_spent, lost_step, mended_or_kept, mending_step, recovery_of}
use Rattle.ddf_seats.specs.Leading.{leading_views, some}
use Rattle.ddf_seats.specs.Seated.{seated, levelled}
use Rattle.ddf_steps.specs.Steps.{Step}
use Rattle.ddf_steps.specs.Trying.{DoShow}
use Rattle.ddf_seats.specs.Changing.{IsOfGroup}
use Rattle.ddf_recovery.proofs.Recovered.{none_stray, settled_readied}
use Rattle.ddf_assembly.proofs.SettledSeats.{same_group}
use Rattle.ddf_recovery.proofs.ReadiedSteps.{Answer}
use Rattle.ddf_uncut_group.specs.Without.{group_lost}
use Rattle.ddf_uncut_group.proofs.LostGroup.{IsToldWithout, assembled, disks_lost, told_lost}

module _ (group : GroupValue) (told : IsToldWithout group) (timestamp : ℕ) (changes : List Change) where
  of_group : AllByRecursion (IsOfGroup group.config) (seated group)
  of_group =
      all_from (IsOfGroup group.config) (seated group)
      (λ k disk at. record {
        is_copy = all_at (λ (one : Seated). CanBeCopy one.copy) (seated group) k disk (assembled group told timestamp).are_copies at;
        same_group = same_group group.config disk.copy (told.are_telling.each k disk at).is_shown;
      })

  do_show : DoShow group.config (seated group)
  do_show = all_from (λ (disk : Seated). shows group.config (view_of disk.copy) ≡ true) (seated group) (λ k disk at. (told.are_telling.each k disk at).is_shown)

  -- No disk is one that recovery must not write over.
  pub not_stray : has_stray group ≡ false
  not_stray = none_stray (map shown_of group.newest) group.newest (are_noted (leading_views group)) group.config (seated group) of_group do_show

  abbrev answered : Bool → Option Step → Option FullTable → Configuration → List Seated → Answer
  answered stray recovery full config disks =
      if stray then Err (Refused Unsettled) else with_recovery (loss_spent group) recovery (unless_spent (steps_from timestamp full changes config disks))

  is_loss : recovery_of timestamp group ≡ Some (lost_step timestamp group)
  unfolding recovery_of
  is_loss = ap (λ (b : Bool). if b then Some (lost_step timestamp group) else if some group.lagging then Some (mending_step timestamp group) else None) told.some_absent

  pub config_is : config_recovered group ≡ config_lost group
  unfolding config_recovered
  config_is = ap (λ (b : Bool). if b then config_lost group else group.config) told.some_absent

  disks_are : disks_recovered timestamp group ≡ map levelled (lost_step timestamp group).disks
  unfolding disks_recovered
  disks_are = ap (λ (b : Bool). if b then map levelled (lost_step timestamp group).disks else map (mended_or_kept timestamp group) (seated group)) told.some_absent

  -- Where there is room for the loss, it comes first, and then what the changes are of the group behind it.
  pub readied_lost : timestamp < 2 ^ 32 → full_of_recovery timestamp group ≡ None
      → readied group changes timestamp ≡ with_recovery (loss_spent group) (Some (lost_step timestamp group)) (readied (group_lost timestamp group) changes timestamp)
  unfolding readied
  readied_lost time free =
      ap (λ (b : Bool). answered b (recovery_of timestamp group) (full_of_recovery timestamp group) (config_recovered group) (disks_recovered timestamp group)) not_stray
      ∙ ap (λ (step : Option Step). answered false step (full_of_recovery timestamp group) (config_recovered group) (disks_recovered timestamp group)) is_loss
      ∙ ap (λ (full : Option FullTable). answered false (Some (lost_step timestamp group)) full (config_recovered group) (disks_recovered timestamp group)) free
      ∙ ap (λ (config : Configuration). answered false (Some (lost_step timestamp group)) None config (disks_recovered timestamp group)) config_is
      ∙ ap (λ (disks : List Seated). answered false (Some (lost_step timestamp group)) None (config_lost group) disks) disks_are
      ∙ ap (λ (disks : List Seated). answered false (Some (lost_step timestamp group)) None (config_lost group) disks) (sym (disks_lost group told timestamp time free))
      ∙ ap (λ (answer : Answer). with_recovery (loss_spent group) (Some (lost_step timestamp group)) answer) (sym (settled_readied (group_lost timestamp group) (told_lost group told timestamp time free).is_settled changes timestamp))
