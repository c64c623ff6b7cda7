-- `write_join` keeps a history at whose end the group stands that is joined, and the group that both have become stands at its end behind it.
use Rattle.std.proofs.Common.{◌≡◌, ◌⊎◌, ℕ, Bool, true, false, List, [], Some, None, refl, ap, sym, ◌∙◌, subst, inl, inr}
use Rattle.std.specs.Prelude.{slice_get}
use Rattle.ddf_bay.specs.Moments.{StopsLeave}
use Rattle.ddf_bay.specs.Sectors.{Image, IsLeft}
use Rattle.ddf_bay.specs.State.{BayState}
use Rattle.ddf_bay.proofs.Steps.{left_keeps, stops_weaken}
use Rattle.ddf_config.specs.declared.member.Member.{Member}
use Rattle.ddf_config.specs.Configuration.{Configuration}
use Rattle.ddf_copy.specs.Written.{CanBeCopy}
use Rattle.ddf_import.specs.Clash.{join_cause}
use Rattle.ddf_rewrite.specs.Before.{Before}
use Rattle.ddf_rewrite.specs.Changing.{CanChange}
use Rattle.ddf_rewrite.specs.Copies.{changed_copy}
use Rattle.ddf_update.specs.Changes.{IsLeftChangingAll, SlotChange}
use Rattle.ddf_history.specs.Groups.{groups}
use Rattle.ddf_history.specs.Issued.{Past}
use Rattle.ddf_history.specs.Promise.{IsKept}
use Rattle.ddf_history.specs.Scenes.{scene_of}
use Rattle.ddf_seats.specs.declared.seated.Seated.{Seated}
use Rattle.ddf_steps.specs.Committed.{LeavesSynced, slots_of, synced}
use Rattle.ddf_recovery.specs.Committed.{group_recovered}
use Rattle.ddf_seats.specs.Group.{GroupValue}
use Rattle.ddf_joining.specs.Importing.{IsJoinOf, group_joined, join_slots, join_updates}
use Rattle.ddf_joining.specs.Joining.{both_disks, config_joined, config_joining, join_config, join_disks, join_leaders}
use Rattle.ddf_joining.specs.JoinValue.{JoinValue}
use Rattle.ddf_recovery.specs.Ready.{ReadyValue}
use Rattle.ddf_recovery.specs.Recovery.{disks_recovered}
use Rattle.ddf_seats.specs.Seated.{seated}
use Rattle.ddf_steps.specs.Steps.{Step, disks_after, stays_in}
use Rattle.ddf_joining.proofs.JoinReadied.{is_join, was}
use Rattle.ddf_recovery.proofs.RecoveredGroup.{IsRecoveredAs, is_recovered}
use Rattle.ddf_history_steps.specs.AtEnd.{IsAtEnd}
use Rattle.ddf_history_joins.specs.Joins.{GoesToJoin, IsImport, IsTakenOver, KeepsJoin, StandsToJoin, behind_join, with_join}
use Rattle.ddf_history_steps.specs.Kept.{AreAllKept, is_slot}
use Rattle.ddf_history_joins.proofs.JoinSeats.{CanJoin, joining_written_slot}
use Rattle.ddf_history_joins.proofs.JoinStep.{changing_kept, changing_taken, issued, joined, may}
use Rattle.ddf_history_joins.proofs.JoinTries.{free, join_can_change, join_is_copy, members_apart, step_is}

module _ (group : List ℕ) {D : Type 0} (past : Past (groups group)) (state : BayState D) (timestamp : ℕ) (native other : GroupValue) (recovery : ReadyValue) (join : JoinValue)
    (stands : StandsToJoin group past state timestamp native other recovery join) where
  -- the group behind its recovery
  abbrev found : GroupValue
  found = group_recovered native recovery.recovery

  abbrev leaders : Before
  leaders = join_leaders timestamp native other

  recovered : IsRecoveredAs timestamp native recovery.recovery
  recovered =
      is_recovered native [] timestamp recovery
      (was timestamp native other recovery join stands.is_readied stands.none_behind stands.time stands.assembled stands.other_assembled stands.recovers stands.follows)

  is_a_join : IsJoinOf timestamp leaders found other join
  is_a_join =
      is_join timestamp native other recovery join stands.is_readied stands.none_behind stands.time stands.assembled stands.other_assembled stands.recovers stands.follows
      stands.same_newest stands.are_apart stands.of_another

  step : join.one.step ≡ record { config = join_config native other; disks = disks_after timestamp (join_leaders timestamp native other) (join_config native other) (join_disks timestamp native other) }
  step = step_is timestamp stands.time native other recovery join stands.is_readied stands.assembled stands.other_assembled stands.recovers

  config_is : join.one.step.config ≡ join_config native other
  config_is = ap (λ (one : Step). one.config) step

  both_are : both_disks (seated found) (seated other) ≡ both_disks (disks_recovered timestamp native) (seated other)
  both_are = ap (λ (disks : List Seated). both_disks disks (seated other)) recovered.disks_are

  -- What a disk of both can have of the configuration, it can have.
  carried : (P : Configuration → Seated → Type 0)
      → ((place : ℕ) (disk : Seated) → slice_get (both_disks (disks_recovered timestamp native) (seated other)) place ≡ Some disk → stays_in (join_config native other) disk ≡ true
      → P (join_config native other) disk)
      → (place : ℕ) (disk : Seated) → slice_get (both_disks (seated found) (seated other)) place ≡ Some disk → stays_in join.one.step.config disk ≡ true → P join.one.step.config disk
  carried P each place disk at stays =
      subst (λ (config : Configuration). P config disk) (sym config_is)
      (each place disk (sym (ap (λ (disks : List Seated). slice_get disks place) both_are) ∙ at) (sym (ap (λ (config : Configuration). stays_in config disk) config_is) ∙ stays))

  can : CanJoin group past state found other timestamp leaders join
  can = record {
    at_end = stands.at_end;
    is_join = is_a_join;
    next_is = config_is ∙ ap (λ (config : Configuration). config_joined config (config_joining other)) (sym recovered.config_is);
    free = subst (λ (config : Configuration). join_cause config (config_joining other) ≡ None) (sym recovered.config_is)
        (free timestamp stands.time native other recovery join stands.is_readied stands.assembled stands.other_assembled stands.recovers);
    apart = subst
        (λ (config : Configuration). (i j : ℕ) (one also : ℕ × Member) → slice_get config.members i ≡ Some one → slice_get config.members j ≡ Some also → one.0 ≡ also.0 → one ≡ also)
        (sym recovered.config_is)
        (members_apart timestamp stands.time native other recovery join stands.is_readied stands.assembled stands.other_assembled stands.recovers);
    can_change = carried (λ config disk. CanChange disk.copy leaders config timestamp)
        (join_can_change timestamp stands.time native other recovery join stands.is_readied stands.assembled stands.other_assembled stands.recovers);
    are_copies = carried (λ config disk. CanBeCopy (changed_copy disk.copy leaders config timestamp))
        (join_is_copy timestamp stands.time native other recovery join stands.is_readied stands.assembled stands.other_assembled stands.recovers);
    brings = stands.brings;
    admits = stands.admits;
  }

  abbrev seats : ℕ → SlotChange
  seats = (may group past state found other timestamp leaders join can).seat

  -- What a stop leaves before the join and while it is written shows what it should.
  changing : (image : Image) → IsLeftChangingAll (synced state (slots_of join.joining)) (join_slots join) seats (join_updates join) image
      → IsKept (with_join group past join) (scene_of state.sizes image)
  changing = changing_kept group past state found other timestamp leaders join can

  synced_kept : (image : Image) → IsLeft (synced state (slots_of join.joining)).may_hold image → IsKept (with_join group past join) (scene_of state.sizes image)
  synced_kept = issued group past state found other timestamp leaders join can

  module _ (new : BayState D) (same_sizes : new.sizes ≡ state.sizes) where
    moments : StopsLeave state new (λ image. IsLeft state.may_hold image ⊎ IsLeftChangingAll (synced state (slots_of join.joining)) (join_slots join) seats (join_updates join) image)
        → StopsLeave state new (λ image. (now : Past (groups group)) × GoesToJoin group past join now × IsKept now (scene_of state.sizes image))
    moments leave = stops_weaken leave (λ image one. elim one [
      | inl before ↦ (past, inl refl, stands.at_end.all_kept image before)
      | inr while ↦ (with_join group past join, inr refl, changing image while)
    ])

    taken : StopsLeave state new (λ image. IsLeft state.may_hold image ⊎ IsLeftChangingAll (synced state (slots_of join.joining)) (join_slots join) seats (join_updates join) image)
        → StopsLeave state new (λ image. IsLeft state.may_hold image
        ⊎ ((slot : ℕ) → is_slot (slots_of join.joining) slot ≡ true → IsTakenOver group join.one.step.config (scene_of state.sizes state.held) (scene_of state.sizes image) slot))
    taken leave = stops_weaken leave (λ image one. elim one [
      | inl before ↦ inl before
      | inr while ↦ inr (λ slot here.
          changing_taken group past state found other timestamp leaders join can image while slot
          (joining_written_slot group past state found other timestamp leaders join can slot here))
    ])

    failed : LeavesSynced state new (slots_of join.joining) (join_slots join) seats (join_updates join)
        → (now : Past (groups group)) × GoesToJoin group past join now × AreAllKept group now new
    failed (inl keeps) = (past, inl refl, λ image leaves. rw same_sizes (stands.at_end.all_kept image (left_keeps state.may_hold new.may_hold image keeps leaves)))
    failed (inr each) = (
      with_join group past join,
      inr refl,
      λ image leaves. rw same_sizes (elim (each image leaves) [
        | inl sure ↦ synced_kept image sure
        | inr while ↦ changing image while
      ]),
    )

  -- Where it was done the group that both have become stands at the end.
  pub import_stands : (new : BayState D) → IsImport state new join true → IsLeft new.may_hold new.held → IsAtEnd group (behind_join group past join) new (group_joined (group_recovered native recovery.recovery) join)
  import_stands new is left =
      joined group past state found other timestamp leaders join can new is.spends.same_sizes (is.changed refl seats (may group past state found other timestamp leaders join can).may_change) left

  -- The call keeps the history.
  pub import_keeps : (new : BayState D) (done : Bool) → IsImport state new join done → (new.tells_left → IsLeft new.may_hold new.held) → KeepsJoin group state new past join done
  import_keeps new true is left =
      let leave = is.any_moment seats (may group past state found other timestamp leaders join can).may_change in
      record {
        any_moment = moments new is.spends.same_sizes leave;
        ends = λ tells. (behind_join group past join, refl, (import_stands new is (left tells)).all_kept);
        taken_over = taken new is.spends.same_sizes leave;
      }
  import_keeps new false is left =
      let leave = is.any_moment seats (may group past state found other timestamp leaders join can).may_change in
      record {
        any_moment = moments new is.spends.same_sizes leave;
        ends = λ tells. failed new is.spends.same_sizes (is.ends refl seats (may group past state found other timestamp leaders join can).may_change);
        taken_over = taken new is.spends.same_sizes leave;
      }
