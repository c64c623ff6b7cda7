-- What an import keeps of each history that admits the call.
use Rattle.std.proofs.Common.{◌≡◌, ℕ, ◌<◌, ◌^◌, Bool, true, false, List, [], ◌∷◌, ◌++◌, Option, Result, Ok, sym, subst, ◌∙◌}
use Rattle.ddf_bay.specs.ReadsOnly.{ReadsOnly}
use Rattle.ddf_bay.specs.Sectors.{Image, IsLeft}
use Rattle.ddf_bay.specs.State.{BayState}
use Rattle.ddf_history.specs.Scenes.{scene_of}
use Rattle.ddf_seats.specs.Group.{GroupValue}
use Rattle.ddf_joining.specs.Importing.{was_readied}
use Rattle.ddf_joining.specs.Joining.{Joining}
use Rattle.ddf_joining.specs.JoinValue.{JoinValue}
use Rattle.ddf_recovery.specs.Ready.{ReadyValue}
use Rattle.ddf_bay.proofs.Steps.{left_keeps}
use Rattle.ddf_history_joins.specs.Joins.{AdmitsBoth, IsImport, WereBothTaken}
use Rattle.ddf_history_steps.specs.Kept.{ReadsTrue}
use Rattle.ddf_history_steps.specs.Steps.{IsRecovery, recovery_changes}
use Rattle.ddf_history_steps.proofs.Calling.{only_reads}
use Rattle.ddf_history_steps.proofs.Entering.{keeps_since_entry, keeps_where_told}
use Rattle.ddf_history_joins.proofs.JoinCalling.{import_call, import_fails, may}
use Rattle.ddf_answer.specs.declared.failure.Failure.{Failure}
use Rattle.ddf_group_commands.specs.GroupRead.{IsFoundBy, IsReadFrom}
use Rattle.ddf_import_command.specs.Import.{IsImportReady, KeepsJoins, import_asked}
use Rattle.ddf_import_command.proofs.Placed.{kept_each}

-- A call that only reads keeps each history, whatever it was refused for.
pub reads_join : {D : Type 0} (old new : BayState D) (left : List Bool) (native other : GroupValue) (timestamp : ℕ) (made : Joining) → ReadsOnly old new
    → KeepsJoins old new left native other timestamp made false
reads_join old new left native other timestamp made reads group same past kept admitted call =
    only_reads group old new past left native (recovery_changes timestamp native ++ made.step.config ∷ []) kept reads

-- What is kept since the disks were read is kept since the call's entry.
pub join_since : {D : Type 0} (old middle new : BayState D) (left : List Bool) (native other : GroupValue) (timestamp : ℕ) (made : Joining) (done : Bool) → ReadsOnly old middle
    → KeepsJoins middle new left native other timestamp made done → KeepsJoins old new left native other timestamp made done
join_since old middle new left native other timestamp made done reads keeps group same past kept admitted call =
    keeps_since_entry group past left native (recovery_changes timestamp native ++ made.step.config ∷ []) done old middle new reads
    (λ now_kept now_admitted. keeps group same past now_kept now_admitted
    (λ image was_left.
    subst (λ (sizes : List ℕ). AdmitsBoth group past (scene_of sizes image) native other) (sym reads.same_sizes)
    (call image (left_keeps old.may_hold middle.may_hold image reads.keeps was_left))))
    kept admitted

-- A join that was made is the one that is ready.
pub made_is : (made ready : Joining) → ◌≡◌ {A = Result Joining Failure} (Ok made) (Ok ready) → ready ≡ made
made_is made ready is = cc

module _ {D : Type 0} (tells : Type 0) (old : BayState D) (native other : GroupValue) (timestamp : ℕ) (left_out : List Bool) (recovery : ReadyValue) (join : JoinValue)
    (from : IsReadFrom tells old native) (also : IsReadFrom tells old other) (time : timestamp < 2 ^ 32) (ready : IsImportReady timestamp left_out native other recovery join) (told : tells) (reads_true : old.tells_left → ReadsTrue old)
    (left also_left : List Bool) (named also_named : Option (List ℕ)) (found : IsFoundBy old left named native) (found_too : IsFoundBy old also_left also_named other)
    (made : Joining) (are_asked : import_asked timestamp left_out native other ≡ Ok made) where
  taken : WereBothTaken old left also_left named also_named native other timestamp recovery join
  taken = record {
    every_slot = found.every_slot;
    every_slot_too = found_too.every_slot;
    is_found = found.is_found;
    is_found_too = found_too.is_found;
    stand = from.stand told;
    under = from.under;
    under_too = also.under;
    fit = from.seats;
    assembled = from.assembled;
    other_assembled = also.assembled;
    are_kept = kept_each tells old native other timestamp left_out recovery join from also time ready;
    time = time;
    is_readied = ready.is_readied;
    none_behind = ready.none_behind;
    recovers = ready.recovers;
    follows = ready.follows;
  }

  -- what was asked is what is ready
  same_made : was_readied recovery join ≡ made
  same_made = made_is made (was_readied recovery join) (sym are_asked ∙ ready.are_asked)

  -- a recovery that failed
  pub recovery_keeps : (new : BayState D) → IsRecovery old new native recovery false → ((t : ℕ) (image : Image) → new.left_since t image → new.tells_left)
      → (new.tells_left → IsLeft new.may_hold new.held) → KeepsJoins old new left native other timestamp made false
  recovery_keeps new is now_told now_left =
      subst (λ (one : Joining). KeepsJoins old new left native other timestamp one false) same_made
      (λ group same past kept admitted call.
      let can = may group past old left also_left named also_named native other timestamp recovery join taken same kept admitted in
      keeps_where_told group past left native (recovery_changes timestamp native ++ join.one.step.config ∷ []) false old new (is.any_moment can.seat can.may_change).later now_told
      (λ tells_left. reads_true (is.spends.told tells_left))
      (λ reads. import_fails group past old left also_left named also_named native other timestamp recovery join taken same kept admitted new is now_left reads))

  -- and a join behind it, written or not
  pub import_keeps : (middle new : BayState D) (done : Bool) → IsRecovery old middle native recovery true → IsImport middle new join done
      → ((t : ℕ) (image : Image) → new.left_since t image → new.tells_left) → (new.tells_left → IsLeft new.may_hold new.held) → (middle.tells_left → IsLeft middle.may_hold middle.held)
      → KeepsJoins old new left native other timestamp made done
  import_keeps middle new done recovered is now_told now_left middle_left =
      subst (λ (one : Joining). KeepsJoins old new left native other timestamp one done) same_made
      (λ group same past kept admitted call.
      import_call group past old left also_left named also_named native other timestamp recovery join taken same kept admitted middle recovered ready.of_another call
      new now_told now_left middle_left reads_true done is)
