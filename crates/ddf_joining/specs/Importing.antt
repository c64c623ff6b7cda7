-- What is written of an import, and what the disks hold of the group then.
use Rattle.std.specs.Prelude.{◌≡◌, ◌≢◌, ℕ, ◌<◌, Bool, true, false, ◌||◌, ◌==◌, ◌++◌, List, [], ◌∷◌, Option, Some, None, option_map, slice_get, Result, Ok, Err, if◌then◌else◌}
use Rattle.std.specs.List.{AllByRecursion, list_any}
use Rattle.std.specs.Str.{bytes_eq}
use Rattle.ddf_bay.specs.State.{BayState}
use Rattle.ddf_config.specs.declared.refusal.Refusal.{Refusal}
use Rattle.ddf_config.specs.declared.refusal.Refusal.TheVariants as refusals
use Rattle.ddf_config.specs.declared.seat.Seat.{Seat}
use Rattle.ddf_config.specs.Refusals.{first_refusal, refuse_if}
use Rattle.ddf_import.specs.Clash.{join_cause}
use Rattle.ddf_config.specs.Configuration.{Configuration}
use Rattle.ddf_update.specs.declared.prepared.Prepared.{Prepared}
use Rattle.ddf_update.specs.Changes.{MayChangeAll, SlotChange}
use Rattle.ddf_seats.specs.declared.fault.GroupFault.{GroupFault}
use Rattle.ddf_seats.specs.declared.fault.GroupFault.TheVariants.{Refused, SequenceSpent, Memory}
use Rattle.ddf_seats.specs.declared.seated.Seated.{Seated}
use Rattle.ddf_steps.specs.Committed.{slots_of, synced}
use Rattle.ddf_seats.specs.Group.{GroupValue, is_kept}
use Rattle.ddf_joining.specs.declared.importing.ReadyImport.{ReadyImport}
use Rattle.ddf_joining.specs.Joining.{Joining, bad_refusal, both_disks, config_joining, has_no_seats, has_strays, numbers_differ}
use Rattle.ddf_joining.specs.JoinValue.{JoinValue}
use Rattle.ddf_steps.specs.Ready.{ReadyStep, group_after, is_spent}
use Rattle.ddf_recovery.specs.Ready.{ReadyValue}
use Rattle.ddf_recovery.specs.Recovery.{config_recovered}
use Rattle.ddf_seats.specs.Seated.{seated, slots_in}
use Rattle.ddf_steps.specs.Steps.{Step, disks_after, in_order}
use Rattle.ddf_assembly.specs.Assembled.{IsAssembledGroup}
use Rattle.ddf_assembly.specs.Settled.{IsSettledGroup}
use Rattle.ddf_steps.specs.Trying.{Follows}
use Rattle.ddf_rewrite.specs.Before.{Before}

-- ---- what is ready

-- the disks that it writes, in this order, and their slots
abbrev pub join_written : JoinValue → List Seated
join_written join = in_order join.one.step.disks

abbrev pub join_slots : JoinValue → List ℕ
join_slots join = slots_in (join_written join)

abbrev pub join_updates : JoinValue → List Prepared
join_updates join = join.one.updates

-- The recovery and the join that were readied are these.
abbrev pub was_readied : (recovery : ReadyValue) → JoinValue → Joining
was_readied recovery join = record {
  recovery = option_map (λ one. one.step) recovery.recovery;
  step = join.one.step;
  joining = join.joining;
}

-- What was readied is this answer, or memory ran out.
abbrev pub IsImportReadied : Result ReadyImport GroupFault → Result Joining GroupFault → Type 0
IsImportReadied (Ok ready) answer = answer ≡ Ok (was_readied ready.recovery ready.join)
IsImportReadied (Err Memory) answer = Unit {0}
IsImportReadied (Err (Refused refusal)) answer = answer ≡ Err (Refused refusal)
IsImportReadied (Err SequenceSpent) answer = answer ≡ Err SequenceSpent

-- what comes last: a joining disk's bad block, and then a sequence number that is spent
abbrev pub last_cause : (loss_is_spent : Bool) → List Seat → Step → Option GroupFault
last_cause loss_is_spent seats step =
    elim (bad_refusal seats) [
      | Some refusal ↦ Some (Refused refusal)
      | None ↦ if loss_is_spent || is_spent step then Some SequenceSpent else None
    ]

-- ---- its parts

-- what refuses it before any sector is made, in order
abbrev pub early_causes : (native other : GroupValue) → List (Option Refusal)
early_causes native other =
    refuse_if (has_no_seats native other) refusals.NoGroup
    ∷ refuse_if (has_strays native other) refusals.Unsettled
    ∷ join_cause (config_recovered native) (config_joining other)
    ∷ refuse_if (numbers_differ (seated native ++ seated other)) refusals.Geometry
    ∷ []

-- A joining disk's copy is of the group that is joined: the disk may have moved there.
abbrev pub has_own : (native other : GroupValue) → Bool
has_own native other = list_any (λ disk. bytes_eq disk.copy.header.guid native.config.group) (seated other)

-- What refuses it whatever the tables of the disks hold, in order: a group has no disk; one must not be written over; a disk or an array is there
-- already, or an array's name; a joining disk's copy is of the group that is joined.
abbrev pub first_causes : (native other : GroupValue) → List (Option Refusal)
first_causes native other =
    refuse_if (has_no_seats native other) refusals.NoGroup
    ∷ refuse_if (has_strays native other) refusals.Unsettled
    ∷ join_cause (config_recovered native) (config_joining other)
    ∷ refuse_if (has_own native other) refusals.Unsettled
    ∷ []

-- Nothing of that refuses it, and this is what joins; or this does.
abbrev pub IsEarly : (native other : GroupValue) → Result Configuration GroupFault → Type 0
IsEarly native other (Ok next) = (first_refusal (early_causes native other) ≡ None) × (next ≡ config_joining other)
IsEarly native other (Err Memory) = Unit {0}
IsEarly native other (Err (Refused refusal)) = first_refusal (early_causes native other) ≡ Some refusal
IsEarly native other (Err SequenceSpent) = ⊥

-- Nothing that comes last refuses it, and this is ready; or this does.
abbrev pub IsFinished : (loss_is_spent : Bool) → List Seat → Option ReadyStep → ReadyStep → Result ReadyImport GroupFault → Type 0
IsFinished loss_is_spent seats recovery one (Ok ready) =
    (last_cause loss_is_spent seats one.step ≡ None) × (ready.recovery ≡ record { recovery = recovery; steps = [] }) × (ready.join ≡ record { one = one; joining = seats })
IsFinished loss_is_spent seats recovery one (Err Memory) = Unit {0}
IsFinished loss_is_spent seats recovery one (Err (Refused refusal)) = last_cause loss_is_spent seats one.step ≡ Some (Refused refusal)
IsFinished loss_is_spent seats recovery one (Err SequenceSpent) = last_cause loss_is_spent seats one.step ≡ Some SequenceSpent

-- ---- the group behind it

abbrev pub group_joined : GroupValue → JoinValue → GroupValue
group_joined group join = group_after group join.one.step

-- ---- disks that it may be written to

-- The join may be written to these disks once the joining slots are synced: each slot may get its new copy, a joining one by being taken over.
pub record MayJoinDisks {D : Type 0} (disks : BayState D) (join : JoinValue) : Type 0 where
  pub seat : ℕ → SlotChange
  pub may_change : MayChangeAll (synced disks (slots_of join.joining)) (join_slots join) seat (join_updates join)
  pub news : (place : ℕ) (disk : Seated) → slice_get (join_written join) place ≡ Some disk → (seat place).new ≡ disk.copy

-- ---- the order in which it is written

-- The slots of joining disks are none of the group's.
abbrev pub AreApart : (native joining : List Seated) → Type 0
AreApart native joining = AllByRecursion (λ disk. AllByRecursion (λ other. disk.seat.slot ≢ other.seat.slot) native) joining

-- The copy of each disk is of the configuration's group, or of none is.
abbrev pub IsOfGroupAll : Configuration → List Seated → Type 0
IsOfGroupAll config disks = AllByRecursion (λ disk. bytes_eq disk.copy.header.guid config.group ≡ true) disks

abbrev pub IsOfAnother : Configuration → List Seated → Type 0
IsOfAnother config disks = AllByRecursion (λ disk. bytes_eq disk.copy.header.guid config.group ≡ false) disks

-- ---- a join of two groups

-- A join that was readied for a settled group and another one. The step writes its configuration to the disks of both, which is of the group and
-- behind its sequence number. The group knows the slots of the other's disks as the other does. None of these is a slot of its own disks, and none
-- shows it.
pub record IsJoinOf (timestamp : ℕ) (leaders : Before) (group other : GroupValue) (join : JoinValue) : Type 0 where
  pub is_settled : IsSettledGroup group
  pub other_assembled : IsAssembledGroup other
  pub step : join.one.step ≡ record {
    config = join.one.step.config;
    disks = disks_after timestamp leaders join.one.step.config (both_disks (seated group) (seated other));
  }
  pub follows : Follows (both_disks (seated group) (seated other)) join.one
  pub joining : join.joining ≡ other.seats
  pub rises : group.config.sequence < join.one.step.config.sequence
  pub same_newest : AllByRecursion (λ disk. slice_get group.newest disk.seat.slot ≡ slice_get other.newest disk.seat.slot) (seated other)
  pub are_apart : AreApart (seated group) (seated other)
  pub of_another : IsOfAnother join.one.step.config (seated other)

-- Of the slot of each of another group's seats a group keeps the newest copy that the other one does, and it is none of its own seats'.
pub record KnowsDisks (group other : GroupValue) : Type 0 where
  pub same_newest : AllByRecursion (λ seat. slice_get group.newest seat.slot ≡ slice_get other.newest seat.slot) other.seats
  pub are_kept : AllByRecursion (λ seat. is_kept group.newest seat.slot ≡ true) other.seats
  pub are_apart : AllByRecursion (λ seat. list_any (λ own. own.slot == seat.slot) group.seats ≡ false) other.seats
