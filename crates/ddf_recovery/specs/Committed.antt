-- What is written of a group's recovery and of its steps, one after another, and what the disks hold of the group then.
use Rattle.std.specs.Prelude.{◌≡◌, ℕ, ◌<◌, ◌^◌, List, [], ◌∷◌, fold, length, map, slice_get, Option, Some, None, Ok, IfSome, option_map, if◌then◌else◌}
use Rattle.ddf_bay.specs.State.{BayState}
use Rattle.ddf_copy.specs.declared.newest_copy.Newest.{Newest}
use Rattle.ddf_copy.specs.Shows.{IsNewest}
use Rattle.ddf_plan.specs.declared.change.Change.{Change}
use Rattle.ddf_update.specs.declared.prepared.Prepared.{Prepared}
use Rattle.ddf_update.specs.Changes.{MayChangeAll, SlotChange}
use Rattle.ddf_seats.specs.declared.seated.Seated.{Seated}
use Rattle.ddf_assembly.specs.Assembled.{IsAssembledGroup}
use Rattle.ddf_seats.specs.Group.{GroupValue}
use Rattle.ddf_assembly.specs.Held.{AreHeldOn, StandUnder}
use Rattle.ddf_seats.specs.Seated.{seated, seats_in, slots_in, with_level}
use Rattle.ddf_recovery.specs.Recovery.{disks_recovered, recovery_of}
use Rattle.ddf_seats.specs.Leading.{some}
use Rattle.ddf_assembly.specs.Settled.{IsSettledGroup}
use Rattle.ddf_steps.specs.Steps.{in_order}
use Rattle.ddf_steps.specs.Trying.{AreFollowing, Follows}
use Rattle.ddf_steps.specs.Ready.{ReadyStep, group_after}
use Rattle.ddf_recovery.specs.Ready.{ReadyValue, all_ready, readied}
use Rattle.ddf_steps.specs.Committed.{slots_of, AreSettled, synced, AreRewriting, DoRise, HaveSequence}

-- ---- the next step

-- the disks that the next step writes, in this order, with their new copies; none where no step is left
abbrev pub next_disks : ReadyValue → List Seated
next_disks ready = elim ready.steps [ [] ↦ [] | one ∷ others ↦ in_order one.step.disks ]

-- the slots that the next step writes, in this order, and their updates; none where no step is left
abbrev pub next_slots : ReadyValue → List ℕ
next_slots ready = elim ready.steps [ [] ↦ [] | one ∷ others ↦ slots_in (in_order one.step.disks) ]

abbrev pub next_updates : ReadyValue → List Prepared
next_updates ready = elim ready.steps [ [] ↦ [] | one ∷ others ↦ one.updates ]

-- the group once the next step was written, and the steps that are left then
abbrev pub group_next : GroupValue → ReadyValue → GroupValue
group_next group ready = elim ready.steps [ [] ↦ group | one ∷ others ↦ group_after group one.step ]

abbrev pub left_behind : ReadyValue → ReadyValue
left_behind ready = elim ready.steps [ [] ↦ ready | one ∷ others ↦ record ready { steps = others } ]

-- ---- the recovery

-- the slots that the recovery writes, in this order, and their updates; none where there is no recovery
abbrev pub slots_written : Option ReadyStep → List ℕ
slots_written None = []
slots_written (Some one) = slots_in (in_order one.step.disks)

abbrev pub updates_written : Option ReadyStep → List Prepared
updates_written None = []
updates_written (Some one) = one.updates

abbrev pub disks_written : Option ReadyStep → List Seated
disks_written None = []
disks_written (Some one) = in_order one.step.disks

abbrev pub recovery_slots : ReadyValue → List ℕ
recovery_slots ready = slots_written ready.recovery

abbrev pub recovery_updates : ReadyValue → List Prepared
recovery_updates ready = updates_written ready.recovery

-- The group once it was recovered: nothing is absent and nothing lags. Behind a loss its seats are those of the disks that were written.
abbrev pub group_recovered : GroupValue → Option ReadyStep → GroupValue
group_recovered group None = group
group_recovered group (Some one) = record {
  config = one.step.config;
  seats = if some group.absent then seats_in one.step.disks else group.seats;
  absent = [];
  lagging = [];
  newest = fold with_level group.newest one.step.disks;
}

-- ---- what was readied

-- This was readied for changes of an assembled group, at a time: its recovery, and the steps behind it.
pub record WasReadied (group : GroupValue) (changes : List Change) (timestamp : ℕ) (ready : ReadyValue) : Type 0 where
  pub assembled : IsAssembledGroup group
  pub time : timestamp < 2 ^ 32
  pub is_readied : readied group changes timestamp ≡ Ok (map (λ one. one.step) (all_ready ready))
  pub is_recovery : option_map (λ one. one.step) ready.recovery ≡ recovery_of timestamp group
  pub recovers : IfSome ready.recovery (Follows (seated group))
  pub follows : AreFollowing (disks_recovered timestamp group) ready.steps

-- These steps were readied for this group: it is settled, its disks have the sequence number of its configuration, and each step follows on
-- the one before it, rewrites disks of that one, and has a greater sequence number.
pub record IsReadyFor (group : GroupValue) (ready : ReadyValue) : Type 0 where
  pub is_settled : IsSettledGroup group
  pub have_sequence : HaveSequence group.config.sequence (seated group)
  pub follows : AreFollowing (seated group) ready.steps
  pub rewrites : AreRewriting (seated group) ready.steps
  pub rises : DoRise group.config.sequence ready.steps

-- ---- disks that hold a group

-- The disks hold what the group knows of them, which can be written there again. A stop leaves of the seats' slots what they hold.
pub record HoldsGroup {D : Type 0} (disks : BayState D) (group : GroupValue) : Type 0 where
  pub are_held : AreHeldOn disks group.newest
  pub are_under : StandUnder disks group.newest
  pub are_settled : AreSettled disks group.seats (length group.seats)

-- The next step may be written to these disks: each slot may get its new copy.
pub record MayWriteNext {D : Type 0} (disks : BayState D) (ready : ReadyValue) : Type 0 where
  pub seat : ℕ → SlotChange
  pub may_change : MayChangeAll disks (next_slots ready) seat (next_updates ready)
  pub news : (place : ℕ) (disk : Seated) → slice_get (next_disks ready) place ≡ Some disk → (seat place).new ≡ disk.copy

-- The recovery may be written to these disks once the seats' slots are synced: each slot may get its new copy, and the one that it shows until
-- then is its newest.
pub record MayRecover {D : Type 0} (disks : BayState D) (group : GroupValue) (ready : ReadyValue) : Type 0 where
  pub seat : ℕ → SlotChange
  pub may_change : MayChangeAll (synced disks (slots_of group.seats)) (recovery_slots ready) seat (recovery_updates ready)
  pub news : (place : ℕ) (disk : Seated) → slice_get (disks_written ready.recovery) place ≡ Some disk → (seat place).new ≡ disk.copy
  pub olds : (place slot : ℕ) (newest : Newest) → slice_get (recovery_slots ready) place ≡ Some slot → slice_get group.newest slot ≡ Some (Some newest) → IsNewest newest (seat place).old
