-- A group that was read from disks, recovered and changed on them.
use Rattle.std.proofs.Common.{◌≡◌, ℕ, ◌^◌, ◌<◌, ◌≤◌, Bool, true, false, List, [], ◌∷◌, length, Option, Some, None, Ok, sym, ap, subst, ◌∙◌, ◌⊎◌, ⊎_elim, if◌then◌else◌}
use Rattle.std.specs.Prelude.{IfSome, option_map}
use Rattle.ddf_lemmas.proofs.Lists.{in_map, mapped_at}
use Rattle.ddf_bytes.specs.Counts.{Rose}
use Rattle.ddf_bay.specs.State.{BayState}
use Rattle.ddf_config.specs.declared.seat.Seat.{Seat}
use Rattle.ddf_plan.specs.declared.change.Change.{Change}
use Rattle.ddf_rewrite.proofs.Lists.{all_at}
use Rattle.ddf_update.specs.Changes.{AreChanged, MayChangeAll, SlotChange}
use Rattle.ddf_update.specs.Group.{IsOneOf, LieOnSlots}
use Rattle.ddf_seats.specs.declared.seated.Seated.{Seated}
use Rattle.ddf_assembly.specs.Assembled.{IsAssembledGroup}
use Rattle.ddf_steps.specs.Committed.{AreRewriting, AreSettled, HaveSlots, IsRewritten, slots_of, synced}
use Rattle.ddf_recovery.specs.Committed.{IsReadyFor, MayRecover, MayWriteNext, WasReadied, group_next, group_recovered, next_slots, next_updates, recovery_slots, recovery_updates, slots_written}
use Rattle.ddf_seats.specs.Group.{GroupValue}
use Rattle.ddf_steps.specs.Ready.{ReadyStep}
use Rattle.ddf_recovery.specs.Ready.{ReadyValue, all_ready, readied}
use Rattle.ddf_recovery.specs.Recovery.{config_recovered, disks_recovered, recovery_of}
use Rattle.ddf_seats.specs.Leading.{some}
use Rattle.ddf_seats.specs.Seated.{seated, seats_in, slots_in}
use Rattle.ddf_steps.specs.Steps.{Step, in_order}
use Rattle.ddf_steps.proofs.Ordered.{order_at, order_from}
use Rattle.ddf_steps.specs.Trying.{AreFollowing, Follows}
use Rattle.ddf_recovery.proofs.Committed.{may_write_next, next_lies, seats_on_slots}
use Rattle.ddf_seats.proofs.CommittedSeats.{seated_is}
use Rattle.ddf_recovery.proofs.ReadiedParts.{are_tried}
use Rattle.ddf_recovery.proofs.RecoveredGroup.{recovered_ready}
use Rattle.ddf_recovery.proofs.RecoveryWritten.{may_recover, recovered_anchored, recovered_held, recovery_lies, recovery_on_seats}
use Rattle.ddf_history_steps.proofs.RecoveringLossEnd.{slots_same}
use Rattle.ddf_answer.specs.Call.{work_of}
use Rattle.ddf_group_commands.specs.Change.{IsDoneTo, IsFaultOn, steps_or}
use Rattle.ddf_group_commands.specs.GroupRead.{IsReadFrom}
use Rattle.ddf_group_commands.specs.Written.{AreWritten}
use Rattle.ddf_group_commands.proofs.StepsWritten.{committed_written, few_steps, recovery_written, sequence_is, settled_still, steps_in}

-- ---- the slots of seats

-- A slot of a seat behind a recovery is one of a seat before it, where the recovery writes to slots of seats.
still_seat : (group : GroupValue) (next : Option ReadyStep) (slot : ℕ) → (IsOneOf (slots_written next) slot → IsOneOf (slots_of group.seats) slot)
    → IsOneOf (slots_of (group_recovered group next).seats) slot → IsOneOf (slots_of group.seats) slot
still_seat group None slot on is = is
still_seat group (Some one) slot on is = by (some group.absent) is
  where
    by : (lost : Bool) → IsOneOf (slots_of (if lost then seats_in one.step.disks else group.seats)) slot → IsOneOf (slots_of group.seats) slot
    by true is =
        let at : IsOneOf (slots_in one.step.disks) slot = subst (λ (slots : List ℕ). IsOneOf slots slot) (slots_same one.step.disks) is in
        let found = in_map (λ (disk : Seated). disk.seat.slot) one.step.disks at.place slot at.is_there in
        let ordered = order_at one.step.disks at.place found.0 found.1 in
        on (record { place = ordered.0; is_there = mapped_at (λ (disk : Seated). disk.seat.slot) (in_order one.step.disks) ordered.0 found.0 ordered.1 ∙ ap Some found.2 })
    by false is = is

-- The next step is written to slots of seats.
pub next_on_seat : (group : GroupValue) (steps : List ReadyStep) → AreRewriting (seated group) steps → (slot : ℕ)
    → IsOneOf (next_slots (record { recovery = None; steps = steps })) slot → IsOneOf (slots_of group.seats) slot
next_on_seat group [] rewrites slot is = let none : None ≡ Some slot = is.is_there in absurd cc
next_on_seat group (one ∷ others) rewrites slot is =
    let found = in_map (λ (disk : Seated). disk.seat.slot) (in_order one.step.disks) is.place slot is.is_there in
    let from = order_from one.step.disks is.place found.0 found.1 in
    let disk = all_at (IsRewritten (seated group) one.step.config) one.step.disks from.0 found.0 rewrites.0 from.1 in
    let own = seated_is group disk.place disk.before disk.is_there in
    let same : disk.before.seat.slot ≡ slot = ap (λ (seat : Seat). seat.slot) (sym disk.same_seat) ∙ found.2 in
    record { place = own.place; is_there = mapped_at (λ (seat : Seat). seat.slot) group.seats own.place disk.before.seat own.is_seat ∙ ap (λ (n : ℕ). Some n) same }

-- ---- what was readied

-- What `make_ready` answered was readied.
pub was_readied : (group : GroupValue) (changes : List Change) (timestamp : ℕ) (ready : ReadyValue) → IsAssembledGroup group → timestamp < 2 ^ 32
    → readied group changes timestamp ≡ Ok (steps_in (all_ready ready)) → option_map (λ one. one.step) ready.recovery ≡ recovery_of timestamp group → IfSome ready.recovery (Follows (seated group))
    → AreFollowing (disks_recovered timestamp group) ready.steps → WasReadied group changes timestamp ready
was_readied group changes timestamp ready assembled time is_readied is_recovery recovers follows =
    record { assembled = assembled; time = time; is_readied = is_readied; is_recovery = is_recovery; recovers = recovers; follows = follows }

-- Where each slot may get its new copy of the next step it gets it.
abbrev pub Commits : {D : Type 0} → (middle new : BayState D) → ReadyValue → Type 0
Commits middle new left = (seat : ℕ → SlotChange) → MayChangeAll middle (next_slots left) seat (next_updates left)
    → AreChanged middle new (next_slots left) seat (next_updates left) (length (next_slots left))

module _ {D : Type 0} (tells : Type 0) (old : BayState D) (group : GroupValue) (changes : List Change) (timestamp : ℕ) (ready : ReadyValue) (from : IsReadFrom tells old group)
    (was : WasReadied group changes timestamp ready) where
  abbrev steps : List Step
  steps = steps_in (all_ready ready)

  abbrev recovered : GroupValue
  recovered = group_recovered group ready.recovery

  abbrev rest : ReadyValue
  rest = record { recovery = None; steps = ready.steps }

  is_ready : IsReadyFor recovered rest
  is_ready = recovered_ready group changes timestamp ready was

  -- the recovery can be written
  pub slots_there : HaveSlots old.sizes group.seats
  slots_there = seats_on_slots old.sizes group.seats from.seats

  pub first_lies : LieOnSlots old.sizes (recovery_slots ready) (recovery_updates ready)
  first_lies = recovery_lies group changes timestamp ready was old.sizes from.under

  -- and the next step behind it
  pub rest_lies : LieOnSlots old.sizes (next_slots rest) (next_updates rest)
  rest_lies = next_lies old.sizes recovered (recovered_anchored group changes timestamp ready was old.sizes from.under) rest is_ready

  -- it is written to slots of seats
  pub rest_on_seats : (slot : ℕ) → IsOneOf (next_slots rest) slot → IsOneOf (slots_of group.seats) slot
  rest_on_seats slot one = still_seat group ready.recovery slot (recovery_on_seats group changes timestamp ready was slot) (next_on_seat recovered ready.steps is_ready.rewrites slot one)

  -- A write or a sync of a seat's slot failed.
  fault_on : (new : BayState D) (slot : ℕ) → IsOneOf (slots_of group.seats) slot → Rose (old.failed_writes slot) (new.failed_writes slot)
      → IsFaultOn (work_of tells old new) group (steps_or (readied group changes timestamp)) slot
  fault_on new slot one rose =
      let found = in_map (λ (seat : Seat). seat.slot) group.seats one.place slot one.is_there in
      record {
        steps = steps;
        are_asked = ap steps_or was.is_readied;
        is_seat = one;
        there = subst (λ (n : ℕ). n < length old.sizes) found.2 (from.seats one.place found.0 found.1).0;
        rose = rose;
      }

  -- in the recovery
  pub recover_failed : (new : BayState D) (slot : ℕ) → IsOneOf (slots_of group.seats) slot ⊎ IsOneOf (recovery_slots ready) slot → Rose (old.failed_writes slot) (new.failed_writes slot)
      → IsFaultOn (work_of tells old new) group (steps_or (readied group changes timestamp)) slot
  recover_failed new slot one rose = fault_on new slot (⊎_elim (λ seat. seat) (recovery_on_seats group changes timestamp ready was slot) one) rose

  -- or in the step behind it
  pub commit_failed : (middle new : BayState D) (slot : ℕ) → IsOneOf (next_slots rest) slot → middle.failed_writes ≡ old.failed_writes → Rose (middle.failed_writes slot) (new.failed_writes slot)
      → IsFaultOn (work_of tells old new) group (steps_or (readied group changes timestamp)) slot
  commit_failed middle new slot one same rose =
      fault_on new slot (rest_on_seats slot one) (rw same at rose)

  -- ---- all that is written

  -- What the calls that write promise: where each slot may get its new copy it gets it.
  abbrev pub Recovers : (middle : BayState D) → Type 0
  Recovers middle = (seat : ℕ → SlotChange) → MayChangeAll (synced old (slots_of group.seats)) (recovery_slots ready) seat (recovery_updates ready)
      → AreChanged (synced old (slots_of group.seats)) middle (recovery_slots ready) seat (recovery_updates ready) (length (recovery_slots ready))

  abbrev pub Settles : (middle : BayState D) → Type 0
  Settles middle = (seat : ℕ → SlotChange) → MayChangeAll (synced old (slots_of group.seats)) (recovery_slots ready) seat (recovery_updates ready) → AreSettled middle group.seats (length group.seats)

  module _ (few : length changes ≤ 1) (middle new : BayState D) (same_sizes : middle.sizes ≡ old.sizes) (recovers : tells → Recovers middle) (settles : tells → Settles middle)
      (commits : tells → Commits middle new rest) where
    few_rest : length (steps_in ready.steps) ≤ 1
    few_rest = few_steps timestamp changes (config_recovered group) (disks_recovered timestamp group) (steps_in ready.steps) few (are_tried group changes timestamp ready was)

    module _ (told : tells) where
      may_first : MayRecover old group ready
      may_first = may_recover group changes timestamp ready was old (from.held told) (from.stand told)

      abbrev first : AreChanged (synced old (slots_of group.seats)) middle (recovery_slots ready) may_first.seat (recovery_updates ready) (length (recovery_slots ready))
      first = recovers told may_first.seat may_first.may_change

      -- the disks hold the recovered group then
      may_rest : MayWriteNext middle rest
      may_rest = may_write_next middle recovered rest (recovered_held group changes timestamp ready was old middle same_sizes (from.held told) (from.stand told) may_first first) is_ready

      abbrev second : AreChanged middle new (next_slots rest) may_rest.seat (next_updates rest) (length (next_slots rest))
      second = commits told may_rest.seat may_rest.may_change

      all_written : AreWritten old.sizes old.held steps new.held
      all_written =
          recovery_written old middle group (seated group) ready.recovery ready.steps new.held was.recovers may_first first
          (subst (λ (sizes : List ℕ). AreWritten sizes middle.held (steps_in ready.steps) new.held) same_sizes
          (committed_written middle new (disks_recovered timestamp group) ready.steps few_rest was.follows may_rest second))

      all_settled : AreSettled new group.seats (length group.seats)
      all_settled place seat below at = settled_still middle new ready.steps may_rest.seat second seat.slot (settles told may_first.seat may_first.may_change place seat below at)

    -- The steps were written.
    pub done_to : (steps ≡ [] → new.sectors_asked ≡ old.sectors_asked)
        → IsDoneTo (work_of tells old new) group (steps_or (readied group changes timestamp)) (group_next recovered rest).config.sequence
    done_to asked = record {
      steps = steps;
      are_asked = ap steps_or was.is_readied;
      is_last = sequence_is group ready.recovery ready.steps few_rest;
      are_written = all_written;
      none_asked = asked;
      are_settled = all_settled;
    }
