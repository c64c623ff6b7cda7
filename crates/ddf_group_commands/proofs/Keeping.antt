-- What the writing of a group's changes keeps of each history that lets the call in.
use Rattle.std.proofs.Common.{◌≡◌, ◌⊎◌, ℕ, ◌≤◌, Bool, true, false, List, length, Option, None, Result, Ok, sym, subst, ◌∙◌, arith}
use Rattle.std.specs.List.{AllByRecursion}
use Rattle.ddf_bay.specs.Moments.{StopsLeave}
use Rattle.ddf_bay.specs.ReadsOnly.{ReadsOnly}
use Rattle.ddf_bay.specs.Sectors.{Image, IsLeft, IsWhole}
use Rattle.ddf_bay.specs.State.{BayState}
use Rattle.ddf_plan.specs.declared.change.Change.{Change}
use Rattle.ddf_update.specs.Changes.{AreChanged, IsLeftChangingAll, MayChangeAll, SlotChange}
use Rattle.ddf_history.specs.Groups.{groups}
use Rattle.ddf_history.specs.Issued.{Past}
use Rattle.ddf_seats.specs.declared.fault.GroupFault.{GroupFault}
use Rattle.ddf_steps.specs.Asked.{CanBeAsked}
use Rattle.ddf_steps.specs.Committed.{LeavesSynced, slots_of, synced}
use Rattle.ddf_recovery.specs.Committed.{MayRecover, MayWriteNext, WasReadied, group_recovered, next_slots, next_updates, recovery_slots, recovery_updates}
use Rattle.ddf_seats.specs.Group.{GroupValue}
use Rattle.ddf_recovery.specs.Ready.{ReadyValue, all_ready, readied}
use Rattle.ddf_steps.specs.Steps.{Step}
use Rattle.ddf_recovery.proofs.Committed.{may_write_next}
use Rattle.ddf_recovery.proofs.RecoveredGroup.{recovered_ready}
use Rattle.ddf_recovery.proofs.RecoveryWritten.{may_recover, recovered_held}
use Rattle.ddf_history_steps.specs.Going.{IsAdmitted, KeepsHistory, changes_in}
use Rattle.ddf_history_steps.specs.Kept.{AreAllKept, ReadsTrue}
use Rattle.ddf_history_steps.proofs.Calling as calling
use Rattle.ddf_history_steps.proofs.Calling.{only_reads}
use Rattle.ddf_history_steps.proofs.Entering.{keeps_since_entry, keeps_where_told}
use Rattle.ddf_group_commands.specs.Change.{KeepsHistories}
use Rattle.ddf_group_commands.specs.GroupRead.{IsFoundBy, IsReadFrom}
use Rattle.ddf_group_commands.proofs.Recovering.{Commits, Recovers, Settles}
use Rattle.ddf_group_commands.proofs.StepsWritten.{steps_in}

-- A call that only reads keeps each history, whatever it was refused for.
pub reads_keep : {D : Type 0} (old new : BayState D) (left : List Bool) (found : GroupValue) (steps : List Step) → ReadsOnly old new
    → KeepsHistories old new left found steps false
reads_keep old new left found steps reads group same past kept admitted = only_reads group old new past left found (changes_in found steps) kept reads

-- What is kept since the disks were read is kept since the call's entry.
pub since_entry : {D : Type 0} (old middle new : BayState D) (left : List Bool) (found : GroupValue) (steps : List Step) (done : Bool) → ReadsOnly old middle
    → KeepsHistories middle new left found steps done → KeepsHistories old new left found steps done
since_entry old middle new left found steps done reads keeps group same past kept admitted =
    keeps_since_entry group past left found (changes_in found steps) done old middle new reads (keeps group same past) kept admitted

-- What `recover` and `commit` promise of the moments on their way.
module _ {D : Type 0} (old : BayState D) (found : GroupValue) (ready : ReadyValue) where
  abbrev pub MayLeave : (seat : ℕ → SlotChange) → Image → Type 0
  MayLeave seat image = IsLeft old.may_hold image ⊎ IsLeftChangingAll (synced old (slots_of found.seats)) (recovery_slots ready) seat (recovery_updates ready) image

  abbrev pub Moments : (middle : BayState D) → Type 0
  Moments middle = (seat : ℕ → SlotChange) → MayChangeAll (synced old (slots_of found.seats)) (recovery_slots ready) seat (recovery_updates ready) → StopsLeave old middle (MayLeave seat)

  abbrev pub EndsSynced : (middle : BayState D) → Type 0
  EndsSynced middle = (seat : ℕ → SlotChange) → MayChangeAll (synced old (slots_of found.seats)) (recovery_slots ready) seat (recovery_updates ready)
      → LeavesSynced old middle (slots_of found.seats) (recovery_slots ready) seat (recovery_updates ready)

-- Where a bay tells what a stop may leave, what it holds is of that, and bytes.
pub reads_true : {D : Type 0} (disks : BayState D) → (disks.tells_left → IsLeft disks.may_hold disks.held)
    → ((s l : ℕ) (bytes : List ℕ) → disks.may_hold s l bytes → IsWhole bytes) → disks.tells_left → ReadsTrue disks
reads_true disks held whole tells =
    let is_left = held tells in
    record { is_left = is_left; holds_bytes = λ slot l. whole slot l (disks.held slot l) (is_left slot l) }

-- A bay tells of what it holds where it tells of an image.
pub record Tells {D : Type 0} (old new : BayState D) : Type 0 where
  pub told : (t : ℕ) (image : Image) → new.left_since t image → new.tells_left
  pub counts : (t : ℕ) (image : Image) → t ≤ new.moment → IsLeft new.may_hold image → new.left_since t image
  pub back : new.tells_left → old.tells_left
  pub held : new.tells_left → IsLeft new.may_hold new.held

module _ {D : Type 0} (tells : Type 0) (old : BayState D) (found : GroupValue) (changes : List Change) (timestamp : ℕ) (ready : ReadyValue) (from : IsReadFrom tells old found)
    (was : WasReadied found changes timestamp ready) (can : AllByRecursion CanBeAsked changes) (few : length changes ≤ 1) (told : tells)
    (reads_true : old.tells_left → ReadsTrue old)
    (left : List Bool) (named : Option (List ℕ)) (found_by : IsFoundBy old left named found) (steps : List Step) (are_asked : readied found changes timestamp ≡ Ok steps) where
  -- the steps are those that are ready
  steps_are : steps_in (all_ready ready) ≡ steps
  steps_are = let same : ◌≡◌ {A = Result (List Step) GroupFault} (Ok (steps_in (all_ready ready))) (Ok steps) = sym was.is_readied ∙ are_asked in cc

  may : MayRecover old found ready
  may = may_recover found changes timestamp ready was old (from.held told) (from.stand told)

  module _ (group : List ℕ) (same_group : found.config.group ≡ group) (past : Past (groups group)) (kept : AreAllKept group past old) (admitted : IsAdmitted group past old left found) where
    -- what the call keeps, by the steps that are ready
    abbrev Keeps : (new : BayState D) (done : Bool) → Type 0
    Keeps new done = KeepsHistory group old new past left found (changes_in found (steps_in (all_ready ready))) done

    -- It is kept where the bay tells of an image.
    where_told : (new : BayState D) (done : Bool) → Tells old new → old.moment ≤ new.moment → (ReadsTrue old → Keeps new done)
        → KeepsHistory group old new past left found (changes_in found steps) done
    where_told new done tell later keeps =
        subst (λ (all : List Step). KeepsHistory group old new past left found (changes_in found all) done) steps_are
        (keeps_where_told group past left found (changes_in found (steps_in (all_ready ready))) done old new later tell.told (λ tells_left. reads_true (tell.back tells_left)) keeps)

    module _ (middle : BayState D) (same_sizes : middle.sizes ≡ old.sizes) (moments : Moments old found ready middle) (tell : Tells old middle) where
      stops : StopsLeave old middle (MayLeave old found ready may.seat)
      stops = moments may.seat may.may_change

      -- a recovery that failed
      pub recover_keeps : EndsSynced old found ready middle → KeepsHistory group old middle past left found (changes_in found steps) false
      recover_keeps ends =
          where_told middle false tell stops.later
          (λ reads. calling.recovery_failed past old left named found kept admitted reads found_by.every_slot found_by.is_found same_group (from.held told) (from.stand told) from.under from.seats
          changes timestamp ready was may can few middle same_sizes stops (ends may.seat may.may_change))

      module _ (recovers : Recovers tells old found changes timestamp ready from was middle) (settles : Settles tells old found changes timestamp ready from was middle) where
        abbrev first : AreChanged (synced old (slots_of found.seats)) middle (recovery_slots ready) may.seat (recovery_updates ready) (length (recovery_slots ready))
        first = recovers may.seat may.may_change

        abbrev rest : ReadyValue
        rest = record { recovery = None; steps = ready.steps }

        may_rest : MayWriteNext middle rest
        may_rest =
            may_write_next middle (group_recovered found ready.recovery) rest
            (recovered_held found changes timestamp ready was old middle same_sizes (from.held told) (from.stand told) may first) (recovered_ready found changes timestamp ready was)

        module _ (new : BayState D) (new_sizes : new.sizes ≡ middle.sizes)
            (next : (seat : ℕ → SlotChange) → MayChangeAll middle (next_slots rest) seat (next_updates rest) → StopsLeave middle new (IsLeftChangingAll middle (next_slots rest) seat (next_updates rest)))
            (tell_new : Tells middle new) (only_now : (image : Image) → middle.left_since middle.moment image → IsLeft middle.may_hold image) where
          next_stops : StopsLeave middle new (IsLeftChangingAll middle (next_slots rest) may_rest.seat (next_updates rest))
          next_stops = next may_rest.seat may_rest.may_change

          both : Tells old new
          both = record {
            told = tell_new.told;
            counts = tell_new.counts;
            back = λ tells_left. tell.back (tell_new.back tells_left);
            held = tell_new.held;
          }

          middle_left : (t : ℕ) (image : Image) → new.left_since t image → IsLeft middle.may_hold middle.held
          middle_left t image was_left = tell.held (tell_new.back (tell_new.told t image was_left))

          -- a step that failed
          pub commit_keeps : KeepsHistory group old new past left found (changes_in found steps) false
          commit_keeps =
              where_told new false both (let one = stops.later in let other = next_stops.later in omega (arith, one, other))
              (λ reads. calling.commit_failed past old left named found kept admitted reads found_by.every_slot found_by.is_found same_group (from.held told) (from.stand told) from.under from.seats
              changes timestamp ready was may can few middle same_sizes stops first (settles may.seat may.may_change) may_rest new new_sizes next_stops middle_left tell_new.counts only_now)

          -- and one that was written
          pub done_keeps : Commits middle new rest → KeepsHistory group old new past left found (changes_in found steps) true
          done_keeps commits =
              where_told new true both (let one = stops.later in let other = next_stops.later in omega (arith, one, other))
              (λ reads. calling.call_done past old left named found kept admitted reads found_by.every_slot found_by.is_found same_group (from.held told) (from.stand told) from.under from.seats
              changes timestamp ready was may can few middle same_sizes stops first (settles may.seat may.may_change) may_rest new new_sizes next_stops middle_left tell_new.counts only_now
              (commits may_rest.seat may_rest.may_change)
              (λ image was_left. tell_new.held (tell_new.told new.moment image (tell_new.counts new.moment image (omega arith) was_left))))
